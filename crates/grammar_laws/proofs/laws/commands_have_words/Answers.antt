use Rattle.grammar_laws.proofs.Commands.{command_reads}
use Rattle.grammar_laws.proofs.laws.commands_have_words.Goals as goal

pub returns : goal.returns
returns c = command_reads
