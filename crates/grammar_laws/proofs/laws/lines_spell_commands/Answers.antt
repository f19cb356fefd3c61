use Rattle.grammar_laws.proofs.Commands.{own_words_read}
use Rattle.grammar_laws.proofs.SpelledForms.{is_spelled}
use Rattle.grammar_laws.proofs.laws.lines_spell_commands.Goals as goal

pub returns-clause-spelled : goal.returns-clause-spelled
returns-clause-spelled c = is_spelled

pub returns-clause-words : goal.returns-clause-words
returns-clause-words c = own_words_read
