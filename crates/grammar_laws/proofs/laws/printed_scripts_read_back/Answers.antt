use Rattle.grammar_laws.proofs.Scripts.{script_reads}
use Rattle.grammar_laws.proofs.laws.printed_scripts_read_back.Goals as goal

pub returns : goal.returns
returns c = script_reads
