use Rattle.grammar_laws.proofs.SaidScripts.{script_said, prints_alike}
use Rattle.grammar_laws.proofs.laws.whole_scripts_are_printable.Goals as goal

pub returns-clause-printable : goal.returns-clause-printable
returns-clause-printable c = script_said

pub returns-clause-alike : goal.returns-clause-alike
returns-clause-alike c = prints_alike
