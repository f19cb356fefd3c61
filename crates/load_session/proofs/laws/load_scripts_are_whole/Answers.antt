use Rattle.load_session.proofs.Whole.{load_scripts_whole}
use Rattle.load_session.proofs.laws.load_scripts_are_whole.Goals as goal

pub returns : goal.returns
returns c = load_scripts_whole
