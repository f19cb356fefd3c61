use Rattle.session_loop.proofs.Asked.{bytes_ask_replicas}
use Rattle.session_loop.proofs.laws.replicas_ask_well_formed_commands.Goals as goal

pub returns : goal.returns
returns c = bytes_ask_replicas
