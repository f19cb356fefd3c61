use Rattle.session_loop.proofs.Asked.{bytes_ask}
use Rattle.session_loop.proofs.laws.sessions_ask_well_formed_commands.Goals as goal

pub returns : goal.returns
returns c = bytes_ask
