use Rattle.std.proofs.lemmas.Bool.{and_from}
use Rattle.sound_requests.proofs.types.requests_are_typed.Goals as goal

pub returns : goal.returns
returns c = and_from _ _ c.know_names.ensures c.are_bytes.ensures
