-- The requests that sessions make (Command-Line Reference, each command's syntax).
use Rattle.std.specs.Prelude.{IfOk, IsTrue}
use Rattle.depot_model.specs.WellFormed.{asks_rightly}
use Rattle.depot_model.specs.declared.request.Request.{Request}
use Rattle.sound_requests.specs.Asked.{IsAsked, is_typed}

-- what a session makes sure of: its command, where it has one, is well-formed, and its contents are short
pub record IsProper (request : Request) : Type 0 where
  pub asked : IsAsked request
  pub rightly : IfOk request.command (λ command. IsTrue (asks_rightly command))

-- and its parts are of their types
pub record IsServed (request : Request) : Type 0 where
  pub proper : IsProper request
  pub typed : IsTrue (is_typed request)
