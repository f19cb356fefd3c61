-- The requests that sessions make of their commands, each with a moment that the clock may give. This project's own choice.
use Rattle.std.specs.Prelude.{◌≡◌, ℕ, suc, false, List, [], ◌∷◌, Option, Some, None}
use Rattle.depot_model.specs.declared.request.Asked.{Asked}
use Rattle.depot_model.specs.declared.request.Caller.{Caller}
use Rattle.depot_model.specs.declared.request.Request.{Request}
use Rattle.depot_model.specs.declared.request.Session.{Session}
use Rattle.depot_runs.specs.Run.{request_of}

-- the request of a command of a caller, that has this number among those of a party
pub record IsRequest (may_give : ℕ → Type 0) (party number : ℕ) (caller : Caller) (asked : Asked) (request : Request) : Type 0 where
  pub moment : ℕ
  pub given : may_give moment
  pub is : request ≡ request_of (record { party = party; number = number; moment = moment; fault = false }) caller asked

-- those of commands that are numbered from a number on
abbrev pub AreRequests : (ℕ → Type 0) → ℕ → ℕ → Caller → List Asked → List Request → Type 0
AreRequests may_give party number caller [] [] = Unit {0}
AreRequests may_give party number caller (asked ∷ commands) (request ∷ requests) =
    IsRequest may_give party number caller asked request × AreRequests may_give party (suc number) caller commands requests
AreRequests may_give party number caller _ _ = ⊥

-- those of a session; a script without a head makes none
abbrev pub AreRequestsOf : (ℕ → Type 0) → ℕ → Option Session → List Request → Type 0
AreRequestsOf may_give party (Some session) requests = AreRequests may_give party 1 session.caller session.commands requests
AreRequestsOf may_give party None requests = requests ≡ []

-- those of sessions, whose parties are numbered from a number on
abbrev pub AreRequestsOfAll : (ℕ → Type 0) → ℕ → List (Option Session) → List (List Request) → Type 0
AreRequestsOfAll may_give party [] [] = Unit {0}
AreRequestsOfAll may_give party (session ∷ sessions) (requests ∷ all) = AreRequestsOf may_give party session requests × AreRequestsOfAll may_give (suc party) sessions all
AreRequestsOfAll may_give party _ _ = ⊥
