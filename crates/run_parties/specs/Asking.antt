-- What the parties of a run ask, before the first command is taken. This project's own choice.
use Rattle.std.specs.Prelude.{◌≡◌, ℕ, suc, false, List, [], ◌∷◌, length, Option, Some, None}
use Rattle.depot_model.specs.declared.request.Request.{Request}
use Rattle.replica_turns.specs.Going.{IsFresh}
use Rattle.replica_turns.specs.declared.party.ReplicaParty.{ReplicaParty}
use Rattle.session_loop.specs.declared.reading.ReplicaScript.{ReplicaScript}
use Rattle.session_loop.specs.declared.session.SessionRun.{SessionRun}

-- before any command was taken
abbrev pub fresh : SessionRun
fresh = record { commands = 0; failed = false }

-- ---- replicas

abbrev pub left_in : Option ReplicaParty → List Request
left_in None = []
left_in (Some p) = p.left.items

-- the party of a replica's script has all its commands left
abbrev pub IsFreshParty : (ℕ → Type 0) → ℕ → Option ReplicaScript → Option ReplicaParty → Type 0
IsFreshParty may_give party None None = Unit {0}
IsFreshParty may_give party (Some script) (Some p) = IsFresh may_give party script p × (length p.left.items ≡ length script.session.commands)
IsFreshParty may_give party _ _ = ⊥

-- so has each of those that are numbered from a number on
abbrev pub AreFresh : (ℕ → Type 0) → ℕ → List (Option ReplicaScript) → List (Option ReplicaParty) → Type 0
AreFresh may_give party [] [] = Unit {0}
AreFresh may_give party (script ∷ scripts) (p ∷ parties) = IsFreshParty may_give party script p × AreFresh may_give (suc party) scripts parties
AreFresh may_give party _ _ = ⊥
