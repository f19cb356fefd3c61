-- What reading a session from a source gives.
use Rattle.std.specs.Prelude.{◌≡◌, ℕ, List, Option, Some, None, IfSome}
use Rattle.outside_api.specs.Count.{HasRisen}
use Rattle.outside_api.specs.Told.{prepended}
use Rattle.depot_model.specs.declared.request.Session.{Session}
use Rattle.wire_text.specs.declared.script.ScriptEnd.{ScriptEnd}
use Rattle.wire_text.specs.declared.script.ScriptEnd.TheVariants.{Whole, Fault, ReadFault}
use Rattle.session_loop.specs.declared.reading.ReadSession.{ReadSession}
use Rattle.session_loop.specs.declared.reading.ReplicaScript.{ReplicaScript}
use Rattle.session_loop.specs.Asking.{asking_of}

-- The session, or the replica's script, that the bytes of the source say, where they are told. Where the source failed, it is that of the bytes that
-- were taken from it.
abbrev pub IsAsked : Option (List ℕ) → Option (List ℕ) → ℕ → ℕ → Option Session → Option ReplicaScript → ScriptEnd → Type 0
IsAsked old_left new_left before after session replica Whole =
    IfSome old_left (λ bytes. asking_of bytes ≡ record { session = session; replica = replica; fault = None })
IsAsked old_left new_left before after session replica (Fault fault) =
    IfSome old_left (λ bytes. asking_of bytes ≡ record { session = session; replica = replica; fault = Some fault })
IsAsked old_left new_left before after session replica ReadFault =
    HasRisen before after × ((came : List ℕ) × (old_left ≡ prepended came new_left) × ((asking_of came).session ≡ session) × ((asking_of came).replica ≡ replica))

abbrev pub IsReadSession : Option (List ℕ) → Option (List ℕ) → ℕ → ℕ → ReadSession → Type 0
IsReadSession old_left new_left before after read = IsAsked old_left new_left before after read.session read.replica read.end
