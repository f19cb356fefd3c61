-- What taking the commands of a load does (this project's own choice).
use Rattle.std.specs.Prelude.{◌≡◌, ◌≤◌, ◌+◌, ◌*◌, ℕ, zero, suc, List, [], ◌∷◌, length, map, Option, Some, None}
use Rattle.depot_model.specs.Deeds.{Deed}
use Rattle.depot_model.specs.Order.{IsOrder}
use Rattle.depot_model.specs.Places.{Placed}
use Rattle.depot_model.specs.declared.order.Place.{Place}
use Rattle.depot_model.specs.declared.request.Session.{Session}
use Rattle.depot_runs.specs.Run.{placed}
use Rattle.session_loop.specs.Asking.{asking_of, commands_of}
use Rattle.session_loop.specs.declared.reading.ReadSession.{ReadSession}
use Rattle.wire_text.specs.declared.script.ScriptEnd.{ScriptEnd}
use Rattle.wire_text.specs.declared.script.ScriptEnd.TheVariants.{Whole, Fault, ReadFault}
use Rattle.load_script.specs.Script.{script_of}

-- the session of the script of a seed and a number of steps
abbrev pub load_session : ℕ → ℕ → Option Session
load_session seed count = (asking_of (script_of seed count)).session

-- the session that the bytes of a script say, and the fault that ends it, if one does
abbrev pub IsAskedBy : List ℕ → Option Session → ScriptEnd → Type 0
IsAskedBy bytes session Whole = ((asking_of bytes).session ≡ session) × ((asking_of bytes).fault ≡ None)
IsAskedBy bytes session (Fault fault) = ((asking_of bytes).session ≡ session) × ((asking_of bytes).fault ≡ Some fault)
IsAskedBy bytes session ReadFault = ⊥

abbrev pub IsReadLoad : List ℕ → ReadSession → Type 0
IsReadLoad bytes read = IsAskedBy bytes read.session read.end

-- the script of a seed and of at most a million steps is whole, and has two commands for each step behind the one that saves its client
abbrev pub LoadScriptsAreWhole : Type 0
LoadScriptsAreWhole =
    (seed count : ℕ) → count ≤ 1000000 → IsAskedBy (script_of seed count) (load_session seed count) Whole × (length (commands_of (load_session seed count)) ≡ 2 * count + 1)

-- so many numbers, one after another
abbrev pub numbers_from : ℕ → ℕ → List ℕ
numbers_from n zero = []
numbers_from n (suc count) = n ∷ numbers_from (n + 1) count

-- The commands were taken as those of party 1, alone, from the depot `start` on, and who took them has run their places. Where there are as many
-- places as commands, each command has its own, in turn.
pub record IsLoaded (may_give : ℕ → Type 0) (has_run : List Deed → List Placed → Type 0) (start : List Deed) (session : Option Session) (order : List Place) : Type 0 where
  pub places : IsOrder may_give (length (commands_of session) ∷ []) order
  pub each : length order ≡ length (commands_of session) → map (λ place. place.number) order ≡ numbers_from 1 (length (commands_of session))
  pub ran : has_run start (map (placed (session ∷ [])) order)
