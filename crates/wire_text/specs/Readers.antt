-- What a reader of a script answers, command by command.
use Rattle.std.specs.Prelude.{◌≡◌, ℕ, ◌+◌, List, [], ◌++◌, Option, Some, None, Result, Ok, Err, IfSome}
use Rattle.outside_api.specs.Count.{HasRisen}
use Rattle.outside_api.specs.Told.{prepended}
use Rattle.wire_text.specs.Script.{headed, headless, script_of, rest_of}
use Rattle.wire_text.specs.Head.{client_of}
use Rattle.wire_text.specs.Reading.{point_at}
use Rattle.wire_text.specs.Commands.{ItemCase}
use Rattle.wire_text.specs.declared.entry.Item.{Item}
use Rattle.wire_text.specs.declared.fault.ScriptError.{ScriptError}
use Rattle.wire_text.specs.declared.fault.ScriptError.TheVariants.{Fault, ReadFault, Memory}
use Rattle.wire_text.specs.declared.head.Head.{Head}
use Rattle.wire_text.specs.declared.reader.ItemRead.TheVariants.{Item as Asked, Ended, Failed}
use Rattle.wire_text.specs.declared.reader.ScriptReader.{ScriptReader}

-- what the session says that its files hold
abbrev pub contents_of : ScriptReader → List (List ℕ × List ℕ)
contents_of reader = reader.contents.entries

-- nothing was read
pub record IsFresh (reader : ScriptReader) : Type 0 where
  pub intake : reader.intake ≡ record { held = []; place = 0 }
  pub client : reader.client ≡ None
  pub input : reader.input ≡ None
  pub contents : reader.contents.entries ≡ []

-- the reader stands behind the head; or there is none, and the reader is at its end
abbrev pub HeadAnswer : Option (List ℕ) → Option (List ℕ) → ℕ → ℕ → ScriptReader → Result Head ScriptError → Type 0
HeadAnswer old_left new_left before after new (Ok head) =
    (new.client ≡ Some (client_of head)) × (new.contents.entries ≡ [])
    × ((came : List ℕ) × (old_left ≡ prepended came new_left) × ((more : List ℕ) → script_of (came ++ more) ≡ headed head (rest_of (point_at (client_of head) new.intake.place new.number new.input) (new.intake.held ++ more))))
HeadAnswer old_left new_left before after new (Err (Fault fault)) = (new.client ≡ None) × IfSome old_left (λ bytes. script_of bytes ≡ headless fault)
HeadAnswer old_left new_left before after new (Err ReadFault) =
    (new.client ≡ None) × HasRisen before after × ((came : List ℕ) × (old_left ≡ prepended came new_left) × ((script_of came).head ≡ None) × ((script_of came).entries ≡ []))
HeadAnswer old_left new_left before after new (Err Memory) = new.client ≡ None

-- the next command of a reader that isn't at its end
abbrev pub NextCase : Option (List ℕ) → Option (List ℕ) → ℕ → ℕ → ScriptReader → ScriptReader → List ℕ → Result (Option Item) ScriptError → Type 0
NextCase old_left new_left before after old new client (Ok (Some item)) =
    (new.client ≡ Some client) × (new.number ≡ old.number + 1)
    × ItemCase old_left new_left before after old.intake new.intake (point_at client old.intake.place old.number old.input) new.input old.contents.entries new.contents.entries (Asked item)
NextCase old_left new_left before after old new client (Ok None) =
    (new.client ≡ None) × ItemCase old_left new_left before after old.intake new.intake (point_at client old.intake.place old.number old.input) new.input old.contents.entries new.contents.entries (Ended None)
NextCase old_left new_left before after old new client (Err (Fault fault)) =
    (new.client ≡ None) × ItemCase old_left new_left before after old.intake new.intake (point_at client old.intake.place old.number old.input) new.input old.contents.entries new.contents.entries (Ended (Some fault))
NextCase old_left new_left before after old new client (Err ReadFault) =
    (new.client ≡ None) × ItemCase old_left new_left before after old.intake new.intake (point_at client old.intake.place old.number old.input) new.input old.contents.entries new.contents.entries Failed
NextCase old_left new_left before after old new client (Err Memory) = new.client ≡ None

-- a reader at its end has no further command
abbrev pub NextFrom : Option (List ℕ) → Option (List ℕ) → ℕ → ℕ → ScriptReader → ScriptReader → Option (List ℕ) → Result (Option Item) ScriptError → Type 0
NextFrom old_left new_left before after old new (Some client) result = NextCase old_left new_left before after old new client result
NextFrom old_left new_left before after old new None result = (result ≡ Ok None) × (new.client ≡ None) × (new.contents.entries ≡ old.contents.entries) × (old_left ≡ new_left)

abbrev pub NextAnswer : Option (List ℕ) → Option (List ℕ) → ℕ → ℕ → ScriptReader → ScriptReader → Result (Option Item) ScriptError → Type 0
NextAnswer old_left new_left before after old new result = NextFrom old_left new_left before after old new old.client result
