-- What reading a script command by command gives.
use Rattle.std.specs.Prelude.{◌≡◌, ◌≤◌, ℕ, ◌+◌, false, List, [], ◌∷◌, ◌++◌, Option, Some, None, IfSome}
use Rattle.outside_api.specs.Count.{HasRisen}
use Rattle.outside_api.specs.Told.{prepended}
use Rattle.wire_text.specs.Contents.{contents_after, has_command}
use Rattle.wire_text.specs.Intake.{Taken}
use Rattle.wire_text.specs.Script.{Point, rest_of}
use Rattle.wire_text.specs.Reading.{GoesOn, point_at}
use Rattle.std.specs.Option.{option_to_list}
use Rattle.wire_text.specs.declared.entry.Item.{Item as ItemOf}
use Rattle.wire_text.specs.declared.entry.Entry.{Entry}
use Rattle.wire_text.specs.declared.entry.Entry.TheVariants.{Command}
use Rattle.wire_text.specs.declared.reader.ItemRead.{ItemRead}
use Rattle.wire_text.specs.declared.reader.ItemRead.TheVariants.{Item, Ended, Failed}

-- contents were passed, and no command
pub record Passes (passed : List Entry) (old new : List (List ℕ × List ℕ)) : Type 0 where
  pub none : has_command passed ≡ false
  pub contents : new ≡ contents_after old passed

-- the contents that stood before a command, and the command; or the script's end, or as far as the source went
abbrev pub ItemCase : Option (List ℕ) → Option (List ℕ) → ℕ → ℕ → Taken → Taken → Point → Option (List ℕ) → List (List ℕ × List ℕ) → List (List ℕ × List ℕ) → ItemRead → Type 0
ItemCase old_left new_left before after old new point input contents now (Item item) =
    (passed : List Entry) × Passes passed contents now × (point.number + 1 ≤ new.place) × (new.place ≤ 67108864) × GoesOn [] old_left new_left old.held new.held point (point_at point.client new.place (point.number + 1) input) (passed ++ Command item ∷ [])
ItemCase old_left new_left before after old new point input contents now (Ended fault) =
    (passed : List Entry) × Passes passed contents now × IfSome old_left (λ bytes. rest_of point (old.held ++ bytes) ≡ record { entries = passed; fault = fault })
ItemCase old_left new_left before after old new point input contents now Failed =
    (passed : List Entry) × Passes passed contents now × HasRisen before after × ((came : List ℕ) × (old_left ≡ prepended came new_left) × ((rest_of point (old.held ++ came)).entries ≡ passed))

-- what an entry does to the contents, or the command that it is
abbrev pub KeepCase : Option Entry → List (List ℕ × List ℕ) → List (List ℕ × List ℕ) → Option ItemOf → Type 0
KeepCase entry old new None = Passes (option_to_list entry) old new
KeepCase entry old new (Some item) = (entry ≡ Some (Command item)) × (new ≡ old)
