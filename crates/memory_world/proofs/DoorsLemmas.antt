-- What taking the door of a name away leaves to the other names.
use Rattle.std.proofs.Common.{◌≡◌, ◌≢◌, ℕ, Bool, true, false, List, Some, refl, sym, ◌∙◌}
use Rattle.std.specs.Prelude.{remove, slice_get}
use Rattle.std.specs.Str.{bytes_eq}
use Rattle.std.proofs.lemmas.Slice.Eq.{bytes_eq-Decides}
use Rattle.memory_world.specs.declared.door.Door.{Door}
use Rattle.memory_world.specs.Door.{bears, door_among}
use Rattle.memory_world.proofs.Found.{find-passes, find-remove}

-- a test that would say what isn't so fails
fails : {P : Type 0} (b : Bool) → (b ≡ true → P) → ¬ P → b ≡ false
fails true says differs = absurd (differs (says refl))
fails false says differs = refl

-- what is found bears its name, and so no other
bears_no_other : (doors : List Door) (name other : List ℕ) (door : Door) → door_among doors name ≡ Some door → other ≢ name → bears other door ≡ false
bears_no_other doors name other door found differs =
    let own : door.name ≡ name = (bytes_eq-Decides door.name name).0 (find-passes (bears name) doors door found) in
    fails (bytes_eq door.name other) (bytes_eq-Decides door.name other).0 (λ same. differs (sym same ∙ own))

pub door_among-remove : (doors : List Door) (name other : List ℕ) (i : ℕ) (door : Door) → door_among doors name ≡ Some door → slice_get doors i ≡ Some door → other ≢ name → door_among (remove doors i) other ≡ door_among doors other
door_among-remove doors name other i door found at differs =
    find-remove (bears other) doors i door at (bears_no_other doors name other door found differs)
