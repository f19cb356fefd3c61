-- The block that gives a file its content where its source doesn't.
use Rattle.std.proofs.Common.{◌≡◌, ℕ, Bool, true, false, List, Option, Some, None, refl}
use Rattle.std.specs.Prelude.{◌&&◌, is_none, is_some, if◌then◌else◌}

pub given_by : (live : Bool) (source block : Option (List ℕ)) → live ≡ true → is_some source ≡ false → block ≡ (if live && is_none source then block else None)
given_by true None block e none = refl
given_by true (Some content) block e none = absurd (let no : true ≡ false = none in cc)
given_by false source block e none = absurd (let no : false ≡ true = e in cc)
