-- The forms that hold a change: they are of it, and in a state. This project's own choice.
use Rattle.std.specs.Prelude.{ℕ, Bool, false, ◌&&◌, List, codes}
use Rattle.std.specs.Option.{option_map_or}
use Rattle.depot_rows.specs.depot_path.Bytes.{same}
use Rattle.depot_rows.specs.spec_form.Form.{FormValue}
use Rattle.depot_rows.specs.depot_model.Deeds.{Deed, SpecKind}
use Rattle.depot_rows.specs.depot_model.Latest.{spec}
use Rattle.depot_rows.specs.depot_model.Values.{value_of}

abbrev pub holds : List ℕ → List ℕ → FormValue → Bool
holds state change form = same (value_of form (codes "State")) state && same (value_of form (codes "Change")) change

abbrev pub is_held : SpecKind → List Deed → List ℕ → List ℕ → List ℕ → Bool
is_held kind d state change name = option_map_or (holds state change) (spec d kind name) false
