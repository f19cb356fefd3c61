-- Fixes by the digits of their change and by their job (Command-Line Reference, "p4 fix", "p4 fixes").
use Rattle.std.specs.Prelude.{ℕ, Bool, true, ◌&&◌, List, [], ◌∷◌, ◌++◌, codes, drop, filter, Option, Some, None}
use Rattle.std.specs.List.{filter_map}
use Rattle.std.specs.Option.{option_map_or}
use Rattle.depot_rows.specs.depot_path.Bytes.{begins_with, same}
use Rattle.depot_rows.specs.spec_form.Form.{FormValue}
use Rattle.depot_rows.specs.depot_model.Deeds.{Deed, FixForm}
use Rattle.depot_rows.specs.depot_model.Fixes.{is_on}
use Rattle.depot_rows.specs.depot_model.Latest.{keys_of, spec, spec_name}
use Rattle.depot_rows.specs.depot_model.Values.{value_of}

-- a fix that is on, of the change with these digits and of this job, as far as they are asked for
abbrev pub is_asked : Option (List ℕ) → Option (List ℕ) → FormValue → Bool
is_asked digits job form =
    is_on form && (option_map_or (same (value_of form (codes "Change"))) digits true && option_map_or (same (value_of form (codes "Job"))) job true)

abbrev pub fixes_among : List Deed → Option (List ℕ) → Option (List ℕ) → List (List ℕ) → List FormValue
fixes_among d digits job names = filter (is_asked digits job) (filter_map (spec d FixForm) names)

-- the names of the fixes by a change, where one is asked for, else of those of a job, where one is, else of all: a fix's name is the job's, which has
-- nine bytes, a space and the digits of the change
abbrev pub names_asked : List Deed → Option (List ℕ) → Option (List ℕ) → List (List ℕ)
names_asked d (Some digits) job = filter (λ name. same (drop 10 name) digits) (keys_of (spec_name FixForm) d)
names_asked d None (Some job) = filter (λ name. begins_with name (job ++ 0x20 ∷ [])) (keys_of (spec_name FixForm) d)
names_asked d None None = keys_of (spec_name FixForm) d
