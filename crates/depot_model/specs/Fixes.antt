-- Jobs, and the changes that fix them (Command-Line Reference, "p4 job", "p4 fix"). That a fix is a saved form is this project's own choice.
use Rattle.std.specs.Prelude.{ℕ, ◌==◌, max, List, [], ◌∷◌, ◌++◌, length, nat_lt, map, filter, filter_map, fold, drop, codes, Option, Some, None, Bool, true, false, decimal}
use Rattle.db_records.specs.depot_path.Bytes.{same}
use Rattle.db_records.specs.depot_path.Digits.{number_of}
use Rattle.spec_form.specs.Form.{FormValue, with_field}
use Rattle.spec_form.specs.declared.shape.Shape.TheVariants.{Fix}
use Rattle.depot_model.specs.Values.{value_of, valued}
use Rattle.depot_model.specs.Deeds.{Deed, Spec, JobForm, FixForm}
use Rattle.depot_model.specs.Latest.{spec, keys_of, spec_name}
use Rattle.depot_model.specs.Shelves.{is_of_change}

abbrev pub job : List Deed → List ℕ → Option FormValue
job d name = spec d JobForm name

abbrev pub job_names : List Deed → List (List ℕ)
job_names d = keys_of (spec_name JobForm) d

-- the greatest number of a job, 0 where there is none
abbrev pub job_number : List ℕ → ℕ
job_number name = number_of (drop 3 name)

abbrev pub last_job : List Deed → ℕ
last_job d = fold max 0 (map job_number (job_names d))

-- a job's name has six digits
abbrev pub job_name : ℕ → List ℕ
job_name n = codes "job" ++ drop (length (decimal n)) (codes "000000") ++ decimal n

abbrev pub fix_name : List ℕ → ℕ → List ℕ
fix_name job n = job ++ 0x20 ∷ decimal n

abbrev pub fix_form : List ℕ → ℕ → List ℕ → List ℕ → FormValue
fix_form job n user state =
    record {
      shape = Fix;
      fields = valued (codes "Job") job ∷ valued (codes "Change") (decimal n) ∷ valued (codes "User") user
          ∷ valued (codes "State") state ∷ [];
    }

abbrev pub is_on : FormValue → Bool
is_on form = same (value_of form (codes "State")) (codes "on")

-- the fixes that are on, by name, and those of a change
abbrev pub fixes_on : List Deed → List FormValue
fixes_on d = filter is_on (filter_map (spec d FixForm) (keys_of (spec_name FixForm) d))

abbrev pub fixes_of : List Deed → ℕ → List FormValue
fixes_of d n = filter (is_of_change n) (fixes_on d)

abbrev pub is_fixing : List Deed → ℕ → Bool
is_fixing d n = nat_lt 0 (length (fixes_of d n))

-- a fix of a change that is on
abbrev pub has_fix : List Deed → ℕ → List ℕ → Bool
has_fix d n name = elim (spec d FixForm (fix_name name n)) [ None ↦ false | Some form ↦ is_on form ]

abbrev pub fixed_job : FormValue → List ℕ
fixed_job form = value_of form (codes "Job")

-- the deed that closes a job
abbrev pub closed : FormValue → FormValue
closed form = with_field (codes "Status") (codes "closed") form

abbrev pub closes : List Deed → List ℕ → List Deed
closes d name = elim (job d name) [ None ↦ [] | Some form ↦ Spec JobForm name (closed form) ∷ [] ]

-- a fix of a change that lands under another number is one of that number
abbrev pub renumbers : ℕ → ℕ → FormValue → List Deed
renumbers n m form =
    Spec FixForm (fix_name (fixed_job form) n) (with_field (codes "State") (codes "off") form)
    ∷ Spec FixForm (fix_name (fixed_job form) m) (with_field (codes "Change") (decimal m) form) ∷ []

abbrev pub renumbers_where : Bool → ℕ → ℕ → FormValue → List Deed
renumbers_where true n m form = []
renumbers_where false n m form = renumbers n m form

-- what a submit of change n under number m does for a fix
abbrev pub closing : List Deed → ℕ → ℕ → FormValue → List Deed
closing d n m form = renumbers_where (n == m) n m form ++ closes d (fixed_job form)
