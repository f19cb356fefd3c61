-- `job`, `jobs`, `fix`, `fixes` (Command-Line Reference, "p4 job", "p4 jobs", "p4 fix", "p4 fixes").
use Rattle.std.specs.Prelude.{ℕ, ◌+◌, List, [], ◌∷◌, ◌++◌, length, nat_lt, nat_le, map, filter, filter_map, codes, decimal, if◌then◌else◌, Option, Some, None, Ok, Err, is_some, is_none, Bool, true, false, not, ◌&&◌, ◌||◌}
use Rattle.std.specs.Option.{option_map_or}
use Rattle.std.specs.List.{list_any}
use Rattle.db_records.specs.depot_path.Bytes.{same}
use Rattle.spec_form.specs.declared.shape.Shape.TheVariants.{Job as JobShape}
use Rattle.spec_form.specs.Form.{FormValue, with_field}
use Rattle.spec_form.specs.Reading.{form_of}
use Rattle.spec_form.specs.Printing.{printed_form}
use Rattle.depot_model.specs.Values.{value_of}
use Rattle.spec_form.specs.Places.{field_place}
use Rattle.depot_model.specs.declared.request.Caller.{Caller}
use Rattle.depot_model.specs.declared.reply.Row.{Row}
use Rattle.depot_model.specs.declared.refusal.Refusal.{Refusal}
use Rattle.depot_model.specs.declared.refusal.Refusal.TheVariants.{BadForm, NoSuchChange, NoSuchJob, OverLimit}
use Rattle.depot_model.specs.declared.refusal.Limit.TheVariants.{Text, Jobs, Fixes}
use Rattle.depot_model.specs.Deeds.{Deed, Spec, JobForm, FixForm}
use Rattle.depot_model.specs.Latest.{spec}
use Rattle.depot_model.specs.Numbers.{pending, landing}
use Rattle.depot_model.specs.FormRows.{form_fields, value_fields, text_of}
use Rattle.depot_model.specs.Rows.{row, number_field, text_field}
use Rattle.depot_model.specs.Shelves.{is_of_change}
use Rattle.depot_model.specs.Fixes.{job, job_names, job_name, last_job, fix_name, fix_form, fixes_on, fixes_of, has_fix, fixed_job, closes}
use Rattle.depot_model.specs.Step.{Step, nothing, tells, does, refuses, unless, refuse_if, all_of}
use Rattle.depot_model.specs.Steps.Changing.{default_text}

-- ---- job

abbrev pub new_job : Caller → Row
new_job caller = row (
    text_field (codes "Job") (codes "new") ∷ text_field (codes "Status") (codes "open") ∷ text_field (codes "User") caller.user
    ∷ text_field (codes "Description" ++ decimal 0) default_text ∷ [])

abbrev pub job_show : List Deed → Caller → Option (List ℕ) → Step
job_show d caller None = tells (new_job caller ∷ [])
job_show d caller (Some name) = elim (job d name) [ None ↦ refuses (NoSuchJob name) | Some form ↦ tells (row (form_fields form) ∷ []) ]

abbrev pub is_new : List ℕ → Bool
is_new name = same name (codes "new")

abbrev pub is_status : List ℕ → Bool
is_status word = list_any (same word) (codes "open" ∷ codes "suspended" ∷ codes "closed" ∷ [])

-- the name under which a form is saved: for `new` the next one
abbrev pub saved_name : List Deed → List ℕ → List ℕ
saved_name d name = if is_new name then job_name (last_job d + 1) else name

abbrev pub saved : List ℕ → FormValue → Step
saved name form =
    does (Spec JobForm name (with_field (codes "Job") name form)
    ∷ []) (row (text_field (codes "Job") name ∷ text_field (codes "action") (codes "saved") ∷ []))

abbrev pub save_form : List Deed → List ℕ → FormValue → Step
save_form d input form =
    let name = value_of form (codes "Job") in
    unless (
    refuse_if (not (is_status (value_of form (codes "Status")))) (BadForm (field_place input (codes "Status")))
    ∷ refuse_if (not (is_new name) && is_none (job d name)) (NoSuchJob name)
    ∷ refuse_if (nat_lt 65536 (length (printed_form form))) (OverLimit Text)
    ∷ refuse_if (is_new name && nat_le 999999 (last_job d)) (OverLimit Jobs)
    ∷ [])
    (saved (saved_name d name) form)

abbrev pub job_save : List Deed → List ℕ → Step
job_save d input = elim (form_of JobShape input) [ Err fault ↦ refuses (BadForm fault.line) | Ok form ↦ save_form d input form ]

abbrev pub job_row : FormValue → Row
job_row form = row (
    value_fields (codes "Job") (codes "Job") form ++ value_fields (codes "Status") (codes "Status") form
    ++ value_fields (codes "User") (codes "User") form
    ++ text_field (codes "Description") (text_of form (codes "Description")) ∷ [])

abbrev pub jobs : List Deed → Step
jobs d = tells (map job_row (filter_map (job d) (job_names d)))

-- ---- fix

-- a change that is pending or submitted
abbrev pub is_change : List Deed → ℕ → Bool
is_change d n = is_some (pending d n) || is_some (landing d n)

abbrev pub no_job : List Deed → List ℕ → Option Refusal
no_job d name = refuse_if (is_none (job d name)) (NoSuchJob name)

-- names, each once
abbrev pub distinct_after : List (List ℕ) → List (List ℕ) → List (List ℕ)
distinct_after taken [] = []
distinct_after taken (name ∷ names) = (if list_any (same name) taken then [] else name ∷ []) ++ distinct_after (name ∷ taken) names

abbrev pub distinct : List (List ℕ) → List (List ℕ)
distinct names = distinct_after [] names

abbrev pub fixed_row : List ℕ → ℕ → List ℕ → Row
fixed_row name n word = row (text_field (codes "Job") name ∷ number_field (codes "Change") n ∷ text_field (codes "action") word ∷ [])

-- a submitted change closes the job at once
abbrev pub closes_where : List Deed → Bool → List ℕ → List Deed
closes_where d true name = closes d name
closes_where d false name = []

abbrev pub fix_job : List Deed → Caller → ℕ → List ℕ → Step
fix_job d caller n name =
    does (Spec FixForm (fix_name name n) (fix_form name n caller.user (codes "on"))
    ∷ closes_where d (is_some (landing d n)) name) (fixed_row name n (codes "fixed"))

-- how many fixes the change would have
abbrev pub fixes_then : List Deed → ℕ → List (List ℕ) → ℕ
fixes_then d n names = length (fixes_of d n) + length (filter (λ name. not (has_fix d n name)) (distinct names))

abbrev pub fix : List Deed → Caller → ℕ → List (List ℕ) → Step
fix d caller n names =
    unless (refuse_if (not (is_change d n)) (NoSuchChange n) ∷ map (no_job d) names
    ++ refuse_if (nat_lt 100 (fixes_then d n names)) (OverLimit Fixes) ∷ [])
    (all_of (fix_job d caller n) (distinct names))

abbrev pub unfix : ℕ → List ℕ → FormValue → Step
unfix n name form = does (Spec FixForm (fix_name name n) (with_field (codes "State") (codes "off") form) ∷ []) (fixed_row name n (codes "deleted"))

abbrev pub unfix_job : List Deed → ℕ → List ℕ → Step
unfix_job d n name = elim (spec d FixForm (fix_name name n)) [ None ↦ nothing | Some form ↦ if has_fix d n name then unfix n name form else nothing ]

abbrev pub fix_delete : List Deed → ℕ → List (List ℕ) → Step
fix_delete d n names = unless (refuse_if (not (is_change d n)) (NoSuchChange n) ∷ map (no_job d) names) (all_of (unfix_job d n) (distinct names))

-- ---- fixes

abbrev pub is_wanted : Option ℕ → Option (List ℕ) → FormValue → Bool
is_wanted n name form = option_map_or (λ m. is_of_change m form) n true && option_map_or (same (fixed_job form)) name true

abbrev pub fix_row : FormValue → Row
fix_row form =
    row (value_fields (codes "Job") (codes "Job") form ++ value_fields (codes "Change") (codes "Change") form
    ++ value_fields (codes "User") (codes "User") form)

abbrev pub fixes : List Deed → Option ℕ → Option (List ℕ) → Step
fixes d n name = tells (map fix_row (filter (is_wanted n name) (fixes_on d)))
