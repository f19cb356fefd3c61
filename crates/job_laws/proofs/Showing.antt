-- What is told of jobs and fixes after places is what is folded of them.
use Rattle.std.proofs.Common.{◌≡◌, ℕ, true, List, [], ◌∷◌, Option, Some, None, refl, sym, ap, ◌∙◌}
use Rattle.std.specs.Prelude.{Contains, decimal, filter_map}
use Rattle.depot_model.specs.depot_path.Bytes.{same}
use Rattle.depot_model.specs.spec_form.Form.{FormValue}
use Rattle.depot_model.specs.Commands.{step}
use Rattle.depot_model.specs.Deeds.{Deed, FixForm}
use Rattle.depot_model.specs.Fixes.{fix_name, fixed_job, fixes_on, is_on}
use Rattle.depot_model.specs.FormRows.{form_fields}
use Rattle.depot_model.specs.Latest.{keys_of, spec, spec_name}
use Rattle.depot_model.specs.Places.{Placed, done_at, taken}
use Rattle.depot_model.specs.Rows.{row}
use Rattle.depot_model.specs.Rules.{IsSound}
use Rattle.depot_model.specs.Shelves.{is_of_change}
use Rattle.depot_model.specs.Step.{Step, after, refuses, tells}
use Rattle.depot_model.specs.Steps.Jobs.{job_show}
use Rattle.depot_model.specs.declared.refusal.Refusal.TheVariants.{NoSuchJob}
use Rattle.depot_model.specs.declared.request.Caller.{Caller}
use Rattle.depot_rows.proofs.Keys.{same-self}
use Rattle.depot_runs.specs.Folds.{job_state, fix_state}
use Rattle.depot_facts.proofs.Fixes.{fix_in}
use Rattle.depot_facts.proofs.Listed.{contains_in, in_contains, in_filter, in_filter_map}
use Rattle.job_laws.specs.Showing.{shows_job}
use Rattle.job_laws.proofs.Fixes.{folded_fixes}
use Rattle.job_laws.proofs.Jobs.{folded_jobs}
use Rattle.job_laws.proofs.Named.{AreNamed, place_named, sound_named}

pub jobs_shown : (d : List Deed) → IsSound d → (places : List Placed) (caller : Caller) (name : List ℕ)
    → job_show (taken step d places) caller (Some name) ≡ shows_job name (job_state step d places name)
jobs_shown d sound places caller name =
    ap (λ (o : Option FormValue). elim o as (λ _. Step) [ None ↦ refuses (NoSuchJob name) | Some form ↦ tells (row (form_fields form) ∷ []) ])
    (folded_jobs d sound places name)
    ∙ go (job_state step d places name)
  where
    go : (o : Option FormValue) → (elim o as (λ _. Step) [ None ↦ refuses (NoSuchJob name) | Some form ↦ tells (row (form_fields form) ∷ []) ]) ≡ shows_job name o
    go None = refl
    go (Some form) = refl

all_named : (places : List Placed) (d : List Deed) → AreNamed d → AreNamed (taken step d places)
all_named [] d named = named
all_named (p ∷ places) d named = all_named places (after d (done_at step d p)) (place_named d named p)

pub fixes_listed : (d : List Deed) → IsSound d → (places : List Placed) (form : FormValue) → Contains (fixes_on (taken step d places)) form
    → (n : ℕ) × (fix_state step d places (fixed_job form) n ≡ Some form)
fixes_listed d sound places form there =
    let later : List Deed = taken step d places in
    let on = in_filter is_on (filter_map (spec later FixForm) (keys_of (spec_name FixForm) later)) form (contains_in (fixes_on later) form there) in
    let saved = in_filter_map (spec later FixForm) (keys_of (spec_name FixForm) later) form on.0 in
    let is = all_named places d (sound_named d sound) saved.0 form saved.1.1 in
    (is.number, sym (folded_fixes d places (fixed_job form) is.number) ∙ ap (spec later FixForm) (sym is.named) ∙ saved.1.1)

pub folded_listed : (d : List Deed) → IsSound d → (places : List Placed) (name : List ℕ) (n : ℕ) (form : FormValue)
    → fix_state step d places name n ≡ Some form → is_on form ≡ true → Contains (fixes_on (taken step d places)) form
folded_listed d sound places name n form e on =
    let later : List Deed = taken step d places in
    let saved : spec later FixForm (fix_name name n) ≡ Some form = folded_fixes d places name n ∙ e in
    let is = all_named places d (sound_named d sound) (fix_name name n) form saved in
    let of_change : is_of_change is.number form ≡ true = ap (λ (t : List ℕ). same t (decimal is.number)) is.of_change ∙ same-self (decimal is.number) in
    let among = fix_in later is.number (fix_name name n) form saved on of_change in
    in_contains (fixes_on later) form (in_filter (is_of_change is.number) (fixes_on later) form among).0
