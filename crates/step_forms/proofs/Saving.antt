-- The commands that save forms save those of their kinds.
use Rattle.std.proofs.Common.{ℕ, zero, suc, Bool, true, false, List, [], ◌∷◌, ◌++◌, Option, Some, None, refl}
use Rattle.std.specs.Prelude.{◌||◌, ◌==◌, not, length, nat_lt, codes, is_some, flat_map, if◌then◌else◌}
use Rattle.std.specs.Option.{option_map_or}
use Rattle.depot_model.specs.depot_path.Name.{is_name}
use Rattle.depot_model.specs.spec_form.Form.{FormValue, lines_of}
use Rattle.depot_model.specs.spec_form.Places.{field_place}
use Rattle.depot_model.specs.spec_form.Reading.{form_of}
use Rattle.depot_model.specs.spec_form.declared.shape.Shape.TheVariants as shapes
use Rattle.depot_model.specs.view_map.Reading.{view_of}
use Rattle.depot_model.specs.Arguments.{named, submitted, no_file}
use Rattle.depot_model.specs.Asking.{is_label, to_open}
use Rattle.depot_model.specs.Deeds.{Deed, Opening, Pending, SpecKind, Drop, Spec, LabelForm, ShelfForm, JobForm, FixForm, ClientForm}
use Rattle.depot_model.specs.Fixes.{job, fix_name, has_fix, closed, closes, closing, renumbers_where, fixes_of, fixed_job}
use Rattle.depot_model.specs.Latest.{spec, labelled}
use Rattle.depot_model.specs.Numbers.{pending, landing}
use Rattle.depot_model.specs.Opened.{opened}
use Rattle.depot_model.specs.Shelves.{kept_paths}
use Rattle.depot_model.specs.Step.{Step, nothing, refuse_if}
use Rattle.depot_model.specs.Steps.Clients.{client_save}
use Rattle.depot_model.specs.Steps.Clients as clients
use Rattle.depot_model.specs.Steps.Jobs.{job_save, is_status, is_change, save_form, fix, fix_job, fix_delete, unfix, unfix_job, closes_where, distinct}
use Rattle.depot_model.specs.Steps.Labels.{label_save, is_locked}
use Rattle.depot_model.specs.Steps.Labels as labels
use Rattle.depot_model.specs.Steps.Opening.{right_refusal, change_refusal}
use Rattle.depot_model.specs.Steps.Reverting.{not_open}
use Rattle.depot_model.specs.Steps.Shelving.{shelve, shelve_file, shelve_opening, opened_in, within_forms, shelve_delete, unkeep}
use Rattle.depot_model.specs.Steps.Submitting.{submit, submit_default, submit_change, landed, dropped, got_and_shut, landing_number, openings_of}
use Rattle.depot_model.specs.Steps.Tagging.{tag, tag_file, tag_files, tag_to, made_label, tagged_rev}
use Rattle.depot_model.specs.Values.{value_of, valued}
use Rattle.depot_model.specs.declared.command.FileArgument.{FileArgument}
use Rattle.depot_model.specs.declared.refusal.Limit.TheVariants.{Files}
use Rattle.depot_model.specs.declared.refusal.Refusal.TheVariants.{BadForm, OverLimit, NoSuchChange, LabelLocked, EmptyChange}
use Rattle.depot_model.specs.declared.request.Caller.{Caller}
use Rattle.depot_model.specs.declared.request.Request.{Request}
use Rattle.step_forms.specs.SavedForms.{saves_in}
use Rattle.step_forms.proofs.Combining.{All, Each, joined, gathered, only_tells, done, each_both, each_refused, each_within, each_if, each_where, each_read, each_all, each_over, each_over_all}

-- the forms that the deeds of a step save are of these kinds
abbrev pub Saves : List SpecKind → Step → Type 0
Saves kinds step = Each (saves_in kinds) step

abbrev clients_alone : List SpecKind
clients_alone = ClientForm ∷ []

abbrev labels_alone : List SpecKind
labels_alone = LabelForm ∷ []

abbrev shelves_alone : List SpecKind
shelves_alone = ShelfForm ∷ []

abbrev jobs_alone : List SpecKind
jobs_alone = JobForm ∷ []

abbrev fixes_alone : List SpecKind
fixes_alone = FixForm ∷ []

abbrev fixes_and_jobs : List SpecKind
fixes_and_jobs = FixForm ∷ JobForm ∷ []

-- ---- forms that are given

module _ (input : List ℕ) where
  client_form_saves : (form : FormValue) → Saves clients_alone (clients.saved input form)
  client_form_saves form =
      let name = value_of form (codes "Client") in
      each_refused (refuse_if (not (is_name name)) (BadForm 0)) _ _
      (each_read _ (λ view. done _ _ refl) _ (λ fault. only_tells _) (view_of name (lines_of form (codes "View"))))

  pub client_save_saves : Saves clients_alone (client_save input)
  client_save_saves = each_read (clients.saved input) client_form_saves _ (λ fault. only_tells _) (form_of shapes.Client input)

module _ (d : List Deed) where
  module _ (input : List ℕ) where
    label_form_saves : (form : FormValue) → Saves labels_alone (labels.saved d form)
    label_form_saves form = each_refused (refuse_if (not (is_name (value_of form (codes "Label")))) (BadForm 0)) _ _ (done _ _ refl)

    pub label_save_saves : Saves labels_alone (label_save d input)
    label_save_saves = each_read (labels.saved d) label_form_saves _ (λ fault. only_tells _) (form_of shapes.Label input)

    job_form_saves : (form : FormValue) → Saves jobs_alone (save_form d input form)
    job_form_saves form = each_refused (refuse_if (not (is_status (value_of form (codes "Status")))) (BadForm (field_place input (codes "Status")))) _ _ (done _ _ refl)

    pub job_save_saves : Saves jobs_alone (job_save d input)
    job_save_saves = each_read (save_form d input) job_form_saves _ (λ fault. only_tells _) (form_of shapes.Job input)

  -- ---- fixes

  closes_saves : (name : List ℕ) → All (saves_in fixes_and_jobs) (closes d name)
  closes_saves name = go (job d name)
    where
      go : (o : Option FormValue) → All (saves_in fixes_and_jobs) (elim o as (λ _. List Deed) [ None ↦ [] | Some form ↦ Spec JobForm name (closed form) ∷ [] ])
      go None = refl
      go (Some form) = refl

  closed_save : (b : Bool) (name : List ℕ) → All (saves_in fixes_and_jobs) (closes_where d b name)
  closed_save true name = closes_saves name
  closed_save false name = refl

  pub fix_saves : (caller : Caller) (n : ℕ) (names : List (List ℕ)) → Saves fixes_and_jobs (fix d caller n names)
  fix_saves caller n names = each_refused (refuse_if (not (is_change d n)) (NoSuchChange n)) _ _
      (each_all (fix_job d caller n) (λ name. done _ _ (closed_save (is_some (landing d n)) name)) (distinct names))

  pub fix_delete_saves : (n : ℕ) (names : List (List ℕ)) → Saves fixes_alone (fix_delete d n names)
  fix_delete_saves n names = each_refused (refuse_if (not (is_change d n)) (NoSuchChange n)) _ _ (each_all (unfix_job d n)
      (λ name. each_where _ (λ form. each_if (has_fix d n name) (unfix n name form) nothing (done _ _ refl) (only_tells _)) nothing (only_tells _)
      (spec d FixForm (fix_name name n)))
      (distinct names))

  -- ---- shelved files

  module _ {test : Deed → Bool} where
    pub forms_each : (step : Step) → Each test step → Each test (within_forms step)
    forms_each step h = each_refused (refuse_if (nat_lt 10000 (length step.deeds)) (OverLimit Files)) _ _ h

    -- of `shelve -d`, whatever is so of each form that says that a file is gone
    pub each_unkept : (caller : Caller) (n : ℕ) (arguments : List FileArgument) → ((path : List ℕ) → Each test (unkeep d caller n path))
        → Each test (shelve_delete d caller n arguments)
    each_unkept caller n arguments gone = each_refused (change_refusal d caller n) _ _ (forms_each _
        (each_over_all (named true d caller (kept_paths d n)) (λ a. unkeep d caller n) (λ a path. gone path) no_file (λ a. only_tells _) arguments))

    -- of `shelve`, whatever is so of each form of an opened file
    pub each_shelved : (request : Request) (replaces : Bool) (n : ℕ) (arguments : List FileArgument) → ((o : Opening) → Each test (shelve_opening d request replaces o))
        → Each test (shelve d request n replaces arguments)
    each_shelved request replaces n arguments kept = each_refused (change_refusal d request.caller n) _ _ (forms_each _
        (each_over_all (opened_in d request.caller n) (λ a. shelve_file d request replaces)
        (λ a path. each_where (shelve_opening d request replaces) kept nothing (only_tells _) (opened d (request.caller).client path)) not_open (λ a. only_tells _) arguments))

  pub shelve_saves : (request : Request) (replaces : Bool) (n : ℕ) (arguments : List FileArgument) → Saves shelves_alone (shelve d request n replaces arguments)
  shelve_saves request replaces n arguments =
      each_shelved request replaces n arguments (λ o. each_refused (right_refusal to_open d request.caller o.path) _ _ (done _ _ refl))

  pub shelve_delete_saves : (caller : Caller) (n : ℕ) (arguments : List FileArgument) → Saves shelves_alone (shelve_delete d caller n arguments)
  shelve_delete_saves caller n arguments = each_unkept caller n arguments (λ path. each_refused (right_refusal to_open d caller path) _ _ (done _ _ refl))

  -- ---- tagged files

  tag_to_saves : (label path : List ℕ) (old new : ℕ) → Saves labels_alone (tag_to label path old new)
  tag_to_saves label path zero zero = only_tells _
  tag_to_saves label path zero (suc new) = done _ _ refl
  tag_to_saves label path (suc old) zero = done _ _ refl
  tag_to_saves label path (suc old) (suc new) = each_if (old == new) nothing _ (only_tells _) (done _ _ refl)

  pub tag_saves : (caller : Caller) (label : List ℕ) (removes : Bool) (arguments : List FileArgument) → Saves labels_alone (tag d caller label removes arguments)
  tag_saves caller label removes arguments = each_refused (refuse_if (is_locked d label) (LabelLocked label)) _ _ (each_within _
      (each_both (record { deeds = made_label d label; rows = [] }) (tag_files d caller label removes arguments) (record { all = made (is_label d label) })
      (each_over (named false d caller (submitted d)) (λ a path. tag_file d caller label path (tagged_rev removes d caller label a path))
      (λ a path. each_refused (right_refusal to_open d caller path) _ _ (tag_to_saves label path (labelled d label path) (tagged_rev removes d caller label a path)))
      no_file (λ a. only_tells _) [] arguments)))
    where
      made : (b : Bool) → All (saves_in labels_alone) (if b then [] else Spec LabelForm label (record { shape = shapes.Label; fields = valued (codes "Label") label ∷ [] })
          ∷ [])
      made true = refl
      made false = refl

  -- ---- submits

  dropped_saves : (n : ℕ) → All (saves_in fixes_and_jobs) (dropped d n)
  dropped_saves n = go ((n == 0) || (n == landing_number d n))
    where
      go : (b : Bool) → All (saves_in fixes_and_jobs) (if b then [] else Drop n ∷ [])
      go true = refl
      go false = refl

  renumbers_saves : (b : Bool) (n m : ℕ) (form : FormValue) → All (saves_in fixes_and_jobs) (renumbers_where b n m form)
  renumbers_saves true n m form = refl
  renumbers_saves false n m form = refl

  closing_saves : (n m : ℕ) (form : FormValue) → All (saves_in fixes_and_jobs) (closing d n m form)
  closing_saves n m form =
      joined (saves_in fixes_and_jobs) (renumbers_where (n == m) n m form) (closes d (fixed_job form)) (renumbers_saves (n == m) n m form) (closes_saves (fixed_job form))

  module _ (request : Request) where
    landed_saves : (n : ℕ) (text : List ℕ) (openings : List Opening) → Saves fixes_and_jobs (landed d request n text openings)
    landed_saves n text openings = record {
      all = joined (saves_in fixes_and_jobs) (dropped d n ++ flat_map (got_and_shut d) openings) (flat_map (closing d n (landing_number d n)) (fixes_of d n))
          (joined (saves_in fixes_and_jobs) (dropped d n) (flat_map (got_and_shut d) openings) (dropped_saves n)
          (gathered (saves_in fixes_and_jobs) (got_and_shut d) (λ o. refl) openings))
          (gathered (saves_in fixes_and_jobs) (closing d n (landing_number d n)) (closing_saves n (landing_number d n)) (fixes_of d n));
    }

    submit_saves : (n : ℕ) (text : List ℕ) → Saves fixes_and_jobs (submit d request n text)
    submit_saves n text = each_refused (refuse_if (length (openings_of d request.caller n) == 0) (EmptyChange n)) _ _
        (landed_saves n text (openings_of d request.caller n))

    pub submit_default_saves : (text : List ℕ) → Saves fixes_and_jobs (submit_default d request text)
    submit_default_saves text = submit_saves 0 text

    pub submit_change_saves : (n : ℕ) → Saves fixes_and_jobs (submit_change d request n)
    submit_change_saves n = each_refused (change_refusal d request.caller n) _ _ (submit_saves n (option_map_or (λ (p : Pending). p.text) (pending d n) []))
