-- The steps that save a form stay in the table of forms, those of groups, protections and counters in theirs, and those that tag files in that of
-- labels' files.
use Rattle.std.proofs.Common.{◌≡◌, ℕ, zero, suc, Bool, true, false, List, [], ◌∷◌, Option, Some, None, refl}
use Rattle.std.specs.Prelude.{◌&&◌, ◌==◌, not, length, nat_lt, nat_le, codes, is_some, if◌then◌else◌}
use Rattle.depot_model.specs.db_records.declared.table.TableId.{TableId}
use Rattle.depot_model.specs.db_records.declared.table.TableId.TheVariants as ids
use Rattle.depot_model.specs.spec_form.Form.{FormValue, lines_of}
use Rattle.depot_model.specs.spec_form.Reading.{form_of}
use Rattle.depot_model.specs.spec_form.declared.shape.Shape.TheVariants as shapes
use Rattle.depot_model.specs.protect_table.Line.{table_of as protects_of}
use Rattle.depot_model.specs.view_map.Reading.{view_of}
use Rattle.depot_model.specs.depot_path.Name.{is_name}
use Rattle.depot_model.specs.spec_form.Places.{field_place}
use Rattle.depot_model.specs.Arguments.{named, submitted, no_file}
use Rattle.depot_model.specs.Asking.{is_label, to_open}
use Rattle.depot_model.specs.Deeds.{Deed, Spec, Tag, LabelForm, JobForm, FixForm}
use Rattle.depot_model.specs.Fixes.{job, fix_name, has_fix, closed}
use Rattle.depot_model.specs.Latest.{spec, labelled}
use Rattle.depot_model.specs.Numbers.{landing}
use Rattle.depot_model.specs.Opened.{opened}
use Rattle.depot_model.specs.Shelves.{kept_paths}
use Rattle.depot_model.specs.Step.{Step, nothing, refuse_if}
use Rattle.depot_model.specs.Steps.Checkpoint.{checkpoint, generation}
use Rattle.depot_model.specs.Steps.Clients.{client_save}
use Rattle.depot_model.specs.Steps.Clients as clients
use Rattle.depot_model.specs.Steps.Groups.{group_save}
use Rattle.depot_model.specs.Steps.Groups as groups
use Rattle.depot_model.specs.Steps.Jobs.{job_save, is_status, is_change, save_form, fix, fix_job, fix_delete, unfix, unfix_job, closes_where, distinct}
use Rattle.depot_model.specs.Steps.Labels.{label_save, is_locked}
use Rattle.depot_model.specs.Steps.Labels as labels
use Rattle.depot_model.specs.Steps.Opening.{right_refusal, change_refusal}
use Rattle.depot_model.specs.Steps.Protections.{protect_save}
use Rattle.depot_model.specs.Steps.Protections as protections
use Rattle.depot_model.specs.Steps.Reverting.{not_open}
use Rattle.depot_model.specs.Steps.Shelving.{shelve, shelve_file, shelve_opening, opened_in, within_forms, shelve_delete, unkeep}
use Rattle.depot_model.specs.Steps.Tagging.{tag, tag_file, tag_files, tag_to, made_label, tagged_rev, labelsync, synced_rev}
use Rattle.depot_model.specs.Tables.{is_in}
use Rattle.depot_model.specs.Values.{value_of, valued}
use Rattle.depot_model.specs.declared.refusal.Limit.TheVariants.{Files, Protections, Generation}
use Rattle.depot_model.specs.declared.refusal.Refusal.TheVariants.{BadForm, OverLimit, NoSuchChange, NoSuchLabel, LabelLocked}
use Rattle.depot_model.specs.declared.command.FileArgument.{FileArgument}
use Rattle.depot_model.specs.declared.command.Labelling.{Labelling}
use Rattle.depot_model.specs.declared.request.Caller.{Caller}
use Rattle.depot_model.specs.declared.request.Request.{Request}
use Rattle.step_tables.proofs.Combining.{StayIn, Stays, only_tells, done, stays_both, stays_refused, stays_within, stays_if, stays_where, stays_read, stays_all, stays_over, stays_over_all}

-- ---- forms, groups, protections

module _ (input : List ℕ) where
  client_form_stays : (form : FormValue) → Stays (ids.Domain ∷ []) (clients.saved input form)
  client_form_stays form =
      let name = value_of form (codes "Client") in
      stays_refused (refuse_if (not (is_name name)) (BadForm 0)) _ _
      (stays_read _ (λ view. done _ _ refl) _ (λ fault. only_tells _) (view_of name (lines_of form (codes "View"))))

  pub client_save_stays : Stays (ids.Domain ∷ []) (client_save input)
  client_save_stays = stays_read (clients.saved input) client_form_stays _ (λ fault. only_tells _) (form_of shapes.Client input)

  group_form_stays : (form : FormValue) → Stays (ids.Group ∷ []) (groups.saved input form)
  group_form_stays form = stays_refused (refuse_if (not (is_name (value_of form (codes "Group")))) (BadForm 0)) _ _ (done _ _ refl)

  pub group_save_stays : Stays (ids.Group ∷ []) (group_save input)
  group_save_stays = stays_read (groups.saved input) group_form_stays _ (λ fault. only_tells _) (form_of shapes.Group input)

  lines_stay : (lines : List (List ℕ)) → Stays (ids.Protect ∷ []) (protections.saved input lines)
  lines_stay lines = stays_read _ (λ table. stays_refused (refuse_if (nat_lt 1000 (length lines)) (OverLimit Protections)) _ _ (done _ _ refl)) _
      (λ fault. only_tells _) (protects_of lines)

  pub protect_save_stays : Stays (ids.Protect ∷ []) (protect_save input)
  protect_save_stays = stays_read _ (λ form. lines_stay (lines_of form (codes "Protections"))) _ (λ fault. only_tells _) (form_of shapes.Protect input)

module _ (d : List Deed) where
  module _ (input : List ℕ) where
    label_form_stays : (form : FormValue) → Stays (ids.Domain ∷ []) (labels.saved d form)
    label_form_stays form = stays_refused (refuse_if (not (is_name (value_of form (codes "Label")))) (BadForm 0)) _ _ (done _ _ refl)

    pub label_save_stays : Stays (ids.Domain ∷ []) (label_save d input)
    label_save_stays = stays_read (labels.saved d) label_form_stays _ (λ fault. only_tells _) (form_of shapes.Label input)

    job_form_stays : (form : FormValue) → Stays (ids.Domain ∷ []) (save_form d input form)
    job_form_stays form = stays_refused (refuse_if (not (is_status (value_of form (codes "Status")))) (BadForm (field_place input (codes "Status")))) _ _ (done _ _ refl)

    pub job_save_stays : Stays (ids.Domain ∷ []) (job_save d input)
    job_save_stays = stays_read (save_form d input) job_form_stays _ (λ fault. only_tells _) (form_of shapes.Job input)

  pub checkpoint_stays : Stays (ids.Counter ∷ []) (checkpoint d)
  checkpoint_stays = stays_refused (refuse_if (nat_le 4095 (generation d)) (OverLimit Generation)) _ _ (done _ _ refl)

  -- ---- fixes

  closed_stay : (b : Bool) (name : List ℕ) → StayIn (ids.Domain ∷ []) (closes_where d b name)
  closed_stay true name = go (job d name)
    where
      go : (o : Option FormValue) → StayIn (ids.Domain ∷ []) (elim o as (λ _. List Deed) [ None ↦ [] | Some form ↦ Spec JobForm name (closed form) ∷ [] ])
      go None = refl
      go (Some form) = refl
  closed_stay false name = refl

  pub fix_stays : (caller : Caller) (n : ℕ) (names : List (List ℕ)) → Stays (ids.Domain ∷ []) (fix d caller n names)
  fix_stays caller n names = stays_refused (refuse_if (not (is_change d n)) (NoSuchChange n)) _ _
      (stays_all (fix_job d caller n) (λ name. done _ _ (closed_stay (is_some (landing d n)) name)) (distinct names))

  pub fix_delete_stays : (n : ℕ) (names : List (List ℕ)) → Stays (ids.Domain ∷ []) (fix_delete d n names)
  fix_delete_stays n names = stays_refused (refuse_if (not (is_change d n)) (NoSuchChange n)) _ _ (stays_all (unfix_job d n)
      (λ name. stays_where _ (λ form. stays_if (has_fix d n name) (unfix n name form) nothing (done _ _ refl) (only_tells _)) nothing (only_tells _)
      (spec d FixForm (fix_name name n)))
      (distinct names))

  -- ---- shelved files

  forms_stay : (tables : List TableId) (step : Step) → Stays tables step → Stays tables (within_forms step)
  forms_stay tables step h = stays_refused (refuse_if (nat_lt 10000 (length step.deeds)) (OverLimit Files)) _ _ h

  module _ (request : Request) (replaces : Bool) where
    shelve_file_stays : (path : List ℕ) → Stays (ids.Domain ∷ []) (shelve_file d request replaces path)
    shelve_file_stays path = stays_where (shelve_opening d request replaces)
        (λ o. stays_refused (right_refusal to_open d request.caller o.path) _ _ (done _ _ refl)) nothing (only_tells _) (opened d (request.caller).client path)

    pub shelve_stays : (n : ℕ) (arguments : List FileArgument) → Stays (ids.Domain ∷ []) (shelve d request n replaces arguments)
    shelve_stays n arguments = stays_refused (change_refusal d request.caller n) _ _ (forms_stay (ids.Domain ∷ []) _
        (stays_over_all (opened_in d request.caller n) (λ a. shelve_file d request replaces) (λ a path. shelve_file_stays path) not_open (λ a. only_tells _) arguments))

  pub shelve_delete_stays : (caller : Caller) (n : ℕ) (arguments : List FileArgument) → Stays (ids.Domain ∷ []) (shelve_delete d caller n arguments)
  shelve_delete_stays caller n arguments = stays_refused (change_refusal d caller n) _ _ (forms_stay (ids.Domain ∷ []) _
      (stays_over_all (named true d caller (kept_paths d n)) (λ a. unkeep d caller n) (λ a path. stays_refused (right_refusal to_open d caller path) _ _ (done _ _ refl))
      no_file (λ a. only_tells _) arguments))

  -- ---- tagged files

  module _ (tables : List TableId) (has : is_in tables ids.Label ≡ true) (label path : List ℕ) where
    tagged : (rev : ℕ) → StayIn tables (Tag label path rev ∷ [])
    tagged rev = λ i. (has i && true) && true

    tag_to_stays : (old new : ℕ) → Stays tables (tag_to label path old new)
    tag_to_stays zero zero = only_tells _
    tag_to_stays zero (suc new) = done _ _ (tagged (suc new))
    tag_to_stays (suc old) zero = done _ _ (tagged 0)
    tag_to_stays (suc old) (suc new) = stays_if (old == new) nothing _ (only_tells _) (done _ _ (tagged (suc new)))

    tag_file_stays : (caller : Caller) (new : ℕ) → Stays tables (tag_file d caller label path new)
    tag_file_stays caller new = stays_refused (right_refusal to_open d caller path) _ _ (tag_to_stays (labelled d label path) new)

  pub tag_stays : (caller : Caller) (label : List ℕ) (removes : Bool) (arguments : List FileArgument) → Stays (ids.Domain ∷ ids.Label ∷ []) (tag d caller label removes arguments)
  tag_stays caller label removes arguments = stays_refused (refuse_if (is_locked d label) (LabelLocked label)) _ _ (stays_within _
      (stays_both (record { deeds = made_label d label; rows = [] }) (tag_files d caller label removes arguments) (record { each = made (is_label d label) })
      (stays_over (named false d caller (submitted d)) (λ a path. tag_file d caller label path (tagged_rev removes d caller label a path))
      (λ a path. tag_file_stays (ids.Domain ∷ ids.Label ∷ []) refl label path caller (tagged_rev removes d caller label a path)) no_file (λ a. only_tells _) [] arguments)))
    where
      made : (b : Bool) → StayIn (ids.Domain ∷ ids.Label ∷ []) (if b then [] else Spec LabelForm label (record { shape = shapes.Label; fields = valued (codes "Label") label ∷ [] })
          ∷ [])
      made true = refl
      made false = refl

  pub labelsync_stays : (caller : Caller) (label : List ℕ) (labelling : Labelling) (arguments : List FileArgument)
      → Stays (ids.Label ∷ []) (labelsync d caller label labelling arguments)
  labelsync_stays caller label labelling arguments = stays_refused (refuse_if (not (is_label d label)) (NoSuchLabel label)) _ _ (stays_within _
      (stays_over_all (named false d caller (submitted d)) (λ a path. tag_file d caller label path (synced_rev labelling d caller label a path))
      (λ a path. tag_file_stays (ids.Label ∷ []) refl label path caller (synced_rev labelling d caller label a path)) no_file (λ a. only_tells _) arguments))
