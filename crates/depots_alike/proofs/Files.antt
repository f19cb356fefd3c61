-- Commands on files: files, print, fstat, sync, tag, labelsync, add, edit, delete, opened, and lists of forms.
use Rattle.std.proofs.Common.{◌≡◌, ℕ, Bool, false, List, [], ◌∷◌, length, map, Option, Some, None, refl, sym, ap, ◌∙◌}
use Rattle.std.specs.Prelude.{nat_lt, codes, if◌then◌else◌, filter, filter_map, is_some, is_none, fold, max, option_map, unwrap_or}
use Rattle.depot_rows.specs.depot_path.Path.{printed}
use Rattle.depot_rows.specs.depot_path.declared.revision.Wanted.TheVariants.{Head}
use Rattle.depot_rows.specs.view_map.Mapping.{files_at}
use Rattle.depot_rows.specs.depot_model.declared.command.FileArgument.{FileArgument}
use Rattle.depot_rows.specs.depot_model.declared.refusal.Refusal.TheVariants.{NotInView, AlreadyOpen, Exists}
use Rattle.depot_rows.specs.depot_model.declared.request.Caller.{Caller}
use Rattle.depot_rows.specs.depot_model.Arguments.{named, had, submitted, no_file, in_client_syntax, within_files}
use Rattle.depot_rows.specs.depot_model.Asking.{to_open, to_read, view}
use Rattle.depot_rows.specs.depot_model.Choice.{Choice, chosen, PassedOver, At}
use Rattle.depot_rows.specs.depot_model.Deeds.{Deed, Open, Opening, Action, Add, Edit, Delete, LabelForm, JobForm, FixForm}
use Rattle.depot_rows.specs.depot_model.Fixes.{fixes_on, is_on, last_job, job_number, is_fixing}
use Rattle.depot_rows.specs.depot_model.Shelves.{is_of_change}
use Rattle.depot_rows.specs.depot_model.Latest.{have}
use Rattle.depot_rows.specs.depot_model.Revisions.{Revision, revision}
use Rattle.depot_rows.specs.depot_model.Step.{Step, nothing, tells, does, refuses, unless, refuse_if}
use Rattle.depot_rows.specs.depot_model.Steps.Adding.{spelled, files_to_add, opening, add_file, add}
use Rattle.depot_rows.specs.depot_model.Steps.Editing.{had_type, new_type, next_opening, reopened, open_file, open_had, edit, delete}
use Rattle.depot_rows.specs.depot_model.Steps.Editing as editing
use Rattle.depot_rows.specs.depot_model.Steps.History.{print_row, print_chosen, print}
use Rattle.depot_rows.specs.depot_model.Steps.Jobs.{jobs, job_row, fixes, is_wanted, fix_row}
use Rattle.depot_rows.specs.depot_model.Steps.Labels.{labels}
use Rattle.depot_rows.specs.depot_model.Steps.Labels as label_steps
use Rattle.depot_rows.specs.depot_model.Steps.Listing.{Numbered, numbered, chosen_revision, listed, tells_revision, tells_file, files}
use Rattle.depot_rows.specs.depot_model.Steps.Opening.{exclusive_refusal, right_refusal, opening_row}
use Rattle.depot_facts.specs.Contents.{seen}
use Rattle.depots_alike.proofs.Choosing.{view_same, chosen_same, shown_same, named_same, is_live_head_same}
use Rattle.depots_alike.proofs.Names.{spec_names_same}
use Rattle.depots_alike.proofs.Paths.{submitted_same, had_same}
use Rattle.depots_alike.proofs.Revisions.{revision_same}
use Rattle.depots_alike.proofs.Searches.{have_same, opened_same, spec_same, head_same}
use Rattle.depots_alike.proofs.Simple.{over_same, named_change_same}
use Rattle.depots_alike.proofs.Asked.{right_same, exclusive_same, first_live_same}
use Rattle.depots_alike.proofs.Twins.{Twins}
use Rattle.depots_alike.proofs.Alike.{alike_of}

-- a numbered revision without what rows don't tell
abbrev pub seen_number : Numbered → Numbered
seen_number r = record { number = r.number; made = seen r.made }

abbrev number_of : ℕ → Option Revision → Option Numbered
number_of n o = elim o [ None ↦ None | Some r ↦ Some (record { number = n; made = r }) ]

number_seen : (n : ℕ) (o : Option Revision) → option_map seen_number (number_of n o) ≡ number_of n (option_map seen o)
number_seen n None = refl
number_seen n (Some r) = refl

still_some : (o : Option Numbered) → is_some (option_map seen_number o) ≡ is_some o
still_some None = refl
still_some (Some r) = refl

tells_seen : (live : Bool) (path : List ℕ) (o : Option Numbered)
    → (elim (option_map seen_number o) as (λ _. Step) [ None ↦ nothing | Some r ↦ tells_revision live path r ])
    ≡ (elim o as (λ _. Step) [ None ↦ nothing | Some r ↦ tells_revision live path r ])
tells_seen live path None = refl
tells_seen live path (Some r) = refl

print_seen : (path : List ℕ) (o : Option Numbered)
    → (elim (option_map seen_number o) as (λ _. Step) [ None ↦ nothing | Some r ↦ tells (print_row path r ∷ []) ])
    ≡ (elim o as (λ _. Step) [ None ↦ nothing | Some r ↦ tells (print_row path r ∷ []) ])
print_seen path None = refl
print_seen path (Some r) = refl

pub type_seen : (o : Option Revision) → (elim (option_map seen o) as (λ _. List ℕ) [ None ↦ codes "text" | Some r ↦ r.entry.file_type ])
    ≡ (elim o as (λ _. List ℕ) [ None ↦ codes "text" | Some r ↦ r.entry.file_type ])
type_seen None = refl
type_seen (Some r) = refl

abbrev type_of : Option Revision → List ℕ
type_of o = elim o [ None ↦ codes "text" | Some r ↦ r.entry.file_type ]

module _ (d e : List Deed) (twins : Twins d e) where
  -- ---- lists of forms

  pub labels_same : labels d ≡ labels e
  labels_same = λ i. tells (filter_map (λ name. option_map (label_steps.listed name) (spec_same d e twins LabelForm name i)) (spec_names_same d e twins LabelForm i))

  pub jobs_same : jobs d ≡ jobs e
  jobs_same = λ i. tells (map job_row (filter_map (λ name. spec_same d e twins JobForm name i) (spec_names_same d e twins JobForm i)))

  pub last_job_same : last_job d ≡ last_job e
  last_job_same = λ i. fold max 0 (map job_number (spec_names_same d e twins JobForm i))

  pub fixes_on_same : fixes_on d ≡ fixes_on e
  fixes_on_same = λ i. filter is_on (filter_map (λ name. spec_same d e twins FixForm name i) (spec_names_same d e twins FixForm i))

  pub fixes_same : (n : Option ℕ) (name : Option (List ℕ)) → fixes d n name ≡ fixes e n name
  fixes_same n name = ap (λ forms. tells (map fix_row (filter (is_wanted n name) forms))) fixes_on_same

  pub is_fixing_same : (n : ℕ) → is_fixing d n ≡ is_fixing e n
  is_fixing_same n = ap (λ forms. nat_lt 0 (length (filter (is_of_change n) forms))) fixes_on_same

module _ (d e : List Deed) (twins : Twins d e) (caller : Caller) where
  -- ---- chosen revisions

  numbered_same : (path : List ℕ) (choice : Choice) → option_map seen_number (numbered d path choice) ≡ option_map seen_number (numbered e path choice)
  numbered_same path PassedOver = refl
  numbered_same path (At n) = number_seen n (revision d path n) ∙ ap (number_of n) (revision_same d e twins path n) ∙ sym (number_seen n (revision e path n))

  pub chosen_revision_same : (a : FileArgument) (path : List ℕ) → option_map seen_number (chosen_revision d caller a path)
      ≡ option_map seen_number (chosen_revision e caller a path)
  chosen_revision_same a path =
      ap (λ choice. option_map seen_number (numbered d path choice)) (chosen_same d e (alike_of d e twins) caller path a.spec.wanted)
      ∙ numbered_same path (chosen e caller path a.spec.wanted)

  pub named_submitted : (a : FileArgument) → named false d caller (submitted d) a ≡ named false e caller (submitted e) a
  named_submitted = named_same d e (alike_of d e twins) caller false (submitted d) (submitted e) (submitted_same d e twins)

  pub listed_same : (a : FileArgument) → listed d caller a ≡ listed e caller a
  listed_same a = λ i. filter (λ path. there path i) (named_submitted a i)
    where
      there : (path : List ℕ) → is_some (chosen_revision d caller a path) ≡ is_some (chosen_revision e caller a path)
      there path = sym (still_some (chosen_revision d caller a path)) ∙ ap is_some (chosen_revision_same a path) ∙ still_some (chosen_revision e caller a path)

  pub files_same : (live : Bool) (arguments : List FileArgument) → files d caller live arguments ≡ files e caller live arguments
  files_same live arguments = over_same (listed d caller) (listed e caller) no_file (tells_file live d caller) (tells_file live e caller) listed_same
      (λ a path. sym (tells_seen live path (chosen_revision d caller a path))
      ∙ ap (λ (o : Option Numbered). elim o as (λ _. Step) [ None ↦ nothing | Some r ↦ tells_revision live path r ]) (chosen_revision_same a path)
      ∙ tells_seen live path (chosen_revision e caller a path)) [] arguments

  print_chosen_same : (a : FileArgument) (path : List ℕ) → print_chosen d caller a path ≡ print_chosen e caller a path
  print_chosen_same a path = sym (print_seen path (chosen_revision d caller a path))
      ∙ ap (λ (o : Option Numbered). elim o as (λ _. Step) [ None ↦ nothing | Some r ↦ tells (print_row path r ∷ []) ]) (chosen_revision_same a path)
      ∙ print_seen path (chosen_revision e caller a path)

  pub print_same : (arguments : List FileArgument) → print d caller arguments ≡ print e caller arguments
  print_same arguments = over_same (listed d caller) (listed e caller) no_file
      (λ argument path. unless (right_refusal to_read d caller path ∷ []) (print_chosen d caller argument path))
      (λ argument path. unless (right_refusal to_read e caller path ∷ []) (print_chosen e caller argument path)) listed_same
      (λ a path i. unless (right_same d e (alike_of d e twins) caller to_read path i ∷ []) (print_chosen_same a path i)) [] arguments

  -- ---- edit and delete

  had_type_same : (path : List ℕ) → had_type d caller path ≡ had_type e caller path
  had_type_same path = ap (λ n. type_of (revision d path n)) (have_same d e twins caller.client path)
      ∙ sym (type_seen (revision d path (have e caller.client path)))
      ∙ ap type_of (revision_same d e twins path (have e caller.client path))
      ∙ type_seen (revision e path (have e caller.client path))

  new_type_same : (type : Option (List ℕ)) (path : List ℕ) → new_type d caller type path ≡ new_type e caller type path
  new_type_same type path = λ i. elim (opened_same d e twins caller.client path i) as (λ _. List ℕ) [ Some o ↦ o.file_type | None ↦ unwrap_or type (had_type_same path i) ]

  opening_same : (action : Action) (change : Option ℕ) (type path : List ℕ) → editing.opening d caller action change type path
      ≡ editing.opening e caller action change type path
  opening_same action change type path = λ i. record {
    client = caller.client;
    path = path;
    base = have_same d e twins caller.client path i;
    action = action;
    file_type = type;
    change = unwrap_or change 0;
    source = None;
    moved = None;
  }

  next_same : (action : Action) (change : Option ℕ) (type path : List ℕ) → next_opening d caller action change type path ≡ next_opening e caller action change type path
  next_same action change type path = λ i. elim (opened_same d e twins caller.client path i) as (λ _. Option Opening) [
    | None ↦ Some (opening_same action change type path i)
    | Some o ↦ reopened action o
  ]

  open_file_same : (action : Action) (change : Option ℕ) (type : Option (List ℕ)) (path : List ℕ) → open_file d caller action change type path
      ≡ open_file e caller action change type path
  open_file_same action change type path =
      let next = ap (λ t. next_opening d caller action change t path) (new_type_same type path) ∙ next_same action change (new_type e caller type path) path in
      let barred = ap (exclusive_refusal d path caller.client) (new_type_same type path)
      ∙ exclusive_same d e (alike_of d e twins) path caller.client (new_type e caller type path) in
      λ i. unless (
      right_same d e (alike_of d e twins) caller to_open path i
      ∷ refuse_if (is_none (shown_same d e (alike_of d e twins) caller Head path i)) (NotInView (printed path))
      ∷ barred i
      ∷ [])
      (elim (next i) as (λ _. Step) [
        | None ↦ refuses (AlreadyOpen path)
        | Some o ↦ does (Open o ∷ []) (opening_row o (shown_same d e (alike_of d e twins) caller Head path i))
      ])

  open_had_same : (action : Action) (change : Option ℕ) (type : Option (List ℕ)) (arguments : List FileArgument)
      → open_had action d caller change type arguments ≡ open_had action e caller change type arguments
  open_had_same action change type arguments =
      let each = over_same (named false d caller (had d caller.client)) (named false e caller (had e caller.client)) no_file
      (λ _. open_file d caller action change type) (λ _. open_file e caller action change type)
      (named_same d e (alike_of d e twins) caller false (had d caller.client) (had e caller.client) (had_same d e twins caller.client))
      (λ a path. open_file_same action change type path) [] arguments in
      λ i. unless (named_change_same d e twins caller change i ∷ []) (within_files (each i))

  pub edit_same : (change : Option ℕ) (type : Option (List ℕ)) (arguments : List FileArgument) → edit d caller change type arguments ≡ edit e caller change type arguments
  edit_same change type arguments = open_had_same Edit change type arguments

  pub delete_same : (change : Option ℕ) (arguments : List FileArgument) → delete d caller change arguments ≡ delete e caller change arguments
  delete_same change arguments = open_had_same Delete change None arguments

  -- ---- add

  files_to_add_same : (a : FileArgument) → files_to_add d caller a ≡ files_to_add e caller a
  files_to_add_same a =
      let first = first_live_same d e (alike_of d e twins) (files_at (view d caller.client) (spelled a)) (files_at (view e caller.client) (spelled a))
      (λ i. files_at (view_same d e (alike_of d e twins) caller.client i) (spelled a)) in
      λ i. elim (if in_client_syntax caller.client a.spec.pattern then first i else Some (spelled a)) as (λ _. List (List ℕ)) [ None ↦ [] | Some file ↦ file ∷ [] ]

  add_opening_same : (change : Option ℕ) (type path : List ℕ) → opening d caller change type path ≡ opening e caller change type path
  add_opening_same change type path = λ i. record {
    client = caller.client;
    path = path;
    base = head_same d e twins path i;
    action = Add;
    file_type = type;
    change = unwrap_or change 0;
    source = None;
    moved = None;
  }

  add_file_same : (change : Option ℕ) (type path : List ℕ) → add_file d caller change type path ≡ add_file e caller change type path
  add_file_same change type path = λ i. unless (
      right_same d e (alike_of d e twins) caller to_open path i
      ∷ refuse_if (is_none (shown_same d e (alike_of d e twins) caller Head path i)) (NotInView (printed path))
      ∷ refuse_if (is_some (opened_same d e twins caller.client path i)) (AlreadyOpen path)
      ∷ refuse_if (is_live_head_same d e (alike_of d e twins) path i) (Exists path)
      ∷ exclusive_same d e (alike_of d e twins) path caller.client type i
      ∷ [])
      (does (Open (add_opening_same change type path i) ∷ []) (opening_row (add_opening_same change type path i) (shown_same d e (alike_of d e twins) caller Head path i)))

  pub add_same : (change : Option ℕ) (type : Option (List ℕ)) (arguments : List FileArgument) → add d caller change type arguments ≡ add e caller change type arguments
  add_same change type arguments =
      let each = over_same (files_to_add d caller) (files_to_add e caller) (λ argument. refuses (NotInView (printed (spelled argument))))
      (λ _. add_file d caller change (unwrap_or type (codes "text"))) (λ _. add_file e caller change (unwrap_or type (codes "text")))
      files_to_add_same (λ a path. add_file_same change (unwrap_or type (codes "text")) path) [] arguments in
      λ i. unless (named_change_same d e twins caller change i ∷ []) (within_files (each i))
