-- Commands on opened files, jobs, fixes and changes: opened, job -i, fix, fix -d, change, dirs, group -o.
use Rattle.std.proofs.Common.{◌≡◌, ℕ, ◌+◌, Bool, true, false, not, List, [], ◌∷◌, ◌++◌, length, map, Option, Some, None, Ok, Err, refl, sym, ap, ◌∙◌}
use Rattle.std.specs.Prelude.{◌&&◌, ◌||◌, ◌==◌, nat_le, nat_lt, codes, decimal, if◌then◌else◌, filter, filter_map, flat_map, is_some, is_none, option_map}
use Rattle.std.specs.List.{list_any, enumerate_from}
use Rattle.std.specs.Option.{option_map_or}
use Rattle.depot_rows.specs.depot_path.Bytes.{same}
use Rattle.depot_rows.specs.depot_path.Fit.{fits}
use Rattle.depot_rows.specs.depot_path.declared.piece.Piece.{Piece}
use Rattle.depot_rows.specs.depot_path.declared.revision.Wanted.TheVariants.{Head}
use Rattle.depot_rows.specs.db_records.declared.key.Key.TheVariants as keys
use Rattle.depot_rows.specs.db_records.declared.record.Record.TheVariants as records
use Rattle.depot_rows.specs.spec_form.Form.{FormValue}
use Rattle.depot_rows.specs.spec_form.Printing.{printed_form}
use Rattle.depot_rows.specs.spec_form.Places.{field_place}
use Rattle.depot_rows.specs.spec_form.Reading.{form_of}
use Rattle.depot_rows.specs.spec_form.declared.shape.Shape.TheVariants.{Job as JobShape}
use Rattle.depot_rows.specs.depot_model.declared.command.FileArgument.{FileArgument}
use Rattle.depot_rows.specs.depot_model.declared.refusal.Limit.TheVariants.{Text, Jobs, Fixes}
use Rattle.depot_rows.specs.depot_model.declared.refusal.Refusal.TheVariants.{BadForm, NoSuchChange, NoSuchJob, OverLimit, NotYours, NotDeletable}
use Rattle.depot_rows.specs.depot_model.declared.request.Caller.{Caller}
use Rattle.depot_rows.specs.depot_model.Arguments.{named, paths_of, open_paths, submitted, in_client_syntax}
use Rattle.depot_rows.specs.depot_model.Asking.{may_list}
use Rattle.depot_rows.specs.depot_model.Choice.{made_by}
use Rattle.depot_rows.specs.depot_model.Deeds.{Deed, Spec, Drop, Opening, Landing, JobForm, FixForm}
use Rattle.depot_rows.specs.depot_model.Fixes.{job, job_name, fix_name, fix_form, fixes_of, has_fix, is_on, closes, closed}
use Rattle.depot_rows.specs.depot_model.FormRows.{numbered}
use Rattle.depot_rows.specs.depot_model.Latest.{users}
use Rattle.depot_rows.specs.depot_model.Numbers.{landing}
use Rattle.depot_rows.specs.depot_model.Revisions.{Revision, revisions, is_live_head}
use Rattle.depot_rows.specs.depot_model.Rows.{row, path_field, number_field, text_field, action_word, change_word}
use Rattle.depot_rows.specs.depot_model.Shelves.{is_of_change}
use Rattle.depot_rows.specs.depot_model.Sorted.{all_inserted}
use Rattle.depot_rows.specs.depot_model.Step.{Step, nothing, tells, does, refuses, unless, refuse_if, all_of}
use Rattle.depot_rows.specs.depot_model.Steps.Changing.{files_of_change, landed_by, change_delete, listable, openings_in, show_landed, change_show, default_text}
use Rattle.depot_rows.specs.depot_model.Steps.Changing as changing
use Rattle.depot_rows.specs.depot_model.Steps.Groups.{by_name, group_show}
use Rattle.depot_rows.specs.depot_model.Steps.History.{seen_paths, dirs_of, dirs_after, dirs, directories, no_dir, dir_row}
use Rattle.depot_rows.specs.depot_model.Steps.Jobs.{is_new, is_status, saved, save_form, job_save, is_change, no_job, distinct, fixed_row, closes_where, fix_job, fix, unfix, unfix_job, fix_delete}
use Rattle.depot_rows.specs.depot_model.Steps.Opening.{is_of}
use Rattle.depot_rows.specs.depot_model.Steps.Reverting.{not_open, openers_shown, opened_row, opened_files, show_opened, opened_step}
use Rattle.depot_rows.specs.depot_model.Steps.Submitting.{openings_of}
use Rattle.depot_rows.specs.depot_model.Values.{value_of}
use Rattle.depot_facts.specs.Contents.{bare, seen}
use Rattle.depots_alike.proofs.Choosing.{may_list_same, shown_same, named_same, is_live_head_same}
use Rattle.depots_alike.proofs.Files.{fixes_on_same, last_job_same}
use Rattle.depots_alike.proofs.Lists.{has, one_path_list, some_paths_rise, has_filter, NamesRise, one_name_list, has_inserted, inserted_rises}
use Rattle.depots_alike.proofs.Names.{no_openers}
use Rattle.depots_alike.proofs.Asked.{openers_same}
use Rattle.depot_facts.proofs.PathsTold.{open_told}
use Rattle.depots_alike.proofs.Paths.{submitted_same, opened_by_same, only_test, paths_rise}
use Rattle.depots_alike.proofs.Revisions.{revisions_same}
use Rattle.depots_alike.proofs.Searches.{opened_same, holder_same, spec_same, pending_same, landing_same}
use Rattle.depots_alike.proofs.Simple.{over_all_same}
use Rattle.depots_alike.proofs.Twins.{Twins}
use Rattle.depots_alike.proofs.Alike.{alike_of}

still_landed : (o : Option Landing) → is_some (option_map bare o) ≡ is_some o
still_landed None = refl
still_landed (Some l) = refl

by_landed : (caller : Caller) (o : Option Landing) → option_map_or (landed_by caller) (option_map bare o) true ≡ option_map_or (landed_by caller) o true
by_landed caller None = refl
by_landed caller (Some l) = refl

shown_landed : (n : ℕ) (o : Option Landing)
    → (elim (option_map bare o) as (λ _. Step) [
      | None ↦ refuses (NoSuchChange n)
      | Some l ↦ tells
          (changing.change_row (decimal n) l.client l.user (codes "submitted") l.text [] ∷ [])
    ])
    ≡ (elim o as (λ _. Step) [ None ↦ refuses (NoSuchChange n) | Some l ↦ tells (changing.change_row (decimal n) l.client l.user (codes "submitted") l.text [] ∷ []) ])
shown_landed n None = refl
shown_landed n (Some l) = refl

made_seen : (n : ℕ) (rs : List Revision) → list_any (made_by n) (map seen rs) ≡ list_any (made_by n) rs
made_seen n [] = refl
made_seen n (r ∷ rs) = ap (λ b. made_by n r || b) (made_seen n rs)

-- ---- the users of a group

by_name_has : (xs : List (List ℕ)) (z : List ℕ) → has (by_name xs) z ≡ has xs z
by_name_has [] z = refl
by_name_has (x ∷ xs) z = has_inserted z x (by_name xs) ∙ ap (λ b. same z x || b) (by_name_has xs z)

by_name_rises : (xs : List (List ℕ)) → NamesRise (by_name xs)
by_name_rises [] = tt
by_name_rises (x ∷ xs) = inserted_rises x (by_name xs) (by_name_rises xs)

user_there : (group user : List ℕ) (b : Bool) → is_some (if b then Some (records.Group (record { group = group; user = user })) else None) ≡ b
user_there group user true = refl
user_there group user false = refl

module _ (d e : List Deed) (twins : Twins d e) where
  pub group_show_same : (name : List ℕ) → group_show d name ≡ group_show e name
  group_show_same name = ap (λ names. tells (row (text_field (codes "Group") name ∷ map (numbered (codes "Users")) (enumerate_from 0 names)) ∷ []))
      (one_name_list (by_name (users d name)) (by_name (users e name)) (by_name_rises (users d name)) (by_name_rises (users e name))
      (λ z. by_name_has (users d name) z ∙ sym (user_there name z (list_any (same z) (users d name))) ∙ ap is_some (twins.rows (keys.Group name z))
      ∙ user_there name z (list_any (same z) (users e name)) ∙ sym (by_name_has (users e name) z)))

  -- ---- changes by number

  is_landed_same : (n : ℕ) → is_some (landing d n) ≡ is_some (landing e n)
  is_landed_same n = sym (still_landed (landing d n)) ∙ ap is_some (landing_same d e twins n) ∙ still_landed (landing e n)

  none_landed_same : (n : ℕ) → is_none (landing d n) ≡ is_none (landing e n)
  none_landed_same n = none_is (landing d n) ∙ ap not (is_landed_same n) ∙ sym (none_is (landing e n))
    where
      none_is : (o : Option Landing) → is_none o ≡ not (is_some o)
      none_is None = refl
      none_is (Some l) = refl

  is_change_same : (n : ℕ) → is_change d n ≡ is_change e n
  is_change_same n = λ i. is_some (pending_same d e twins n i) || is_landed_same n i

  pub openings_same : (caller : Caller) (n : ℕ) → openings_of d caller n ≡ openings_of e caller n
  openings_same caller n = λ i. filter (λ (o : Opening). o.change == n)
      (filter_map (λ path. opened_same d e twins caller.client path i) (opened_by_same d e twins caller.client i))

  by_landed_same : (caller : Caller) (n : ℕ) → option_map_or (landed_by caller) (landing d n) true ≡ option_map_or (landed_by caller) (landing e n) true
  by_landed_same caller n = sym (by_landed caller (landing d n)) ∙ ap (λ (o : Option Landing). option_map_or (landed_by caller) o true) (landing_same d e twins n)
      ∙ by_landed caller (landing e n)

  pub change_delete_same : (caller : Caller) (n : ℕ) → change_delete d caller n ≡ change_delete e caller n
  change_delete_same caller n = λ i. unless (
      refuse_if (is_none (pending_same d e twins n i) && none_landed_same n i) (NoSuchChange n)
      ∷ refuse_if (not (option_map_or (is_of caller) (pending_same d e twins n i) true) || not (by_landed_same caller n i)) (NotYours n)
      ∷ refuse_if (is_landed_same n i || nat_lt 0 (length (openings_same caller n i))) (NotDeletable n)
      ∷ [])
      (does (Drop n ∷ []) (row (number_field (codes "Change") n ∷ text_field (codes "action") (codes "deleted") ∷ [])))

  show_landed_same : (n : ℕ) → show_landed d n ≡ show_landed e n
  show_landed_same n = sym (shown_landed n (landing d n))
      ∙ ap (λ (o : Option Landing). elim o as (λ _. Step) [
        | None ↦ refuses (NoSuchChange n)
        | Some l ↦ tells
            (changing.change_row (decimal n) l.client l.user (codes "submitted") l.text [] ∷ [])
      ])
      (landing_same d e twins n)
      ∙ shown_landed n (landing e n)

  -- ---- jobs and fixes

  job_same : (name : List ℕ) → job d name ≡ job e name
  job_same name = spec_same d e twins JobForm name

  save_form_same : (input : List ℕ) (form : FormValue) → save_form d input form ≡ save_form e input form
  save_form_same input form = λ i. unless (
      refuse_if (not (is_status (value_of form (codes "Status")))) (BadForm (field_place input (codes "Status")))
      ∷ refuse_if (not (is_new (value_of form (codes "Job"))) && is_none (job_same (value_of form (codes "Job")) i)) (NoSuchJob (value_of form (codes "Job")))
      ∷ refuse_if (nat_lt 65536 (length (printed_form form))) (OverLimit Text)
      ∷ refuse_if (is_new (value_of form (codes "Job")) && nat_le 999999 (last_job_same d e twins i)) (OverLimit Jobs)
      ∷ [])
      (saved (if is_new (value_of form (codes "Job")) then job_name (last_job_same d e twins i + 1) else value_of form (codes "Job")) form)

  pub job_save_same : (input : List ℕ) → job_save d input ≡ job_save e input
  job_save_same input = λ i. elim (form_of JobShape input) as (λ _. Step) [ Err fault ↦ refuses (BadForm fault.line) | Ok form ↦ save_form_same input form i ]

  has_fix_same : (n : ℕ) (name : List ℕ) → has_fix d n name ≡ has_fix e n name
  has_fix_same n name = ap (λ (o : Option FormValue). elim o as (λ _. Bool) [ None ↦ false | Some form ↦ is_on form ]) (spec_same d e twins FixForm (fix_name name n))

  pub fixes_of_same : (n : ℕ) → fixes_of d n ≡ fixes_of e n
  fixes_of_same n = ap (filter (is_of_change n)) (fixes_on_same d e twins)

  pub closes_same : (name : List ℕ) → closes d name ≡ closes e name
  closes_same name = ap (λ (o : Option FormValue). elim o as (λ _. List Deed) [ None ↦ [] | Some form ↦ Spec JobForm name (closed form) ∷ [] ]) (job_same name)

  closes_where_same : (b : Bool) (name : List ℕ) → closes_where d b name ≡ closes_where e b name
  closes_where_same true name = closes_same name
  closes_where_same false name = refl

  fix_job_same : (caller : Caller) (n : ℕ) (name : List ℕ) → fix_job d caller n name ≡ fix_job e caller n name
  fix_job_same caller n name =
      ap (λ deeds. does (Spec FixForm (fix_name name n) (fix_form name n caller.user (codes "on")) ∷ deeds) (fixed_row name n (codes "fixed")))
      (ap (λ b. closes_where d b name) (is_landed_same n) ∙ closes_where_same (is_some (landing e n)) name)

  no_job_same : (name : List ℕ) → no_job d name ≡ no_job e name
  no_job_same name = ap (λ (o : Option FormValue). refuse_if (is_none o) (NoSuchJob name)) (job_same name)

  pub fix_same : (caller : Caller) (n : ℕ) (names : List (List ℕ)) → fix d caller n names ≡ fix e caller n names
  fix_same caller n names = λ i. unless (
      refuse_if (not (is_change_same n i)) (NoSuchChange n)
      ∷ map (λ name. no_job_same name i) names
      ++ refuse_if (nat_lt 100 (length (fixes_of_same n i) + length (filter (λ name. not (has_fix_same n name i)) (distinct names)))) (OverLimit Fixes)
      ∷ [])
      (all_of (λ name. fix_job_same caller n name i) (distinct names))

  unfix_same : (n : ℕ) (name : List ℕ) → unfix_job d n name ≡ unfix_job e n name
  unfix_same n name = λ i. elim (spec_same d e twins FixForm (fix_name name n) i) as (λ _. Step) [
    | None ↦ nothing
    | Some form ↦ if has_fix_same n name i then unfix n name form else nothing
  ]

  pub fix_delete_same : (n : ℕ) (names : List (List ℕ)) → fix_delete d n names ≡ fix_delete e n names
  fix_delete_same n names = λ i. unless (refuse_if (not (is_change_same n i)) (NoSuchChange n) ∷ map (λ name. no_job_same name i) names)
      (all_of (λ name. unfix_same n name i) (distinct names))

  -- ---- who has which files opened

  openers_shown_same : (all : Bool) (caller : Caller) (path : List ℕ) → openers_shown all d caller path ≡ openers_shown all e caller path
  openers_shown_same all caller path = λ i. if all then openers_same d e (alike_of d e twins) path i else filter (same caller.client)
      (openers_same d e (alike_of d e twins) path i)

  no_shown : (x : List Deed) (all : Bool) (caller : Caller) (path : List ℕ) → has (paths_of open_paths x) path ≡ false
      → nat_lt 0 (length (openers_shown all x caller path)) ≡ false
  no_shown x true caller path f = ap (λ (xs : List (List ℕ)). nat_lt 0 (length xs)) (no_openers x path f)
  no_shown x false caller path f = ap (λ (xs : List (List ℕ)). nat_lt 0 (length (filter (same caller.client) xs))) (no_openers x path f)

  files_has : (x : List Deed) (all : Bool) (caller : Caller) (z : List ℕ) → has (opened_files all x caller) z ≡ nat_lt 0 (length (openers_shown all x caller z))
  files_has x all caller z = has_filter (λ path. nat_lt 0 (length (openers_shown all x caller path))) (paths_of open_paths x) z
      ∙ only_test (has (paths_of open_paths x) z) (nat_lt 0 (length (openers_shown all x caller z))) (no_shown x all caller z)

  opened_files_same : (all : Bool) (caller : Caller) → opened_files all d caller ≡ opened_files all e caller
  opened_files_same all caller = one_path_list (opened_files all d caller) (opened_files all e caller)
      (some_paths_rise (λ path. nat_lt 0 (length (openers_shown all d caller path))) (paths_of open_paths d) (paths_rise open_paths open_told d twins.left.paths))
      (some_paths_rise (λ path. nat_lt 0 (length (openers_shown all e caller path))) (paths_of open_paths e) (paths_rise open_paths open_told e twins.right.paths))
      (λ z. files_has d all caller z ∙ ap (λ (xs : List (List ℕ)). nat_lt 0 (length xs)) (openers_shown_same all caller z) ∙ sym (files_has e all caller z))

  opened_row_same : (o : Opening) → opened_row d o ≡ opened_row e o
  opened_row_same o = ap (λ (who : Option (List ℕ)). row (
      path_field (codes "depotFile") o.path ∷ number_field (codes "rev") o.base ∷ text_field (codes "action") (action_word o.action)
      ∷ text_field (codes "change") (change_word o.change) ∷ text_field (codes "type") o.file_type ∷ text_field (codes "client") o.client
      ∷ number_field (codes "lock") (elim who as (λ _. ℕ) [ None ↦ 0 | Some client ↦ if same client o.client then 1 else 0 ]) ∷ []))
      (holder_same d e twins o.path)

  show_opened_same : (all : Bool) (caller : Caller) (a : FileArgument) (path : List ℕ) → show_opened all d caller a path ≡ show_opened all e caller a path
  show_opened_same all caller a path = λ i. tells (map (λ o. opened_row_same o i)
      (filter_map (λ client. opened_same d e twins client path i) (openers_shown_same all caller path i)))

module _ (d e : List Deed) (twins : Twins d e) (caller : Caller) where
  pub opened_step_same : (all : Bool) (arguments : List FileArgument) → opened_step d caller all arguments ≡ opened_step e caller all arguments
  opened_step_same all arguments = over_all_same (named true d caller (opened_files all d caller)) (named true e caller (opened_files all e caller)) not_open
      (show_opened all d caller) (show_opened all e caller)
      (named_same d e (alike_of d e twins) caller true (opened_files all d caller) (opened_files all e caller) (opened_files_same d e twins all caller))
      (show_opened_same d e twins all caller) arguments

  -- ---- change -o

  listable_same : (openings others : List Opening) → openings ≡ others → listable d caller openings ≡ listable e caller others
  listable_same openings others one = λ i. filter (λ (o : Opening). may_list_same d e (alike_of d e twins) caller o.path i) (one i)

  pub change_show_same : (number : Option ℕ) → change_show d caller number ≡ change_show e caller number
  change_show_same None = λ i. tells (changing.change_row (codes "new") caller.client caller.user (codes "new") default_text
      (listable_same (openings_of d caller 0) (openings_of e caller 0) (openings_same d e twins caller 0) i) ∷ [])
  change_show_same (Some n) = λ i. elim (pending_same d e twins n i) as (λ _. Step) [
    | None ↦ show_landed_same d e twins n i
    | Some p ↦ tells (changing.change_row (decimal n) p.client p.user (codes "pending") p.text
        (listable_same (openings_in d p) (openings_in e p) (openings_same d e twins (record { user = p.user; client = p.client; host = [] }) p.change) i) ∷ [])
  ]

  -- ---- dirs

  seen_paths_same : (pattern : List Piece) → seen_paths d caller pattern ≡ seen_paths e caller pattern
  seen_paths_same pattern =
      live_paths live_same
    where
      live_same : filter (λ path. may_list d caller path && is_live_head d path) (submitted d)
          ≡ filter (λ path. may_list e caller path && is_live_head e path) (submitted e)
      live_same = λ i. filter (λ path. may_list_same d e (alike_of d e twins) caller path i && is_live_head_same d e (alike_of d e twins) path i)
          (submitted_same d e twins i)

      live_paths : filter (λ path. may_list d caller path && is_live_head d path) (submitted d)
          ≡ filter (λ path. may_list e caller path && is_live_head e path) (submitted e)
          → seen_paths d caller pattern ≡ seen_paths e caller pattern
      live_paths one = λ i. if in_client_syntax caller.client pattern then filter_map (λ path. shown_same d e (alike_of d e twins) caller Head path i) (one i) else one i

  dirs_of_same : (pattern : List Piece) → dirs_of d caller pattern ≡ dirs_of e caller pattern
  dirs_of_same pattern = ap (λ paths. filter (fits pattern) (all_inserted (flat_map directories paths) [])) (seen_paths_same pattern)

  dirs_after_same : (taken others : List (List ℕ)) → taken ≡ others → (arguments : List FileArgument) → dirs_after d caller taken arguments
      ≡ dirs_after e caller others arguments
  dirs_after_same taken others one [] = refl
  dirs_after_same taken others one (a ∷ arguments) =
      let rest = dirs_after_same (taken ++ dirs_of d caller a.spec.pattern) (others ++ dirs_of e caller a.spec.pattern) (λ i. one i ++ dirs_of_same a.spec.pattern i) arguments in
      λ i. no_dir a (dirs_of_same a.spec.pattern i) ++ map dir_row (filter (λ path. not (list_any (same path) (one i))) (dirs_of_same a.spec.pattern i)) ++ rest i

  pub dirs_same : (arguments : List FileArgument) → dirs d caller arguments ≡ dirs e caller arguments
  dirs_same arguments = ap tells (dirs_after_same [] [] refl arguments)

  pub files_of_change_same : (n : ℕ) → files_of_change d n ≡ files_of_change e n
  files_of_change_same n = λ i. filter (λ path. made path i) (submitted_same d e twins i)
    where
      made : (path : List ℕ) → list_any (made_by n) (revisions d path) ≡ list_any (made_by n) (revisions e path)
      made path = sym (made_seen n (revisions d path)) ∙ ap (list_any (made_by n)) (revisions_same d e twins path) ∙ made_seen n (revisions e path)
