-- Commands of sound depots with the same rows and contents: what they do and tell.
use Rattle.std.proofs.Common.{◌≡◌, ℕ, ◌+◌, Bool, true, false, not, List, [], ◌∷◌, ◌++◌, Option, Some, None, Ok, Err, refl, ap, ◌∙◌}
use Rattle.std.specs.Prelude.{◌&&◌, ◌==◌, nat_le, codes, if◌then◌else◌, filter, flat_map, is_some, option_and_then, unwrap_or}
use Rattle.depot_rows.specs.depot_path.Name.{is_name}
use Rattle.depot_rows.specs.spec_form.Form.{FormValue}
use Rattle.depot_rows.specs.spec_form.Reading.{form_of}
use Rattle.depot_rows.specs.spec_form.declared.shape.Shape.TheVariants.{Label}
use Rattle.depot_rows.specs.view_map.Mapping.{path_in, files_at}
use Rattle.depot_rows.specs.depot_model.declared.command.FileArgument.{FileArgument}
use Rattle.depot_rows.specs.depot_model.declared.refusal.Refusal.{Refusal}
use Rattle.depot_rows.specs.depot_model.declared.refusal.Refusal.TheVariants.{NotInView, NoSuchChange, NotYours, OverLimit, NoSuchJob, BadForm, LabelLocked}
use Rattle.depot_rows.specs.depot_model.declared.refusal.Limit.TheVariants.{Generation}
use Rattle.depot_rows.specs.depot_model.declared.request.Caller.{Caller}
use Rattle.depot_rows.specs.depot_model.Arguments.{over, over_all, named, had, opened_by, no_file, in_client_syntax, is_in, within_files}
use Rattle.depot_rows.specs.depot_model.Asking.{to_open, to_write}
use Rattle.depot_rows.specs.depot_model.Deeds.{Deed, Spec, Count, Opening, Pending, Hold, Free, Open, Shut, ClientForm, LabelForm, JobForm}
use Rattle.depot_rows.specs.depot_model.FormRows.{form_fields}
use Rattle.depot_rows.specs.depot_model.Opened.{partner, named_back, is_moved_with}
use Rattle.depot_rows.specs.depot_model.Latest.{when}
use Rattle.depot_rows.specs.depot_model.Rows.{row, path_field, number_field, text_field, if_any}
use Rattle.depot_rows.specs.depot_model.Sorted.{all_inserted}
use Rattle.depot_rows.specs.depot_model.Step.{Step, nothing, tells, does, refuses, unless, refuse_if, all_of, both}
use Rattle.depot_rows.specs.depot_model.Steps.Adding.{spelled}
use Rattle.depot_rows.specs.depot_model.Steps.Checkpoint.{checkpoint}
use Rattle.depot_rows.specs.depot_model.Steps.Clients.{client_show, client_row}
use Rattle.depot_rows.specs.depot_model.Steps.Counters.{counter_show, counter_row}
use Rattle.depot_rows.specs.depot_model.Steps.Jobs.{job_show}
use Rattle.depot_rows.specs.depot_model.Steps.Labels.{label_show, label_row, label_save, is_locked, is_locked_form}
use Rattle.depot_rows.specs.depot_model.Steps.Listing.{files}
use Rattle.depot_rows.specs.depot_model.Steps.Opening.{held, is_of, change_refusal, named_change_refusal, reopened_change_refusal}
use Rattle.depot_rows.specs.depot_model.Steps.Placing.{told, tell_place, where_is, have_row, have_step, place_row}
use Rattle.depot_rows.specs.depot_model.Steps.Reverting.{is_selected, selected, not_open, have_field, shut, other_end, both_ends, revert_file, revert_files, revert_named, revert_over, revert, moved, reopen_row, reopen_opening, reopen_file, reopen, is_held_by, lock_refusal, lock_file, lock, unlock_file, unlock}
use Rattle.depot_rows.specs.depot_model.Values.{value_of}
use Rattle.depots_alike.proofs.Choosing.{view_same, may_same, may_list_same, named_same}
use Rattle.depots_alike.proofs.Paths.{had_same, opened_by_same}
use Rattle.depots_alike.proofs.Searches.{have_same, opened_same, holder_same, spec_same, counter_same, journal_same, pending_same}
use Rattle.depots_alike.proofs.Twins.{Twins}
use Rattle.depots_alike.proofs.Alike.{alike_of}
use Rattle.depots_alike.proofs.Asked.{right_same}

-- ---- arguments

pub over_same : (files others : FileArgument → List (List ℕ)) (missing : FileArgument → Step) (act acts : FileArgument → List ℕ → Step)
    → ((a : FileArgument) → files a ≡ others a)
    → ((a : FileArgument) (path : List ℕ) → act a path ≡ acts a path) → (taken : List (List ℕ)) (arguments : List FileArgument)
    → over files missing act taken arguments ≡ over others missing acts taken arguments
over_same files others missing act acts one step taken arguments = λ i. over (λ a. one a i) missing (λ a path. step a path i) taken arguments

pub over_all_same : (files others : FileArgument → List (List ℕ)) (missing : FileArgument → Step) (act acts : FileArgument → List ℕ → Step)
    → ((a : FileArgument) → files a ≡ others a)
    → ((a : FileArgument) (path : List ℕ) → act a path ≡ acts a path) → (arguments : List FileArgument)
    → over_all files missing act arguments ≡ over_all others missing acts arguments
over_all_same files others missing act acts one step arguments = λ i. over_all (λ a. one a i) missing (λ a path. step a path i) arguments

module _ (d e : List Deed) (twins : Twins d e) where
  -- ---- counters, forms

  pub counter_show_same : (name : List ℕ) → counter_show d name ≡ counter_show e name
  counter_show_same name = ap (λ (value : Option ℕ). tells (counter_row name (unwrap_or value 0) ∷ [])) (counter_same d e twins name)

  pub client_show_same : (name : List ℕ) → client_show d name ≡ client_show e name
  client_show_same name = ap (λ form. tells (client_row name form ∷ [])) (spec_same d e twins ClientForm name)

  pub label_show_same : (name : List ℕ) → label_show d name ≡ label_show e name
  label_show_same name = ap (λ form. tells (label_row name form ∷ [])) (spec_same d e twins LabelForm name)

  pub is_locked_same : (name : List ℕ) → is_locked d name ≡ is_locked e name
  is_locked_same name = ap (λ (form : Option FormValue). elim form as (λ _. Bool) [ None ↦ false | Some form ↦ is_locked_form form ]) (spec_same d e twins LabelForm name)

  pub label_save_same : (input : List ℕ) → label_save d input ≡ label_save e input
  label_save_same input = λ i. elim (form_of Label input) as (λ _. Step) [
    | Err fault ↦ refuses (BadForm fault.line)
    | Ok form ↦ unless (refuse_if (not (is_name (value_of form (codes "Label")))) (BadForm 0)
        ∷ refuse_if (is_locked_same (value_of form (codes "Label")) i && is_locked_form form) (LabelLocked (value_of form (codes "Label"))) ∷ [])
        (does (Spec LabelForm (value_of form (codes "Label")) form ∷ []) (row (text_field (codes "Label") (value_of form (codes "Label")) ∷ text_field
        (codes "action") (codes "saved") ∷ [])))
  ]

  pub job_show_same : (caller : Caller) (name : Option (List ℕ)) → job_show d caller name ≡ job_show e caller name
  job_show_same caller None = refl
  job_show_same caller (Some name) = ap (λ (form : Option FormValue). elim form as
      (λ _. Step) [ None ↦ refuses (NoSuchJob name) | Some form ↦ tells (row (form_fields form) ∷ []) ])
      (spec_same d e twins JobForm name)

  pub checkpoint_same : checkpoint d ≡ checkpoint e
  checkpoint_same = ap (λ (value : Option ℕ). let n = unwrap_or value 0 in unless (refuse_if (nat_le 4095 n) (OverLimit Generation) ∷ [])
      (does (Count (codes "journal") (Some (n + 1)) ∷ []) (row (number_field (codes "journal") (n + 1) ∷ [])))) (journal_same d e twins)

  -- ---- refusals

  pub change_refusal_same : (caller : Caller) (n : ℕ) → change_refusal d caller n ≡ change_refusal e caller n
  change_refusal_same caller n = ap (λ (p : Option Pending). elim p as (λ _. Option Refusal) [
    | None ↦ Some (NoSuchChange n)
    | Some p ↦ refuse_if
        (not (is_of caller p)) (NotYours n)
  ])
      (pending_same d e twins n)

  pub named_change_same : (caller : Caller) (change : Option ℕ) → named_change_refusal d caller change ≡ named_change_refusal e caller change
  named_change_same caller None = refl
  named_change_same caller (Some n) = change_refusal_same caller n

  pub reopened_change_same : (caller : Caller) (change : Option ℕ) → reopened_change_refusal d caller change ≡ reopened_change_refusal e caller change
  reopened_change_same caller change = ap (λ refusal. if unwrap_or change 0 == 0 then None else refusal) (change_refusal_same caller (unwrap_or change 0))

module _ (d e : List Deed) (twins : Twins d e) (caller : Caller) where
  -- ---- where, have

  told_same : (a : FileArgument) → told d caller a ≡ told e caller a
  told_same a = λ i. filter (λ path. may_list_same d e (alike_of d e twins) caller path i && is_some (path_in (view_same d e (alike_of d e twins) caller.client i) path))
      (if in_client_syntax caller.client a.spec.pattern then all_inserted (files_at (view_same d e (alike_of d e twins) caller.client i) (spelled a)) [] else spelled a ∷ [])

  tell_place_same : (path : List ℕ) → tell_place d caller path ≡ tell_place e caller path
  tell_place_same path = ap (λ view. elim (path_in view path) as (λ _. Step) [ None ↦ nothing | Some place ↦ tells (place_row path place ∷ []) ])
      (view_same d e (alike_of d e twins) caller.client)

  pub where_same : (paths : List FileArgument) → where_is d caller paths ≡ where_is e caller paths
  where_same paths = over_same (told d caller) (told e caller) (λ argument. refuses (NotInView argument.text)) (λ _. tell_place d caller) (λ _. tell_place e caller)
      told_same (λ a path. tell_place_same path) [] paths

  have_row_same : (path : List ℕ) → have_row d caller path ≡ have_row e caller path
  have_row_same path = λ i. row (path_field (codes "depotFile") path ∷ if_any (path_field (codes "clientFile"))
      (path_in (view_same d e (alike_of d e twins) caller.client i) path)
      ++ number_field (codes "haveRev") (have_same d e twins caller.client path i) ∷ [])

  pub have_step_same : (arguments : List FileArgument) → have_step d caller arguments ≡ have_step e caller arguments
  have_step_same arguments = over_all_same (named true d caller (had d caller.client)) (named true e caller (had e caller.client)) no_file
      (λ _ path. tells (have_row d caller path ∷ [])) (λ _ path. tells (have_row e caller path ∷ []))
      (named_same d e (alike_of d e twins) caller true (had d caller.client) (had e caller.client) (had_same d e twins caller.client))
      (λ a path. ap (λ r. tells (r ∷ [])) (have_row_same path)) arguments

  -- ---- opened files: lock, unlock, reopen, revert

  selected_same : (change : Option ℕ) (a : FileArgument) → selected d caller change a ≡ selected e caller change a
  selected_same change a = λ i. filter (λ path. is_selected change (opened_same d e twins caller.client path i))
      (named_same d e (alike_of d e twins) caller true (opened_by d caller.client) (opened_by e caller.client) (opened_by_same d e twins caller.client) a i)

  lock_file_same : (path : List ℕ) → lock_file d caller path ≡ lock_file e caller path
  lock_file_same path = λ i. unless (right_same d e (alike_of d e twins) caller to_write path i ∷ lock_refusal caller path (holder_same d e twins path i) ∷ [])
      (does (Hold (held caller path) ∷ []) (row (path_field (codes "depotFile") path ∷ text_field (codes "action") (codes "locked") ∷ [])))

  pub lock_same : (change : Option ℕ) (arguments : List FileArgument) → lock d caller change arguments ≡ lock e caller change arguments
  lock_same change arguments = ap within_files (over_same (selected d caller change) (selected e caller change) not_open (λ _. lock_file d caller) (λ _. lock_file e caller)
      (selected_same change) (λ a path. lock_file_same path) [] arguments)

  unlock_file_same : (path : List ℕ) → unlock_file d caller path ≡ unlock_file e caller path
  unlock_file_same path = λ i. unless (right_same d e (alike_of d e twins) caller to_write path i ∷ [])
      (if is_held_by caller (holder_same d e twins path i)
      then does (Free (held caller path) ∷ []) (row (path_field (codes "depotFile") path ∷ text_field (codes "action") (codes "unlocked") ∷ []))
      else nothing)

  pub unlock_same : (change : Option ℕ) (arguments : List FileArgument) → unlock d caller change arguments ≡ unlock e caller change arguments
  unlock_same change arguments = ap within_files (over_same (selected d caller change) (selected e caller change) not_open (λ _. unlock_file d caller) (λ _. unlock_file e caller)
      (selected_same change) (λ a path. unlock_file_same path) [] arguments)

  reopen_opening_same : (o : Opening) → reopen_opening d caller o ≡ reopen_opening e caller o
  reopen_opening_same o = ap (λ refusal. unless (refusal ∷ []) (does (Open o ∷ []) (reopen_row o))) (right_same d e (alike_of d e twins) caller to_open o.path)

  reopen_file_same : (change : Option ℕ) (type : Option (List ℕ)) (path : List ℕ) → reopen_file d caller change type path ≡ reopen_file e caller change type path
  reopen_file_same change type path = λ i. elim (opened_same d e twins caller.client path i) as (λ _. Step) [
    | None ↦ nothing
    | Some o ↦ reopen_opening_same (moved change type o) i
  ]

  pub reopen_same : (change : Option ℕ) (type : Option (List ℕ)) (arguments : List FileArgument) → reopen d caller change type arguments
      ≡ reopen e caller change type arguments
  reopen_same change type arguments =
      let each = over_same (selected d caller None) (selected e caller None) not_open (λ _. reopen_file d caller change type) (λ _. reopen_file e caller change type)
      (selected_same None) (λ a path. reopen_file_same change type path) [] arguments in
      λ i. unless (reopened_change_same d e twins caller change i ∷ []) (within_files (each i))

  shut_same : (path : List ℕ) → shut d caller path ≡ shut e caller path
  shut_same path = ap (λ n. does (Shut (held caller path) ∷ []) (row (path_field (codes "depotFile") path ∷ have_field n ++ text_field (codes "action") (codes "reverted") ∷ [])))
      (have_same d e twins caller.client path)

  named_back_same : (client path other : List ℕ) → named_back d client path other ≡ named_back e client path other
  named_back_same client path other = ap (λ (o : Option Opening). elim o as (λ _. Option Opening) [ None ↦ None | Some o ↦ when (is_moved_with path o) o ])
      (opened_same d e twins client other)

  pub partner_same : (o : Opening) → partner d o ≡ partner e o
  partner_same o = λ i. option_and_then (λ other. named_back_same o.client o.path other i) o.moved

  other_end_same : (path : List ℕ) → other_end d caller path ≡ other_end e caller path
  other_end_same path = λ i. elim (option_and_then (λ o. partner_same o i) (opened_same d e twins caller.client path i)) as
      (λ _. List (List ℕ)) [ None ↦ [] | Some o ↦ o.path ∷ [] ]

  both_ends_same : (path : List ℕ) → both_ends d caller path ≡ both_ends e caller path
  both_ends_same path = λ i. path ∷ (if may_same d e (alike_of d e twins) caller path to_open i then other_end_same path i else [])

  revert_file_same : (path : List ℕ) → revert_file d caller path ≡ revert_file e caller path
  revert_file_same path = λ i. unless (right_same d e (alike_of d e twins) caller to_open path i ∷ []) (all_of (λ p. shut_same p i) (both_ends_same path i))

  revert_files_same : (taken others : List (List ℕ)) → taken ≡ others → (paths : List (List ℕ)) → revert_files d caller taken paths ≡ revert_files e caller others paths
  revert_files_same taken others one [] = refl
  revert_files_same taken others one (path ∷ paths) =
      let rest = revert_files_same (both_ends d caller path ++ taken) (both_ends e caller path ++ others) (λ i. both_ends_same path i ++ one i) paths in
      λ i. both (if is_in (one i) path then nothing else revert_file_same path i) (rest i)

  revert_named_same : (taken others : List (List ℕ)) → taken ≡ others → (a : FileArgument) (paths : List (List ℕ)) → revert_named d caller taken a paths
      ≡ revert_named e caller others a paths
  revert_named_same taken others one a [] = refl
  revert_named_same taken others one a (path ∷ paths) = revert_files_same taken others one (path ∷ paths)

  revert_over_same : (change : Option ℕ) (taken others : List (List ℕ)) → taken ≡ others → (arguments : List FileArgument)
      → revert_over d caller change taken arguments ≡ revert_over e caller change others arguments
  revert_over_same change taken others one [] = refl
  revert_over_same change taken others one (a ∷ arguments) =
      let first = ap (revert_named d caller taken a) (selected_same change a) ∙ revert_named_same taken others one a (selected e caller change a) in
      let rest = revert_over_same change (flat_map (both_ends d caller) (selected d caller change a) ++ taken)
      (flat_map (both_ends e caller) (selected e caller change a) ++ others)
      (λ i. flat_map (λ p. both_ends_same p i) (selected_same change a i) ++ one i) arguments in
      λ i. both (first i) (rest i)

  pub revert_same : (change : Option ℕ) (arguments : List FileArgument) → revert d caller change arguments ≡ revert e caller change arguments
  revert_same change arguments = ap within_files (revert_over_same change [] [] refl arguments)
