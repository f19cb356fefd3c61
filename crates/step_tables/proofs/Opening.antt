-- The steps that open, lock, sync, move, integrate and resolve files stay in the tables of opened files, of what they owe and of have lists.
use Rattle.std.proofs.Common.{ℕ, Bool, true, false, List, [], ◌∷◌, ◌++◌, Option, Some, None, refl}
use Rattle.std.specs.Prelude.{◌&&◌, ◌==◌, not, flat_map, nat_lt, codes, is_none, unwrap_or, if◌then◌else◌}
use Rattle.std.specs.List.{last_or}
use Rattle.depot_model.specs.db_records.declared.table.TableId.TheVariants as ids
use Rattle.depot_model.specs.depot_path.Bytes.{same}
use Rattle.depot_model.specs.Arguments.{named, submitted, had, opened_by, no_file, is_in as is_taken}
use Rattle.depot_model.specs.Asking.{to_open, to_read, to_write}
use Rattle.depot_model.specs.Choice.{Choice, PassedOver, At, chosen}
use Rattle.depot_model.specs.Deeds.{Deed, Opening, Owing, Held, Open, Shut, Got, Action, Add, MoveAdd, MoveDelete}
use Rattle.depot_model.specs.Latest.{have}
use Rattle.depot_model.specs.Opened.{opened, holder, partner}
use Rattle.depot_model.specs.Revisions.{is_live_at, is_live_head}
use Rattle.depot_model.specs.Shelves.{kept, kept_paths, kept_opening, kept_block}
use Rattle.depot_model.specs.Step.{Step, nothing, refuses, after, both}
use Rattle.depot_model.specs.Steps.Adding.{add, add_file, files_to_add, spelled}
use Rattle.depot_model.specs.Steps.Editing.{open_had, open_file, next_opening, new_type}
use Rattle.depot_model.specs.Steps.Integrating.{integrate, integrate_all, integrate_file, integrate_chosen, integrate_to, integrate_revs, integrate_live, integrate_deleted, uncredited}
use Rattle.depot_model.specs.Steps.Moving.{move, move_all, move_file, move_opening, move_to, move_deeds, move_added, move_edited, move_again, renamed, movable_refusal}
use Rattle.depot_model.specs.Steps.Opening.{right_refusal, named_change_refusal, reopened_change_refusal, held}
use Rattle.depot_model.specs.Steps.Resolving.{resolve, resolve_file, resolve_next, resolve_opened, resolve_one, own_deeds, other_deeds, owings, held_of, source_at}
use Rattle.depot_model.specs.Steps.Reverting.{revert, revert_over, revert_named, revert_files, revert_file, both_ends, shut, selected, not_open, reopen, reopen_file, reopen_opening, moved, lock, lock_file, unlock, unlock_file, unlock_held, is_held_by}
use Rattle.depot_model.specs.Steps.Shelving.{unshelve, unshelve_file, unshelve_opening}
use Rattle.depot_model.specs.Steps.Syncing.{sync, sync_file, sync_to, sync_opened, sync_have, sync_word, wanted_rev, is_owed, shows_alone}
use Rattle.depot_model.specs.Steps.Targets.{target_at, target_text}
use Rattle.depot_model.specs.declared.command.FileArgument.{FileArgument}
use Rattle.depot_model.specs.declared.command.PatternArgument.{PatternArgument}
use Rattle.depot_model.specs.declared.command.Taking.{Taking}
use Rattle.depot_model.specs.declared.command.Taking.TheVariants.{Theirs, Yours}
use Rattle.depot_model.specs.declared.refusal.Refusal.TheVariants.{NotInView}
use Rattle.depot_model.specs.declared.request.Caller.{Caller}
use Rattle.depot_model.specs.depot_path.Path.{printed}
use Rattle.step_tables.proofs.Combining.{StayIn, Stays, only_tells, done, stays_both, stays_refused, stays_within, stays_if, stays_where, stays_all, stays_over, stays_over_all, stays_in_turn}

module _ (d : List Deed) (caller : Caller) where
  -- ---- files that are opened

  pub add_stays : (change : Option ℕ) (type : Option (List ℕ)) (arguments : List FileArgument) → Stays (ids.Working ∷ []) (add d caller change type arguments)
  add_stays change type arguments = stays_refused (named_change_refusal d caller change) _ _ (stays_within _
      (stays_over (files_to_add d caller) (λ a. add_file d caller change (unwrap_or type (codes "text")))
      (λ a path. stays_refused (right_refusal to_open d caller path) _ _ (done _ _ refl)) (λ a. refuses (NotInView (printed (spelled a)))) (λ a. only_tells _) [] arguments))

  module _ (action : Action) (change : Option ℕ) (type : Option (List ℕ)) where
    open_file_stays : (path : List ℕ) → Stays (ids.Working ∷ []) (open_file d caller action change type path)
    open_file_stays path = stays_refused (right_refusal to_open d caller path) _ _
        (stays_where _ (λ o. done _ _ refl) _ (only_tells _) (next_opening d caller action change (new_type d caller type path) path))

    pub open_had_stays : (arguments : List FileArgument) → Stays (ids.Working ∷ []) (open_had action d caller change type arguments)
    open_had_stays arguments = stays_refused (named_change_refusal d caller change) _ _ (stays_within _
        (stays_over (named false d caller (had d caller.client)) (λ a. open_file d caller action change type) (λ a path. open_file_stays path)
        no_file (λ a. only_tells _) [] arguments))

  module _ (change : Option ℕ) (type : Option (List ℕ)) where
    reopen_file_stays : (path : List ℕ) → Stays (ids.Working ∷ []) (reopen_file d caller change type path)
    reopen_file_stays path = stays_where (λ o. reopen_opening d caller (moved change type o))
        (λ o. stays_refused (right_refusal to_open d caller o.path) _ _ (done _ _ refl)) nothing (only_tells _) (opened d caller.client path)

    pub reopen_stays : (arguments : List FileArgument) → Stays (ids.Working ∷ []) (reopen d caller change type arguments)
    reopen_stays arguments = stays_refused (reopened_change_refusal d caller change) _ _ (stays_within _
        (stays_over (selected d caller None) (λ a. reopen_file d caller change type) (λ a path. reopen_file_stays path) not_open (λ a. only_tells _) [] arguments))

  module _ (n : ℕ) (change : Option ℕ) where
    unshelve_file_stays : (path : List ℕ) → Stays (ids.Working ∷ []) (unshelve_file d caller n (unwrap_or change 0) path)
    unshelve_file_stays path = stays_where (λ form. unshelve_opening d caller (kept_opening caller (unwrap_or change 0) path form) (kept_block form))
        (λ form. stays_refused (right_refusal to_open d caller path) _ _ (done _ _ refl)) nothing (only_tells _) (kept d n path)

    pub unshelve_stays : (arguments : List FileArgument) → Stays (ids.Working ∷ []) (unshelve d caller n change arguments)
    unshelve_stays arguments = stays_refused (named_change_refusal d caller change) _ _ (stays_within _
        (stays_over_all (named false d caller (kept_paths d n)) (λ a. unshelve_file d caller n (unwrap_or change 0)) (λ a path. unshelve_file_stays path)
        no_file (λ a. only_tells _) arguments))

  pub lock_stays : (change : Option ℕ) (arguments : List FileArgument) → Stays (ids.Working ∷ []) (lock d caller change arguments)
  lock_stays change arguments = stays_within _ (stays_over (selected d caller change) (λ a. lock_file d caller)
      (λ a path. stays_refused (right_refusal to_write d caller path) _ _ (done _ _ refl)) not_open (λ a. only_tells _) [] arguments)

  unlock_held_stays : (path : List ℕ) → Stays (ids.Working ∷ []) (unlock_held d caller path)
  unlock_held_stays path = stays_if (is_held_by caller (holder d path)) _ nothing (done _ _ refl) (only_tells _)

  pub unlock_stays : (change : Option ℕ) (arguments : List FileArgument) → Stays (ids.Working ∷ []) (unlock d caller change arguments)
  unlock_stays change arguments = stays_within _ (stays_over (selected d caller change) (λ a. unlock_file d caller)
      (λ a path. stays_refused (right_refusal to_write d caller path) _ _ (unlock_held_stays path)) not_open (λ a. only_tells _) [] arguments)

  -- ---- files that are reverted

  revert_file_stays : (path : List ℕ) → Stays (ids.Resolve ∷ ids.Working ∷ []) (revert_file d caller path)
  revert_file_stays path = stays_refused (right_refusal to_open d caller path) _ _ (stays_all (shut d caller) (λ p. done _ _ refl) (both_ends d caller path))

  revert_files_stay : (taken paths : List (List ℕ)) → Stays (ids.Resolve ∷ ids.Working ∷ []) (revert_files d caller taken paths)
  revert_files_stay taken [] = only_tells _
  revert_files_stay taken (path ∷ paths) =
      stays_both (if is_taken taken path then nothing else revert_file d caller path) (revert_files d caller (both_ends d caller path ++ taken) paths)
      (stays_if (is_taken taken path) nothing (revert_file d caller path) (only_tells _) (revert_file_stays path))
      (revert_files_stay (both_ends d caller path ++ taken) paths)

  revert_named_stays : (taken : List (List ℕ)) (a : FileArgument) (files : List (List ℕ)) → Stays (ids.Resolve ∷ ids.Working ∷ []) (revert_named d caller taken a files)
  revert_named_stays taken a [] = only_tells _
  revert_named_stays taken a (path ∷ paths) = revert_files_stay taken (path ∷ paths)

  revert_over_stays : (change : Option ℕ) (taken : List (List ℕ)) (arguments : List FileArgument) → Stays (ids.Resolve ∷ ids.Working ∷ []) (revert_over d caller change taken arguments)
  revert_over_stays change taken [] = only_tells _
  revert_over_stays change taken (a ∷ arguments) =
      let files = selected d caller change a in
      let later = flat_map (both_ends d caller) files ++ taken in
      stays_both (revert_named d caller taken a files) (revert_over d caller change later arguments) (revert_named_stays taken a files)
      (revert_over_stays change later arguments)

  pub revert_stays : (change : Option ℕ) (arguments : List FileArgument) → Stays (ids.Resolve ∷ ids.Working ∷ []) (revert d caller change arguments)
  revert_stays change arguments = stays_within (revert_over d caller change [] arguments) (revert_over_stays change [] arguments)

  -- ---- files that are synced

  sync_opened_stays : (o : Opening) (path : List ℕ) (n : ℕ) → Stays (ids.Have ∷ ids.Resolve ∷ []) (sync_opened d caller o path n)
  sync_opened_stays o path n = stays_if (nat_lt o.base n && not (is_owed d caller path n)) _ nothing (done _ _ refl) (only_tells _)

  changes_to_stay : (b : Bool) (wanted : ℕ) (file : Held) → StayIn (ids.Have ∷ ids.Resolve ∷ []) (if b then [] else Got file wanted ∷ [])
  changes_to_stay true wanted file = refl
  changes_to_stay false wanted file = refl

  sync_have_stays : (again : Bool) (path : List ℕ) (wanted : ℕ) → Stays (ids.Have ∷ ids.Resolve ∷ []) (sync_have again d caller path wanted)
  sync_have_stays again path wanted = stays_where _ (λ word. record { each = changes_to_stay (have d caller.client path == wanted) wanted (held caller path) })
      nothing (only_tells _) (sync_word again (have d caller.client path) wanted)

  sync_to_stays : (again : Bool) (a : FileArgument) (path : List ℕ) (choice : Choice) → Stays (ids.Have ∷ ids.Resolve ∷ []) (sync_to again d caller a path choice)
  sync_to_stays again a path PassedOver = only_tells _
  sync_to_stays again a path (At n) = stays_where (λ o. sync_opened d caller o path n) (λ o. sync_opened_stays o path n)
      (sync_have again d caller path (wanted_rev d caller a path n)) (sync_have_stays again path (wanted_rev d caller a path n)) (opened d caller.client path)

  shows_alone_stays : (shows : Bool) (step : Step) → Stays (ids.Have ∷ ids.Resolve ∷ []) step → Stays (ids.Have ∷ ids.Resolve ∷ []) (shows_alone shows step)
  shows_alone_stays true step h = only_tells _
  shows_alone_stays false step h = h

  pub sync_stays : (again shows : Bool) (arguments : List FileArgument) → Stays (ids.Have ∷ ids.Resolve ∷ []) (sync d caller again shows arguments)
  sync_stays again shows arguments = stays_within _ (shows_alone_stays shows _ (stays_over_all (named false d caller (submitted d)) (sync_file again d caller)
      (λ a path. stays_refused (right_refusal to_read d caller path) _ _ (sync_to_stays again a path (chosen d caller path (a.spec).wanted)))
      no_file (λ a. only_tells _) arguments))

-- ---- files that are resolved

own_stay : (d : List Deed) (taking : Taking) (o : Opening) (r : Owing) → StayIn (ids.Have ∷ ids.Resolve ∷ ids.Working ∷ []) (own_deeds d taking o r)
own_stay d Theirs o r = go (is_live_at d r.path r.last)
  where
    go : (b : Bool) → StayIn (ids.Have ∷ ids.Resolve ∷ ids.Working ∷ [])
        (if b then Got (held_of r) r.last ∷ Open (record o { base = r.last; source = Some (source_at r) }) ∷ [] else Got (held_of r) 0 ∷ Shut (held_of r) ∷ [])
    go true = refl
    go false = refl
own_stay d Yours o r = refl

other_stay : (taking : Taking) (o : Opening) (r : Owing) → StayIn (ids.Have ∷ ids.Resolve ∷ ids.Working ∷ []) (other_deeds taking o r)
other_stay Theirs o r = refl
other_stay Yours o r = refl

resolve_one_stays : (d : List Deed) (taking : Taking) (o : Opening) (r : Owing) → Stays (ids.Have ∷ ids.Resolve ∷ ids.Working ∷ []) (resolve_one d taking o r)
resolve_one_stays d taking o r = record { each = go (same r.from r.path) }
  where
    go : (b : Bool) → StayIn (ids.Have ∷ ids.Resolve ∷ ids.Working ∷ []) (if b then own_deeds d taking o r else other_deeds taking o r)
    go true = own_stay d taking o r
    go false = other_stay taking o r

module _ (caller : Caller) (taking : Taking) (path : List ℕ) where
  pub resolve_opened_stays : (d : List Deed) (r : Owing) → Stays (ids.Have ∷ ids.Resolve ∷ ids.Working ∷ []) (resolve_opened taking d caller path r)
  resolve_opened_stays d r = stays_where (λ o. resolve_one d taking o r) (λ o. resolve_one_stays d taking o r) nothing (only_tells _) (opened d caller.client path)

  resolve_next_stays : (d : List Deed) (rs : List Owing) → Stays (ids.Have ∷ ids.Resolve ∷ ids.Working ∷ []) (resolve_next (λ e. resolve_opened taking e caller path) d caller path rs)
  resolve_next_stays d [] = only_tells _
  resolve_next_stays d (r ∷ rs) =
      let first = resolve_opened taking d caller path r in
      let next = resolve_next (λ e. resolve_opened taking e caller path) (after d first.deeds) caller path rs in
      stays_if (is_none (opened d caller.client path)) nothing (both first next) (only_tells _)
      (stays_both first next (resolve_opened_stays d r) (resolve_next_stays (after d first.deeds) rs))

pub resolve_stays : (d : List Deed) (caller : Caller) (taking : Taking) (arguments : List FileArgument) → Stays (ids.Have ∷ ids.Resolve ∷ ids.Working ∷ []) (resolve d caller taking arguments)
resolve_stays d caller taking arguments = stays_within _ (stays_over_all (named false d caller (opened_by d caller.client)) (λ a. resolve_file taking d caller)
    (λ a path. stays_refused (right_refusal to_open d caller path) _ _ (resolve_next_stays caller taking path d (owings d caller path)))
    not_open (λ a. only_tells _) arguments)

-- ---- files that are moved

renamed_stay : (change : Option ℕ) (t : List ℕ) (p : Option Opening) → StayIn (ids.Resolve ∷ ids.Working ∷ []) (renamed change t p)
renamed_stay change t None = refl
renamed_stay change t (Some p) = go p.action
  where
    go : (a : Action) → StayIn (ids.Resolve ∷ ids.Working ∷ [])
        (elim a as (λ _. List Deed) [ MoveDelete ↦ Open (record p { change = unwrap_or change p.change; moved = Some t }) ∷ [] | _ ↦ [] ])
    go MoveDelete = refl
    go _ = refl

move_deeds_stay : (d : List Deed) (change : Option ℕ) (o : Opening) (t : List ℕ) → StayIn (ids.Resolve ∷ ids.Working ∷ []) (move_deeds d change o t)
move_deeds_stay d change o t = go o.action
  where
    go : (a : Action) → StayIn (ids.Resolve ∷ ids.Working ∷ [])
        (elim a as (λ _. List Deed) [ Add ↦ move_added d change o t | MoveAdd ↦ move_again d change o t | _ ↦ move_edited d change o t ])
    go Add = refl
    go MoveAdd = renamed_stay change t (partner d o)
    go _ = refl

module _ (caller : Caller) (change : Option ℕ) (from : FileArgument) (to : PatternArgument) where
  move_opening_stays : (d : List Deed) (o : Opening) → Stays (ids.Resolve ∷ ids.Working ∷ []) (move_opening d caller change from to o)
  move_opening_stays d o = stays_refused (right_refusal to_open d caller o.path) _ _ (stays_where (λ t. move_to d caller change o t)
      (λ t. stays_refused (right_refusal to_open d caller t) _ _ (done _ _ (move_deeds_stay d change o t))) _
      (stays_refused (movable_refusal o) [] (refuses (NotInView (printed (target_text d caller from to o.path)))) (only_tells _))
      (target_at d caller to (target_text d caller from to o.path)))

  pub move_file_stays : (d : List Deed) (path : List ℕ) → Stays (ids.Resolve ∷ ids.Working ∷ []) (move_file caller change from to d path)
  move_file_stays d path = stays_where (move_opening d caller change from to) (move_opening_stays d) nothing (only_tells _) (opened d caller.client path)

  move_all_stays : (d : List Deed) (paths : List (List ℕ)) → Stays (ids.Resolve ∷ ids.Working ∷ []) (move_all d caller change from to paths)
  move_all_stays d [] = only_tells _
  move_all_stays d (path ∷ paths) = stays_in_turn (move_file caller change from to) move_file_stays d (path ∷ paths)

  pub move_stays : (d : List Deed) → Stays (ids.Resolve ∷ ids.Working ∷ []) (move d caller change from to)
  move_stays d = stays_refused (named_change_refusal d caller change) _ _
      (stays_within _ (move_all_stays d (named false d caller (opened_by d caller.client) from)))

  -- ---- files that are integrated

  integrate_live_stays : (d : List Deed) (s t : List ℕ) (first last : ℕ) → Stays (ids.Have ∷ ids.Resolve ∷ ids.Working ∷ []) (integrate_live d caller change s t first last)
  integrate_live_stays d s t first last = stays_if (is_live_head d t) _ _ (done _ _ refl) (done _ _ refl)

  integrate_deleted_stays : (d : List Deed) (s t : List ℕ) (first last : ℕ) → Stays (ids.Have ∷ ids.Resolve ∷ ids.Working ∷ []) (integrate_deleted d caller change s t first last)
  integrate_deleted_stays d s t first last = stays_if (is_live_head d t) _ _ (done _ _ refl) (only_tells _)

  integrate_revs_stay : (d : List Deed) (s t revs : List ℕ) → Stays (ids.Have ∷ ids.Resolve ∷ ids.Working ∷ []) (integrate_revs d caller change s t revs)
  integrate_revs_stay d s t [] = only_tells _
  integrate_revs_stay d s t (first ∷ revs) =
      let last = unwrap_or (last_or (Some first) revs) first in
      stays_if (is_live_at d s last) (integrate_live d caller change s t first last) (integrate_deleted d caller change s t first last)
      (integrate_live_stays d s t first last) (integrate_deleted_stays d s t first last)

  integrate_chosen_stays : (d e : List Deed) (s : List ℕ) → Stays (ids.Have ∷ ids.Resolve ∷ ids.Working ∷ []) (integrate_chosen d e caller change from to s)
  integrate_chosen_stays d e s = stays_where (integrate_to d e caller change (from.spec).wanted s)
      (λ t. stays_refused (right_refusal to_open d caller t) _ _ (integrate_revs_stay d s t (uncredited d caller (from.spec).wanted s t))) _ (only_tells _)
      (target_at d caller to (target_text d caller from to s))

  pub integrate_file_stays : (d e : List Deed) (s : List ℕ) → Stays (ids.Have ∷ ids.Resolve ∷ ids.Working ∷ []) (integrate_file d caller change from to e s)
  integrate_file_stays d e s = stays_refused (right_refusal to_read d caller s) _ _ (go (chosen d caller s (from.spec).wanted))
    where
      go : (choice : Choice) → Stays (ids.Have ∷ ids.Resolve ∷ ids.Working ∷ []) (elim choice as (λ _. Step) [ PassedOver ↦ nothing | At n ↦ integrate_chosen d e caller change from to s ])
      go PassedOver = only_tells _
      go (At n) = integrate_chosen_stays d e s

  integrate_all_stays : (d : List Deed) (sources : List (List ℕ)) → Stays (ids.Have ∷ ids.Resolve ∷ ids.Working ∷ []) (integrate_all d caller change from to sources)
  integrate_all_stays d [] = only_tells _
  integrate_all_stays d (s ∷ sources) = stays_in_turn (integrate_file d caller change from to) (integrate_file_stays d) d (s ∷ sources)

  pub integrate_stays : (d : List Deed) → Stays (ids.Have ∷ ids.Resolve ∷ ids.Working ∷ []) (integrate d caller change from to)
  integrate_stays d = stays_refused (named_change_refusal d caller change) _ _
      (stays_within _ (integrate_all_stays d (named false d caller (submitted d) from)))
