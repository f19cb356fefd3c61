-- Steps that take files in turn, each over the depot that those before it leave: move and resolve.
use Rattle.std.proofs.Common.{◌≡◌, ℕ, true, false, List, [], ◌∷◌, map, Option, Some, None, refl, ap, ◌∙◌}
use Rattle.std.specs.Prelude.{codes, if◌then◌else◌, filter, is_some, is_none, option_and_then, unwrap_or}
use Rattle.std.specs.List.{list_all}
use Rattle.std.specs.Cmp.Derive.{both_true}
use Rattle.std.proofs.lemmas.Bool.{and_parts}
use Rattle.depot_rows.specs.db_records.declared.table.TableId.TheVariants as ids
use Rattle.depot_rows.specs.depot_path.Bytes.{same}
use Rattle.depot_rows.specs.depot_path.Path.{printed}
use Rattle.depot_rows.specs.depot_path.declared.revision.Wanted.TheVariants.{Head}
use Rattle.depot_rows.specs.depot_model.declared.command.FileArgument.{FileArgument}
use Rattle.depot_rows.specs.depot_model.declared.command.PatternArgument.{PatternArgument}
use Rattle.depot_rows.specs.depot_model.declared.command.Taking.{Taking}
use Rattle.depot_rows.specs.depot_model.declared.command.Taking.TheVariants.{Theirs, Yours}
use Rattle.depot_rows.specs.depot_model.declared.refusal.Refusal.TheVariants.{NotInView, AlreadyOpen, Exists}
use Rattle.depot_rows.specs.depot_model.declared.request.Caller.{Caller}
use Rattle.depot_rows.specs.depot_model.Arguments.{named, opened_by, within_files}
use Rattle.depot_rows.specs.depot_model.Asking.{to_open}
use Rattle.depot_rows.specs.depot_model.Deeds.{Deed, Spec, Guard, Group, Count, Pend, Drop, Open, Shut, Hold, Free, Got, Tag, Owe, Paid, Land, Opening, Owing, Action, Add, Edit, Delete, Branch, Integrate, MoveAdd, MoveDelete}
use Rattle.depot_rows.specs.depot_model.Latest.{when}
use Rattle.depot_rows.specs.depot_model.Opened.{partner, is_moved_with, Resolve}
use Rattle.depot_rows.specs.depot_model.Rows.{row, path_field, number_field, text_field, action_word}
use Rattle.depot_rows.specs.depot_model.Step.{Step, nothing, does, refuses, unless, refuse_if, both, after, in_turn}
use Rattle.depot_rows.specs.depot_model.Steps.Moving.{opening_at, shut, move_added, move_edited, renamed, move_again, move_deeds, target_action, move_row, movable_refusal, move_to, move_opening, move_file, move_all, move}
use Rattle.depot_rows.specs.depot_model.Steps.Resolving.{held_of, source_at, how_of, paid, own_deeds, other_deeds, resolve_row, resolve_one, resolve_next, resolve_opened, owings, resolve_file, resolve}
use Rattle.depot_rows.specs.depot_model.Steps.Reverting.{not_open}
use Rattle.depot_rows.specs.depot_model.Steps.Submitting.{is_unpaid}
use Rattle.depot_rows.specs.depot_model.Steps.Targets.{target_text}
use Rattle.step_tables.specs.DeedTables.{stays_in}
use Rattle.step_tables.proofs.Opening.{move_file_stays, resolve_opened_stays}
use Rattle.depots_alike.proofs.Alike.{Alike, alike_of, file_tables, all_grown}
use Rattle.depots_alike.proofs.Asked.{right_same, exclusive_same, target_text_same, target_at_same}
use Rattle.depots_alike.proofs.Choosing.{head_same, is_live_same, is_live_head_same, shown_same, named_same}
use Rattle.depots_alike.proofs.Paths.{opened_by_same}
use Rattle.depots_alike.proofs.Searches.{opened_same}
use Rattle.depots_alike.proofs.Simple.{over_all_same, named_change_same}
use Rattle.depots_alike.proofs.Submitting.{resolves_same}
use Rattle.depots_alike.proofs.Twins.{Twins}

-- ---- files in turn

pub turns_same_with : (act other : List Deed → List ℕ → Step) → ((d e : List Deed) → Alike d e → (path : List ℕ) → act d path ≡ other e path)
    → ((d : List Deed) (path : List ℕ) → list_all (stays_in file_tables) (act d path).deeds ≡ true)
    → (d e : List Deed) → Alike d e → (paths : List (List ℕ)) → in_turn act d paths ≡ in_turn other e paths
turns_same_with act other step stays d e alike [] = refl
turns_same_with act other step stays d e alike (path ∷ paths) =
    let one = step d e alike path in
    let rest : in_turn act (after d (act d path).deeds) paths ≡ in_turn other (after e (other e path).deeds) paths =
    turns_same_with act other step stays (after d (act d path).deeds) (after e (act d path).deeds) (all_grown d e (act d path).deeds (stays d path) alike) paths
    ∙ ap (λ (s : Step). in_turn other (after e s.deeds) paths) one in
    λ i. both (one i) (rest i)

pub turns_same : (act : List Deed → List ℕ → Step) → ((d e : List Deed) → Alike d e → (path : List ℕ) → act d path ≡ act e path)
    → ((d : List Deed) (path : List ℕ) → list_all (stays_in file_tables) (act d path).deeds ≡ true)
    → (d e : List Deed) → Alike d e → (paths : List (List ℕ)) → in_turn act d paths ≡ in_turn act e paths
turns_same act = turns_same_with act act

-- deeds on opened files and owed resolves leave have lists too
wider : (deed : Deed) → stays_in (ids.Resolve ∷ ids.Working ∷ []) deed ≡ true → stays_in file_tables deed ≡ true
wider (Open o) e = refl
wider (Shut held) e = refl
wider (Hold held) e = refl
wider (Free held) e = refl
wider (Got held rev) e = refl
wider (Owe o) e = refl
wider (Paid held from how) e = refl
wider (Tag label path rev) e = absurd cc
wider (Spec kind name form) e = absurd cc
wider (Guard lines) e = absurd cc
wider (Group name users) e = absurd cc
wider (Count name value) e = absurd cc
wider (Pend p) e = absurd cc
wider (Drop n) e = absurd cc
wider (Land l) e = absurd cc

all_wider : (deeds : List Deed) → list_all (stays_in (ids.Resolve ∷ ids.Working ∷ [])) deeds ≡ true → list_all (stays_in file_tables) deeds ≡ true
all_wider [] e = refl
all_wider (deed ∷ deeds) e =
    both_true (wider deed (and_parts (stays_in (ids.Resolve ∷ ids.Working ∷ []) deed) (list_all (stays_in (ids.Resolve ∷ ids.Working ∷ [])) deeds) e).0)
    (all_wider deeds (and_parts (stays_in (ids.Resolve ∷ ids.Working ∷ []) deed) (list_all (stays_in (ids.Resolve ∷ ids.Working ∷ [])) deeds) e).1)

-- ---- move

module _ (caller : Caller) (change : Option ℕ) (from : FileArgument) (to : PatternArgument) where
  module _ (d e : List Deed) (alike : Alike d e) where
    opening_at_same : (o : Opening) (t : List ℕ) → opening_at d change o t ≡ opening_at e change o t
    opening_at_same o t = λ i. record o { path = t; base = head_same d e alike t i; change = unwrap_or change o.change }

    partner_same : (o : Opening) → partner d o ≡ partner e o
    partner_same o = λ i. option_and_then
        (λ other. elim (alike.openings o.client other i) as (λ _. Option Opening) [ None ↦ None | Some p ↦ when (is_moved_with o.path p) p ]) o.moved

    added_same : (o : Opening) (t : List ℕ) → move_added d change o t ≡ move_added e change o t
    added_same o t = ap (λ (x : Opening). Open (record x { source = None; moved = None }) ∷ shut o ∷ []) (opening_at_same o t)

    edited_same : (o : Opening) (t : List ℕ) → move_edited d change o t ≡ move_edited e change o t
    edited_same o t = ap (λ (x : Opening). Open (record o { action = MoveDelete; change = unwrap_or change o.change; source = None; moved = Some t })
        ∷ Open (record x { action = MoveAdd; source = Some (record { path = o.path; rev = o.base }); moved = Some o.path }) ∷ []) (opening_at_same o t)

    again_same : (o : Opening) (t : List ℕ) → move_again d change o t ≡ move_again e change o t
    again_same o t = λ i. shut o ∷ Open (opening_at_same o t i) ∷ renamed change t (partner_same o i)

    move_deeds_same : (o : Opening) (t : List ℕ) → move_deeds d change o t ≡ move_deeds e change o t
    move_deeds_same o t = go o.action
      where
        go : (a : Action) → (elim a as (λ _. List Deed) [ Add ↦ move_added d change o t | MoveAdd ↦ move_again d change o t | _ ↦ move_edited d change o t ])
            ≡ (elim a as (λ _. List Deed) [ Add ↦ move_added e change o t | MoveAdd ↦ move_again e change o t | _ ↦ move_edited e change o t ])
        go Add = added_same o t
        go MoveAdd = again_same o t
        go Edit = edited_same o t
        go Delete = edited_same o t
        go Branch = edited_same o t
        go Integrate = edited_same o t
        go MoveDelete = edited_same o t

    move_row_same : (o : Opening) (t : List ℕ) → move_row d o t ≡ move_row e o t
    move_row_same o t = λ i. row (
        path_field (codes "depotFile") t ∷ path_field (codes "fromFile") o.path
        ∷ number_field (codes "workRev") (head_same d e alike t i) ∷ text_field (codes "action") (action_word (target_action o)) ∷ [])

    move_to_same : (o : Opening) (t : List ℕ) → move_to d caller change o t ≡ move_to e caller change o t
    move_to_same o t = λ i. unless (
        right_same d e alike caller to_open t i
        ∷ movable_refusal o
        ∷ refuse_if (is_none (shown_same d e alike caller Head t i)) (NotInView (printed t))
        ∷ refuse_if (is_some (alike.openings caller.client t i)) (AlreadyOpen t)
        ∷ refuse_if (is_live_head_same d e alike t i) (Exists t)
        ∷ exclusive_same d e alike t caller.client o.file_type i
        ∷ [])
        (does (move_deeds_same o t i) (move_row_same o t i))

    move_opening_same : (o : Opening) → move_opening d caller change from to o ≡ move_opening e caller change from to o
    move_opening_same o =
        let text = target_text_same d e alike caller from to o.path in
        let target = target_at_same d e alike caller to (target_text d caller from to o.path) (target_text e caller from to o.path) text in
        λ i. unless (right_same d e alike caller to_open o.path i ∷ []) (elim (target i) as (λ _. Step) [
          | None ↦ unless (movable_refusal o ∷ []) (refuses (NotInView (printed (text i))))
          | Some t ↦ move_to_same o t i
        ])

    move_file_same : (path : List ℕ) → move_file caller change from to d path ≡ move_file caller change from to e path
    move_file_same path = λ i. elim (alike.openings caller.client path i) as (λ _. Step) [ None ↦ nothing | Some o ↦ move_opening_same o i ]

  file_deeds : (d : List Deed) (path : List ℕ) → list_all (stays_in file_tables) (move_file caller change from to d path).deeds ≡ true
  file_deeds d path = all_wider (move_file caller change from to d path).deeds (move_file_stays caller change from to d path).each

  move_all_same : (d e : List Deed) → Alike d e → (paths : List (List ℕ)) → move_all d caller change from to paths ≡ move_all e caller change from to paths
  move_all_same d e alike [] = refl
  move_all_same d e alike (path ∷ paths) = turns_same (move_file caller change from to) move_file_same file_deeds d e alike (path ∷ paths)

pub move_same : (d e : List Deed) → Twins d e → (caller : Caller) (change : Option ℕ) (from : FileArgument) (to : PatternArgument)
    → move d caller change from to ≡ move e caller change from to
move_same d e twins caller change from to =
    let files = named_same d e (alike_of d e twins) caller false (opened_by d caller.client) (opened_by e caller.client) (opened_by_same d e twins caller.client) from in
    let each = ap (move_all d caller change from to) files
    ∙ move_all_same caller change from to d e (alike_of d e twins) (named false e caller (opened_by e caller.client) from) in
    λ i. unless (named_change_same d e twins caller change i ∷ []) (within_files (each i))

-- ---- resolve

module _ (caller : Caller) (taking : Taking) where
  own_same : (d e : List Deed) → Alike d e → (t : Taking) (o : Opening) (r : Owing) → own_deeds d t o r ≡ own_deeds e t o r
  own_same d e alike Theirs o r = ap (λ b. if b
      then Got (held_of r) r.last ∷ Open (record o { base = r.last; source = Some (source_at r) }) ∷ []
      else Got (held_of r) 0 ∷ Shut (held_of r) ∷ []) (is_live_same d e alike r.path r.last)
  own_same d e alike Yours o r = refl

  resolve_one_same : (d e : List Deed) → Alike d e → (o : Opening) (r : Owing) → resolve_one d taking o r ≡ resolve_one e taking o r
  resolve_one_same d e alike o r = λ i.
      does (paid taking r ∷ (if same r.from r.path then own_same d e alike taking o r i else other_deeds taking o r)) (resolve_row r (how_of taking))

  module _ (path : List ℕ) where
    resolve_opened_same : (d e : List Deed) → Alike d e → (r : Owing) → resolve_opened taking d caller path r ≡ resolve_opened taking e caller path r
    resolve_opened_same d e alike r =
        λ i. elim (alike.openings caller.client path i) as (λ _. Step) [ None ↦ nothing | Some o ↦ resolve_one_same d e alike o r i ]

    abbrev next : List Deed → List Owing → Step
    next d rs = resolve_next (λ x. resolve_opened taking x caller path) d caller path rs

    next_same : (d e : List Deed) → Alike d e → (rs : List Owing) → next d rs ≡ next e rs
    next_same d e alike [] = refl
    next_same d e alike (r ∷ rs) =
        let one = resolve_opened_same d e alike r in
        let mine : List Deed = (resolve_opened taking d caller path r).deeds in
        let rest : next (after d mine) rs ≡ next (after e (resolve_opened taking e caller path r).deeds) rs =
        next_same (after d mine) (after e mine) (all_grown d e mine (resolve_opened_stays caller taking path d r).each alike) rs
        ∙ ap (λ (s : Step). next (after e s.deeds) rs) one in
        λ i. if is_none (alike.openings caller.client path i) then nothing else both (one i) (rest i)

  module _ (d e : List Deed) (twins : Twins d e) where
    owings_same : (path : List ℕ) → owings d caller path ≡ owings e caller path
    owings_same path = λ i. elim (opened_same d e twins caller.client path i) as (λ _. List Owing) [
      | None ↦ []
      | Some o ↦ map (λ (r : Resolve). r.owing) (filter is_unpaid (resolves_same d e twins o i))
    ]

    resolve_file_same : (path : List ℕ) → resolve_file taking d caller path ≡ resolve_file taking e caller path
    resolve_file_same path =
        let each = next_same path d e (alike_of d e twins) (owings d caller path) ∙ ap (next path e) (owings_same path) in
        λ i. unless (right_same d e (alike_of d e twins) caller to_open path i ∷ []) (each i)

    pub resolve_same : (arguments : List FileArgument) → resolve d caller taking arguments ≡ resolve e caller taking arguments
    resolve_same arguments = ap within_files (over_all_same (named false d caller (opened_by d caller.client)) (named false e caller (opened_by e caller.client)) not_open
        (λ _. resolve_file taking d caller) (λ _. resolve_file taking e caller)
        (named_same d e (alike_of d e twins) caller false (opened_by d caller.client) (opened_by e caller.client) (opened_by_same d e twins caller.client))
        (λ a path. resolve_file_same path) arguments)
