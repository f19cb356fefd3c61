-- The step that moves files.
use Rattle.std.proofs.Common.{◌≡◌, ◌≤◌, ℕ, Bool, true, false, List, [], ◌∷◌, ◌++◌, Option, Some, None, inl, inr, refl, sym, ap, subst, ◌∙◌, arith}
use Rattle.std.specs.Prelude.{◌&&◌, ◌==◌, not, IfSome, IsSomeAnd, is_some, is_none, unwrap_or, option_map, option_and_then, if◌then◌else◌}
use Rattle.std.specs.List.{list_all}
use Rattle.std.proofs.lemmas.Bool.Decides.{nat_tests}
use Rattle.depot_rows.specs.depot_path.Path.{is_path, printed}
use Rattle.depot_rows.specs.depot_path.declared.revision.Wanted.TheVariants.{Head}
use Rattle.depot_rows.specs.view_map.Mapping.{files_at}
use Rattle.depot_rows.specs.depot_model.Arguments.{named, names, opened_by, within_files, in_client_syntax}
use Rattle.depot_rows.specs.depot_model.Asking.{view, to_open}
use Rattle.depot_rows.specs.depot_model.Choice.{shown}
use Rattle.depot_rows.specs.depot_model.Deeds.{Deed, Open, Opening, Source, Pending, Action, Add, Edit, Delete, Branch, Integrate, MoveAdd, MoveDelete}
use Rattle.depot_rows.specs.depot_model.Latest.{when}
use Rattle.depot_rows.specs.depot_model.Numbers.{pending}
use Rattle.depot_rows.specs.depot_model.Opened.{opened, partner, named_back, is_moved_with}
use Rattle.depot_rows.specs.depot_model.Revisions.{head, is_live_head}
use Rattle.depot_rows.specs.depot_model.Rules.{IsSound, path_or_none}
use Rattle.depot_rows.specs.depot_model.Step.{Step, nothing, does, refuses, after, unless, refuse_if, in_turn}
use Rattle.depot_rows.specs.depot_model.Steps.Adding.{first_live}
use Rattle.depot_rows.specs.depot_model.Steps.Moving.{is_movable, shut, move_added, move_edited, renamed, move_again, move_deeds, move_row, movable_refusal, move_to, move_opening, move_file, move_all, move}
use Rattle.depot_rows.specs.depot_model.Steps.Opening.{right_refusal, named_change_refusal, exclusive_refusal}
use Rattle.depot_rows.specs.depot_model.Steps.Targets.{target_text, target_at}
use Rattle.depot_rows.specs.depot_model.declared.command.FileArgument.{FileArgument}
use Rattle.depot_rows.specs.depot_model.declared.command.PatternArgument.{PatternArgument}
use Rattle.depot_rows.specs.depot_model.declared.refusal.Refusal.TheVariants.{NotInView, AlreadyOpen, Exists, NotMovable}
use Rattle.depot_rows.specs.depot_model.declared.request.Caller.{Caller}
use Rattle.sound_deeds.specs.Keeping.{IsOpenChange, IsTaken, is_move}
use Rattle.depot_facts.proofs.OpenFiles.{ArePaths, are_paths}
use Rattle.sound_deeds.proofs.Unmoved.{le_self}
use Rattle.sound_file_steps.proofs.Files.{only, named_change_ok}
use Rattle.depot_facts.proofs.PathsTold.{opened_are}
use Rattle.sound_file_steps.proofs.Known.{IsKnown, opened_known}
use Rattle.sound_file_steps.proofs.Opening.{first_live_is, files_at_are}
use Rattle.sound_file_steps.proofs.Steady.{Stands, Same, same_self, same_back, same_then, same_after, steady_sound, all_stand}
use Rattle.depot_facts.proofs.Steps.{AllOf, not_refused, all_filtered, joined, unless_all, within_all}

-- ---- files in turn, each over the depot that those before it leave

module _ (d : List Deed) (P : List ℕ → Bool) (act : List Deed → List ℕ → Step)
    (acts : (e : List Deed) → IsSound e → Same d e → (x : List ℕ) → P x ≡ true → AllOf (Stands e) (act e x).deeds) where
  pub turns : (e : List Deed) → IsSound e → Same d e → (xs : List (List ℕ)) → list_all P xs ≡ true → AllOf (Stands e) (in_turn act e xs).deeds
  turns e sound same_depot [] all = tt
  turns e sound same_depot (x ∷ xs) all = go (P x) refl all (λ f s h k. turns f s h xs k)
    where
      go : (b : Bool) → P x ≡ b → (b && list_all P xs) ≡ true
          → ((f : List Deed) → IsSound f → Same d f → list_all P xs ≡ true → AllOf (Stands f) (in_turn act f xs).deeds)
          → AllOf (Stands e) ((act e x).deeds ++ (in_turn act (after e (act e x).deeds) xs).deeds)
      go false k f later = absurd cc
      go true k f later =
          let first : AllOf (Stands e) (act e x).deeds = acts e sound same_depot x k in
          let next : Same e (after e (act e x).deeds) = same_after e (act e x).deeds first in
          joined (Stands e) (act e x).deeds (in_turn act (after e (act e x).deeds) xs).deeds first
          (all_stand (after e (act e x).deeds) e (same_back e (after e (act e x).deeds) next) (in_turn act (after e (act e x).deeds) xs).deeds
          (later (after e (act e x).deeds) (steady_sound e (act e x).deeds sound first) (same_then d e (after e (act e x).deeds) same_depot next) f))

-- ---- the target of a source is a path

pub target_is : (d : List Deed) (caller : Caller) (to : PatternArgument) (text : List ℕ) → IfSome (target_at d caller to text) (λ t. is_path t ≡ true)
target_is d caller to text = go (is_path text) refl (in_client_syntax caller.client to.pattern)
  where
    go : (b : Bool) → is_path text ≡ b → (c : Bool)
        → IfSome (if not b then None else (if c then first_live d (files_at (view d caller.client) text) else Some text)) (λ t. is_path t ≡ true)
    go false e c = tt
    go true e true = first_live_is d (files_at (view d caller.client) text) (files_at_are (view d caller.client) text)
    go true e false = e

-- ---- move

-- has_paths of an opening, from its parts
pub opening_has : (path : List ℕ) (moved : Option (List ℕ)) (source : Option Source) → is_path path ≡ true → IfSome moved (λ p. is_path p ≡ true)
    → IfSome source (λ s. is_path s.path ≡ true) → list_all is_path (path ∷ path_or_none moved ++ path_or_none (option_map (λ (s : Source). s.path) source)) ≡ true
opening_has path None None is m s = only (is_path path) is
opening_has path None (Some x) is m s = λ i. is i && (s i && true)
opening_has path (Some p) None is m s = λ i. is i && (m i && true)
opening_has path (Some p) (Some x) is m s = λ i. is i && (m i && (s i && true))

module _ (d : List Deed) (caller : Caller) (change : Option ℕ) (free : named_change_refusal d caller change ≡ None) where
  module _ (e : List Deed) (sound : IsSound e) (same_depot : Same d e) where
    -- the change into which a file goes
    into : (o : Opening) → o.client ≡ caller.client → IsOpenChange e o.client o.change → IsOpenChange e o.client (unwrap_or change o.change)
    into o is own = go change free
      where
        moved_to : (n : ℕ) → IsOpenChange d caller.client n → IsOpenChange e o.client n
        moved_to n (inl none) = inl none
        moved_to n (inr some) = inr (subst (λ (c : List ℕ). IsSomeAnd (pending e n) (λ p. p.client ≡ c)) (sym is)
            (subst (λ (p : Option Pending). IsSomeAnd p (λ x. x.client ≡ caller.client)) (same_depot.changes n) some))

        go : (c : Option ℕ) → named_change_refusal d caller c ≡ None → IsOpenChange e o.client (unwrap_or c o.change)
        go None none = own
        go (Some n) none = moved_to n (named_change_ok d caller (Some n) none)

    -- another opening of a file that the client has opened: of another path over its head, or the same
    another : (path : List ℕ) (o : Opening) → IsKnown e caller.client path o → (t : List ℕ) → is_path t ≡ true → (base : ℕ) → base ≤ head e t → (action : Action)
        → (moved : Option (List ℕ)) → IfSome moved (λ p. is_path p ≡ true) → is_some moved ≡ is_move action
        → (source : Option Source) → IfSome source (λ s. is_path s.path ≡ true) → IfSome source (IsTaken e)
        → Stands e (Open (record o { path = t; base = base; action = action; change = unwrap_or change o.change; source = source; moved = moved }))
    another path o known t is base le action moved moved_is moves source source_is taken = record {
      has = opening_has t moved source is moved_is source_is;
      steady = refl;
      keeps = record { client = (known.keeps).client; base = le; file_type = (known.keeps).file_type; source = taken; moved = moves };
      ties = into o known.client_is known.ties;
    }

    shut_stands : (o : Opening) → is_path o.path ≡ true → Stands e (shut o)
    shut_stands o is = record { has = only (is_path o.path) is; steady = refl; keeps = tt; ties = tt }

    module _ (path : List ℕ) (o : Opening) (known : IsKnown e caller.client path o) (t : List ℕ) (is : is_path t ≡ true) where
      paths : ArePaths o.path o.moved o.source
      paths = are_paths o.path o.moved o.source known.has

      added_stands : o.action ≡ Add → AllOf (Stands e) (move_added e change o t)
      added_stands act = (
        another path o known t is (head e t) (le_self (head e t)) o.action None tt (sym (ap is_move act)) None tt tt,
        (shut_stands o known.pathed, tt),
      )

      edited_stands : 1 ≤ o.base → AllOf (Stands e) (move_edited e change o t)
      edited_stands low = (
        another path o known o.path known.pathed o.base (known.keeps).base MoveDelete (Some t) is refl None tt tt,
        (
          another path o known t is (head e t) (le_self (head e t)) MoveAdd (Some o.path) known.pathed refl (Some (record { path = o.path; rev = o.base }))
              known.pathed (low, (known.keeps).base),
          tt,
        ),
      )

      -- the file that it was moved from
      renamed_one : (other : List ℕ) (p : Opening) → IsKnown e caller.client other p → (a : Action) → p.action ≡ a
          → AllOf (Stands e) (elim a as (λ _. List Deed) [ MoveDelete ↦ Open (record p { change = unwrap_or change p.change; moved = Some t }) ∷ [] | _ ↦ [] ])
      renamed_one other p p_known MoveDelete act =
          let p_paths : ArePaths p.path p.moved p.source = are_paths p.path p.moved p.source p_known.has in
          (another other p p_known p.path p_known.pathed p.base (p_known.keeps).base p.action (Some t) is (sym (ap is_move act)) p.source p_paths.taken (p_known.keeps).source, tt)
      renamed_one other p p_known Add act = tt
      renamed_one other p p_known Edit act = tt
      renamed_one other p p_known Delete act = tt
      renamed_one other p p_known Branch act = tt
      renamed_one other p p_known Integrate act = tt
      renamed_one other p p_known MoveAdd act = tt

      renamed_stands : AllOf (Stands e) (renamed change t (partner e o))
      renamed_stands = go o.moved
        where
          go : (m : Option (List ℕ)) → AllOf (Stands e) (renamed change t (option_and_then (named_back e o.client o.path) m))
          go None = tt
          go (Some other) = at (opened e o.client other) refl
            where
              at : (x : Option Opening) → opened e o.client other ≡ x
                  → AllOf (Stands e) (renamed change t (elim x as (λ _. Option Opening) [ None ↦ None | Some p ↦ when (is_moved_with o.path p) p ]))
              at None h = tt
              at (Some p) h = test (is_moved_with o.path p)
                where
                  test : (b : Bool) → AllOf (Stands e) (renamed change t (when b p))
                  test false = tt
                  test true = renamed_one other p (opened_known e sound caller.client other p (ap (λ (c : List ℕ). opened e c other) (sym known.client_is) ∙ h)) p.action refl

      again_stands : AllOf (Stands e) (move_again e change o t)
      again_stands = (
        shut_stands o known.pathed,
        (another path o known t is (head e t) (le_self (head e t)) o.action o.moved paths.other (known.keeps).moved o.source paths.taken (known.keeps).source, renamed_stands),
      )

      based : (n : ℕ) → not (n == 0) ≡ true → 1 ≤ n
      based n h = grind (arith, nat_tests)

      deeds_stand : is_movable o ≡ true → AllOf (Stands e) (move_deeds e change o t)
      deeds_stand movable = go o.action refl movable
        where
          go : (a : Action) → o.action ≡ a → (elim a [ Add ↦ true | MoveAdd ↦ true | Edit ↦ not (o.base == 0) | _ ↦ false ]) ≡ true
              → AllOf (Stands e) (elim a as (λ _. List Deed) [ Add ↦ move_added e change o t | MoveAdd ↦ move_again e change o t | _ ↦ move_edited e change o t ])
          go Add act h = added_stands act
          go MoveAdd act h = again_stands
          go Edit act h = edited_stands (based o.base h)
          go Delete act h = absurd cc
          go Branch act h = absurd cc
          go Integrate act h = absurd cc
          go MoveDelete act h = absurd cc

      movable_is : movable_refusal o ≡ None → is_movable o ≡ true
      movable_is none = go (is_movable o) (not_refused (not (is_movable o)) (NotMovable o.path) none)
        where
          go : (b : Bool) → not b ≡ false → b ≡ true
          go true h = refl
          go false h = absurd cc

      to_stands : AllOf (Stands e) (move_to e caller change o t).deeds
      to_stands = unless_all (Stands e)
          (right_refusal to_open e caller t ∷ movable_refusal o ∷ refuse_if (is_none (shown e caller Head t)) (NotInView (printed t))
          ∷ refuse_if (is_some (opened e caller.client t)) (AlreadyOpen t) ∷ refuse_if (is_live_head e t) (Exists t)
          ∷ exclusive_refusal e t caller.client o.file_type ∷ [])
          (does (move_deeds e change o t) (move_row e o t)) (λ none. deeds_stand (movable_is none.1.0))

    file_stands : (from : FileArgument) (to : PatternArgument) (path : List ℕ) → AllOf (Stands e) (move_file caller change from to e path).deeds
    file_stands from to path = go (opened e caller.client path) refl
      where
        aimed : (o : Opening) → IsKnown e caller.client path o → (x : Option (List ℕ)) → IfSome x (λ t. is_path t ≡ true)
            → AllOf (Stands e) (elim x as (λ _. Step) [
              | None ↦ unless (movable_refusal o ∷ []) (refuses (NotInView (printed (target_text e caller from to o.path))))
              | Some t ↦ move_to e caller change o t
            ]).deeds
        aimed o known None h = unless_all (Stands e) (movable_refusal o ∷ []) (refuses (NotInView (printed (target_text e caller from to o.path)))) (λ none. tt)
        aimed o known (Some t) h = to_stands path o known t h

        go : (x : Option Opening) → opened e caller.client path ≡ x
            → AllOf (Stands e) (elim x as (λ _. Step) [ None ↦ nothing | Some o ↦ move_opening e caller change from to o ]).deeds
        go None h = tt
        go (Some o) h = unless_all (Stands e) (right_refusal to_open e caller o.path ∷ []) _
            (λ none. aimed o (opened_known e sound caller.client path o h) (target_at e caller to (target_text e caller from to o.path))
            (target_is e caller to (target_text e caller from to o.path)))

  all_stands : IsSound d → (from : FileArgument) (to : PatternArgument) (paths : List (List ℕ)) → list_all is_path paths ≡ true
      → AllOf (Stands d) (move_all d caller change from to paths).deeds
  all_stands sound from to [] all = tt
  all_stands sound from to (path ∷ paths) all =
      turns d is_path (move_file caller change from to) (λ e s same_depot x is. file_stands e s same_depot from to x) d sound (same_self d) (path ∷ paths) all

pub move_sound : (d : List Deed) → IsSound d → (caller : Caller) (change : Option ℕ) (from : FileArgument) (to : PatternArgument)
    → IsSound (after d (move d caller change from to).deeds)
move_sound d sound caller change from to = steady_sound d (move d caller change from to).deeds sound
    (unless_all (Stands d) (named_change_refusal d caller change ∷ []) (within_files step) (λ none.
    within_all (Stands d) step (all_stands d caller change none.0 sound from to (named false d caller (opened_by d caller.client) from)
    (all_filtered is_path (names false d caller from.spec) (opened_by d caller.client) (opened_are d sound.paths caller.client)))))
  where
    step : Step
    step = move_all d caller change from to (named false d caller (opened_by d caller.client) from)
