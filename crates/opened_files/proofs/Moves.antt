-- What `move` does with a file, by what was found of it, is what the model does; and its deeds are on the files of the client.
use Rattle.std.proofs.Common.{◌≡◌, ℕ, Bool, true, false, List, [], ◌∷◌, ◌++◌, Option, Some, None, refl, sym, ap, subst, ◌∙◌, append-nil}
use Rattle.std.specs.Prelude.{◌&&◌, if◌then◌else◌, is_none, is_some, option_and_then, unwrap_or}
use Rattle.std.specs.List.{list_all}
use Rattle.depot_rows.specs.depot_path.Bytes.{same}
use Rattle.depot_rows.specs.depot_path.Path.{is_path, printed}
use Rattle.depot_rows.specs.depot_path.declared.revision.Wanted.TheVariants.{Head}
use Rattle.depot_rows.specs.depot_model.declared.command.FileArgument.{FileArgument}
use Rattle.depot_rows.specs.depot_model.declared.command.PatternArgument.{PatternArgument}
use Rattle.depot_rows.specs.depot_model.declared.refusal.Refusal.{Refusal}
use Rattle.depot_rows.specs.depot_model.declared.refusal.Refusal.TheVariants.{AlreadyOpen, Exists, NotInView}
use Rattle.depot_rows.specs.depot_model.declared.request.Caller.{Caller}
use Rattle.depot_rows.specs.depot_model.Asking.{to_open}
use Rattle.depot_rows.specs.depot_model.Choice.{shown}
use Rattle.depot_rows.specs.depot_model.Deeds.{Deed, Open, Shut, Opening, Action, Add, Edit, Delete, Branch, Integrate, MoveAdd, MoveDelete}
use Rattle.depot_rows.specs.depot_model.Latest.{when}
use Rattle.depot_rows.specs.depot_model.Opened.{is_moved_with, named_back, opened, partner}
use Rattle.depot_rows.specs.depot_model.Revisions.{head, is_live_head}
use Rattle.depot_rows.specs.depot_model.Step.{Step as ModelStep, in_turn, refuse_if, unless}
use Rattle.depot_rows.specs.depot_model.Steps.Moving.{move_added, move_again, move_all, move_deeds, move_edited, move_file, move_opening, move_to, movable_refusal, opening_at, renamed, shut}
use Rattle.depot_rows.specs.depot_model.Steps.Opening.{exclusive_refusal, right_refusal}
use Rattle.depot_rows.specs.depot_model.Steps.Targets.{target_at, target_text}
use Rattle.depot_rows.specs.Deed.{action_of, held_of, opening_of}
use Rattle.depot_rows.specs.Effects.{Follow}
use Rattle.depot_rows.specs.declared.deed.Deed.{Deed as Done}
use Rattle.depot_rows.specs.declared.deed.Deed.TheVariants as dones
use Rattle.depot_rows.specs.declared.deed.Held.{Held}
use Rattle.depot_rows.specs.declared.deed.Opening.{Opening as DoneOpening}
use Rattle.depot_rows.proofs.Keys.{same-self}
use Rattle.depot_rows.proofs.Locks.{opened-is}
use Rattle.opened_files.specs.Moves.{at_target, is_add, is_move_add, is_move_delete, move_step, moves_nowhere, renamed as renamed_at}
use Rattle.opening_reads.specs.OwnOpenings.{is_of}
use Rattle.reply_rows.proofs.Joined.{follow_on}

-- ---- the deeds

by_action : {A : Type 0} (a : Action) (x y z : A) → (elim a as (λ _. A) [ Add ↦ x | MoveAdd ↦ y | _ ↦ z ]) ≡ (if is_add a then x else (if is_move_add a then y else z))
by_action Add x y z = refl
by_action MoveAdd x y z = refl
by_action Edit x y z = refl
by_action Delete x y z = refl
by_action Branch x y z = refl
by_action Integrate x y z = refl
by_action MoveDelete x y z = refl

if_left : {A : Type 0} (a : Action) (x z : A) → (elim a as (λ _. A) [ MoveDelete ↦ x | _ ↦ z ]) ≡ (if is_move_delete a then x else z)
if_left Add x z = refl
if_left MoveAdd x z = refl
if_left Edit x z = refl
if_left Delete x z = refl
if_left Branch x z = refl
if_left Integrate x z = refl
if_left MoveDelete x z = refl

module _ (e : List Deed) (change : Option ℕ) (o : DoneOpening) (t : List ℕ) where
  abbrev own : Opening
  own = opening_of o

  pub deeds_are : (added moved : Bool) → added ≡ is_add own.action → moved ≡ is_move_add own.action
      → (if added then move_added e change own t else (if moved then move_again e change own t else move_edited e change own t)) ≡ move_deeds e change own t
  deeds_are added moved is_added is_moved =
      (λ i. if is_added i then move_added e change own t else (if is_moved i then move_again e change own t else move_edited e change own t))
      ∙ sym (by_action own.action (move_added e change own t) (move_again e change own t) (move_edited e change own t))

  pub follow_again : (base : ℕ) (file : Held) (at : DoneOpening) (none shut_ made : List Done) → none ≡ [] → shut_ ≡ none ++ dones.Shut file ∷ [] → made ≡ shut_ ++ dones.Open at ∷ []
      → base ≡ head e t → file ≡ record { client = o.client; path = o.path } → at ≡ at_target o base change t → is_path t ≡ true → is_path o.path ≡ true
      → Follow e made (shut own ∷ Open (opening_at e change own t) ∷ [])
  follow_again base file at none shut_ made none_is shut_is made_is head_is file_is at_is there here =
      subst (λ (l : List Done). Follow e l (shut own ∷ Open (opening_at e change own t) ∷ []))
      (sym (made_is ∙ ap (λ (l : List Done). l ++ dones.Open at ∷ []) (shut_is ∙ ap (λ (l : List Done). l ++ dones.Shut file ∷ []) none_is))) (
        ap (λ (f : Held). Some (Shut (held_of f))) file_is,
        ap (λ (f : Held). is_path f.path) file_is ∙ here,
        (
          ap (λ (x : DoneOpening). Some (Open (opening_of x))) at_is ∙ ap (λ (n : ℕ). Some (Open (opening_of (at_target o n change t)))) head_is,
          ap (λ (x : DoneOpening). is_path x.path) at_is ∙ there,
          tt,
        ),
      )

-- the other end of a move, which may have been moved away from there
module _ (e done : List Deed) (old : List Done) (change : Option ℕ) (other : DoneOpening) (t : List ℕ) (was : Follow e old done) where
  abbrev end_deeds : Bool → List Deed
  end_deeds left = if left then Open (opening_of (renamed_at other change t)) ∷ [] else []

  pub end_renamed : (end : DoneOpening) → end ≡ renamed_at other change t → is_path other.path ≡ true → true ≡ is_move_delete (action_of other.action)
      → Follow e (old ++ dones.Open end ∷ []) (done ++ renamed change t (Some (opening_of other)))
  end_renamed end end_is here left =
      subst (λ (deeds : List Deed). Follow e (old ++ dones.Open end ∷ []) (done ++ deeds))
      (ap end_deeds left ∙ sym (if_left (action_of other.action) (Open (opening_of (renamed_at other change t)) ∷ []) []))
      (follow_on e old (dones.Open end ∷ []) done (end_deeds true) was (ap (λ (x : DoneOpening). Some (Open (opening_of x))) end_is, ap (λ (x : DoneOpening). is_path x.path) end_is ∙ here, tt))

  pub end_stays : false ≡ is_move_delete (action_of other.action) → Follow e old (done ++ renamed change t (Some (opening_of other)))
  end_stays left =
      subst (λ (deeds : List Deed). Follow e old deeds)
      (sym (append-nil done) ∙ ap (λ (deeds : List Deed). done ++ deeds) (ap end_deeds left ∙ sym (if_left (action_of other.action) (Open (opening_of (renamed_at other change t)) ∷ []) [])))
      was

-- ---- some files

pub some_moved : (d : List Deed) (caller : Caller) (change : Option ℕ) (from : FileArgument) (to : PatternArgument) (paths : List (List ℕ)) → (paths ≡ [] → ⊥)
    → in_turn (move_file caller change from to) d paths ≡ move_all d caller change from to paths
some_moved d caller change from to [] some = absurd (some refl)
some_moved d caller change from to (path ∷ paths) some = refl

-- ---- what is done with a file that the caller may open

abbrev pub moves_to : List Deed → Caller → Option ℕ → Opening → List ℕ → Option (List ℕ) → ModelStep
moves_to e caller change o text target = elim target [ None ↦ moves_nowhere o text | Some t ↦ move_to e caller change o t ]

abbrev pub moves_permitted : List Deed → Caller → Option ℕ → FileArgument → PatternArgument → Opening → ModelStep
moves_permitted e caller change from to o =
    let text = target_text e caller from to o.path in moves_to e caller change o text (target_at e caller to text)

-- ---- the deeds are on the files of the client

unless_own : (client : List ℕ) (tests : List (Option Refusal)) (step : ModelStep) → list_all (is_of client) step.deeds ≡ true
    → list_all (is_of client) (unless tests step).deeds ≡ true
unless_own client [] step are = are
unless_own client (None ∷ tests) step are = unless_own client tests step are
unless_own client (Some why ∷ tests) step are = refl

module _ (e : List Deed) (caller : Caller) (change : Option ℕ) (o : Opening) (t : List ℕ) (own : same o.client caller.client ≡ true) where
  abbrev AreOwn : List Deed → Type 0
  AreOwn deeds = list_all (is_of caller.client) deeds ≡ true

  one_own : (c : List ℕ) → c ≡ caller.client → same c caller.client ≡ true
  one_own c is = ap (λ (x : List ℕ). same x caller.client) is ∙ same-self caller.client

  renamed_one : (p : Opening) → same p.client caller.client ≡ true → AreOwn (renamed change t (Some p))
  renamed_one p is = go p.action
    where
      go : (a : Action) → AreOwn (elim a as (λ _. List Deed) [ MoveDelete ↦ Open (record p { change = unwrap_or change p.change; moved = Some t }) ∷ [] | _ ↦ [] ])
      go MoveDelete = λ i. is i && true
      go Add = refl
      go Edit = refl
      go Delete = refl
      go Branch = refl
      go Integrate = refl
      go MoveAdd = refl

  renamed_own : o.client ≡ caller.client → AreOwn (renamed change t (partner e o))
  renamed_own client_is = go o.moved
    where
      named : (other : List ℕ) (found : Option Opening) → opened e o.client other ≡ found
          → AreOwn (renamed change t (elim found as (λ _. Option Opening) [ None ↦ None | Some p ↦ when (is_moved_with o.path p) p ]))
      named other None k = refl
      named other (Some p) k = by (is_moved_with o.path p)
        where
          by : (b : Bool) → AreOwn (renamed change t (when b p))
          by true = renamed_one p (one_own p.client ((opened-is e o.client other p k).0 ∙ client_is))
          by false = refl

      go : (m : Option (List ℕ)) → AreOwn (renamed change t (option_and_then (named_back e o.client o.path) m))
      go None = refl
      go (Some other) = named other (opened e o.client other) refl

  deeds_own : o.client ≡ caller.client → AreOwn (move_deeds e change o t)
  deeds_own client_is = go o.action
    where
      edited : AreOwn (move_edited e change o t)
      edited = λ i. own i && (own i && true)

      go : (a : Action) → AreOwn (elim a as (λ _. List Deed) [ Add ↦ move_added e change o t | MoveAdd ↦ move_again e change o t | _ ↦ move_edited e change o t ])
      go Add = λ i. own i && (own i && true)
      go MoveAdd = λ i. own i && (own i && renamed_own client_is i)
      go Edit = edited
      go Delete = edited
      go Branch = edited
      go Integrate = edited
      go MoveDelete = edited

module _ (e : List Deed) (caller : Caller) (change : Option ℕ) (from : FileArgument) (to : PatternArgument) where
  to_own : (o : Opening) → o.client ≡ caller.client → (t : List ℕ) → list_all (is_of caller.client) (move_to e caller change o t).deeds ≡ true
  to_own o is t =
      unless_own caller.client
      (right_refusal to_open e caller t ∷ movable_refusal o ∷ refuse_if (is_none (shown e caller Head t)) (NotInView (printed t))
      ∷ refuse_if (is_some (opened e caller.client t)) (AlreadyOpen t) ∷ refuse_if (is_live_head e t) (Exists t) ∷ exclusive_refusal e t caller.client o.file_type ∷ [])
      (move_step e change o t)
      (deeds_own e caller change o t (ap (λ (x : List ℕ). same x caller.client) is ∙ same-self caller.client) is)

  permitted_own : (o : Opening) → o.client ≡ caller.client → list_all (is_of caller.client) (moves_permitted e caller change from to o).deeds ≡ true
  permitted_own o is = go (target_text e caller from to o.path)
    where
      go : (text : List ℕ) → list_all (is_of caller.client) (moves_to e caller change o text (target_at e caller to text)).deeds ≡ true
      go text = by (target_at e caller to text)
        where
          by : (found : Option (List ℕ)) → list_all (is_of caller.client) (moves_to e caller change o text found).deeds ≡ true
          by None = unless_own caller.client (movable_refusal o ∷ []) _ refl
          by (Some t) = to_own o is t

  pub file_own : (path : List ℕ) → list_all (is_of caller.client) (move_file caller change from to e path).deeds ≡ true
  file_own path = go (opened e caller.client path) refl
    where
      go : (found : Option Opening) → opened e caller.client path ≡ found
          → list_all (is_of caller.client) (elim found as (λ _. ModelStep) [ None ↦ record { deeds = []; rows = [] } | Some o ↦ move_opening e caller change from to o ]).deeds ≡ true
      go None k = refl
      go (Some o) k = unless_own caller.client (right_refusal to_open e caller o.path ∷ []) (moves_permitted e caller change from to o)
          (permitted_own o (opened-is e caller.client path o k).0)
