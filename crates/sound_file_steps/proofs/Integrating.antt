-- The step that integrates files.
use Rattle.std.proofs.Common.{◌≡◌, ◌≤◌, ◌+◌, ℕ, zero, suc, Bool, true, false, List, [], ◌∷◌, ◌++◌, Option, Some, None, inl, inr, refl, sym, subst, ◌∙◌, arith}
use Rattle.std.specs.Prelude.{◌&&◌, not, codes, filter, IfSome, IsSome, IsSomeAnd, is_some, unwrap_or, if◌then◌else◌}
use Rattle.std.specs.List.{list_all, range_with_len, last_or}
use Rattle.std.specs.Option.{option_or, option_flatten}
use Rattle.depot_rows.specs.depot_path.Bytes.{same}
use Rattle.depot_rows.specs.depot_path.Path.{is_path, printed}
use Rattle.depot_rows.specs.depot_path.declared.revision.Wanted.{Wanted}
use Rattle.depot_rows.specs.depot_path.declared.revision.Wanted.TheVariants.{Head}
use Rattle.depot_rows.specs.depot_model.Arguments.{named, names, submitted, within_files}
use Rattle.depot_rows.specs.depot_model.Asking.{is_client, to_open, to_read}
use Rattle.depot_rows.specs.depot_model.Choice.{Choice, PassedOver, At, chosen, shown}
use Rattle.depot_rows.specs.depot_model.Deeds.{Deed, Open, Got, Owe, Paid, Opening, Source, Action, Delete, Branch, Integrate, BranchFrom, DeleteFrom, How}
use Rattle.depot_rows.specs.depot_model.Latest.{latest, when}
use Rattle.depot_rows.specs.depot_model.Opened.{opened, opening_said}
use Rattle.depot_rows.specs.depot_model.Range.{in_range}
use Rattle.depot_rows.specs.depot_model.Revisions.{Revision, revision, head, is_live_at, is_live_head}
use Rattle.depot_rows.specs.depot_model.Rules.{IsSound, IsType}
use Rattle.depot_rows.specs.depot_model.Step.{Step, nothing, does, refuses, after, unless, refuse_if, in_turn}
use Rattle.depot_rows.specs.depot_model.Steps.Integrating.{uncredited, type_at, opening, owing, integrate_live, integrate_deleted, integrate_revs, new_type, integrate_to, integrate_chosen, integrate_file, integrate_all, integrate}
use Rattle.depot_rows.specs.depot_model.Steps.Opening.{right_refusal, named_change_refusal, exclusive_refusal, held}
use Rattle.depot_rows.specs.depot_model.Steps.Targets.{target_text, target_at}
use Rattle.depot_rows.specs.depot_model.declared.command.FileArgument.{FileArgument}
use Rattle.depot_rows.specs.depot_model.declared.command.PatternArgument.{PatternArgument}
use Rattle.depot_rows.specs.depot_model.declared.refusal.Refusal.{Refusal}
use Rattle.depot_rows.specs.depot_model.declared.refusal.Refusal.TheVariants.{NotInView, AlreadyOpen, AllIntegrated}
use Rattle.depot_rows.specs.depot_model.declared.reply.Row.{Row}
use Rattle.depot_rows.specs.depot_model.declared.request.Caller.{Caller}
use Rattle.depot_rows.proofs.Keys.{same-self}
use Rattle.sound_deeds.specs.Keeping.{IsOpenChange, IsTaken, OpeningKeeps, is_move}
use Rattle.sound_deeds.proofs.Unmoved.{le_self}
use Rattle.sound_deeds.proofs.Whole.{all_sound}
use Rattle.sound_file_steps.proofs.Files.{only, named_change_ok}
use Rattle.depot_facts.proofs.PathsTold.{submitted_are}
use Rattle.sound_file_steps.proofs.Moving.{target_is, opening_has}
use Rattle.sound_file_steps.proofs.Opening.{rev_type}
use Rattle.sound_file_steps.proofs.Steady.{Same, same_self, same_then}
use Rattle.depot_facts.proofs.Steps.{NoneOf, all_filtered, after_joined, unless_sound, within_sound}

-- ---- numbers that rise, from one on and up to another

abbrev Rise : ℕ → ℕ → List ℕ → Type 0
Rise low high [] = Unit {0}
Rise low high (n ∷ ns) = (low ≤ n) × (n ≤ high) × Rise n high ns

rise_lower : (low least high : ℕ) (ns : List ℕ) → least ≤ low → Rise low high ns → Rise least high ns
rise_lower low least high [] le h = tt
rise_lower low least high (n ∷ ns) le h = let from = h.0 in (omega arith, h.1, h.2)

rise_filter : (low high : ℕ) (test : ℕ → Bool) (ns : List ℕ) → Rise low high ns → Rise low high (filter test ns)
rise_filter low high test [] h = tt
rise_filter low high test (n ∷ ns) h = go (test n) (rise_filter n high test ns h.2)
  where
    go : (b : Bool) → Rise n high (filter test ns) → Rise low high (if b then n ∷ filter test ns else filter test ns)
    go true later = (h.0, h.1, later)
    go false later = rise_lower n low high (filter test ns) h.0 later

rise_range : (a k high : ℕ) → a + k ≤ high + 1 → Rise a high (range_with_len a k)
rise_range a zero high le = tt
rise_range a (suc k) high le = (le_self a, omega arith, rise_lower (a + 1) a high (range_with_len (a + 1) k) (omega arith) (rise_range (a + 1) k high (omega arith)))

last_within : (first high : ℕ) (ns : List ℕ) → first ≤ high → Rise first high ns
    → (first ≤ unwrap_or (last_or (Some first) ns) first) × (unwrap_or (last_or (Some first) ns) first ≤ high)
last_within first high ns le h = go first ns (le_self first) le h
  where
    go : (n : ℕ) (ms : List ℕ) → first ≤ n → n ≤ high → Rise n high ms
        → (first ≤ unwrap_or (last_or (Some n) ms) first) × (unwrap_or (last_or (Some n) ms) first ≤ high)
    go n [] low up k = (low, up)
    go n (m ∷ ms) low up k = let from = k.0 in go m ms (omega arith) k.1 k.2

-- ---- steps that leave depots sound and alike but for opened files

record Ends (e : List Deed) (step : Step) : Type 0 where
  sound : IsSound (after e step.deeds)
  alike : Same e (after e step.deeds)

unless_ends : (e : List Deed) → IsSound e → (tests : List (Option Refusal)) (step : Step) → (NoneOf tests → Ends e step) → Ends e (unless tests step)
unless_ends e s [] step h = h tt
unless_ends e s (None ∷ tests) step h = unless_ends e s tests step (λ rest. h (refl, rest))
unless_ends e s (Some why ∷ tests) step h = record { sound = s; alike = same_self e }

turns_sound : (d : List Deed) (P : List ℕ → Bool) (act : List Deed → List ℕ → Step)
    → ((e : List Deed) → IsSound e → Same d e → (x : List ℕ) → P x ≡ true → Ends e (act e x))
    → (e : List Deed) → IsSound e → Same d e → (xs : List (List ℕ)) → list_all P xs ≡ true → IsSound (after e (in_turn act e xs).deeds)
turns_sound d P act acts e s same_depot [] all = s
turns_sound d P act acts e s same_depot (x ∷ xs) all = go (P x) refl all (λ f t h k. turns_sound d P act acts f t h xs k)
  where
    go : (b : Bool) → P x ≡ b → (b && list_all P xs) ≡ true
        → ((f : List Deed) → IsSound f → Same d f → list_all P xs ≡ true → IsSound (after f (in_turn act f xs).deeds))
        → IsSound (after e ((act e x).deeds ++ (in_turn act (after e (act e x).deeds) xs).deeds))
    go false k f later = absurd cc
    go true k f later =
        let here : Ends e (act e x) = acts e s same_depot x k in
        subst (λ (y : List Deed). IsSound y) (sym (after_joined e (act e x).deeds (in_turn act (after e (act e x).deeds) xs).deeds))
        (later (after e (act e x).deeds) here.sound (same_then d e (after e (act e x).deeds) same_depot here.alike) f)

-- ---- integrate

opened_own : (o : Opening) (e : List Deed) → IsSome (opened (Open o ∷ e) o.client o.path)
opened_own o e = go (same o.client o.client) (same o.path o.path) (same-self o.client) (same-self o.path)
  where
    go : (a b : Bool) → a ≡ true → b ≡ true → IsSome (option_flatten (option_or (when (a && b) (Some o)) (latest (opening_said o.client o.path) e)))
    go true true h k = refl
    go true false h k = absurd cc
    go false b h k = absurd cc

module _ (d : List Deed) (sound : IsSound d) (caller : Caller) (saved : is_client d caller.client ≡ true) (change : Option ℕ)
    (free : named_change_refusal d caller change ≡ None) where
  typed : (path : List ℕ) (n : ℕ) → is_path path ≡ true → IsType (type_at d path n)
  typed path n is = go (revision d path n) (rev_type d sound path n is)
    where
      go : (o : Option Revision) → IfSome o (λ r. IsType (r.entry).file_type) → IsType (elim o [ None ↦ codes "text" | Some r ↦ (r.entry).file_type ])
      go None h = refl
      go (Some r) h = h

  module _ (e : List Deed) (s_sound : IsSound e) (same_depot : Same d e) (s : List ℕ) (s_is : is_path s ≡ true) where
    saved_there : is_client e caller.client ≡ true
    saved_there = sym (same_depot.clients caller.client) ∙ saved

    under : (p : List ℕ) (n : ℕ) → n ≤ head d p → n ≤ head e p
    under p n h = subst (λ (m : ℕ). n ≤ m) (same_depot.heads p) h

    into : IsOpenChange e caller.client (unwrap_or change 0)
    into = go (named_change_ok d caller change free)
      where
        go : IsOpenChange d caller.client (unwrap_or change 0) → IsOpenChange e caller.client (unwrap_or change 0)
        go (inl none) = inl none
        go (inr some) = inr (subst (λ p. IsSomeAnd p (λ x. x.client ≡ caller.client)) (same_depot.changes (unwrap_or change 0)) some)

    module _ (t : List ℕ) (t_is : is_path t ≡ true) (first last : ℕ) (low : 1 ≤ first) (run : first ≤ last) (high : last ≤ head d s) where
      abbrev new : Action → List ℕ → Option Source → Opening
      new action type source = opening d caller change action type t source

      keeps : (action : Action) → is_move action ≡ false → (type : List ℕ) → IsType type → (source : Option Source) → IfSome source (IsTaken e)
          → OpeningKeeps e (new action type source)
      keeps action still type type_is source taken =
          record { client = saved_there; base = under t (head d t) (le_self (head d t)); file_type = type_is; source = taken; moved = sym still }

      two : (is_path t && (is_path s && true)) ≡ true
      two = λ i. t_is i && (s_is i && true)

      integrated : (type : List ℕ) → IsType type → (row : Row)
          → Ends e (does (Open (new Integrate type None) ∷ Got (held caller t) (head d t) ∷ Owe (owing caller s t first last) ∷ []) row)
      integrated type type_is row = record {
        sound = all_sound e (Open (new Integrate type None) ∷ Got (held caller t) (head d t) ∷ Owe (owing caller s t first last) ∷ []) s_sound (
          opening_has t None None t_is tt tt,
          keeps Integrate refl type type_is None tt,
          (
            only (is_path t) t_is,
            ((λ have. saved_there), under t (head d t) (le_self (head d t))),
            (two, (saved_there, opened_own (new Integrate type None) e, low, run, under s last high), tt),
          ),
        )
            (into, (tt, (tt, tt)));
        alike = record { clients = λ c. refl; labels = λ l. refl; heads = λ p. refl; changes = λ n. refl };
      }

      paid_at_once : (action : Action) → is_move action ≡ false → (type : List ℕ) → IsType type → (source : Option Source) → IfSome source (λ x. is_path x.path ≡ true)
          → IfSome source (IsTaken e) → (how : How) (row : Row)
          → Ends e (does (Open (new action type source) ∷ Owe (owing caller s t first last) ∷ Paid (held caller t) s how ∷ []) row)
      paid_at_once action still type type_is source source_is taken how row = record {
        sound = all_sound e (Open (new action type source) ∷ Owe (owing caller s t first last) ∷ Paid (held caller t) s how ∷ []) s_sound (
          opening_has t None source t_is tt source_is,
          keeps action still type type_is source taken,
          (two, (saved_there, opened_own (new action type source) e, low, run, under s last high), (two, tt, tt)),
        )
            (into, (tt, (tt, tt)));
        alike = record { clients = λ c. refl; labels = λ l. refl; heads = λ p. refl; changes = λ n. refl };
      }

      live_ends : Ends e (integrate_live d caller change s t first last)
      live_ends = go (is_live_head d t) _ _
        where
          above : 1 ≤ last
          above = omega arith

          go : (b : Bool) (left right : Row)
              → Ends e (if b
              then does (Open (new Integrate (type_at d t (head d t)) None) ∷ Got (held caller t) (head d t) ∷ Owe (owing caller s t first last) ∷ []) left
              else does (Open (new Branch (type_at d s last) (Some (record { path = s; rev = last }))) ∷ Owe (owing caller s t first last)
              ∷ Paid (held caller t) s BranchFrom ∷ []) right)
          go true left right = integrated (type_at d t (head d t)) (typed t (head d t) t_is) left
          go false left right =
              paid_at_once Branch refl (type_at d s last) (typed s last s_is) (Some (record { path = s; rev = last })) s_is (above, under s last high) BranchFrom right

      deleted_ends : Ends e (integrate_deleted d caller change s t first last)
      deleted_ends = go (is_live_head d t) _
        where
          go : (b : Bool) (left : Row)
              → Ends e (if b
              then does (Open (new Delete (type_at d t (head d t)) None) ∷ Owe (owing caller s t first last) ∷ Paid (held caller t) s DeleteFrom ∷ []) left
              else refuses (AllIntegrated t))
          go true left = paid_at_once Delete refl (type_at d t (head d t)) (typed t (head d t) t_is) None tt tt DeleteFrom left
          go false left = record { sound = s_sound; alike = same_self e }

      either_ends : Ends e (if is_live_at d s last then integrate_live d caller change s t first last else integrate_deleted d caller change s t first last)
      either_ends = go (is_live_at d s last)
        where
          go : (b : Bool) → Ends e (if b then integrate_live d caller change s t first last else integrate_deleted d caller change s t first last)
          go true = live_ends
          go false = deleted_ends

    revs_end : (t : List ℕ) → is_path t ≡ true → (revs : List ℕ) → Rise 1 (head d s) revs → Ends e (integrate_revs d caller change s t revs)
    revs_end t t_is [] rise = record { sound = s_sound; alike = same_self e }
    revs_end t t_is (first ∷ revs) rise =
        let within = last_within first (head d s) revs rise.1 rise.2 in
        either_ends t t_is first (unwrap_or (last_or (Some first) revs) first) rise.0 within.0 within.1

    to_ends : (wanted : Wanted) (t : List ℕ) → is_path t ≡ true → Ends e (integrate_to d e caller change wanted s t)
    to_ends wanted t t_is = unless_ends e s_sound
        (right_refusal to_open d caller t ∷ refuse_if (not (is_some (shown d caller Head t))) (NotInView (printed t))
        ∷ refuse_if (is_some (opened e caller.client t)) (AlreadyOpen t)
        ∷ exclusive_refusal e t caller.client (new_type d s t (unwrap_or (last_or None (uncredited d caller wanted s t)) 0)) ∷ [])
        (integrate_revs d caller change s t (uncredited d caller wanted s t))
        (λ none. revs_end t t_is (uncredited d caller wanted s t)
        (rise_filter 1 (head d s) _ (in_range d caller s wanted) (rise_filter 1 (head d s) _ (range_with_len 1 (head d s)) (rise_range 1 (head d s) (head d s) (omega arith)))))

    file_ends : (from : FileArgument) (to : PatternArgument) → Ends e (integrate_file d caller change from to e s)
    file_ends from to = unless_ends e s_sound (right_refusal to_read d caller s ∷ [])
        (elim (chosen d caller s (from.spec).wanted) [ PassedOver ↦ nothing | At n ↦ integrate_chosen d e caller change from to s ])
        (λ none. go (chosen d caller s (from.spec).wanted))
      where
        aimed : (x : Option (List ℕ)) → IfSome x (λ t. is_path t ≡ true)
            → Ends e (elim x as (λ _. Step) [
              | None ↦ refuses (NotInView (printed (target_text d caller from to s)))
              | Some t ↦ integrate_to d e caller change (from.spec).wanted s t
            ])
        aimed None h = record { sound = s_sound; alike = same_self e }
        aimed (Some t) h = to_ends (from.spec).wanted t h

        go : (c : Choice) → Ends e (elim c as (λ _. Step) [ PassedOver ↦ nothing | At n ↦ integrate_chosen d e caller change from to s ])
        go PassedOver = record { sound = s_sound; alike = same_self e }
        go (At n) = aimed (target_at d caller to (target_text d caller from to s)) (target_is d caller to (target_text d caller from to s))

  all_sound_of : (from : FileArgument) (to : PatternArgument) (paths : List (List ℕ)) → list_all is_path paths ≡ true
      → IsSound (after d (integrate_all d caller change from to paths).deeds)
  all_sound_of from to [] all = sound
  all_sound_of from to (path ∷ paths) all =
      turns_sound d is_path (integrate_file d caller change from to) (λ e t same_depot x is. file_ends e t same_depot x is from to) d sound (same_self d) (path ∷ paths) all

pub integrate_sound : (d : List Deed) → IsSound d → (caller : Caller) → is_client d caller.client ≡ true → (change : Option ℕ) (from : FileArgument) (to : PatternArgument)
    → IsSound (after d (integrate d caller change from to).deeds)
integrate_sound d sound caller saved change from to =
    unless_sound d sound (named_change_refusal d caller change ∷ []) (within_files step) (λ none.
    within_sound d sound step (all_sound_of d sound caller saved change none.0 from to (named false d caller (submitted d) from)
    (all_filtered is_path (names false d caller from.spec) (submitted d) (submitted_are d sound.paths))))
  where
    step : Step
    step = integrate_all d caller change from to (named false d caller (submitted d) from)
