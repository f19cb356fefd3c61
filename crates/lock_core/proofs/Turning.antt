-- How a party of the code stays one of the machine by its turns.
use Rattle.std.proofs.Common.{◌≡◌, ℕ, true, false, List, [], ◌∷◌, ◌++◌, map, reverse, Option, Some, None, refl, sym, ap, subst, ◌∙◌, append-nil}
use Rattle.std.proofs.lemmas.List.{reverse-append}
use Rattle.std.specs.Option.{option_to_list}
use Rattle.std.specs.Prelude.{IsSome}
use Rattle.std.proofs.Common.{◌⊎◌, inl, inr, ◌+◌, ◌<◌, zero, suc, length, ◌↔◌, arith}
use Rattle.depot_rows.specs.depot_model.Tables.{needs_of}
use Rattle.depot_rows.specs.depot_model.declared.request.Request.{Request}
use Rattle.lock_machine.specs.Machine.{Commit, begun, moved, worked}
use Rattle.lock_machine.specs.Machine as model
use Rattle.lock_core.specs.Core.{AllProper, AllProperIn, all_items}
use Rattle.lock_core.specs.Parties.{IsFresh, AllFresh, AllTypedIn, AreTyped, IsShownBy, IsShownAs}
use Rattle.sound_requests.specs.Asked.{is_typed}
use Rattle.lock_machine.specs.Runs.{AllServed, AllServedIn}
use Rattle.command_needs.specs.Sets.{locks_in, need_in}
use Rattle.lock_core.specs.Works.{IsWorkShown, gathered}
use Rattle.lock_machine.specs.declared.stage.Stage.{Stage}
use Rattle.lock_machine.specs.declared.stage.Stage.TheVariants.{Gathering}
use Rattle.lock_core.specs.declared.work.Work.{Work}
use Rattle.lock_core.proofs.Working.{gathered_shown}
use Rattle.std.proofs.Common.{Global, Vec, take, drop}

-- where nothing came, nothing was there
pub none_left : (r : Option Work) (old new : ℕ) → r ≡ None → IsSome r ↔ (0 < old) → new + length (option_to_list r) ≡ old → new ≡ 0
none_left None old new none variant len = go (le_or_lt old)
  where
    le_or_lt : (n : ℕ) → (n ≡ 0) ⊎ (0 < n)
    le_or_lt zero = inl refl
    le_or_lt (suc n) = inr (omega arith)

    go : (old ≡ 0) ⊎ (0 < old) → new ≡ 0
    go (inl gone) = omega arith
    go (inr more) = absurd (let some : IsSome {T = Work} None = variant.1 more in let both : false ≡ true = some in cc)
none_left (Some w) old new none variant len = absurd cc

abbrev pub request_in : Work → Request
request_in w = w.request

-- ---- Begin

fresh_split : (front : List Work) (w : Work) → AllFresh (front ++ w ∷ []) → AllFresh front × IsFresh w
fresh_split [] w all = (tt, all.0)
fresh_split (x ∷ front) w all = let rest = fresh_split front w all.1 in ((all.0, rest.0), rest.1)

-- a command that is begun
begins : (order : List Commit) (w : Work) → IsFresh w → IsWorkShown order w (begun needs_of w.request)
begins order w fresh = record {
  request = refl;
  stage = fresh.stage;
  second = fresh.second;
  set = fresh.set;
  seen = ap (λ n. map (need_in w.needs) (take n (locks_in w.needs))) (sym fresh.done);
  rest = sym fresh.set ∙ ap (λ n. map (need_in w.needs) (drop n (locks_in w.needs))) (sym fresh.done);
  stale = λ g. fresh.stale;
}

module _ (order : List Commit) where
  pub begun_as : (front : List Work) (next : Option Work) (left : List Request) → (next ≡ None → front ≡ []) → AllFresh (front ++ option_to_list next) → map request_in (reverse (front ++ option_to_list next)) ≡ left
      → IsShownAs order front next (moved needs_of order left None)
  begun_as front None [] empty fresh is = record {
    fresh = let P : List Work → Type 0 = AllFresh in subst P (append-nil front) fresh;
    left_is = ap (λ (ws : List Work). map request_in (reverse ws)) (sym (append-nil front)) ∙ is;
    work_is = tt;
  }
  begun_as front None (request ∷ left) empty fresh is = absurd (let none : [] ≡ request ∷ left = ap (λ (ws : List Work). map request_in (reverse (ws ++ []))) (sym (empty refl)) ∙ is in cc)
  begun_as front (Some w) [] empty fresh is = absurd (let some : map request_in (w ∷ reverse front) ≡ [] = ap (map request_in) (sym (reverse-append front (w ∷ []))) ∙ is in cc)
  begun_as front (Some w) (request ∷ left) empty fresh is =
      let whole : request_in w ∷ map request_in (reverse front) ≡ request ∷ left = ap (map request_in) (sym (reverse-append front (w ∷ []))) ∙ is in
      let parts = fresh_split front w fresh in
      let its : w.request ≡ request = cc in
      let P : Request → Type 0 = λ r. IsWorkShown order w (begun needs_of r) in
      record {
        fresh = parts.0;
        left_is = cc;
        work_is = subst P its (begins order w parts.1);
      }

  -- ---- the other events

  module _ (left : List Work) (w : Work) (q : model.Party) (h : IsShownAs order left (Some w) q) where
    -- the machine's command at hand
    with_work : (work : Option model.Work) → q.work ≡ work → (P : model.Party → Type 0) → ((v : model.Work) → q.work ≡ Some v → IsWorkShown order w v → P q) → P q
    with_work None is P f = absurd (let Q : Option model.Work → Type 0 = IsShownBy order (Some w) in subst Q is h.work_is)
    with_work (Some v) is P f = f v is (let Q : Option model.Work → Type 0 = IsShownBy order (Some w) in subst Q is h.work_is)

  pub gathered_as : (left : List Work) (w : Work) → w.stage ≡ Gathering → (q : model.Party) → IsShownAs order left (Some w) q
      → IsShownAs order left (Some (gathered w)) (moved needs_of order q.left q.work)
  gathered_as left w stage q h = with_work left w q h q.work refl (λ (x : model.Party). IsShownAs order left (Some (gathered w)) (moved needs_of order x.left x.work)) (λ v is shown.
      let gathers : v.stage ≡ Gathering = sym shown.stage ∙ stage in
      let P : Option model.Work → Type 0 = λ work. IsShownAs order left (Some (gathered w)) (moved needs_of order q.left work) in
      let Q : Stage → Type 0 = λ st. IsShownAs order left (Some (gathered w)) (record { left = q.left; work = worked needs_of order v st }) in
      subst P (sym is) (subst Q (sym gathers) (record { fresh = h.fresh; left_is = h.left_is; work_is = gathered_shown order w v shown gathers })))

  pub begun_by : (old : List Work) (work : Option Work) (front : List Work) (next : Option Work) (q : model.Party) → work ≡ None → (next ≡ None → front ≡ []) → old ≡ front ++ option_to_list next
      → IsShownAs order old work q → IsShownAs order front next (moved needs_of order q.left q.work)
  begun_by old work front next q none empty is h = go q.work refl
    where
      go : (its : Option model.Work) → q.work ≡ its → IsShownAs order front next (moved needs_of order q.left q.work)
      go None same =
          let P : Option model.Work → Type 0 = λ w. IsShownAs order front next (moved needs_of order q.left w) in
          let F : List Work → Type 0 = AllFresh in
          subst P (sym same) (begun_as front next q.left empty (subst F is h.fresh) (ap (λ (ws : List Work). map request_in (reverse ws)) (sym is) ∙ h.left_is))
      go (Some v) same = absurd (let P : Option Work → Option model.Work → Type 0 = IsShownBy order in
          let one : IsShownBy order None q.work = (let Q : Option Work → Type 0 = λ w. IsShownBy order w q.work in subst Q none h.work_is) in
          let Q : Option model.Work → Type 0 = IsShownBy order None in subst Q same one)

-- ---- before the first turn

pub fresh_push : (works : List Work) (w : Work) → AllFresh works → IsFresh w → AllFresh (works ++ w ∷ [])
fresh_push [] w all one = (one, tt)
fresh_push (x ∷ works) w all one = (all.0, fresh_push works w all.1 one)

pub fresh_turned : (works : List Work) → AllFresh works → AllFresh (reverse works)
fresh_turned [] all = tt
fresh_turned (w ∷ works) all =
    let P : List Work → Type 0 = AllFresh in
    subst P (sym (reverse-append (w ∷ []) works)) (fresh_push (reverse works) w (fresh_turned works all.1) all.0)

pub typed_push : (requests : List Request) (request : Request) → AreTyped requests → is_typed request ≡ true → AreTyped (requests ++ request ∷ [])
typed_push [] request all one = (one, tt)
typed_push (x ∷ requests) request all one = (all.0, typed_push requests request all.1 one)

pub typed_more : (yielded : List (Vec Request Global)) (v : Vec Request Global) → AllTypedIn (all_items yielded) → AreTyped v.items → AllTypedIn (all_items (yielded ++ v ∷ []))
typed_more [] v all one = (one, tt)
typed_more (x ∷ yielded) v all one = (all.0, typed_more yielded v all.1 one)

-- proper requests whose parts are of their types are those that are served
served_all : (requests : List Request) → AllProper requests → AreTyped requests → AllServed requests
served_all [] proper typed = tt
served_all (request ∷ requests) proper typed = (record { proper = proper.0; typed = typed.0 }, served_all requests proper.1 typed.1)

pub served_in : (requests : List (List Request)) → AllProperIn requests → AllTypedIn requests → AllServedIn requests
served_in [] proper typed = tt
served_in (left ∷ requests) proper typed = (served_all left proper.0 typed.0, served_in requests proper.1 typed.1)
