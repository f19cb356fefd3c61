-- How the code's command at hand stays one of the machine's as it goes through its set.
use Rattle.std.proofs.Common.{◌≡◌, ℕ, zero, suc, ◌+◌, Bool, true, false, cond, not, List, [], ◌∷◌, ◌++◌, length, map, take, drop, Some, None, refl, sym, ap, subst, ◌∙◌, inl, inr, arith}
use Rattle.std.specs.Prelude.{◌&&◌, ◌||◌, is_some, slice_get}
use Rattle.std.specs.List.{list_any}
use Rattle.std.proofs.lemmas.List.{drop_all, map-append}
use Rattle.std.proofs.lemmas.List.Folds.{list_any-append}
use Rattle.std.proofs.lemmas.Option.{slice_get_cases}
use Rattle.depot_rows.specs.depot_model.Tables as sets
use Rattle.depot_rows.specs.depot_model.Tables.{needs_of}
use Rattle.depot_rows.specs.depot_model.declared.lock.LockId.{LockId}
use Rattle.lock_machine.specs.Machine.{Seen, Commit, is_owned, is_touched, is_stale}
use Rattle.lock_machine.specs.Machine as model
use Rattle.lock_machine.specs.declared.stage.Stage.TheVariants.{Gathering, Judged}
use Rattle.lock_machine.proofs.Orderly.{changes_lock}
use Rattle.lock_machine.proofs.Places.{some_is}
use Rattle.command_needs.specs.Sets.{locks_in, need_in}
use Rattle.lock_core.specs.Works.{IsWorkShown, gathered}
use Rattle.lock_core.specs.declared.work.Work.{Work}

-- ---- the place of a set at which it is

drop_at : (xs : List LockId) (n : ℕ) (x : LockId) → slice_get xs n ≡ Some x → drop n xs ≡ x ∷ drop (suc n) xs
drop_at [] n x e = absurd cc
drop_at (y ∷ xs) zero x e = ap (λ (z : LockId). z ∷ xs) (some_is e)
drop_at (y ∷ xs) (suc n) x e = drop_at xs n x e

take_at : (xs : List LockId) (n : ℕ) (x : LockId) → slice_get xs n ≡ Some x → take (suc n) xs ≡ take n xs ++ x ∷ []
take_at [] n x e = absurd cc
take_at (y ∷ xs) zero x e = ap (λ (z : LockId). z ∷ []) (some_is e)
take_at (y ∷ xs) (suc n) x e = ap (λ (zs : List LockId). y ∷ zs) (take_at xs n x e)

drop_past : (xs : List LockId) (n : ℕ) → slice_get xs n ≡ None → drop n xs ≡ []
drop_past [] zero e = refl
drop_past [] (suc n) e = refl
drop_past (y ∷ xs) zero e = absurd cc
drop_past (y ∷ xs) (suc n) e = drop_past xs n e

next_is : (n : ℕ) → n + 1 ≡ suc n
next_is n = omega arith

-- what is seen just now isn't stale
new_fresh : (order : List Commit) (second : Bool) (need : sets.Need) → is_stale order second (record { need = need; places = length order }) ≡ false
new_fresh order second need = go (not (is_owned second (record { need = need; places = length order })))
  where
    go : (b : Bool) → (b && is_touched order (record { need = need; places = length order })) ≡ false
    go true = ap (list_any (changes_lock need.lock)) (drop_all (length order) order (omega arith))
    go false = refl

module _ (order : List Commit) (w : Work) (v : model.Work) (h : IsWorkShown order w v) (gathers : v.stage ≡ Gathering) where
  abbrev xs : List LockId
  xs = locks_in w.needs

  abbrev need_of : LockId → sets.Need
  need_of = need_in w.needs

  -- ---- one more lock

  took_seen : (lock : LockId) (rest : List sets.Need) → slice_get xs w.done ≡ Some lock → v.rest ≡ need_of lock ∷ rest
      → IsWorkShown order (record w { done = suc w.done }) (model.gathered needs_of order v (need_of lock ∷ rest))
  took_seen lock rest at is = record {
    request = h.request;
    stage = h.stage;
    second = h.second;
    set = h.set;
    seen =
        map-append (λ (s : Seen). s.need) v.seen (record { need = need_of lock; places = length order } ∷ [])
        ∙ (ap (λ (ns : List sets.Need). ns ++ need_of lock ∷ []) h.seen
        ∙ (sym (map-append need_of (take w.done xs) (lock ∷ [])) ∙ ap (map need_of) (sym (take_at xs w.done lock at))));
    rest = let whole : need_of lock ∷ rest ≡ need_of lock ∷ map need_of (drop (suc w.done) xs) = sym is ∙ (h.rest ∙ ap (map need_of) (drop_at xs w.done lock at)) in tail_is whole;
    stale = λ g.
        h.stale gathers
        ∙ sym (list_any-append (is_stale order v.second) v.seen (record { need = need_of lock; places = length order } ∷ [])
        ∙ (ap (λ b. list_any (is_stale order v.second) v.seen || (b || false)) (new_fresh order v.second (need_of lock)) ∙ nothing_more (list_any (is_stale order v.second) v.seen)));
  }
    where
      tail_is : {x y : sets.Need} {ys zs : List sets.Need} → x ∷ ys ≡ y ∷ zs → ys ≡ zs
      tail_is e = cc

      nothing_more : (b : Bool) → (b || false) ≡ b
      nothing_more true = refl
      nothing_more false = refl

  took : (lock : LockId) → slice_get xs w.done ≡ Some lock → IsWorkShown order (record w { done = w.done + 1 }) (model.gathered needs_of order v v.rest)
  took lock at =
      let rest_is : v.rest ≡ need_of lock ∷ map need_of (drop (suc w.done) xs) = h.rest ∙ ap (map need_of) (drop_at xs w.done lock at) in
      let P : List sets.Need → Type 0 = λ r. IsWorkShown order (record w { done = w.done + 1 }) (model.gathered needs_of order v r) in
      let Q : ℕ → Type 0 = λ n. IsWorkShown order (record w { done = n }) (model.gathered needs_of order v (need_of lock ∷ map need_of (drop (suc w.done) xs))) in
      subst P (sym rest_is) (subst Q (sym (next_is w.done)) (took_seen lock (map need_of (drop (suc w.done) xs)) at rest_is))

  -- ---- or else it judges

  abbrev on_stale : Bool → model.Work
  on_stale b = cond b (record { request = v.request; stage = Gathering; second = true; seen = []; rest = needs_of v.request }) (record v { stage = Judged })

  abbrev judged : Bool → Work
  judged b = cond b (record w { second = true; stale = false; done = 0 }) (record w { stage = Judged })

  judges : (b : Bool) → IsWorkShown order (judged b) (on_stale b)
  judges true = record { request = h.request; stage = h.stage ∙ gathers; second = refl; set = h.set; seen = refl; rest = sym h.set; stale = λ g. refl }
  judges false = record { request = h.request; stage = refl; second = h.second; set = h.set; seen = h.seen; rest = h.rest; stale = λ g. absurd cc }

  judged_so : slice_get xs w.done ≡ None → IsWorkShown order (judged w.stale) (model.gathered needs_of order v v.rest)
  judged_so past =
      let rest_is : v.rest ≡ [] = h.rest ∙ ap (map need_of) (drop_past xs w.done past) in
      let P : List sets.Need → Type 0 = λ r. IsWorkShown order (judged w.stale) (model.gathered needs_of order v r) in
      let R : Bool → Type 0 = λ b. IsWorkShown order (judged w.stale) (on_stale b) in
      subst P (sym rest_is) (subst R (h.stale gathers) (judges w.stale))

  -- what becomes of it is what becomes of the machine's
  pub gathered_shown : IsWorkShown order (gathered w) (model.gathered needs_of order v v.rest)
  gathered_shown =
      let P : Bool → Type 0 = λ b. IsWorkShown order (cond b (record w { done = w.done + 1 }) (judged w.stale)) (model.gathered needs_of order v v.rest) in
      elim (slice_get_cases xs w.done).1 [
        | inl there ↦ subst P (sym (ap is_some there.2)) (took there.0 there.2)
        | inr past ↦ subst P (sym (ap is_some past.1)) (judged_so past.1)
      ]
