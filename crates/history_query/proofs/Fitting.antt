-- Sets of directories by their printed texts: what is put into them one after another are the directories in path order.
use Rattle.std.proofs.Common.{◌≡◌, ℕ, Bool, true, false, List, [], ◌∷◌, ◌++◌, refl, sym, ap, subst, ◌∙◌, map}
use Rattle.std.specs.Prelude.{◌||◌, filter, flat_map, if◌then◌else◌}
use Rattle.std.specs.List.{list_any}
use Rattle.std.specs.Ordering.{is_eq, is_lt, match_ordering, ordering_reverse}
use Rattle.std.specs.declared.cmp.Ordering.{Ordering}
use Rattle.std.specs.declared.cmp.Ordering.TheVariants.{Less, Equal, Greater}
use Rattle.std.proofs.lemmas.Bool.{false≢true}
use Rattle.depot_rows.specs.depot_path.Bytes.{same}
use Rattle.depot_rows.specs.depot_path.Fit.{fits}
use Rattle.depot_rows.specs.depot_path.Order.{path_cmp}
use Rattle.depot_rows.specs.depot_path.OrderLaws.{paths_ties, paths_total}
use Rattle.depot_rows.specs.depot_path.Path.{printed}
use Rattle.depot_rows.specs.depot_path.declared.piece.Piece.{Piece}
use Rattle.depot_rows.specs.depot_model.Sorted.{all_inserted, path_inserted}
use Rattle.depot_rows.proofs.Keys.{same-is}
use Rattle.history_query.specs.Directories.{all_fitting, fitting_inserted, text_inserted}

-- where a path is inserted, by the order of the two
abbrev inserted_by : Ordering → List ℕ → List ℕ → List (List ℕ) → List (List ℕ)
inserted_by o p q qs = match_ordering o (p ∷ q ∷ qs) (q ∷ qs) (q ∷ path_inserted p qs)

same_by : (p q : List ℕ) → same p q ≡ is_eq (path_cmp p q)
same_by p q = paths_ties p q

inserted_is : (p q : List ℕ) (qs : List (List ℕ)) → path_inserted p (q ∷ qs) ≡ inserted_by (path_cmp p q) p q qs
inserted_is p q qs =
    (λ i. if same_by p q i then q ∷ qs else (if is_lt (path_cmp p q) then p ∷ q ∷ qs else q ∷ path_inserted p qs)) ∙ go (path_cmp p q)
  where
    go : (o : Ordering) → (if is_eq o then q ∷ qs else (if is_lt o then p ∷ q ∷ qs else q ∷ path_inserted p qs)) ≡ match_ordering o (p ∷ q ∷ qs) (q ∷ qs) (q ∷ path_inserted p qs)
    go Less = refl
    go Equal = refl
    go Greater = refl

text_in : (p : List ℕ) (ps : List (List ℕ)) → text_inserted (printed p) (map printed ps) ≡ map printed (path_inserted p ps)
text_in p [] = refl
text_in p (q ∷ qs) =
    go (path_cmp p q) (text_in p qs) ∙ ap (map printed) (sym (inserted_is p q qs))
  where
    go : (o : Ordering) → text_inserted (printed p) (map printed qs) ≡ map printed (path_inserted p qs)
        → match_ordering o (printed p ∷ printed q ∷ map printed qs) (printed q ∷ map printed qs) (printed q ∷ text_inserted (printed p) (map printed qs))
        ≡ map printed (match_ordering o (p ∷ q ∷ qs) (q ∷ qs) (q ∷ path_inserted p qs))
    go Less more = refl
    go Equal more = refl
    go Greater more = ap (λ (l : List (List ℕ)). printed q ∷ l) more

-- ---- rising lists

abbrev AllAfter : List ℕ → List (List ℕ) → Type 0
AllAfter p [] = Unit {0}
AllAfter p (q ∷ qs) = (path_cmp p q ≡ Less) × AllAfter p qs

abbrev Rises : List (List ℕ) → Type 0
Rises [] = Unit {0}
Rises (p ∷ ps) = AllAfter p ps × Rises ps

turned : (p q : List ℕ) → path_cmp p q ≡ Greater → path_cmp q p ≡ Less
turned p q e = paths_total.antisymm q p ∙ ap ordering_reverse e

equal_is : (p q : List ℕ) → path_cmp p q ≡ Equal → p ≡ q
equal_is p q e = same-is p q (same_by p q ∙ ap is_eq e)

after_more : (p q : List ℕ) (qs : List (List ℕ)) → path_cmp p q ≡ Less → AllAfter q qs → AllAfter p qs
after_more p q [] e high = tt
after_more p q (x ∷ xs) e high = (paths_total.trans p q x e high.0, after_more p q xs e high.1)

after_inserted : (k p : List ℕ) (ps : List (List ℕ)) → path_cmp k p ≡ Less → AllAfter k ps → AllAfter k (path_inserted p ps)
after_inserted k p [] e high = (e, tt)
after_inserted k p (q ∷ qs) e high = subst (AllAfter k) (sym (inserted_is p q qs)) (go (path_cmp p q) (after_inserted k p qs e high.1))
  where
    go : (o : Ordering) → AllAfter k (path_inserted p qs) → AllAfter k (match_ordering o (p ∷ q ∷ qs) (q ∷ qs) (q ∷ path_inserted p qs))
    go Less more = (e, high)
    go Equal more = high
    go Greater more = (high.0, more)

inserted_rises : (p : List ℕ) (ps : List (List ℕ)) → Rises ps → Rises (path_inserted p ps)
inserted_rises p [] up = (tt, tt)
inserted_rises p (q ∷ qs) up = subst Rises (sym (inserted_is p q qs)) (go (path_cmp p q) refl (inserted_rises p qs up.1))
  where
    go : (o : Ordering) → path_cmp p q ≡ o → Rises (path_inserted p qs) → Rises (match_ordering o (p ∷ q ∷ qs) (q ∷ qs) (q ∷ path_inserted p qs))
    go Less e more = ((e, after_more p q qs e up.0), up)
    go Equal e more = up
    go Greater e more = (after_inserted q p qs (turned p q e) up.0, more)

all_rise : (ps : List (List ℕ)) → Rises (all_inserted ps [])
all_rise [] = tt
all_rise (p ∷ ps) = inserted_rises p (all_inserted ps []) (all_rise ps)

-- what is before all is put first
put_first : (p : List ℕ) (ps : List (List ℕ)) → AllAfter p ps → path_inserted p ps ≡ p ∷ ps
put_first p [] high = refl
put_first p (q ∷ qs) high = inserted_is p q qs ∙ ap (λ (o : Ordering). inserted_by o p q qs) high.0

-- where an equal one is it isn't put again, and behind a lesser one it is put later
put_there : (p q : List ℕ) (qs : List (List ℕ)) → path_cmp p q ≡ Equal → path_inserted p (q ∷ qs) ≡ q ∷ qs
put_there p q qs e = inserted_is p q qs ∙ ap (λ (o : Ordering). inserted_by o p q qs) e

put_behind : (p q : List ℕ) (qs : List (List ℕ)) → path_cmp p q ≡ Greater → path_inserted p (q ∷ qs) ≡ q ∷ path_inserted p qs
put_behind p q qs e = inserted_is p q qs ∙ ap (λ (o : Ordering). inserted_by o p q qs) e

module _ (f : List ℕ → Bool) where
  after_kept : (p : List ℕ) (ps : List (List ℕ)) → AllAfter p ps → AllAfter p (filter f ps)
  after_kept p [] high = tt
  after_kept p (q ∷ qs) high = go (f q) (after_kept p qs high.1)
    where
      go : (b : Bool) → AllAfter p (filter f qs) → AllAfter p (if b then q ∷ filter f qs else filter f qs)
      go true more = (high.0, more)
      go false more = more

  abbrev kept_in : Bool → List ℕ → List (List ℕ) → List (List ℕ)
  kept_in b p ps = if b then path_inserted p ps else ps

  -- what is kept after a path was inserted
  kept_inserted : (p : List ℕ) (ps : List (List ℕ)) → Rises ps → filter f (path_inserted p ps) ≡ kept_in (f p) p (filter f ps)
  kept_inserted p [] up = go (f p)
    where
      go : (b : Bool) → (if b then p ∷ [] else []) ≡ kept_in b p []
      go true = refl
      go false = refl
  kept_inserted p (q ∷ qs) up =
      ap (filter f) (inserted_is p q qs) ∙ go (path_cmp p q) refl (kept_inserted p qs up.1)
    where
      before : (a : Bool) (kept : List (List ℕ)) → AllAfter p kept → (if a then p ∷ kept else kept) ≡ kept_in a p kept
      before true kept high = sym (put_first p kept high)
      before false kept high = refl

      there : (a b : Bool) (kept : List (List ℕ)) → a ≡ b → path_cmp p q ≡ Equal → (if b then q ∷ kept else kept) ≡ kept_in a p (if b then q ∷ kept else kept)
      there true true kept one e = sym (put_there p q kept e)
      there false b kept one e = refl
      there true false kept one e = absurd cc

      behind : (a b : Bool) (kept more : List (List ℕ)) → more ≡ kept_in a p kept → path_cmp p q ≡ Greater → (if b then q ∷ more else more) ≡ kept_in a p (if b then q ∷ kept else kept)
      behind true true kept more is e = ap (λ (l : List (List ℕ)). q ∷ l) is ∙ sym (put_behind p q kept e)
      behind false true kept more is e = ap (λ (l : List (List ℕ)). q ∷ l) is
      behind a false kept more is e = is

      go : (o : Ordering) → path_cmp p q ≡ o → filter f (path_inserted p qs) ≡ kept_in (f p) p (filter f qs)
          → filter f (match_ordering o (p ∷ q ∷ qs) (q ∷ qs) (q ∷ path_inserted p qs)) ≡ kept_in (f p) p (filter f (q ∷ qs))
      go Less e more = before (f p) (filter f (q ∷ qs)) (after_kept p (q ∷ qs) (e, after_more p q qs e up.0))
      go Equal e more = there (f p) (f q) (filter f qs) (ap f (equal_is p q e)) e
      go Greater e more = behind (f p) (f q) (filter f qs) (filter f (path_inserted p qs)) more e

  kept_all : (ps : List (List ℕ)) → all_inserted (filter f ps) [] ≡ filter f (all_inserted ps [])
  kept_all [] = refl
  kept_all (p ∷ ps) = go (f p) refl (kept_all ps) ∙ sym (kept_inserted p (all_inserted ps []) (all_rise ps))
    where
      go : (b : Bool) → f p ≡ b → all_inserted (filter f ps) [] ≡ filter f (all_inserted ps [])
          → all_inserted (if b then p ∷ filter f ps else filter f ps) [] ≡ kept_in (f p) p (filter f (all_inserted ps []))
      go true e more = ap (path_inserted p) more ∙ ap (λ (c : Bool). kept_in c p (filter f (all_inserted ps []))) (sym e)
      go false e more = more ∙ ap (λ (c : Bool). kept_in c p (filter f (all_inserted ps []))) (sym e)

-- ---- the directories that fit

module _ (pattern : List Piece) where
  fitting_kept : (ds : List (List ℕ)) → all_fitting pattern ds [] ≡ map printed (all_inserted (filter (fits pattern) ds) [])
  fitting_kept [] = refl
  fitting_kept (p ∷ ds) = go (fits pattern p) (fitting_kept ds)
    where
      go : (b : Bool) → all_fitting pattern ds [] ≡ map printed (all_inserted (filter (fits pattern) ds) [])
          → (if b then text_inserted (printed p) (all_fitting pattern ds []) else all_fitting pattern ds [])
          ≡ map printed (all_inserted (if b then p ∷ filter (fits pattern) ds else filter (fits pattern) ds) [])
      go true more = ap (text_inserted (printed p)) more ∙ text_in p (all_inserted (filter (fits pattern) ds) [])
      go false more = more

  -- they are those that fit among all
  pub all_fit : (ds : List (List ℕ)) → all_fitting pattern ds [] ≡ map printed (filter (fits pattern) (all_inserted ds []))
  all_fit ds = fitting_kept ds ∙ ap (map printed) (kept_all (fits pattern) ds)

  pub fitting_on : (ds more texts : List (List ℕ)) → all_fitting pattern (ds ++ more) texts ≡ all_fitting pattern ds (all_fitting pattern more texts)
  fitting_on [] more texts = refl
  fitting_on (p ∷ ds) more texts = ap (fitting_inserted pattern p) (fitting_on ds more texts)

  pub none_fits : (ds texts : List (List ℕ)) → list_any (fits pattern) ds ≡ false → all_fitting pattern ds texts ≡ texts
  none_fits [] texts e = refl
  none_fits (p ∷ ds) texts e = go (fits pattern p) e (λ h. none_fits ds texts h)
    where
      go : (b : Bool) → (b || list_any (fits pattern) ds) ≡ false → (list_any (fits pattern) ds ≡ false → all_fitting pattern ds texts ≡ texts)
          → (if b then text_inserted (printed p) (all_fitting pattern ds texts) else all_fitting pattern ds texts) ≡ texts
      go true h more = absurd (false≢true (sym h))
      go false h more = more h

  -- those of the last of some
  pub last_fits : (g : List ℕ → List (List ℕ)) (before : List (List ℕ)) (p : List ℕ) (texts : List (List ℕ))
      → all_fitting pattern (flat_map g (before ++ p ∷ [])) texts ≡ all_fitting pattern (flat_map g before) (all_fitting pattern (g p) texts)
  last_fits g [] p texts = fitting_on (g p) [] texts
  last_fits g (x ∷ before) p texts =
      fitting_on (g x) (flat_map g (before ++ p ∷ [])) texts
      ∙ ap (all_fitting pattern (g x)) (last_fits g before p texts)
      ∙ sym (fitting_on (g x) (flat_map g before) (all_fitting pattern (g p) texts))
