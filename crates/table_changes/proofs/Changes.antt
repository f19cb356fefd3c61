-- Changes of all tables, one after another.
use Rattle.std.proofs.Common.{◌≡◌, ℕ, ◌+◌, ◌<◌, ◌≤◌, List, ◌∷◌, length, drop, get_or, sym, ap, subst, ◌∙◌}
use Rattle.std.proofs.lemmas.List.{drop_more, drop_all}
use Rattle.table_store.specs.db_records.declared.change.Change.{Change}
use Rattle.table_changes.specs.Changed.{AllRows, AllFitIn, FitsIn, changed_by, changed_in}

module _ (changes : List Change) (i : ℕ) (change : Change) (h : i < length changes) (is : change ≡ get_or changes i change) where
  first_is : drop i changes ≡ change ∷ drop (i + 1) changes
  first_is = drop_more changes i change h ∙ ap (λ (c : Change). c ∷ drop (i + 1) changes) (sym is)

  -- the next change fits, and the others after it
  pub fit_more : (rows : AllRows) → AllFitIn rows (drop i changes) → FitsIn rows change × AllFitIn (changed_in rows change) (drop (i + 1) changes)
  fit_more rows fit = let P : List Change → Type 0 = AllFitIn rows in subst P first_is fit

  pub changed_more : (rows : AllRows) → changed_by rows (drop i changes) ≡ changed_by (changed_in rows change) (drop (i + 1) changes)
  changed_more rows = ap (changed_by rows) first_is

-- no change is left
pub changed_all : (changes : List Change) (i : ℕ) → length changes ≤ i → (rows : AllRows) → changed_by rows (drop i changes) ≡ rows
changed_all changes i le rows = ap (changed_by rows) (drop_all i changes le)
