-- Held tables that get the versions that are to follow one after another.
use Rattle.std.proofs.Common.{◌≡◌, ◌≤◌, ℕ, zero, suc, List, [], ◌∷◌, length, refl, sym, subst, arith, slice_index_or, slice_set}
use Rattle.depot_model.specs.db_records.declared.change.Change.{Change}
use Rattle.locked_tables.specs.declared.held_table.HeldTable.{HeldTable}
use Rattle.table_changes.specs.Changed.{AllRows}
use Rattle.table_locks.specs.Prepared.{FollowFrom, Follows}

module _ {N : Type 0} (after : AllRows) (changes : List Change) where
  -- none is left from the end on
  pub follow_end : (from : ℕ) (held : List (HeldTable N)) → length held ≤ from → FollowFrom from after changes held held
  follow_end zero [] h = tt
  follow_end zero (x ∷ held) h = absurd (omega (arith, h))
  follow_end (suc from) [] h = tt
  follow_end (suc from) (x ∷ held) h = (refl, follow_end from held (omega (arith, h)))

  -- one gets it, and those behind it
  pub follow_step : (from : ℕ) (olds news : List (HeldTable N)) (old new : HeldTable N) → old ≡ slice_index_or olds from old → Follows after changes old new
      → FollowFrom (suc from) after changes (slice_set olds from new) news → FollowFrom from after changes olds news
  follow_step zero [] [] old new at one h = tt
  follow_step zero [] (n ∷ news) old new at one h = h
  follow_step zero (o ∷ olds) [] old new at one h = h
  follow_step zero (o ∷ olds) (n ∷ news) old new at one h = (subst (λ (x : HeldTable N). Follows after changes x n) at (subst (Follows after changes old) (sym h.0) one), h.1)
  follow_step (suc from) [] [] old new at one h = tt
  follow_step (suc from) [] (n ∷ news) old new at one h = h
  follow_step (suc from) (o ∷ olds) [] old new at one h = h
  follow_step (suc from) (o ∷ olds) (n ∷ news) old new at one h = (h.0, follow_step from olds news old new at one h.1)
