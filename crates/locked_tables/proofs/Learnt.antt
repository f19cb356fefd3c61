-- Held tables that learn the whole order one after another.
use Rattle.std.proofs.Common.{◌≡◌, ◌≤◌, ℕ, zero, suc, List, [], ◌∷◌, length, refl, sym, subst, arith, slice_index_or, slice_set}
use Rattle.locked_tables.specs.Held.{HasLearnt, HaveLearntFrom}
use Rattle.locked_tables.specs.declared.held_table.HeldTable.{HeldTable}
use Rattle.locked_tables.specs.declared.taken.Taken.{Taken}

module _ {N : Type 0} (order : List Taken) where
  -- none is left from the end on
  pub learnt_end : (from : ℕ) (held : List (HeldTable N)) → length held ≤ from → HaveLearntFrom from order held held
  learnt_end zero [] h = tt
  learnt_end zero (x ∷ held) h = absurd (omega (arith, h))
  learnt_end (suc from) [] h = tt
  learnt_end (suc from) (x ∷ held) h = (refl, learnt_end from held (omega (arith, h)))

  -- one learns, and those behind it
  pub learnt_step : (from : ℕ) (olds news : List (HeldTable N)) (old new : HeldTable N) → old ≡ slice_index_or olds from old → HasLearnt order old new → HaveLearntFrom (suc from) order (slice_set olds from new) news → HaveLearntFrom from order olds news
  learnt_step zero [] [] old new at one h = tt
  learnt_step zero [] (n ∷ news) old new at one h = h
  learnt_step zero (o ∷ olds) [] old new at one h = h
  learnt_step zero (o ∷ olds) (n ∷ news) old new at one h = (subst (λ (x : HeldTable N). HasLearnt order x n) at (subst (HasLearnt order old) (sym h.0) one), h.1)
  learnt_step (suc from) [] [] old new at one h = tt
  learnt_step (suc from) [] (n ∷ news) old new at one h = h
  learnt_step (suc from) (o ∷ olds) [] old new at one h = h
  learnt_step (suc from) (o ∷ olds) (n ∷ news) old new at one h = (h.0, learnt_step from olds news old new at one h.1)
