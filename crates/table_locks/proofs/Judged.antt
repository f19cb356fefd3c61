-- Whether one of the tables that were looked at was touched.
use Rattle.std.proofs.Common.{◌≡◌, ◌||◌, Bool, false, List, [], ◌∷◌, ◌++◌, ◌∙◌}
use Rattle.std.specs.List.{list_any}
use Rattle.std.proofs.lemmas.List.Folds.{list_any-append}

module _ {X : Type 0} (test : X → Bool) (before : List X) (x : X) where
  -- none does, where none of those before did, and this one doesn't
  pub none_passes : list_any test before ≡ false → test x ≡ false → list_any test (before ++ x ∷ []) ≡ false
  none_passes none fails = list_any-append test before (x ∷ []) ∙ (λ i. none i || (fails i || false))
