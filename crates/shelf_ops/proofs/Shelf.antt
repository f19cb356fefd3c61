-- Whether a change keeps files that the caller may list.
use Rattle.std.proofs.Common.{◌≡◌, ◌≤◌, ℕ, Bool, true, false, List, [], ◌∷◌, length, Some, None, refl, sym, ap, ◌∙◌, arith}
use Rattle.std.specs.Prelude.{◌==◌, ◌↔◌, IsTrue}
use Rattle.std.proofs.lemmas.Bool.{false≢true}
use Rattle.std.proofs.lemmas.Bool.Decides.{nat_tests}
use Rattle.depot_rows.specs.depot_model.declared.refusal.Refusal.TheVariants.{NoShelf}
use Rattle.depot_rows.specs.depot_model.declared.request.Caller.{Caller}
use Rattle.depot_rows.specs.depot_model.Deeds.{Deed}
use Rattle.depot_rows.specs.depot_model.Step.{refuse_if}
use Rattle.depot_rows.specs.depot_model.Steps.Shelving.{listable, shelf_refusal}

not_zero : (m : ℕ) → 1 ≤ m → (m == 0) ≡ false
not_zero m h = grind (arith, nat_tests)

module _ (d : List Deed) (caller : Caller) (n : ℕ) (files : List (List ℕ)) (are : files ≡ listable d caller n) (none : Bool) (is : IsTrue none ↔ (files ≡ [])) where
  pub has_none : none ≡ true → shelf_refusal d caller n ≡ Some (NoShelf n)
  has_none e = ap (λ (l : List (List ℕ)). refuse_if (length l == 0) (NoShelf n)) (sym are ∙ is.0 e)

  pub has_some : none ≡ false → shelf_refusal d caller n ≡ None
  has_some e = ap (λ (l : List (List ℕ)). refuse_if (length l == 0) (NoShelf n)) (sym are) ∙ go files refl
    where
      go : (l : List (List ℕ)) → files ≡ l → refuse_if (length l == 0) (NoShelf n) ≡ None
      go [] h = absurd (false≢true (sym e ∙ is.1 h))
      go (x ∷ l) h = ap (λ (b : Bool). refuse_if b (NoShelf n)) (not_zero (length (x ∷ l)) (omega arith))
