-- Of some files those for which a test holds.
use Rattle.std.proofs.Common.{◌≡◌, ℕ, Bool, true, false, List, [], ◌∷◌, ◌++◌, refl, sym, ap, ◌∙◌, append-nil}
use Rattle.std.specs.Prelude.{filter, flat_map, if◌then◌else◌}
use Rattle.shelf_ops.specs.Kept.{file_if}

module _ (test : List ℕ → Bool) where
  pub sifted : (paths : List (List ℕ)) → flat_map (λ path. file_if (test path) path) paths ≡ filter test paths
  sifted [] = refl
  sifted (path ∷ paths) = go (test path) (sifted paths)
    where
      go : (b : Bool) → flat_map (λ p. file_if (test p) p) paths ≡ filter test paths
          → file_if b path ++ flat_map (λ p. file_if (test p) p) paths ≡ (if b then path ∷ filter test paths else filter test paths)
      go true more = ap (λ (l : List (List ℕ)). path ∷ l) more
      go false more = more

pub put_in : (is : Bool) (path : List ℕ) (was now : List (List ℕ)) (held : Bool) → held ≡ is → held ≡ true → now ≡ was ++ path ∷ [] → now ≡ was ++ file_if is path
put_in is path was now held one on grown = grown ∙ ap (λ (b : Bool). was ++ file_if b path) (sym on ∙ one)

pub left_out : (is : Bool) (path : List ℕ) (was : List (List ℕ)) (held : Bool) → held ≡ is → held ≡ false → was ≡ was ++ file_if is path
left_out is path was held one off = sym (append-nil was) ∙ ap (λ (b : Bool). was ++ file_if b path) (sym off ∙ one)
