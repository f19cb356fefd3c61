-- Files of a list that pass a test, found one after another.
use Rattle.std.proofs.Common.{◌≡◌, ◌<◌, ◌+◌, ℕ, Bool, true, false, List, [], ◌∷◌, ◌++◌, length, drop, get_or, sym, ap, ◌∙◌, append_assoc}
use Rattle.std.specs.Prelude.{if◌then◌else◌}
use Rattle.std.specs.List.{filter}
use Rattle.std.proofs.lemmas.List.{drop_more}

module _ (test : List ℕ → Bool) where
  one_more : (found rest : List (List ℕ)) (path : List ℕ) (b : Bool) → test path ≡ b → (if b then found ++ path ∷ [] else found) ++ filter test rest ≡ found ++ filter test (path ∷ rest)
  one_more found rest path true e = append_assoc found (path ∷ []) (filter test rest) ∙ ap (λ (c : Bool). found ++ (if c then path ∷ filter test rest else filter test rest)) (sym e)
  one_more found rest path false e = ap (λ (c : Bool). found ++ (if c then path ∷ filter test rest else filter test rest)) (sym e)

  -- one file more was looked at
  pub found_on : (files found next : List (List ℕ)) (i : ℕ) (path d : List ℕ) (b : Bool) → i < length files → path ≡ get_or files i d → b ≡ test path → next ≡ (if b then found ++ path ∷ [] else found)
      → found ++ filter test (drop i files) ≡ filter test files → next ++ filter test (drop (i + 1) files) ≡ filter test files
  found_on files found next i path d b within is is_test next_is before =
      ap (λ (l : List (List ℕ)). l ++ filter test (drop (i + 1) files)) next_is
      ∙ (one_more found (drop (i + 1) files) path b (sym is_test)
      ∙ (ap (λ (p : List ℕ). found ++ filter test (p ∷ drop (i + 1) files)) is
      ∙ (ap (λ (l : List (List ℕ)). found ++ filter test l) (sym (drop_more files i d within)) ∙ before)))
