-- Names, each once.
use Rattle.std.proofs.Common.{◌≡◌, ℕ, Bool, true, false, List, [], ◌∷◌, ◌++◌, refl, sym, ap, ◌∙◌, append_assoc}
use Rattle.std.specs.Prelude.{◌||◌, if◌then◌else◌}
use Rattle.std.specs.List.{list_any}
use Rattle.std.proofs.lemmas.List.Folds.{list_any-append}
use Rattle.depot_rows.specs.depot_path.Bytes.{same}
use Rattle.depot_rows.specs.depot_model.Steps.Jobs.{distinct_after}
use Rattle.depot_rows.proofs.Keys.{same-is}

-- two lists have the same names
abbrev Alike : List (List ℕ) → List (List ℕ) → Type 0
Alike a b = (x : List ℕ) → list_any (same x) a ≡ list_any (same x) b

alike_after : (names a b : List (List ℕ)) → Alike a b → distinct_after a names ≡ distinct_after b names
alike_after [] a b alike = refl
alike_after (name ∷ names) a b alike =
    (λ i. (if alike name i then [] else name ∷ []) ++ alike_after names (name ∷ a) (name ∷ b) (λ x. ap (λ c. same x name || c) (alike x)) i)

or_swap : (a b : Bool) → (a || b) ≡ (b || (a || false))
or_swap true true = refl
or_swap true false = refl
or_swap false true = refl
or_swap false false = refl

module _ (kept : List (List ℕ)) (name : List ℕ) (names : List (List ℕ)) where
  -- a name that was there
  pub again : list_any (same name) kept ≡ true → kept ++ distinct_after kept names ≡ kept ++ distinct_after kept (name ∷ names)
  again there =
      ap (λ (l : List (List ℕ)). kept ++ l)
      (alike_after names kept (name ∷ kept) (λ x. go x (same x name) refl) ∙ (λ i. (if sym there i then [] else name ∷ []) ++ distinct_after (name ∷ kept) names))
    where
      go : (x : List ℕ) (b : Bool) → same x name ≡ b → list_any (same x) kept ≡ (same x name || list_any (same x) kept)
      go x true e = ap (λ (y : List ℕ). list_any (same y) kept) (same-is x name e) ∙ there ∙ sym (ap (λ b. b || list_any (same x) kept) e)
      go x false e = sym (ap (λ b. b || list_any (same x) kept) e)

  -- a name that is new
  pub anew : list_any (same name) kept ≡ false → (kept ++ name ∷ []) ++ distinct_after (kept ++ name ∷ []) names ≡ kept ++ distinct_after kept (name ∷ names)
  anew absent =
      append_assoc kept (name ∷ []) (distinct_after (kept ++ name ∷ []) names)
      ∙ ap (λ (l : List (List ℕ)). kept ++ name ∷ l)
      (alike_after names (kept ++ name ∷ []) (name ∷ kept) (λ x. list_any-append (same x) kept (name ∷ []) ∙ sym (or_swap (same x name) (list_any (same x) kept))))
      ∙ (λ i. kept ++ ((if sym absent i then [] else name ∷ []) ++ distinct_after (name ∷ kept) names))
