-- What a type is printed as is a type that is printed as it is.
use Rattle.std.proofs.Common.{◌≡◌, ◌⊎◌, inl, inr, refl, sym, subst, ℕ, ◌+◌, Bool, true, false, cond, ◌||◌, List, [], ◌∷◌, ◌++◌, filter, codes, arith, if◌then◌else◌}
use Rattle.std.specs.Cmp.Lexicographic.{same_text}
use Rattle.std.proofs.lemmas.Cmp.{nat_list_eq_equiv}
use Rattle.depot_path.specs.Bytes.{same, is_among}
use Rattle.depot_model.specs.Types.{base_type, modifiers, is_base, are_modifiers, is_type, printed_type, is_printed_type}
use Rattle.command_words.proofs.Giving.{both, first_of_both, second_of_both}

-- modifiers that stand in order
record AreOrdered (letters : List ℕ) : Type 0 where
  pub modifiers : are_modifiers letters ≡ true
  pub order : filter (λ b. is_among letters b) (codes "xwlF") ≡ letters

-- ---- the letters that are printed

abbrev kept : Bool → ℕ → List ℕ → List ℕ
kept b letter letters = cond b (letter ∷ letters) letters

ordered : (x w l f : Bool) → x || (w || (l || f)) ≡ true → AreOrdered (kept x 0x78 (kept w 0x77 (kept l 0x6C (kept f 0x46 []))))
ordered false false false false h = cc
ordered true true true true h = record { modifiers = refl; order = refl }
ordered true true true false h = record { modifiers = refl; order = refl }
ordered true true false true h = record { modifiers = refl; order = refl }
ordered true true false false h = record { modifiers = refl; order = refl }
ordered true false true true h = record { modifiers = refl; order = refl }
ordered true false true false h = record { modifiers = refl; order = refl }
ordered true false false true h = record { modifiers = refl; order = refl }
ordered true false false false h = record { modifiers = refl; order = refl }
ordered false true true true h = record { modifiers = refl; order = refl }
ordered false true true false h = record { modifiers = refl; order = refl }
ordered false true false true h = record { modifiers = refl; order = refl }
ordered false true false false h = record { modifiers = refl; order = refl }
ordered false false true true h = record { modifiers = refl; order = refl }
ordered false false true false h = record { modifiers = refl; order = refl }
ordered false false false true h = record { modifiers = refl; order = refl }

first_is : (letter : ℕ) (letters : List ℕ) → is_among (codes "xwlF") letter ≡ true →
    is_among (letter ∷ letters) 0x78 || (is_among (letter ∷ letters) 0x77 || (is_among (letter ∷ letters) 0x6C || is_among (letter ∷ letters) 0x46)) ≡ true
first_is letter letters h = grind arith

one_is : (letters : List ℕ) → are_modifiers letters ≡ true →
    is_among letters 0x78 || (is_among letters 0x77 || (is_among letters 0x6C || is_among letters 0x46)) ≡ true
one_is [] h = cc
one_is (letter ∷ letters) h = first_is letter letters (grind arith)

-- ---- the bases

with_modifiers : (base letters : List ℕ) → (base ≡ codes "text") ⊎ (base ≡ codes "binary") → AreOrdered letters → is_printed_type (base ++ codes "+" ++ letters) ≡ true
with_modifiers base letters (inl e) o =
    let P : List ℕ → Type 0 = λ base. is_printed_type (base ++ codes "+" ++ letters) ≡ true in
    subst P (sym e) (both (are_modifiers letters) _ o.modifiers (subst (λ order. same order letters ≡ true) (sym o.order) (nat_list_eq_equiv.refl letters)))
with_modifiers base letters (inr e) o =
    let P : List ℕ → Type 0 = λ base. is_printed_type (base ++ codes "+" ++ letters) ≡ true in
    subst P (sym e) (both (are_modifiers letters) _ o.modifiers (subst (λ order. same order letters ≡ true) (sym o.order) (nat_list_eq_equiv.refl letters)))

either : (a b : Bool) → a || b ≡ true → (a ≡ true) ⊎ (b ≡ true)
either true b h = inl refl
either false b h = inr h

which_base : (base : List ℕ) → is_base base ≡ true → (base ≡ codes "text") ⊎ (base ≡ codes "binary")
which_base base h =
    elim (either (same base (codes "text")) (same base (codes "binary")) h) [
      | inl e ↦ inl (same_text base (codes "text") (sym e))
      | inr e ↦ inr (same_text base (codes "binary") (sym e))
    ]

abbrev printed_by : Bool → List ℕ → List ℕ
printed_by plain type = if plain then type else base_type type ++ codes "+" ++ filter (λ b. is_among (modifiers type) b) (codes "xwlF")

by_plain : (plain : Bool) (type : List ℕ) → same type (base_type type) ≡ plain → is_type type ≡ true → is_printed_type (printed_by plain type) ≡ true
by_plain true type e h =
    both (is_type type) (same (printed_type type) type) h
    (subst (λ (b : Bool). same (printed_by b type) type ≡ true) (sym e) (nat_list_eq_equiv.refl type))
by_plain false type e h =
    let m : are_modifiers (modifiers type) ≡ true = subst (λ (b : Bool). b || are_modifiers (modifiers type) ≡ true) e (second_of_both (is_base (base_type type)) _ h) in
    with_modifiers (base_type type) (filter (λ b. is_among (modifiers type) b) (codes "xwlF")) (which_base (base_type type) (first_of_both (is_base (base_type type)) _ h))
    (ordered (is_among (modifiers type) 0x78) (is_among (modifiers type) 0x77) (is_among (modifiers type) 0x6C) (is_among (modifiers type) 0x46) (one_is (modifiers type) m))

pub printed_types : (type : List ℕ) → is_type type ≡ true → is_printed_type (printed_type type) ≡ true
printed_types type h = by_plain (same type (base_type type)) type refl h
