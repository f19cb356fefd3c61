-- Entries of a submitted change as the model has them, each path once.
use Rattle.std.proofs.Common.{◌≡◌, ◌+◌, ℕ, suc, Bool, true, false, not, List, [], ◌∷◌, map, Some, None, inl, inr, ◌⊎◌, refl, sym, ap, subst, ◌∙◌}
use Rattle.std.specs.Prelude.{◌&&◌, ◌==◌, if◌then◌else◌, find, slice_get, filter}
use Rattle.std.specs.List.{list_any, list_all}
use Rattle.std.proofs.lemmas.Bool.{true≢false, or_parts, and_parts}
use Rattle.depot_model.specs.depot_path.Bytes.{same}
use Rattle.depot_model.specs.depot_path.Path.{printed, is_path}
use Rattle.depot_model.specs.Deeds as model
use Rattle.depot_model.specs.Rules.{are_distinct}
use Rattle.depot_model.specs.Revisions.{head}
use Rattle.depot_rows.specs.declared.deed.Entry.{Entry}
use Rattle.depot_rows.specs.Deed.{IsEntry, AreEntries}
use Rattle.depot_rows.specs.Effects.{entry_path, is_revision}
use Rattle.depot_rows.proofs.Keys.{same-is, same-self, number-is, number-self}

abbrev pub In : {A : Type 0} → List A → A → Type 0
In [] x = ⊥
In (y ∷ ys) x = (y ≡ x) ⊎ In ys x

abbrev pub path_in : model.Entry → List ℕ
path_in e = e.path

abbrev pub is_of : List ℕ → model.Entry → Bool
is_of path e = same e.path path

-- the entries of a path
abbrev pub of_path : List ℕ → List model.Entry → List model.Entry
of_path path entries = filter (is_of path) entries

pub paths-same : (d : List model.Deed) (es : List Entry) (xs : List model.Entry) → AreEntries d es xs → map entry_path es ≡ map path_in xs
paths-same d [] [] are = refl
paths-same d (e ∷ es) (x ∷ xs) are = λ i. are.0.path i ∷ paths-same d es xs are.1 i
paths-same d [] (x ∷ xs) are = absurd are
paths-same d (e ∷ es) [] are = absurd are

not-true : (b : Bool) → not b ≡ true → b ≡ false
not-true true e = absurd cc
not-true false e = refl

turned : (a b : List ℕ) → same a b ≡ false → same b a ≡ false
turned a b e = go (same b a) refl
  where
    go : (r : Bool) → same b a ≡ r → r ≡ false
    go false h = refl
    go true h = absurd (true≢false (sym (same-self a) ∙ ap (same a) (sym (same-is b a h)) ∙ e))

-- a path that isn't among the others has no entry there
none_of : (path : List ℕ) (xs : List model.Entry) → list_any (same path) (map path_in xs) ≡ false → of_path path xs ≡ []
none_of path [] e = refl
none_of path (x ∷ xs) e =
    go (same x.path path) (turned path x.path (or_parts (same path x.path) (list_any (same path) (map path_in xs)) e).0)
    (none_of path xs (or_parts (same path x.path) (list_any (same path) (map path_in xs)) e).1)
  where
    go : (b : Bool) → b ≡ false → of_path path xs ≡ [] → (if b then x ∷ of_path path xs else of_path path xs) ≡ []
    go true h rest = absurd cc
    go false h rest = rest

-- an entry is the only one of its path
pub once : (xs : List model.Entry) → are_distinct (map path_in xs) ≡ true → (x : model.Entry) → In xs x → of_path x.path xs ≡ x ∷ []
once [] e x is = absurd is
once (y ∷ ys) e x (inl same_one) =
    let apart : list_any (same y.path) (map path_in ys) ≡ false = not-true _ (and_parts _ _ e).0 in
    ap (λ (z : model.Entry). of_path z.path (y ∷ ys)) (sym same_one)
    ∙ go (same y.path y.path) (same-self y.path) (none_of y.path ys apart)
    ∙ ap (λ (z : model.Entry). z ∷ []) same_one
  where
    go : (b : Bool) → b ≡ true → of_path y.path ys ≡ [] → (if b then y ∷ of_path y.path ys else of_path y.path ys) ≡ y ∷ []
    go true h rest = ap (λ (zs : List model.Entry). y ∷ zs) rest
    go false h rest = absurd cc
once (y ∷ ys) e x (inr later) =
    let apart : list_any (same y.path) (map path_in ys) ≡ false = not-true _ (and_parts _ _ e).0 in
    go (same y.path x.path) refl (once ys (and_parts _ _ e).1 x later) (none_of y.path ys apart)
  where
    go : (b : Bool) → same y.path x.path ≡ b → of_path x.path ys ≡ x ∷ [] → of_path y.path ys ≡ []
        → (if b then y ∷ of_path x.path ys else of_path x.path ys) ≡ x ∷ []
    go false h one none = one
    go true h one none = absurd (let both : x ∷ [] ≡ [] = sym one ∙ ap (λ (p : List ℕ). of_path p ys) (sym (same-is y.path x.path h)) ∙ none in cc)

-- no path has two entries
pub at_most_once : (path : List ℕ) (xs : List model.Entry) → are_distinct (map path_in xs) ≡ true → (k : ℕ) → slice_get (of_path path xs) (suc k) ≡ None
at_most_once path [] e k = refl
at_most_once path (y ∷ ys) e k =
    let apart : list_any (same y.path) (map path_in ys) ≡ false = not-true _ (and_parts _ _ e).0 in
    go (same y.path path) refl (none_of y.path ys apart) (at_most_once path ys (and_parts _ _ e).1 k)
  where
    go : (b : Bool) → same y.path path ≡ b → of_path y.path ys ≡ [] → slice_get (of_path path ys) (suc k) ≡ None
        → slice_get (if b then y ∷ of_path path ys else of_path path ys) (suc k) ≡ None
    go false h none rest = rest
    go true h none rest = let gone : of_path path ys ≡ [] = ap (λ (p : List ℕ). of_path p ys) (sym (same-is y.path path h)) ∙ none in rw gone refl

-- the entry of a revision that is found
pub record IsPicked (d : List model.Deed) (text : List ℕ) (n : ℕ) (e : Entry) (xs : List model.Entry) (x : model.Entry) : Type 0 where
  pub is : IsEntry d e x
  pub there : In xs x
  pub path : is_path x.path ≡ true
  pub text_is : printed x.path ≡ text
  pub number : e.rev ≡ n

pub picked : (d : List model.Deed) (text : List ℕ) (n : ℕ) (es : List Entry) (xs : List model.Entry) → AreEntries d es xs
    → list_all is_path (map entry_path es) ≡ true → (e : Entry) → find (is_revision text n) es ≡ Some e
    → (x : model.Entry) × IsPicked d text n e xs x
picked d text n [] [] are paths e found = absurd cc
picked d text n [] (x ∷ xs) are paths e found = absurd are
picked d text n (y ∷ ys) [] are paths e found = absurd are
picked d text n (y ∷ ys) (x ∷ xs) are paths e found =
    go (is_revision text n y) refl found (picked d text n ys xs are.1 (and_parts _ _ paths).1 e)
  where
    here : y ≡ e → is_revision text n y ≡ true → IsPicked d text n e (x ∷ xs) x
    here one h =
        let is : IsEntry d y x = are.0 in
        let spelled : same (printed y.path) text ≡ true = (and_parts (same (printed y.path) text) (y.rev == n) h).0 in
        let P : Entry → Type 0 = λ z. IsPicked d text n z (x ∷ xs) x in
        subst P one (record {
          is = is;
          there = inl refl;
          path = ap is_path (sym is.path) ∙ (and_parts (is_path y.path) (list_all is_path (map entry_path ys)) paths).0;
          text_is = ap printed (sym is.path) ∙ same-is (printed y.path) text spelled;
          number = number-is y.rev n (and_parts (same (printed y.path) text) (y.rev == n) h).1;
        })

    go : (b : Bool) → is_revision text n y ≡ b → (if b then Some y else find (is_revision text n) ys) ≡ Some e
        → (find (is_revision text n) ys ≡ Some e → (z : model.Entry) × IsPicked d text n e xs z)
        → (z : model.Entry) × IsPicked d text n e (x ∷ xs) z
    go true h f later = let one : y ≡ e = cc in (x, here one h)
    go false h f later =
        let z = later f in
        (z.0, record { is = z.1.is; there = inr z.1.there; path = z.1.path; text_is = z.1.text_is; number = z.1.number })

-- where no entry of the next revision is found the path has no entry
pub unpicked : (d : List model.Deed) (text : List ℕ) (n : ℕ) (es : List Entry) (xs : List model.Entry) → AreEntries d es xs
    → find (is_revision text n) es ≡ None → (path : List ℕ) → printed path ≡ text → n ≡ head d path + 1 → of_path path xs ≡ []
unpicked d text n [] [] are missing path spelled next = refl
unpicked d text n [] (x ∷ xs) are missing path spelled next = absurd are
unpicked d text n (y ∷ ys) [] are missing path spelled next = absurd are
unpicked d text n (y ∷ ys) (x ∷ xs) are missing path spelled next =
    go (is_revision text n y) refl missing (λ m. unpicked d text n ys xs are.1 m path spelled next)
  where
    found : same x.path path ≡ true → is_revision text n y ≡ true
    found h =
        let is : IsEntry d y x = are.0 in
        let one : x.path ≡ path = same-is x.path path h in
        let text_is : printed y.path ≡ text = ap printed (is.path ∙ one) ∙ spelled in
        let rev_is : y.rev ≡ n = is.rev ∙ ap (λ (p : List ℕ). head d p + 1) one ∙ sym next in
        let left : same (printed y.path) text ≡ true = ap (λ (t : List ℕ). same t text) text_is ∙ same-self text in
        let right : (y.rev == n) ≡ true = ap (λ (m : ℕ). m == n) rev_is ∙ number-self n in
        (λ i. left i && right i)

    go : (b : Bool) → is_revision text n y ≡ b → (if b then Some y else find (is_revision text n) ys) ≡ None
        → (find (is_revision text n) ys ≡ None → of_path path xs ≡ []) → of_path path (x ∷ xs) ≡ []
    go true h f later = absurd cc
    go false h f later = test (same x.path path) refl (later f)
      where
        test : (b : Bool) → same x.path path ≡ b → of_path path xs ≡ [] → (if b then x ∷ of_path path xs else of_path path xs) ≡ []
        test true g rest = absurd (true≢false (sym (found g) ∙ h))
        test false g rest = rest
