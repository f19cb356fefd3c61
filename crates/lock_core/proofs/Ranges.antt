-- The numbers of a range that pass a test, one after another.
use Rattle.std.proofs.Common.{◌≡◌, ◌<◌, ◌-◌, ℕ, zero, suc, ◌+◌, Bool, true, false, cond, List, [], ◌∷◌, ◌++◌, length, Some, refl, sym, ap, ◌∙◌, arith, append_assoc, append-nil, length-append}
use Rattle.std.specs.Prelude.{filter, slice_get}
use Rattle.std.specs.List.{range_with_len}

module _ (test : ℕ → Bool) where
  filtered_more : (n : ℕ) (xs : List ℕ) → filter test (xs ++ n ∷ []) ≡ filter test xs ++ cond (test n) (n ∷ []) []
  filtered_more n [] = refl
  filtered_more n (x ∷ xs) = go (test x) (filtered_more n xs)
    where
      go : (b : Bool) → filter test (xs ++ n ∷ []) ≡ filter test xs ++ cond (test n) (n ∷ []) []
          → cond b (x ∷ filter test (xs ++ n ∷ [])) (filter test (xs ++ n ∷ [])) ≡ cond b (x ∷ filter test xs) (filter test xs) ++ cond (test n) (n ∷ []) []
      go true e = ap (λ (ns : List ℕ). x ∷ ns) e
      go false e = e

  range_more : (a n : ℕ) → range_with_len a (n + 1) ≡ range_with_len a n ++ (a + n) ∷ []
  range_more a zero = ap (λ m. m ∷ []) (let e : a ≡ a + 0 = omega arith in e)
  range_more a (suc n) =
      ap (range_with_len a) (let e : suc n + 1 ≡ suc (n + 1) = omega arith in e)
      ∙ ap (λ (ns : List ℕ). a ∷ ns) (range_more (a + 1) n ∙ ap (λ m. range_with_len (a + 1) n ++ m ∷ []) (let e : a + 1 + n ≡ a + suc n = omega arith in e))

  abbrev below : ℕ → List ℕ
  below n = filter test (range_with_len 0 n)

  pub one_more : (n : ℕ) → below (n + 1) ≡ below n ++ cond (test n) (n ∷ []) []
  one_more n =
      ap (filter test) (range_more 0 n ∙ ap (λ m. range_with_len 0 n ++ m ∷ []) (let e : 0 + n ≡ n = omega arith in e)) ∙ filtered_more n (range_with_len 0 n)

  pub with_one : (n : ℕ) → test n ≡ true → below (n + 1) ≡ below n ++ n ∷ []
  with_one n passes = one_more n ∙ ap (λ b. below n ++ cond b (n ∷ []) []) passes

  pub without_one : (n : ℕ) → test n ≡ false → below (n + 1) ≡ below n
  without_one n fails = one_more n ∙ (ap (λ b. below n ++ cond b (n ∷ []) []) fails ∙ append-nil (below n))

  pub counted_one : (n : ℕ) → test n ≡ true → length (below (n + 1)) ≡ length (below n) + 1
  counted_one n passes = ap length (with_one n passes) ∙ length-append (below n) (n ∷ [])

  -- those of a longer range begin so
  later : (n more : ℕ) → (rest : List ℕ) × (below (n + more) ≡ below n ++ rest)
  later n zero = ([], ap below (let e : n + 0 ≡ n = omega arith in e) ∙ sym (append-nil (below n)))
  later n (suc more) =
      let before = later n more in
      let last = cond (test (n + more)) ((n + more) ∷ []) [] in
      (before.0 ++ last, ap below (let e : n + suc more ≡ (n + more) + 1 = omega arith in e) ∙ (one_more (n + more) ∙ (ap (λ (ns : List ℕ). ns ++ last) before.1 ∙ append_assoc (below n) before.0 last)))

  at_length : (xs : List ℕ) (x : ℕ) (ys : List ℕ) → slice_get (xs ++ x ∷ ys) (length xs) ≡ Some x
  at_length [] x ys = refl
  at_length (y ∷ xs) x ys = at_length xs x ys

  -- behind those before it stands the next that passes
  pub stands_at : (n end : ℕ) → n < end → test n ≡ true → slice_get (below end) (length (below n)) ≡ Some n
  stands_at n end h passes =
      let more = later (n + 1) (end - (n + 1)) in
      let whole : below end ≡ below n ++ n ∷ more.0 =
      ap below (let e : end ≡ n + 1 + (end - (n + 1)) = omega arith in e) ∙ (more.1 ∙ (ap (λ (ns : List ℕ). ns ++ more.0) (with_one n passes) ∙ append_assoc (below n) (n ∷ []) more.0)) in
      ap (λ (ns : List ℕ). slice_get ns (length (below n))) whole ∙ at_length (below n) n more.0
