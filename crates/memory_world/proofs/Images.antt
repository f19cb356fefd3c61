-- What a stop may leave after a call is what one may have left before it, and a step.
use Rattle.std.proofs.Common.{◌≡◌, ◌≢◌, ◌⊎◌, inl, inr, ℕ, zero, suc, ◌+◌, ◌<◌, ◌≤◌, min, max, Bool, true, false, ◌&&◌, leb, ltb, List, [], ◌∷◌, length, take, drop, get_or, if◌then◌else◌, refl, sym, ◌∙◌, ap, subst, arith, length-take, length-drop, get_or-take, get_or-drop}
use Rattle.std.proofs.lemmas.Bool.{cases_eq, cases_lt}
use Rattle.std.proofs.lemmas.Bool.Decides.{nat_tests}
use Rattle.outside_api.specs.Disk.{Files, OnFile, Torn, Cut, After}
use Rattle.memory_world.specs.Files.{put}
use Rattle.memory_world.specs.Replay.{State, opened, all_behind, broken_write, broken_cut, IsImage}
use Rattle.memory_world.proofs.Contents.{put_same, put_other}

-- the list of n values of a function
abbrev listed : ℕ → (ℕ → ℕ) → List ℕ
listed zero f = []
listed (suc n) f = f 0 ∷ listed n (λ k. f (suc k))

length-listed : (n : ℕ) (f : ℕ → ℕ) → length (listed n f) ≡ n
length-listed zero f = refl
length-listed (suc n) f = omega (arith, length-listed n (λ k. f (suc k)))

get_or-listed : (n : ℕ) (f : ℕ → ℕ) (k : ℕ) → k < n → get_or (listed n f) k 0 ≡ f k
get_or-listed zero f k lt = absurd (omega arith)
get_or-listed (suc n) f zero lt = refl
get_or-listed (suc n) f (suc k) lt = get_or-listed n (λ j. f (suc j)) k (omega arith)

-- lists that agree at each place
pub agree : (xs ys : List ℕ) → length xs ≡ length ys → ((k : ℕ) → k < length xs → get_or xs k 0 ≡ get_or ys k 0) → xs ≡ ys
agree xs ys long same = Rattle.std.proofs.lemmas.List.ext_get_or 0 xs ys long same

-- two lists that differ in a range alone
pub torn_from : (at n : ℕ) (old new : List ℕ) → length old ≤ length new → length new ≤ max (length old) (at + n)
    → ((k : ℕ) → k < length old → (k < at) ⊎ (at + n ≤ k) → get_or new k 0 ≡ get_or old k 0) → Torn at n old new
torn_from at n old new no_shorter no_longer outside = record {
  before = agree (take (min at (length old)) new) (take at old) (omega (arith, length-take (min at (length old)) new, length-take at old)) (λ k lt.
      let low : k < min at (length old) = omega (arith, lt, length-take (min at (length old)) new) in
      get_or-take (min at (length old)) new k 0 low ∙ outside k (omega arith) (inl (omega arith)) ∙ sym (get_or-take at old k 0 (omega arith)));
  after = agree (drop (at + n) new) (drop (at + n) old) (omega (arith, length-drop (at + n) new, length-drop (at + n) old)) (λ k lt.
      let high : k + (at + n) < length old = omega (arith, lt, length-drop (at + n) new) in
      get_or-drop (at + n) new k 0 ∙ outside (at + n + k) (omega arith) (inr (omega arith)) ∙ sym (get_or-drop (at + n) old k 0));
  no_shorter = no_shorter;
  no_longer = no_longer;
}

-- the places of another file, and those beside the range, stay as they were
shut_beside : (file at count : ℕ) (is_open : ℕ → ℕ → Bool) (f k : ℕ) → (f ≢ file) ⊎ ((k < at) ⊎ (at + count ≤ k)) → is_open f k ≡ false → opened file at count is_open f k ≡ false
shut_beside file at count is_open f k (inl other) shut = grind (arith, nat_tests)
shut_beside file at count is_open f k (inr (inl low)) shut = grind (arith, nat_tests)
shut_beside file at count is_open f k (inr (inr high)) shut = grind (arith, nat_tests)

-- and what is shut now was shut before
pub was_shut : (file at count : ℕ) (is_open : ℕ → ℕ → Bool) (f k : ℕ) → opened file at count is_open f k ≡ false → is_open f k ≡ false
was_shut file at count is_open f k shut = grind (arith, nat_tests)

-- and lay beside the range
pub lay_beside : (file at count : ℕ) (is_open : ℕ → ℕ → Bool) (k : ℕ) → opened file at count is_open file k ≡ false → (k < at) ⊎ (at + count ≤ k)
lay_beside file at count is_open k shut = grind (arith, nat_tests)

-- whether a place is in a range
abbrev between : ℕ → ℕ → ℕ → Bool
between from to k = (leb from k) && (ltb k to)

-- one of two values, by a test
chosen : (b : Bool) (x y : ℕ) → b ≡ false → (if b then x else y) ≡ y
chosen b x y is = ap (λ (t : Bool). if t then x else y) is

-- A write that may or may not have been made, in whole or in part.
module _ (file at count : ℕ) (s : State) (c : Files) (ordered : s.least file ≤ s.greatest file) (image : IsImage (broken_write file at count s) c) where
  length_before : ℕ
  length_before = min (length (c file)) (s.greatest file)

  abbrev byte_before : ℕ → ℕ
  byte_before k = if between at (at + count) k then get_or (s.synced file) k 0 else get_or (c file) k 0

  bytes_before : List ℕ
  bytes_before = listed length_before byte_before

  length-before : length bytes_before ≡ min (length (c file)) (s.greatest file)
  unfolding bytes_before length_before
  length-before = length-listed _ _

  get_or-before : (k : ℕ) → k < length bytes_before → get_or bytes_before k 0 ≡ byte_before k
  unfolding bytes_before
  get_or-before k lt = get_or-listed _ byte_before k (omega (arith, lt, length-listed length_before byte_before))

  beside : (k : ℕ) → k < length bytes_before → (k < at) ⊎ (at + count ≤ k) → get_or bytes_before k 0 ≡ get_or (c file) k 0
  beside k lt out = get_or-before k lt ∙ chosen (between at (at + count) k) _ _ (not_between out)
    where
      not_between : (k < at) ⊎ (at + count ≤ k) → between at (at + count) k ≡ false
      not_between (inl low) = grind (arith, nat_tests)
      not_between (inr high) = grind (arith, nat_tests)

  inside : (k : ℕ) → k < length bytes_before → at ≤ k → k < at + count → get_or bytes_before k 0 ≡ get_or (s.synced file) k 0
  inside k lt low high = get_or-before k lt ∙ ap (λ (t : Bool). if t then get_or (s.synced file) k 0 else get_or (c file) k 0) is_between
    where
      is_between : between at (at + count) k ≡ true
      is_between = grind (arith, nat_tests)

  greatest_here : length (c file) ≤ max (s.greatest file) (at + count)
  greatest_here = subst (λ n. length (c file) ≤ n) (put_same file file (max (s.greatest file) (at + count)) s.greatest refl) (image.no_longer file)

  pub written_image : After (OnFile file (Torn at count)) (IsImage s) c
  written_image = (
    put file bytes_before c,
    record { no_shorter = λ f. no_shorter f (cases_eq f file); no_longer = λ f. no_longer f (cases_eq f file); kept = λ f k lt shut. kept f k lt shut (cases_eq f file) },
    record {
      this = subst (λ l. Torn at count l (c file)) (sym (put_same file file bytes_before c refl)) torn;
      others = λ f other. sym (put_other file f bytes_before c other);
    },
  )
    where
      torn : Torn at count bytes_before (c file)
      torn =
          torn_from at count bytes_before (c file) (omega (arith, length-before)) (omega (arith, length-before, greatest_here)) (λ k lt out. sym (beside k lt out))

      no_shorter : (f : ℕ) → (f ≡ file) ⊎ (f ≢ file) → s.least f ≤ length (put file bytes_before c f)
      no_shorter f (inl is) = subst (λ g. s.least g ≤ length (put file bytes_before c g)) (sym is)
          (subst (λ (l : List ℕ). s.least file ≤ length l) (sym (put_same file file bytes_before c refl)) (omega (arith, length-before, image.no_shorter file, ordered)))
      no_shorter f (inr other) = subst (λ (l : List ℕ). s.least f ≤ length l) (sym (put_other file f bytes_before c other)) (image.no_shorter f)

      no_longer : (f : ℕ) → (f ≡ file) ⊎ (f ≢ file) → length (put file bytes_before c f) ≤ s.greatest f
      no_longer f (inl is) = subst (λ g. length (put file bytes_before c g) ≤ s.greatest g) (sym is)
          (subst (λ (l : List ℕ). length l ≤ s.greatest file) (sym (put_same file file bytes_before c refl)) (omega (arith, length-before)))
      no_longer f (inr other) = subst (λ (l : List ℕ). length l ≤ s.greatest f) (sym (put_other file f bytes_before c other))
          (subst (λ n. length (c f) ≤ n) (put_other file f (max (s.greatest file) (at + count)) s.greatest other) (image.no_longer f))

      kept_beside : (k : ℕ) → k < length bytes_before → s.is_open file k ≡ false → (k < at) ⊎ (at + count ≤ k) → get_or bytes_before k 0 ≡ get_or (s.synced file) k 0
      kept_beside k lt shut out = beside k lt out ∙ image.kept file k (omega (arith, lt, length-before)) (shut_beside file at count s.is_open file k (inr out) shut)

      kept_here : (k : ℕ) → k < length bytes_before → s.is_open file k ≡ false → (k < at) ⊎ (at ≤ k) → (k < at + count) ⊎ (at + count ≤ k) → get_or bytes_before k 0 ≡ get_or (s.synced file) k 0
      kept_here k lt shut (inl low) to = kept_beside k lt shut (inl low)
      kept_here k lt shut (inr from) (inr past) = kept_beside k lt shut (inr past)
      kept_here k lt shut (inr from) (inl below) = inside k lt from below

      kept : (f k : ℕ) → k < length (put file bytes_before c f) → s.is_open f k ≡ false → (f ≡ file) ⊎ (f ≢ file) → get_or (put file bytes_before c f) k 0 ≡ get_or (s.synced f) k 0
      kept f k lt shut (inl is) =
          let same = put_same file f bytes_before c is in
          ap (λ (l : List ℕ). get_or l k 0) same
          ∙ kept_here k (subst (λ (l : List ℕ). k < length l) same lt) (ap (λ g. s.is_open g k) (sym is) ∙ shut) (cases_lt k at) (cases_lt k (at + count))
          ∙ ap (λ g. get_or (s.synced g) k 0) (sym is)
      kept f k lt shut (inr other) =
          let same = put_other file f bytes_before c other in
          ap (λ (l : List ℕ). get_or l k 0) same
          ∙ image.kept f k (subst (λ (l : List ℕ). k < length l) same lt) (shut_beside file at count s.is_open f k (inl other) shut)

-- A cut that may or may not have been made.
module _ (file n : ℕ) (s : State) (c : Files) (ordered : s.least file ≤ s.greatest file) (image : IsImage (broken_cut file n s) c) where
  length_uncut : ℕ
  length_uncut = max (length (c file)) (s.least file)

  abbrev is_front : ℕ → Bool
  is_front k = (ltb k n) && (ltb k (length (c file)))

  abbrev byte_uncut : ℕ → ℕ
  byte_uncut k = if is_front k then get_or (c file) k 0 else get_or (s.synced file) k 0

  bytes_uncut : List ℕ
  bytes_uncut = listed length_uncut byte_uncut

  length-uncut : length bytes_uncut ≡ max (length (c file)) (s.least file)
  unfolding bytes_uncut length_uncut
  length-uncut = length-listed _ _

  get_or-uncut : (k : ℕ) → k < length bytes_uncut → get_or bytes_uncut k 0 ≡ byte_uncut k
  unfolding bytes_uncut
  get_or-uncut k lt = get_or-listed _ byte_uncut k (omega (arith, lt, length-listed length_uncut byte_uncut))

  in_front : (k : ℕ) → k < n → k < length (c file) → get_or bytes_uncut k 0 ≡ get_or (c file) k 0
  in_front k low lt = get_or-uncut k (omega (arith, lt, length-uncut)) ∙ ap (λ (t : Bool). if t then get_or (c file) k 0 else get_or (s.synced file) k 0) is
    where
      is : is_front k ≡ true
      is = grind (arith, nat_tests)

  not_front : (k : ℕ) → k < length bytes_uncut → (n ≤ k) ⊎ (length (c file) ≤ k) → get_or bytes_uncut k 0 ≡ get_or (s.synced file) k 0
  not_front k lt past = get_or-uncut k lt ∙ chosen (is_front k) _ _ (is past)
    where
      is : (n ≤ k) ⊎ (length (c file) ≤ k) → is_front k ≡ false
      is (inl high) = grind (arith, nat_tests)
      is (inr high) = grind (arith, nat_tests)

  least_here : min (s.least file) n ≤ length (c file)
  least_here = subst (λ m. m ≤ length (c file)) (put_same file file (min (s.least file) n) s.least refl) (image.no_shorter file)

  pub cut_image : After (OnFile file (Cut n)) (IsImage s) c
  cut_image = (
    put file bytes_uncut c,
    record { no_shorter = λ f. no_shorter f (cases_eq f file); no_longer = λ f. no_longer f (cases_eq f file); kept = λ f k lt shut. kept f k lt shut (cases_eq f file) },
    record {
      this = subst (λ l. Cut n l (c file)) (sym (put_same file file bytes_uncut c refl)) cut;
      others = λ f other. sym (put_other file f bytes_uncut c other);
    },
  )
    where
      cut : Cut n bytes_uncut (c file)
      cut = record {
        no_shorter = omega (arith, length-uncut, least_here);
        no_longer = omega (arith, length-uncut);
        front = agree (take n (c file)) (take n (take (length (c file)) bytes_uncut))
            (omega (arith, length-take n (c file), length-take n (take (length (c file)) bytes_uncut), length-take (length (c file)) bytes_uncut, length-uncut))
            (λ k lt.
            let low : k < n = omega (arith, lt, length-take n (c file)) in
            let within : k < length (c file) = omega (arith, lt, length-take n (c file)) in
            get_or-take n (c file) k 0 low ∙ sym (in_front k low within) ∙ sym (get_or-take (length (c file)) bytes_uncut k 0 within) ∙ sym (get_or-take n (take (length (c file)) bytes_uncut) k 0 low));
      }

      no_shorter : (f : ℕ) → (f ≡ file) ⊎ (f ≢ file) → s.least f ≤ length (put file bytes_uncut c f)
      no_shorter f (inl is) = subst (λ g. s.least g ≤ length (put file bytes_uncut c g)) (sym is)
          (subst (λ (l : List ℕ). s.least file ≤ length l) (sym (put_same file file bytes_uncut c refl)) (omega (arith, length-uncut)))
      no_shorter f (inr other) = subst (λ (l : List ℕ). s.least f ≤ length l) (sym (put_other file f bytes_uncut c other))
          (subst (λ m. m ≤ length (c f)) (put_other file f (min (s.least file) n) s.least other) (image.no_shorter f))

      no_longer : (f : ℕ) → (f ≡ file) ⊎ (f ≢ file) → length (put file bytes_uncut c f) ≤ s.greatest f
      no_longer f (inl is) = subst (λ g. length (put file bytes_uncut c g) ≤ s.greatest g) (sym is)
          (subst (λ (l : List ℕ). length l ≤ s.greatest file) (sym (put_same file file bytes_uncut c refl)) (omega (arith, length-uncut, image.no_longer file, ordered)))
      no_longer f (inr other) = subst (λ (l : List ℕ). length l ≤ s.greatest f) (sym (put_other file f bytes_uncut c other)) (image.no_longer f)

      kept_here : (k : ℕ) → k < length bytes_uncut → s.is_open file k ≡ false → (k < n) ⊎ (n ≤ k) → (k < length (c file)) ⊎ (length (c file) ≤ k) → get_or bytes_uncut k 0 ≡ get_or (s.synced file) k 0
      kept_here k lt shut (inr high) to = not_front k lt (inl high)
      kept_here k lt shut (inl low) (inr past) = not_front k lt (inr past)
      kept_here k lt shut (inl low) (inl within) = in_front k low within ∙ image.kept file k within (shut_beside file n (all_behind n) s.is_open file k (inr (inl low)) shut)

      kept : (f k : ℕ) → k < length (put file bytes_uncut c f) → s.is_open f k ≡ false → (f ≡ file) ⊎ (f ≢ file) → get_or (put file bytes_uncut c f) k 0 ≡ get_or (s.synced f) k 0
      kept f k lt shut (inl is) =
          let same = put_same file f bytes_uncut c is in
          ap (λ (l : List ℕ). get_or l k 0) same
          ∙ kept_here k (subst (λ (l : List ℕ). k < length l) same lt) (ap (λ g. s.is_open g k) (sym is) ∙ shut) (cases_lt k n) (cases_lt k (length (c file)))
          ∙ ap (λ g. get_or (s.synced g) k 0) (sym is)
      kept f k lt shut (inr other) =
          let same = put_other file f bytes_uncut c other in
          ap (λ (l : List ℕ). get_or l k 0) same
          ∙ image.kept f k (subst (λ (l : List ℕ). k < length l) same lt) (shut_beside file n (all_behind n) s.is_open f k (inl other) shut)
