-- Lists that rise in an order are known by what is in them.
use Rattle.std.proofs.Common.{◌≡◌, Bool, true, false, List, [], ◌∷◌, refl, sym, ap, ◌∙◌}
use Rattle.std.specs.Prelude.{◌&&◌, ◌||◌, if◌then◌else◌, filter}
use Rattle.std.specs.List.{list_any}
use Rattle.std.specs.Ordering.{is_lt, ordering_reverse}
use Rattle.std.specs.declared.cmp.Ordering.{Ordering}
use Rattle.std.specs.declared.cmp.Ordering.TheVariants.{Less, Equal, Greater}
use Rattle.std.specs.Cmp.{IsTotalOrder}
use Rattle.std.proofs.lemmas.Bool.{true≢false}

-- whether a list has one that is the same by a test
abbrev pub has_by : {A : Type 0} → (A → A → Bool) → List A → A → Bool
has_by alike xs x = list_any (alike x) xs

or_swap : (a b c : Bool) → (a || (b || c)) ≡ (b || (a || c))
or_swap true true c = refl
or_swap true false c = refl
or_swap false true c = refl
or_swap false false c = refl

or_twice : (a c : Bool) → (a || c) ≡ (a || (a || c))
or_twice true c = refl
or_twice false c = refl

-- a test of what is the same, and an order of what passes another
pub record IsOrder {A : Type 0} (alike : A → A → Bool) (cmp : A → A → Ordering) (good : A → Bool) : Type 0 where
  pub is : (x y : A) → alike x y ≡ true → x ≡ y
  pub self : (x : A) → alike x x ≡ true
  pub total : IsTotalOrder cmp
  pub one : (x y : A) → good x ≡ true → good y ≡ true → cmp x y ≡ Equal → x ≡ y

module _ {A : Type 0} {alike : A → A → Bool} {cmp : A → A → Ordering} {good : A → Bool} (order : IsOrder alike cmp good) where
  abbrev has : List A → A → Bool
  has xs x = has_by alike xs x

  abbrev Below : A → List A → Type 0
  Below p [] = Unit {0}
  Below p (q ∷ qs) = (cmp p q ≡ Less) × Below p qs

  abbrev pub Rise : List A → Type 0
  Rise [] = Unit {0}
  Rise (p ∷ ps) = (good p ≡ true) × Below p ps × Rise ps

  below_more : (p q : A) (qs : List A) → cmp p q ≡ Less → Below q qs → Below p qs
  below_more p q [] e b = tt
  below_more p q (r ∷ rs) e b = (order.total.trans p q r e b.0, below_more p q rs e b.1)

  less_is : (o : Ordering) → is_lt o ≡ true → o ≡ Less
  less_is Less e = refl
  less_is Equal e = absurd cc
  less_is Greater e = absurd cc

  not_itself : (p : A) → cmp p p ≡ Less → ⊥
  not_itself p e = go (cmp p p) (order.total.antisymm p p) e
    where
      go : (o : Ordering) → o ≡ ordering_reverse o → o ≡ Less → ⊥
      go Less h f = absurd cc
      go Equal h f = absurd cc
      go Greater h f = absurd cc

  not_in : (p : A) (ps : List A) → Below p ps → has ps p ≡ false
  not_in p [] b = refl
  not_in p (q ∷ qs) b = go (alike p q) refl (not_in p qs b.1)
    where
      go : (s : Bool) → alike p q ≡ s → has qs p ≡ false → (s || has qs p) ≡ false
      go true e h = absurd (not_itself p (ap (cmp p) (order.is p q e) ∙ b.0))
      go false e h = h

  above_of : (q p : A) (ps : List A) → Below q ps → has ps p ≡ true → cmp q p ≡ Less
  above_of q p [] b e = absurd cc
  above_of q p (r ∷ rs) b e = go (alike p r) refl e (above_of q p rs b.1)
    where
      go : (s : Bool) → alike p r ≡ s → (s || has rs p) ≡ true → (has rs p ≡ true → cmp q p ≡ Less) → cmp q p ≡ Less
      go true k h later = ap (cmp q) (order.is p r k) ∙ b.0
      go false k h later = later h

  -- of two lists that rise with the same in them the first are one
  firsts : (x : A) (xs : List A) (y : A) (ys : List A) → Below x xs → Below y ys → has (y ∷ ys) x ≡ true → has (x ∷ xs) y ≡ true → x ≡ y
  firsts x xs y ys b c e f = go (alike x y) refl (alike y x) refl e f
    where
      go : (s : Bool) → alike x y ≡ s → (t : Bool) → alike y x ≡ t → (s || has ys x) ≡ true → (t || has xs y) ≡ true → x ≡ y
      go true k t l e f = order.is x y k
      go false k true l e f = sym (order.is y x l)
      go false k false l e f = absurd (not_itself x (order.total.trans x y x (above_of x y xs b f) (above_of y x ys c e)))

  own : (x : A) (xs : List A) → has (x ∷ xs) x ≡ true
  own x xs = ap (λ b. b || has xs x) (order.self x)

  pub one_list : (xs ys : List A) → Rise xs → Rise ys → ((z : A) → has xs z ≡ has ys z) → xs ≡ ys
  one_list [] [] up down agree = refl
  one_list [] (y ∷ ys) up down agree = absurd (true≢false (sym (agree y ∙ own y ys)))
  one_list (x ∷ xs) [] up down agree = absurd (true≢false (sym (own x xs) ∙ agree x))
  one_list (x ∷ xs) (y ∷ ys) up down agree =
      let first : x ≡ y = firsts x xs y ys up.1 down.1 (sym (agree x) ∙ own x xs) (agree y ∙ own y ys) in
      let rest : xs ≡ ys = one_list xs ys up.2 down.2 (later first) in
      λ i. first i ∷ rest i
    where
      later : x ≡ y → (z : A) → has xs z ≡ has ys z
      later first z = go (alike z x) refl (alike z y) refl (agree z)
        where
          go : (s : Bool) → alike z x ≡ s → (t : Bool) → alike z y ≡ t → (s || has xs z) ≡ (t || has ys z) → has xs z ≡ has ys z
          go false k false l h = h
          go true k t l h =
              ap (has xs) (order.is z x k) ∙ not_in x xs up.1 ∙ sym (ap (has ys) (order.is z x k ∙ first) ∙ not_in y ys down.1)
          go false k true l h = absurd (true≢false (sym l ∙ ap (alike z) (sym first) ∙ k))

  -- ---- one that is put in its place

  abbrev pub put : A → List A → List A
  put p [] = p ∷ []
  put p (q ∷ qs) = if alike p q then q ∷ qs else (if is_lt (cmp p q) then p ∷ q ∷ qs else q ∷ put p qs)

  after_it : (p q : A) → good p ≡ true → good q ≡ true → alike p q ≡ false → is_lt (cmp p q) ≡ false → cmp q p ≡ Less
  after_it p q is other apart late = order.total.antisymm q p ∙ go (cmp p q) refl
    where
      go : (o : Ordering) → cmp p q ≡ o → ordering_reverse o ≡ Less
      go Less e = absurd (true≢false (ap is_lt (sym e) ∙ late))
      go Equal e = absurd (true≢false (sym (order.self p) ∙ ap (alike p) (order.one p q is other e) ∙ apart))
      go Greater e = refl

  put_below : (r p : A) (ps : List A) → cmp r p ≡ Less → Below r ps → Below r (put p ps)
  put_below r p [] e b = (e, tt)
  put_below r p (q ∷ qs) e b = go (alike p q) (is_lt (cmp p q)) (put_below r p qs e b.1)
    where
      go : (s t : Bool) → Below r (put p qs) → Below r (if s then q ∷ qs else (if t then p ∷ q ∷ qs else q ∷ put p qs))
      go true t rest = b
      go false true rest = (e, b)
      go false false rest = (b.0, rest)

  pub put_rises : (p : A) (ps : List A) → good p ≡ true → Rise ps → Rise (put p ps)
  put_rises p [] is rise = (is, tt, tt)
  put_rises p (q ∷ qs) is rise = go (alike p q) refl (is_lt (cmp p q)) refl (put_rises p qs is rise.2)
    where
      go : (s : Bool) → alike p q ≡ s → (t : Bool) → is_lt (cmp p q) ≡ t → Rise (put p qs)
          → Rise (if s then q ∷ qs else (if t then p ∷ q ∷ qs else q ∷ put p qs))
      go true e t f rest = rise
      go false e true f rest =
          let less : cmp p q ≡ Less = less_is (cmp p q) f in
          (is, (less, below_more p q qs less rise.1), rise)
      go false e false f rest = (rise.0, put_below q p qs (after_it p q is rise.0 e f) rise.1, rest)

  filter_below : (test : A → Bool) (r : A) (ps : List A) → Below r ps → Below r (filter test ps)
  filter_below test r [] b = tt
  filter_below test r (p ∷ ps) b = go (test p) (filter_below test r ps b.1)
    where
      go : (t : Bool) → Below r (filter test ps) → Below r (if t then p ∷ filter test ps else filter test ps)
      go true rest = (b.0, rest)
      go false rest = rest

  pub filter_rises : (test : A → Bool) (ps : List A) → Rise ps → Rise (filter test ps)
  filter_rises test [] rise = tt
  filter_rises test (p ∷ ps) rise = go (test p) (filter_rises test ps rise.2)
    where
      go : (t : Bool) → Rise (filter test ps) → Rise (if t then p ∷ filter test ps else filter test ps)
      go true rest = (rise.0, filter_below test p ps rise.1, rest)
      go false rest = rest

  pub has_put : (z p : A) (ps : List A) → has (put p ps) z ≡ (alike z p || has ps z)
  has_put z p [] = refl
  has_put z p (q ∷ qs) = go (alike p q) refl (is_lt (cmp p q)) (has_put z p qs)
    where
      go : (s : Bool) → alike p q ≡ s → (t : Bool) → has (put p qs) z ≡ (alike z p || has qs z)
          → has (if s then q ∷ qs else (if t then p ∷ q ∷ qs else q ∷ put p qs)) z ≡ (alike z p || (alike z q || has qs z))
      go true e t h = or_twice (alike z q) (has qs z) ∙ ap (λ x. alike z x || (alike z q || has qs z)) (sym (order.is p q e))
      go false e true h = refl
      go false e false h = ap (λ b. alike z q || b) h ∙ or_swap (alike z q) (alike z p) (has qs z)

  -- what a list has of what passes a test
  pub has_filter : (test : A → Bool) (xs : List A) (z : A) → has (filter test xs) z ≡ (has xs z && test z)
  has_filter test [] z = refl
  has_filter test (x ∷ xs) z = go (test x) refl (alike z x) refl (has_filter test xs z)
    where
      none : (b : Bool) → (b && false) ≡ false
      none true = refl
      none false = refl

      go : (t : Bool) → test x ≡ t → (s : Bool) → alike z x ≡ s → has (filter test xs) z ≡ (has xs z && test z)
          → has (if t then x ∷ filter test xs else filter test xs) z ≡ ((s || has xs z) && test z)
      go true e true k h = ap (λ b. b || has (filter test xs) z) k ∙ sym (ap test (order.is z x k) ∙ e)
      go true e false k h = ap (λ b. b || has (filter test xs) z) k ∙ h
      go false e true k h =
          let no : test z ≡ false = ap test (order.is z x k) ∙ e in
          h ∙ ap (λ b. has xs z && b) no ∙ none (has xs z) ∙ sym no
      go false e false k h = h
