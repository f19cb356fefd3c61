-- The reader of a word reads the words and no others.
use Rattle.std.proofs.Common.{◌≡◌, ℕ, suc, ◌+◌, ◌-◌, ◌<◌, ◌≤◌, Bool, true, false, cond, eqb, leb, List, [], ◌∷◌, ◌++◌, length, take, drop, Option, Some, None, refl, sym, ap, subst, ◌∙◌, append_assoc, ◌⊎◌, inl, inr, arith, length-append, length-drop, get_or, drop-cons}
use Rattle.std.proofs.Math.Seq.{take-append_seam}
use Rattle.std.specs.Prelude.{nat_eq}
use Rattle.std.specs.Str.{bytes_eq}
use Rattle.std.specs.List.{AllByRecursion, starts_with}
use Rattle.std.proofs.lemmas.List.{append-nil, take-append-drop, take_all, length-take-le}
use Rattle.std.proofs.lemmas.Bool.{and_parts, and_from, eqb-true, eq-eqb, leb-true, leb-false, both_ways, cases_lt}
use Rattle.record_text.specs.declared.fault.Part.{Part}
use Rattle.record_text.specs.Reading.{Reading, Done, Ends, Wrong, Begins, Stops, Reads}
use Rattle.record_text.specs.Words.{first_word, common, greater, reach, word_read, word_at}

-- ---- equal bytes

pub bytes_are : (xs ys : List ℕ) → bytes_eq xs ys ≡ true → xs ≡ ys
bytes_are [] [] e = refl
bytes_are [] (y ∷ ys) e = absurd cc
bytes_are (x ∷ xs) [] e = absurd cc
bytes_are (x ∷ xs) (y ∷ ys) e =
    let p = and_parts (eqb x y) (bytes_eq xs ys) e in
    ap (λ (z : ℕ). z ∷ xs) (eqb-true x y p.0) ∙ ap (λ (t : List ℕ). y ∷ t) (bytes_are xs ys p.1)

bytes_same : (xs : List ℕ) → bytes_eq xs xs ≡ true
bytes_same [] = refl
bytes_same (x ∷ xs) = and_from (eqb x x) (bytes_eq xs xs) (eq-eqb x x refl) (bytes_same xs)

-- ---- fronts

starts_is : (bytes text : List ℕ) → starts_with nat_eq bytes text ≡ true → bytes ≡ text ++ drop (length text) bytes
starts_is bytes text e = sym (take-append-drop (length text) bytes) ∙ ap (λ (t : List ℕ). t ++ drop (length text) bytes) (sym (bytes_are text (take (length text) bytes) e))

starts_from : (text rest : List ℕ) → starts_with nat_eq (text ++ rest) text ≡ true
starts_from text rest = ap (bytes_eq text) (take-append_seam text rest) ∙ bytes_same text

-- two texts with what follows them: the longer one begins with the shorter
split_front : (a more t rest : List ℕ) → a ++ more ≡ t ++ rest → length a ≤ length t → t ≡ a ++ drop (length a) t
split_front [] more t rest e le = refl
split_front (x ∷ a) more [] rest e le = absurd (omega arith)
split_front (x ∷ a) more (y ∷ t) rest e le =
    let first : y ≡ x = cc in
    let later : a ++ more ≡ t ++ rest = cc in
    ap (λ (z : ℕ). z ∷ t) first ∙ ap (λ (s : List ℕ). x ∷ s) (split_front a more t rest later (omega arith))

-- ---- what two texts have in common

common_here : (b : Bool) (x y : ℕ) (n : ℕ) → eqb x y ≡ b → (cond b (suc n) 0 ≡ 0) ⊎ ((x ≡ y) × (cond b (suc n) 0 ≡ suc n))
common_here true x y n e = inr (eqb-true x y e, refl)
common_here false x y n e = inl refl

common_take : (text bytes : List ℕ) → take (common text bytes) text ≡ take (common text bytes) bytes
common_take [] bytes = refl
common_take (x ∷ text) [] = refl
common_take (x ∷ text) (y ∷ bytes) =
    elim (common_here (eqb x y) x y (common text bytes) refl) [
      | inl z ↦ ap (λ (n : ℕ). take n (x ∷ text)) z ∙ sym (ap (λ (n : ℕ). take n (y ∷ bytes)) z)
      | inr s ↦ ap (λ (n : ℕ). take n (x ∷ text)) s.1 ∙ ap (λ (z : ℕ). z ∷ take (common text bytes) text) s.0 ∙ ap (λ (t : List ℕ). y ∷ t) (common_take text bytes) ∙ sym (ap (λ (n : ℕ). take n (y ∷ bytes)) s.1)
    ]

common_front : (front t b : List ℕ) → length front ≤ common (front ++ t) (front ++ b)
common_front [] t b = omega arith
common_front (x ∷ front) t b =
    let ih = common_front front t b in
    let same : eqb x x ≡ true = eq-eqb x x refl in
    let one : common ((x ∷ front) ++ t) ((x ∷ front) ++ b) ≡ suc (common (front ++ t) (front ++ b)) = ap (λ (c : Bool). cond c (suc (common (front ++ t) (front ++ b))) 0) same in
    omega arith

pub common_none : (text : List ℕ) → common text [] ≡ 0
common_none [] = refl
common_none (x ∷ text) = refl

greater_is : (m n : ℕ) → (m ≤ greater m n) × (n ≤ greater m n) × ((greater m n ≡ m) ⊎ (greater m n ≡ n))
greater_is m n = by (leb m n) refl
  where
    by : (b : Bool) → leb m n ≡ b → (m ≤ cond b n m) × (n ≤ cond b n m) × ((cond b n m ≡ m) ⊎ (cond b n m ≡ n))
    by true e = (leb-true m n e, omega arith, inr refl)
    by false e = (omega arith, (let lt : n < m = leb-false m n e in omega arith), inl refl)

-- ---- the first word

abbrev pick : {A : Type 0} → Bool → A → Option A → Option A
pick b v o = cond b (Some v) o

pick_some : {A : Type 0} (b : Bool) (v a : A) (o : Option A) → pick b v o ≡ Some a → ((b ≡ true) × (v ≡ a)) ⊎ ((b ≡ false) × (o ≡ Some a))
pick_some true v a o e = inl (refl, cc)
pick_some false v a o e = inr (refl, e)

pick_none : {A : Type 0} (b : Bool) (v : A) (o : Option A) → pick b v o ≡ None → (b ≡ false) × (o ≡ None)
pick_none true v o e = absurd cc
pick_none false v o e = (refl, e)

-- a value that was found is one of them, and the bytes begin with its text
value_is : {A : Type 0} (text : A → List ℕ) (Fits : A → Type 0) (values : List A) (bytes : List ℕ) (a : A) → AllByRecursion Fits values → first_word text values bytes ≡ Some a → Fits a × (starts_with nat_eq bytes (text a) ≡ true)
value_is text Fits [] bytes a all e = absurd cc
value_is text Fits (v ∷ values) bytes a all e =
    elim (pick_some (starts_with nat_eq bytes (text v)) v a (first_word text values bytes) e) [
      | inl h ↦ (subst Fits h.1 all.0, ap (λ x. starts_with nat_eq bytes (text x)) (sym h.1) ∙ h.0)
      | inr h ↦ value_is text Fits values bytes a all.1 h.1
    ]

-- a value that some bytes find is among them: where other bytes find none they don't begin with its text, and its text goes along with them no further than some text does
among : {A : Type 0} (text : A → List ℕ) (values : List A) (other bytes : List ℕ) (a : A) → first_word text values other ≡ Some a → first_word text values bytes ≡ None → (starts_with nat_eq bytes (text a) ≡ false) × (common (text a) bytes ≤ reach text values bytes)
among text [] other bytes a e none = absurd cc
among text (v ∷ values) other bytes a e none =
    let p = pick_none (starts_with nat_eq bytes (text v)) v (first_word text values bytes) none in
    let g = greater_is (common (text v) bytes) (reach text values bytes) in
    elim (pick_some (starts_with nat_eq other (text v)) v a (first_word text values other) e) [
      | inl h ↦ (ap (λ x. starts_with nat_eq bytes (text x)) (sym h.1) ∙ p.0, subst (λ x. common (text x) bytes ≤ reach text (v ∷ values) bytes) h.1 g.0)
      | inr h ↦ (let ih = among text values other bytes a h.1 p.1 in let le : common (text a) bytes ≤ reach text values bytes = ih.1 in let up : reach text values bytes ≤ reach text (v ∷ values) bytes = g.1 in (ih.0, omega arith))
    ]

-- some value's text goes along with the bytes so far
record Goes {A : Type 0} (text : A → List ℕ) (Fits : A → Type 0) (bytes : List ℕ) (n : ℕ) : Type 0 where
  value : A
  fits : Fits value
  apart : starts_with nat_eq bytes (text value) ≡ false
  far : n ≡ common (text value) bytes

goes : {A : Type 0} (text : A → List ℕ) (Fits : A → Type 0) (values : List A) (bytes : List ℕ) → AllByRecursion Fits values → first_word text values bytes ≡ None → (reach text values bytes ≡ 0) ⊎ Goes text Fits bytes (reach text values bytes)
goes text Fits [] bytes all none = inl refl
goes text Fits (v ∷ values) bytes all none =
    let p = pick_none (starts_with nat_eq bytes (text v)) v (first_word text values bytes) none in
    let g = greater_is (common (text v) bytes) (reach text values bytes) in
    elim g.2 [
      | inl e ↦ inr (record { value = v; fits = all.0; apart = p.0; far = e })
      | inr e ↦ elim (goes text Fits values bytes all.1 p.1) [
        | inl z ↦ inl (e ∙ z)
        | inr w ↦ inr (record { value = w.value; fits = w.fits; apart = w.apart; far = e ∙ w.far })
      ]
    ]

longer : {A : Type 0} (text : A → List ℕ) (Fits : A → Type 0) (v : A) (bytes front more after : List ℕ) → Fits v → starts_with nat_eq bytes (text v) ≡ false → bytes ≡ front ++ after → text v ≡ front ++ more → Begins Fits text front
longer text Fits v bytes front [] after fits apart b e =
    let whole : bytes ≡ text v ++ after = b ∙ ap (λ (t : List ℕ). t ++ after) (sym (append-nil front) ∙ sym e) in
    absurd (both_ways (starts_with nat_eq bytes (text v)) apart (ap (λ (t : List ℕ). starts_with nat_eq t (text v)) whole ∙ starts_from (text v) after))
longer text Fits v bytes front (x ∷ more) after fits apart b e = record { value = v; fits = fits; next = x; more = more; whole = sym e }

-- where no word is at the front, what the bytes have of some text goes on
front_goes : {A : Type 0} (text : A → List ℕ) (Fits : A → Type 0) (values : List A) (bytes : List ℕ) → AllByRecursion Fits values → Begins Fits text [] → first_word text values bytes ≡ None → Begins Fits text (take (reach text values bytes) bytes)
front_goes text Fits values bytes all some none =
    elim (goes text Fits values bytes all none) [
      | inl z ↦ subst (λ (n : ℕ). Begins Fits text (take n bytes)) (sym z) some
      | inr w ↦ longer text Fits w.value bytes (take (reach text values bytes) bytes) (drop (reach text values bytes) (text w.value)) (drop (reach text values bytes) bytes) w.fits w.apart
          (sym (take-append-drop (reach text values bytes) bytes))
          (sym (take-append-drop (reach text values bytes) (text w.value)) ∙ ap (λ (t : List ℕ). t ++ drop (reach text values bytes) (text w.value)) (ap (λ (n : ℕ). take n (text w.value)) w.far ∙ common_take (text w.value) bytes ∙ ap (λ (n : ℕ). take n bytes) (sym w.far)))
    ]

-- ---- the laws

abbrev done : {A : Type 0} → A → List ℕ → Reading A
done a rest = Done a rest

abbrev tested : {A : Type 0} → Bool → Part → ℕ → Reading A
tested b part left = cond b Ends (Wrong part left)

tested_ends : {A : Type 0} (b : Bool) (part : Part) (left : ℕ) → tested {A = A} b part left ≡ Ends → b ≡ true
tested_ends true part left e = refl
tested_ends false part left e = absurd cc

tested_wrong : {A : Type 0} (b : Bool) (part q : Part) (left n : ℕ) → tested {A = A} b part left ≡ Wrong q n → (b ≡ false) × (left ≡ n)
tested_wrong true part q left n e = absurd cc
tested_wrong false part q left n e = (refl, cc)

tested_done : {A : Type 0} (b : Bool) (part : Part) (left : ℕ) (a : A) (rest : List ℕ) → tested b part left ≡ Done a rest → ⊥
tested_done true part left a rest e = cc
tested_done false part left a rest e = cc

done_is : {A : Type 0} (a b : A) (r s : List ℕ) → done a r ≡ Done b s → (a ≡ b) × (r ≡ s)
done_is a b r s e = (cc, cc)

no_done_ends : {A : Type 0} (a : A) (r : List ℕ) → done a r ≡ Ends → ⊥
no_done_ends a r e = cc

no_done_wrong : {A : Type 0} (a : A) (r : List ℕ) (part : Part) (n : ℕ) → done a r ≡ Wrong part n → ⊥
no_done_wrong a r part n e = cc

word_done : {A : Type 0} (text : A → List ℕ) (values : List A) (part : Part) (Fits : A → Type 0) (bytes : List ℕ) (a : A) (rest : List ℕ) (o : Option A) → AllByRecursion Fits values → first_word text values bytes ≡ o
    → word_read text part bytes o (reach text values bytes) ≡ Done a rest → Fits a × (bytes ≡ text a ++ rest) × (o ≡ Some a)
word_done {A = A} text values part Fits bytes a rest (Some v) all e d =
    let h = value_is text Fits values bytes v all e in
    let same = done_is v a (drop (length (text v)) bytes) rest d in
    (subst Fits same.0 h.0, starts_is bytes (text v) h.1 ∙ ap (λ (t : List ℕ). text v ++ t) same.1 ∙ ap (λ (x : A). text x ++ rest) same.0, ap (λ (x : A). Some x) same.0)
word_done text values part Fits bytes a rest None all e d = absurd (tested_done (leb (length bytes) (reach text values bytes)) part (length bytes - reach text values bytes) a rest d)

word_ends : {A : Type 0} (text : A → List ℕ) (values : List A) (part : Part) (Fits : A → Type 0) (bytes : List ℕ) (o : Option A) → AllByRecursion Fits values → Begins Fits text [] → first_word text values bytes ≡ o
    → word_read text part bytes o (reach text values bytes) ≡ Ends → Begins Fits text bytes
word_ends text values part Fits bytes (Some v) all some e d = absurd (no_done_ends v (drop (length (text v)) bytes) d)
word_ends text values part Fits bytes None all some e d =
    let le = leb-true (length bytes) (reach text values bytes) (tested_ends (leb (length bytes) (reach text values bytes)) part (length bytes - reach text values bytes) d) in
    subst (Begins Fits text) (take_all (reach text values bytes) bytes le) (front_goes text Fits values bytes all some e)

-- no text goes on with the byte behind what the bytes have of some text
none_goes : {A : Type 0} (text : A → List ℕ) (values : List A) (part : Part) (bytes front after more rest : List ℕ) (bad : ℕ) (a : A) → bytes ≡ front ++ bad ∷ after → length front ≡ reach text values bytes → first_word text values bytes ≡ None
    → first_word text values (text a ++ []) ≡ Some a → (front ++ bad ∷ []) ++ more ≡ text a ++ rest → ⊥
none_goes text values part bytes front after more rest bad a parts far none found e =
    let n = among text values (text a ++ []) bytes a found none in
    let split : bytes ≡ (front ++ bad ∷ []) ++ after = parts ∙ sym (append_assoc front (bad ∷ []) after) in
    let l : length (front ++ bad ∷ []) ≡ length front + 1 = length-append front (bad ∷ []) in
    elim (cases_lt (length (text a)) (length (front ++ bad ∷ []))) [
      | inl lt ↦
          let short : length (text a) ≤ length (front ++ bad ∷ []) = omega arith in
          let longer_is = split_front (text a) rest (front ++ bad ∷ []) more (sym e) short in
          let whole : bytes ≡ text a ++ (drop (length (text a)) (front ++ bad ∷ []) ++ after) = split ∙ ap (λ (t : List ℕ). t ++ after) longer_is ∙ append_assoc (text a) (drop (length (text a)) (front ++ bad ∷ [])) after in
          both_ways (starts_with nat_eq bytes (text a)) n.0 (ap (λ (t : List ℕ). starts_with nat_eq t (text a)) whole ∙ starts_from (text a) (drop (length (text a)) (front ++ bad ∷ []) ++ after))
      | inr long ↦
          let text_is = split_front (front ++ bad ∷ []) more (text a) rest e long in
          let c = common_front (front ++ bad ∷ []) (drop (length (front ++ bad ∷ [])) (text a)) after in
          let same : common (text a) bytes ≡ common ((front ++ bad ∷ []) ++ drop (length (front ++ bad ∷ [])) (text a)) ((front ++ bad ∷ []) ++ after) = ap (λ (t : List ℕ). common t bytes) text_is ∙ ap (common ((front ++ bad ∷ []) ++ drop (length (front ++ bad ∷ [])) (text a))) split in
          let le : common (text a) bytes ≤ reach text values bytes = n.1 in
          omega arith
    ]

word_wrong : {A : Type 0} (text : A → List ℕ) (values : List A) (part q : Part) (Fits : A → Type 0) (bytes : List ℕ) (left : ℕ) (o : Option A) → AllByRecursion Fits values → Begins Fits text [] → ((a : A) → Fits a → first_word text values (text a ++ []) ≡ Some a)
    → first_word text values bytes ≡ o → word_read text part bytes o (reach text values bytes) ≡ Wrong q left → Stops Fits text bytes left
word_wrong text values part q Fits bytes left (Some v) all some found e d = absurd (no_done_wrong v (drop (length (text v)) bytes) q left d)
word_wrong text values part q Fits bytes left None all some found e d =
    let t = tested_wrong (leb (length bytes) (reach text values bytes)) part q (length bytes - reach text values bytes) left d in
    let lt : reach text values bytes < length bytes = leb-false (length bytes) (reach text values bytes) t.0 in
    let place : length bytes - reach text values bytes ≡ left = t.1 in
    let n = reach text values bytes in
    let parts : bytes ≡ take n bytes ++ get_or bytes n 0 ∷ drop (suc n) bytes = sym (take-append-drop n bytes) ∙ ap (λ (s : List ℕ). take n bytes ++ s) (drop-cons bytes n 0 lt) in
    let far : length (take n bytes) ≡ n = length-take-le n bytes (omega arith) in
    let behind : length (drop (suc n) bytes) ≡ length bytes - suc n = length-drop (suc n) bytes in
    record {
      front = take n bytes;
      bad = get_or bytes n 0;
      after = drop (suc n) bytes;
      parts = parts;
      place = omega arith;
      begins = front_goes text Fits values bytes all some e;
      none = λ a more rest fits same. none_goes text values part bytes (take n bytes) (drop (suc n) bytes) more rest (get_or bytes n 0) a parts far e (found a fits) same;
    }

pub word_reads : {A : Type 0} (text : A → List ℕ) (values : List A) (part : Part) (Fits : A → Type 0) → AllByRecursion Fits values → Begins Fits text [] → ((a : A) (rest : List ℕ) → Fits a → word_at text values part (text a ++ rest) ≡ Done a rest) → Reads (word_at text values part) Fits text
word_reads {A = A} text values part Fits all some again =
    let found : (a : A) → Fits a → first_word text values (text a ++ []) ≡ Some a = λ a fits. (word_done text values part Fits (text a ++ []) a [] (first_word text values (text a ++ [])) all refl (again a [] fits)).2 in
    record {
      done = λ bytes a rest e. let d = word_done text values part Fits bytes a rest (first_word text values bytes) all refl e in (d.0, d.1);
      again = again;
      ends = λ bytes e. word_ends text values part Fits bytes (first_word text values bytes) all some refl e;
      wrong = λ bytes q left e. word_wrong text values part q Fits bytes left (first_word text values bytes) all some found refl e;
    }
