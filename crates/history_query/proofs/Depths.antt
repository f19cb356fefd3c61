-- Directories of one depth: a pattern without `...` fits no others, each path has at most one, and the files below it stand together.
use Rattle.std.proofs.Common.{◌≡◌, ℕ, zero, suc, ◌+◌, ◌<◌, Bool, true, false, cond, List, [], ◌∷◌, ◌++◌, Option, Some, None, refl, sym, ap, subst, ◌∙◌, add_assoc, append_assoc, append-nil, arith, zero-add}
use Rattle.std.specs.Prelude.{◌==◌, ◌||◌, codes, if◌then◌else◌, is_some, not, option_map}
use Rattle.std.specs.List.{AllZip, count_by, list_any}
use Rattle.std.specs.Ordering.{is_lt, nat_cmp, ordering_reverse, ordering_then}
use Rattle.std.specs.declared.cmp.Ordering.{Ordering}
use Rattle.std.specs.declared.cmp.Ordering.TheVariants.{Less, Equal, Greater}
use Rattle.std.proofs.lemmas.Bool.{eqb-true, false≢true, true≢false}
use Rattle.std.proofs.lemmas.Bool.Decides.{nat_tests}
use Rattle.std.proofs.lemmas.Cmp.{nat_cmp_total}
use Rattle.std.proofs.lemmas.List.Sums.{sum_by-cons}
use Rattle.depot_rows.specs.depot_path.Fit.{StandsFor, filled, fits, specifiers, texts}
use Rattle.depot_rows.specs.depot_path.Path.{escaped, printed}
use Rattle.depot_rows.specs.depot_path.declared.piece.Piece.{Piece}
use Rattle.depot_rows.specs.depot_path.declared.piece.Piece.TheVariants.{Byte, Dots, Place, Star}
use Rattle.depot_rows.proofs.depot_path.Texts.{texts_are}
use Rattle.named_files.proofs.Walking.{number_is, text_cmp}
use Rattle.history_query.specs.Directories.{all_fitting, fitting_inserted, text_inserted}
use Rattle.history_query.specs.Leaping.{front_before, is_dots, is_slash, slash_count}
use Rattle.history_query.proofs.Above.{slash_fronts}

-- ---- how many slashes a text has that fits

count_on : (text rest : List ℕ) → slash_count (text ++ rest) ≡ slash_count text + slash_count rest
count_on [] rest = sym (zero-add (slash_count rest))
count_on (b ∷ text) rest = ap (λ (n : ℕ). (if b == 0x2F then 1 else 0) + n) (count_on text rest) ∙ sym (add_assoc (if b == 0x2F then 1 else 0) (slash_count text) (slash_count rest))

no_slash : (text : List ℕ) → not (list_any (λ b. b == 0x2F) text) ≡ true → slash_count text ≡ 0
no_slash [] e = refl
no_slash (b ∷ text) e = go (b == 0x2F) e (no_slash text)
  where
    go : (s : Bool) → not (s || list_any (λ x. x == 0x2F) text) ≡ true → (not (list_any (λ x. x == 0x2F) text) ≡ true → slash_count text ≡ 0) → cond s 1 0 + slash_count text ≡ 0
    go true h more = absurd (false≢true h)
    go false h more = omega (arith, more h)

stood_for : (text rest : List ℕ) (n : ℕ) → not (list_any (λ b. b == 0x2F) text) ≡ true → slash_count rest ≡ n → slash_count (text ++ rest) ≡ 0 + n
stood_for text rest n none e = count_on text rest ∙ (λ i. no_slash text none i + e i)

-- a piece before others
piece_before : (piece : Piece) (pattern : List Piece) → (if is_slash piece then 1 else 0) + count_by is_slash pattern ≡ count_by is_slash (piece ∷ pattern)
piece_before piece pattern = sym (sum_by-cons (λ x. cond (is_slash x) 1 0) piece pattern)

filled_slashes : (pattern : List Piece) (parts : List (List ℕ)) → list_any is_dots pattern ≡ false → AllZip StandsFor (specifiers pattern) parts
    → slash_count (filled pattern parts) ≡ count_by is_slash pattern
filled_slashes [] parts plain each = refl
filled_slashes (Byte b ∷ pattern) parts plain each = ap (λ (n : ℕ). cond (b == 0x2F) 1 0 + n) (filled_slashes pattern parts plain each) ∙ piece_before (Byte b) pattern
filled_slashes (Dots ∷ pattern) parts plain each = absurd (true≢false plain)
filled_slashes (Star ∷ pattern) [] plain each = absurd each
filled_slashes (Star ∷ pattern) (text ∷ parts) plain each =
    stood_for text (filled pattern parts) (count_by is_slash pattern) each.0 (filled_slashes pattern parts plain each.1) ∙ piece_before Star pattern
filled_slashes (Place k ∷ pattern) [] plain each = absurd each
filled_slashes (Place k ∷ pattern) (text ∷ parts) plain each =
    stood_for text (filled pattern parts) (count_by is_slash pattern) each.0 (filled_slashes pattern parts plain each.1) ∙ piece_before (Place k) pattern

pub fitting_slashes : (pattern : List Piece) → list_any is_dots pattern ≡ false → (text : List ℕ) → fits pattern text ≡ true → slash_count text ≡ count_by is_slash pattern
fitting_slashes pattern plain text e = go (texts pattern text) refl e
  where
    go : (found : Option (List (List ℕ))) → texts pattern text ≡ found → is_some found ≡ true → slash_count text ≡ count_by is_slash pattern
    go None f h = absurd (false≢true h)
    go (Some parts) f h =
        let fill = (texts_are pattern text parts f).fill in
        sym (ap slash_count fill.whole) ∙ filled_slashes pattern parts plain fill.each

-- ---- of the directories above a path one alone may fit

slash_on : (before : List ℕ) (b : ℕ) (s : Bool) → (b == 0x2F) ≡ s → slash_count (before ++ b ∷ []) ≡ slash_count before + cond s 1 0
slash_on before b s e =
    count_on before (b ∷ []) ∙ ap (λ (t : Bool). slash_count before + (cond t 1 0 + 0)) e ∙ go s
  where
    go : (t : Bool) → slash_count before + (cond t 1 0 + 0) ≡ slash_count before + cond t 1 0
    go true = omega arith
    go false = omega arith

slash_more : (before : List ℕ) (b n : ℕ) → n < slash_count before → n < slash_count (before ++ b ∷ [])
slash_more before b n deep = go (b == 0x2F) (slash_on before b (b == 0x2F) refl)
  where
    go : (s : Bool) → slash_count (before ++ b ∷ []) ≡ slash_count before + cond s 1 0 → n < slash_count (before ++ b ∷ [])
    go true e = omega (arith, e, deep)
    go false e = omega (arith, e, deep)

module _ (pattern : List Piece) (n : ℕ) (same_count : (text : List ℕ) → fits pattern text ≡ true → slash_count text ≡ n) where
  abbrev pub put_if : Option (List ℕ) → List (List ℕ) → List (List ℕ)
  put_if directory set = elim directory [ None ↦ set | Some d ↦ fitting_inserted pattern d set ]

  not_put : (text : List ℕ) (set : List (List ℕ)) → (slash_count text ≡ n → ⊥) → fitting_inserted pattern text set ≡ set
  not_put text set other = go (fits pattern text) refl
    where
      go : (b : Bool) → fits pattern text ≡ b → (if b then text_inserted (printed text) set else set) ≡ set
      go true e = absurd (other (same_count text e))
      go false e = refl

  too_deep : (before rest : List ℕ) (set : List (List ℕ)) → n < slash_count before → all_fitting pattern (slash_fronts before rest) set ≡ set
  too_deep before [] set deep = refl
  too_deep before (b ∷ rest) set deep = go (b == 0x2F) (too_deep (before ++ b ∷ []) rest set (slash_more before b n deep))
    where
      later : List (List ℕ)
      later = slash_fronts (before ++ b ∷ []) rest

      go : (s : Bool) → all_fitting pattern later set ≡ set → all_fitting pattern (if s then before ∷ later else later) set ≡ set
      go true more = not_put before (all_fitting pattern later set) (λ e. omega (arith, e, deep)) ∙ more
      go false more = more

  behind : (before : List ℕ) (b : ℕ) (front : Option (List ℕ)) (set : List (List ℕ))
      → put_if (option_map (λ f. (before ++ b ∷ []) ++ f) front) set ≡ put_if (option_map (λ f. before ++ f) (option_map (λ f. b ∷ f) front)) set
  behind before b None set = refl
  behind before b (Some f) set = ap (λ (d : List ℕ). fitting_inserted pattern d set) (append_assoc before (b ∷ []) f)

  pub one_fits : (m : ℕ) (before rest : List ℕ) (set : List (List ℕ)) → slash_count before + m ≡ n
      → all_fitting pattern (slash_fronts before rest) set ≡ put_if (option_map (λ f. before ++ f) (front_before m rest)) set
  one_fits m before [] set e = refl
  one_fits zero before (b ∷ rest) set e = go (b == 0x2F) refl (slash_on before b (b == 0x2F) refl) (λ k. one_fits zero (before ++ b ∷ []) rest set k)
    where
      later : List (List ℕ)
      later = slash_fronts (before ++ b ∷ []) rest

      go : (s : Bool) → (b == 0x2F) ≡ s → slash_count (before ++ b ∷ []) ≡ slash_count before + cond s 1 0
          → (slash_count (before ++ b ∷ []) + 0 ≡ n → all_fitting pattern later set ≡ put_if (option_map (λ f. (before ++ b ∷ []) ++ f) (front_before zero rest)) set)
          → all_fitting pattern (if s then before ∷ later else later) set
          ≡ put_if (option_map (λ f. before ++ f) (if s then Some [] else option_map (λ f. b ∷ f) (front_before zero rest))) set
      go true is count more =
          ap (fitting_inserted pattern before) (too_deep (before ++ b ∷ []) rest set (omega (arith, e, count)))
          ∙ ap (λ (d : List ℕ). fitting_inserted pattern d set) (sym (append-nil before))
      go false is count more = more (omega (arith, e, count)) ∙ behind before b (front_before zero rest) set
  one_fits (suc m) before (b ∷ rest) set e = go (b == 0x2F) refl (slash_on before b (b == 0x2F) refl) (λ j k. one_fits j (before ++ b ∷ []) rest set k)
    where
      later : List (List ℕ)
      later = slash_fronts (before ++ b ∷ []) rest

      go : (s : Bool) → (b == 0x2F) ≡ s → slash_count (before ++ b ∷ []) ≡ slash_count before + cond s 1 0
          → ((j : ℕ) → slash_count (before ++ b ∷ []) + j ≡ n → all_fitting pattern later set ≡ put_if (option_map (λ f. (before ++ b ∷ []) ++ f) (front_before j rest)) set)
          → all_fitting pattern (if s then before ∷ later else later) set
          ≡ put_if (option_map (λ f. before ++ f) (option_map (λ f. b ∷ f) (front_before (if s then m else suc m) rest))) set
      go true is count more =
          not_put before (all_fitting pattern later set) (λ h. omega (arith, e, h))
          ∙ more m (omega (arith, e, count)) ∙ behind before b (front_before m rest) set
      go false is count more = more (suc m) (omega (arith, e, count)) ∙ behind before b (front_before (suc m) rest) set

-- ---- it is printed as that of the printed path

three : (x y z : ℕ) (front : Option (List ℕ)) → option_map (λ f. x ∷ f) (option_map (λ f. y ∷ f) (option_map (λ f. z ∷ f) front)) ≡ option_map (λ f. x ∷ y ∷ z ∷ f) front
three x y z None = refl
three x y z (Some f) = refl

plain_on : (m b : ℕ) (rest : List ℕ) → (b == 0x2F) ≡ false → front_before m (b ∷ rest) ≡ option_map (λ f. b ∷ f) (front_before m rest)
plain_on zero b rest e = ap (λ (s : Bool). if s then Some [] else option_map (λ f. b ∷ f) (front_before zero rest)) e
plain_on (suc m) b rest e = ap (λ (s : Bool). option_map (λ f. b ∷ f) (front_before (if s then m else suc m) rest)) e

escape_on : (m x y z : ℕ) (rest : List ℕ) → (x == 0x2F) ≡ false → (y == 0x2F) ≡ false → (z == 0x2F) ≡ false
    → front_before m (x ∷ y ∷ z ∷ rest) ≡ option_map (λ f. x ∷ y ∷ z ∷ f) (front_before m rest)
escape_on m x y z rest a b c =
    plain_on m x (y ∷ z ∷ rest) a
    ∙ ap (option_map (λ f. x ∷ f)) (plain_on m y (z ∷ rest) b)
    ∙ ap (λ (o : Option (List ℕ)). option_map (λ f. x ∷ f) (option_map (λ f. y ∷ f) o)) (plain_on m z rest c)
    ∙ three x y z (front_before m rest)

printed_on : (m b : ℕ) (rest : List ℕ) → (b == 0x2F) ≡ false → front_before m (escaped b ++ rest) ≡ option_map (λ f. escaped b ++ f) (front_before m rest)
printed_on m b rest e = go (b == 0x40) (b == 0x23) (b == 0x2A) (b == 0x25)
  where
    go : (w x y z : Bool) → front_before m ((if w then codes "%40" else (if x then codes "%23" else (if y then codes "%2A" else (if z then codes "%25" else b ∷ [])))) ++ rest)
        ≡ option_map (λ f. (if w then codes "%40" else (if x then codes "%23" else (if y then codes "%2A" else (if z then codes "%25" else b ∷ [])))) ++ f) (front_before m rest)
    go true x y z = escape_on m 0x25 0x34 0x30 rest refl refl refl
    go false true y z = escape_on m 0x25 0x32 0x33 rest refl refl refl
    go false false true z = escape_on m 0x25 0x32 0x41 rest refl refl refl
    go false false false true = escape_on m 0x25 0x32 0x35 rest refl refl refl
    go false false false false = plain_on m b rest e

printed_front : (b : ℕ) (front : Option (List ℕ)) → option_map (λ f. escaped b ++ f) (option_map printed front) ≡ option_map printed (option_map (λ f. b ∷ f) front)
printed_front b None = refl
printed_front b (Some f) = refl

pub front_printed : (m : ℕ) (rest : List ℕ) → front_before m (printed rest) ≡ option_map printed (front_before m rest)
front_printed m [] = refl
front_printed m (b ∷ rest) = go (b == 0x2F) refl (λ k. front_printed k rest)
  where
    slash : (k : ℕ) → ((j : ℕ) → front_before j (printed rest) ≡ option_map printed (front_before j rest))
        → front_before k (printed (0x2F ∷ rest)) ≡ option_map printed (front_before k (0x2F ∷ rest))
    slash zero more = refl
    slash (suc k) more = ap (option_map (λ f. 0x2F ∷ f)) (more k) ∙ printed_front 0x2F (front_before k rest)

    go : (s : Bool) → (b == 0x2F) ≡ s → ((j : ℕ) → front_before j (printed rest) ≡ option_map printed (front_before j rest))
        → front_before m (printed (b ∷ rest)) ≡ option_map printed (front_before m (b ∷ rest))
    go true e more = subst (λ (c : ℕ). front_before m (printed (c ∷ rest)) ≡ option_map printed (front_before m (c ∷ rest))) (sym (eqb-true b 0x2F e)) (slash m more)
    go false e more =
        printed_on m b (printed rest) e
        ∙ ap (option_map (λ f. escaped b ++ f)) (more m)
        ∙ printed_front b (front_before m rest)
        ∙ ap (option_map printed) (sym (plain_on m b rest e))

-- ---- a text goes on with a slash behind it, and any text that begins so has it

pub record IsFront (m : ℕ) (text front : List ℕ) : Type 0 where
  pub rest : List ℕ
  pub whole : text ≡ front ++ 0x2F ∷ rest
  pub again : (other : List ℕ) → front_before m (front ++ 0x2F ∷ other) ≡ Some front

abbrev Fronts : ℕ → List ℕ → Type 0
Fronts m text = (k : List ℕ) → front_before m text ≡ Some k → IsFront m text k

pub front_is : (m : ℕ) (text front : List ℕ) → front_before m text ≡ Some front → IsFront m text front
front_is m [] front e = absurd cc
front_is zero (b ∷ text) front e = go (b == 0x2F) refl e (λ k f. front_is zero text k f)
  where
    at : (o : Option (List ℕ)) → front_before zero text ≡ o → (b == 0x2F) ≡ false → option_map (λ f. b ∷ f) o ≡ Some front → Fronts zero text → IsFront zero (b ∷ text) front
    at None f s h below = absurd cc
    at (Some k) f s h below =
        let is : b ∷ k ≡ front = cc in
        let more = below k f in
        subst (λ (t : List ℕ). IsFront zero (b ∷ text) t) is (record {
          rest = more.rest;
          whole = ap (λ (t : List ℕ). b ∷ t) more.whole;
          again = λ other. plain_on zero b (k ++ 0x2F ∷ other) s ∙ ap (option_map (λ f. b ∷ f)) (more.again other);
        })

    go : (s : Bool) → (b == 0x2F) ≡ s → (if s then Some [] else option_map (λ f. b ∷ f) (front_before zero text)) ≡ Some front → Fronts zero text → IsFront zero (b ∷ text) front
    go true s h below =
        let is : [] ≡ front = cc in
        subst (λ (t : List ℕ). IsFront zero (b ∷ text) t) is (record { rest = text; whole = ap (λ (c : ℕ). c ∷ text) (eqb-true b 0x2F s); again = λ other. refl })
    go false s h below = at (front_before zero text) refl s h below
front_is (suc m) (b ∷ text) front e = at (front_before (if b == 0x2F then m else suc m) text) refl e (λ k f. front_is (if b == 0x2F then m else suc m) text k f)
  where
    at : (o : Option (List ℕ)) → front_before (if b == 0x2F then m else suc m) text ≡ o → option_map (λ f. b ∷ f) o ≡ Some front
        → Fronts (if b == 0x2F then m else suc m) text → IsFront (suc m) (b ∷ text) front
    at None f h below = absurd cc
    at (Some k) f h below =
        let is : b ∷ k ≡ front = cc in
        let more = below k f in
        subst (λ (t : List ℕ). IsFront (suc m) (b ∷ text) t) is (record {
          rest = more.rest;
          whole = ap (λ (t : List ℕ). b ∷ t) more.whole;
          again = λ other. ap (option_map (λ f. b ∷ f)) (more.again other);
        })

-- ---- the order of texts that begin alike

number_less : (m n : ℕ) → nat_cmp m n ≡ Less → m < n
number_less m n e = grind (arith, nat_tests)

turned_number : (m n : ℕ) (o : Ordering) → nat_cmp m n ≡ o → nat_cmp n m ≡ ordering_reverse o
turned_number m n o e = nat_cmp_total.antisymm n m ∙ ap ordering_reverse e

nothing_before : (a : List ℕ) → text_cmp a [] ≡ Less → ⊥
nothing_before [] e = absurd cc
nothing_before (x ∷ a) e = absurd cc

pub alike_cmp : (a b c : List ℕ) → text_cmp (a ++ b) (a ++ c) ≡ text_cmp b c
alike_cmp [] b c = refl
alike_cmp (x ∷ a) b c = (λ i. ordering_then (same_number i) (text_cmp (a ++ b) (a ++ c))) ∙ alike_cmp a b c
  where
    same_number : nat_cmp x x ≡ Equal
    same_number = go (nat_cmp x x) refl
      where
        go : (o : Ordering) → nat_cmp x x ≡ o → o ≡ Equal
        go Less e = absurd (omega (arith, number_less x x e))
        go Equal e = refl
        go Greater e = absurd (omega (arith, number_less x x (turned_number x x Greater e)))

-- what is behind a text that begins with another one and a slash, and before that one with the byte behind the slash, begins so too
pub between : (a r y : List ℕ) → text_cmp (a ++ 0x2F ∷ r) y ≡ Less → text_cmp y (a ++ 0x30 ∷ []) ≡ Less → (s : List ℕ) × (y ≡ a ++ 0x2F ∷ s)
between [] r [] low high = absurd cc
between (x ∷ a) r [] low high = absurd cc
between [] r (c ∷ y) low high = go (nat_cmp 0x2F c) refl low (nat_cmp c 0x30) refl high
  where
    go : (o : Ordering) → nat_cmp 0x2F c ≡ o → ordering_then o (text_cmp r y) ≡ Less → (p : Ordering) → nat_cmp c 0x30 ≡ p → ordering_then p (text_cmp y []) ≡ Less
        → (s : List ℕ) × (c ∷ y ≡ 0x2F ∷ s)
    go Less e l Less f h = absurd (omega (arith, number_less 0x2F c e, number_less c 0x30 f))
    go Less e l Equal f h = absurd (nothing_before y h)
    go Less e l Greater f h = absurd cc
    go Equal e l p f h = (y, ap (λ (k : ℕ). k ∷ y) (sym (number_is 0x2F c e)))
    go Greater e l p f h = absurd cc
between (x ∷ a) r (c ∷ y) low high = go (nat_cmp x c) refl low (between a r y)
  where
    go : (o : Ordering) → nat_cmp x c ≡ o → ordering_then o (text_cmp (a ++ 0x2F ∷ r) y) ≡ Less
        → (text_cmp (a ++ 0x2F ∷ r) y ≡ Less → text_cmp y (a ++ 0x30 ∷ []) ≡ Less → (s : List ℕ) × (y ≡ a ++ 0x2F ∷ s)) → (s : List ℕ) × (c ∷ y ≡ x ∷ a ++ 0x2F ∷ s)
    go Less e l more = absurd (let h : Greater ≡ Less = (λ i. ordering_then (sym (turned_number x c Less e) i) (text_cmp y (a ++ 0x30 ∷ []))) ∙ high in cc)
    go Equal e l more =
        let h : text_cmp y (a ++ 0x30 ∷ []) ≡ Less = (λ i. ordering_then (sym (turned_number x c Equal e) i) (text_cmp y (a ++ 0x30 ∷ []))) ∙ high in
        let found = more l h in
        (found.0, (λ i. sym (number_is x c e) i ∷ found.1 i))
    go Greater e l more = absurd cc

-- what is behind a text isn't before it with a further byte 0
pub behind_all : (t q : List ℕ) → text_cmp t q ≡ Less → is_lt (text_cmp q (t ++ 0 ∷ [])) ≡ false
behind_all [] [] e = absurd cc
behind_all (x ∷ t) [] e = absurd cc
behind_all [] (c ∷ q) e = go (nat_cmp c 0) refl (text_cmp q []) refl
  where
    go : (o : Ordering) → nat_cmp c 0 ≡ o → (p : Ordering) → text_cmp q [] ≡ p → is_lt (ordering_then o p) ≡ false
    go Less f p g = absurd (omega (arith, number_less c 0 f))
    go Equal f Less g = absurd (nothing_before q g)
    go Equal f Equal g = refl
    go Equal f Greater g = refl
    go Greater f p g = refl
behind_all (x ∷ t) (c ∷ q) e = go (nat_cmp x c) refl e (behind_all t q)
  where
    go : (o : Ordering) → nat_cmp x c ≡ o → ordering_then o (text_cmp t q) ≡ Less → (text_cmp t q ≡ Less → is_lt (text_cmp q (t ++ 0 ∷ [])) ≡ false)
        → is_lt (ordering_then (nat_cmp c x) (text_cmp q (t ++ 0 ∷ []))) ≡ false
    go Less f h more = ap (λ (o : Ordering). is_lt (ordering_then o (text_cmp q (t ++ 0 ∷ [])))) (turned_number x c Less f)
    go Equal f h more = ap (λ (o : Ordering). is_lt (ordering_then o (text_cmp q (t ++ 0 ∷ [])))) (turned_number x c Equal f) ∙ more h
    go Greater f h more = absurd cc
