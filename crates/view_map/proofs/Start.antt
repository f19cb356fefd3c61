-- With what the files begin whose client paths begin with a start.
use Rattle.std.proofs.Common.{◌≡◌, ◌⊎◌, inl, inr, ℕ, ◌+◌, ◌≤◌, Bool, true, false, cond, List, [], ◌∷◌, ◌++◌, length, take, drop, map, Option, Some, None, refl, sym, ap, ◌∙◌, arith, append_assoc}
use Rattle.std.specs.Prelude.{nat_eq, is_some, count_by}
use Rattle.std.specs.List.{list_any, list_all}
use Rattle.std.specs.Cmp.Lexicographic.{pointwise, same_text}
use Rattle.std.proofs.lemmas.Cmp.{nat_list_eq_equiv}
use Rattle.std.proofs.lemmas.Grind.{flat_map-append}
use Rattle.std.proofs.lemmas.List.{append-nil, take-append-drop}
use Rattle.std.proofs.Math.Seq.{take-append_seam}
use Rattle.std.proofs.lemmas.Bool.{and_parts, or_left, or_right}
use Rattle.depot_path.specs.Bytes.{begins_with}
use Rattle.depot_path.specs.Path.{escaped, printed}
use Rattle.depot_path.specs.Pattern.{literal}
use Rattle.depot_path.specs.Fit.{fits, filled}
use Rattle.depot_path.specs.declared.piece.Piece.{Piece}
use Rattle.depot_path.specs.declared.piece.Piece.TheVariants.{Byte, Star, Dots, Place}
use Rattle.depot_path.proofs.Rows.{begins_literal}
use Rattle.view_map.specs.Specifiers.{same_label, labels, labels_after, stands_once, same_specifiers, text_for, answering}
use Rattle.view_map.specs.declared.specifiers.Label.{Label}
use Rattle.view_map.specs.declared.specifiers.Label.TheVariants.{Star as StarLabel, Dots as DotsLabel, Place as PlaceLabel}
use Rattle.view_map.specs.Carry.{client_path, is_paired, is_exclusion}
use Rattle.view_map.specs.Mapping.{taken_by_some, path_in}
use Rattle.view_map.specs.Beginnings.{ends_with_first, front, beginning_of, beginning_below, onto, beginnings}
use Rattle.view_map.specs.declared.line.ViewLine.{ViewLine}
use Rattle.view_map.proofs.Exchange.{label_is, label_same, count_cons, count_one}
use Rattle.view_map.proofs.BothWays.{IsCarried, is_carried, texts_fill, texts_many}
use Rattle.view_map.proofs.Found.{is_given, in_later, in_first, taken_case, ArePaired}

abbrev Texts : Type 0
Texts = List (List ℕ)

-- ---- beginnings of texts

pub begins_itself : (a r : List ℕ) → begins_with (a ++ r) a ≡ true
begins_itself a r = ap (λ (t : List ℕ). pointwise nat_eq a t) (take-append_seam a r) ∙ nat_list_eq_equiv.refl a

-- what follows a beginning
pub rest_of : (t a : List ℕ) → begins_with t a ≡ true → t ≡ a ++ drop (length a) t
rest_of t a e = sym (take-append-drop (length a) t) ∙ ap (λ (u : List ℕ). u ++ drop (length a) t) (sym (same_text a (take (length a) t) (sym e)))

tails : {x y : ℕ} {s t : List ℕ} → x ∷ s ≡ y ∷ t → s ≡ t
tails e = cc

heads : {x y : ℕ} {s t : List ℕ} → x ∷ s ≡ y ∷ t → x ≡ y
heads e = cc

-- of two beginnings of one text the one begins with the other
abbrev Shorter : List ℕ → List ℕ → Type 0
Shorter a b = (s : List ℕ) × (b ≡ a ++ s)

comparable : (a b r s : List ℕ) → a ++ r ≡ b ++ s → Shorter a b ⊎ Shorter b a
comparable [] b r s e = inl (b, refl)
comparable (x ∷ a) [] r s e = inr (x ∷ a, refl)
comparable (x ∷ a) (y ∷ b) r s e =
    elim (comparable a b r s (tails e)) [
      | inl h ↦ inl (h.0, ap (λ z. z ∷ b) (sym (heads e)) ∙ ap (λ (t : List ℕ). x ∷ t) h.1)
      | inr h ↦ inr (h.0, ap (λ z. z ∷ a) (heads e) ∙ ap (λ (t : List ℕ). y ∷ t) h.1)
    ]

begins_more : (a b : List ℕ) → Shorter a b → begins_with b a ≡ true
begins_more a b h = ap (λ t. begins_with t a) h.1 ∙ begins_itself a h.0

same_rest : (a r s : List ℕ) → a ++ r ≡ a ++ s → r ≡ s
same_rest [] r s e = e
same_rest (x ∷ a) r s e = same_rest a r s (tails e)

printed_joined : (a b : List ℕ) → printed (a ++ b) ≡ printed a ++ printed b
printed_joined a b = flat_map-append escaped a b

-- ---- a client side that ends with its first specifier

-- the label of that specifier
abbrev OneLabel : ℕ → ℕ → List Piece → Type 0
OneLabel stars dots p = (l : Label) × (labels_after stars dots p ≡ l ∷ [])

one_label : (p : List Piece) (stars dots : ℕ) → ends_with_first p ≡ true → OneLabel stars dots p
one_label [] stars dots e = absurd cc
one_label (Byte b ∷ p) stars dots e = one_label p stars dots e
one_label (Star ∷ []) stars dots e = (StarLabel stars, refl)
one_label (Dots ∷ []) stars dots e = (DotsLabel dots, refl)
one_label (Place k ∷ []) stars dots e = (PlaceLabel k, refl)
one_label (Star ∷ q ∷ p) stars dots e = absurd cc
one_label (Dots ∷ q ∷ p) stars dots e = absurd cc
one_label (Place k ∷ q ∷ p) stars dots e = absurd cc

filled_end : (p : List Piece) (v : List ℕ) → ends_with_first p ≡ true → filled p (v ∷ []) ≡ literal p ++ v
filled_end [] v e = absurd cc
filled_end (Byte b ∷ p) v e = ap (λ (t : List ℕ). b ∷ t) (filled_end p v e)
filled_end (Star ∷ []) v e = append-nil v
filled_end (Dots ∷ []) v e = append-nil v
filled_end (Place k ∷ []) v e = append-nil v
filled_end (Star ∷ q ∷ p) v e = absurd cc
filled_end (Dots ∷ q ∷ p) v e = absurd cc
filled_end (Place k ∷ q ∷ p) v e = absurd cc

-- where there is a specifier, its text follows the literal text
abbrev Follows : List Piece → List ℕ → Type 0
Follows p v = (rest : List ℕ) × (filled p (v ∷ []) ≡ literal p ++ (v ++ rest))

filled_first : (p : List Piece) (v : List ℕ) (stars dots : ℕ) → 1 ≤ length (labels_after stars dots p) → Follows p v
filled_first [] v stars dots h = absurd (omega (arith, h))
filled_first (Byte b ∷ p) v stars dots h = let r = filled_first p v stars dots h in (r.0, ap (λ (t : List ℕ). b ∷ t) r.1)
filled_first (Star ∷ p) v stars dots h = (filled p [], refl)
filled_first (Dots ∷ p) v stars dots h = (filled p [], refl)
filled_first (Place k ∷ p) v stars dots h = (filled p [], refl)

-- labels of which each stands once in a list of one label, and that once in them
count_alone : (d l : Label) → stands_once (l ∷ []) d ≡ true → d ≡ l
count_alone d l e = go (same_label d l) refl
  where
    one : cond (same_label d l) 1 0 + count_by (same_label d) [] ≡ 1
    one = sym (count_cons d l []) ∙ count_one (l ∷ []) d e

    go : (b : Bool) → same_label d l ≡ b → d ≡ l
    go true f = label_is d l f
    go false f = let none : cond false 1 0 + 0 ≡ 1 = sym (ap (λ b. cond b 1 0 + 0) f) ∙ one in absurd (omega (arith, none))

only_label : (ls : List Label) (l : Label) → list_all (stands_once (l ∷ [])) ls ≡ true → count_by (same_label l) ls ≡ 1 → ls ≡ l ∷ []
only_label [] l h e = let none : 0 ≡ 1 = e in absurd (omega (arith, none))
only_label (d ∷ []) l h e = ap (λ x. x ∷ []) (count_alone d l (and_parts (stands_once (l ∷ []) d) true h).0)
only_label (d ∷ f ∷ ls) l h e =
    let one = count_alone d l (and_parts (stands_once (l ∷ []) d) (list_all (stands_once (l ∷ [])) (f ∷ ls)) h).0 in
    let more = (and_parts (stands_once (l ∷ []) d) (list_all (stands_once (l ∷ [])) (f ∷ ls)) h).1 in
    let two = count_alone f l (and_parts (stands_once (l ∷ []) f) (list_all (stands_once (l ∷ [])) ls) more).0 in
    let a : count_by (same_label l) (d ∷ f ∷ ls) ≡ cond true 1 0 + count_by (same_label l) (f ∷ ls) =
    count_cons l d (f ∷ ls) ∙ ap (λ b. cond b 1 0 + count_by (same_label l) (f ∷ ls)) (ap (same_label l) one ∙ label_same l) in
    let b : count_by (same_label l) (f ∷ ls) ≡ cond true 1 0 + count_by (same_label l) ls =
    count_cons l f ls ∙ ap (λ b. cond b 1 0 + count_by (same_label l) ls) (ap (same_label l) two ∙ label_same l) in
    absurd (omega (arith, a, b, e))

-- the one text of a line whose client side ends with its first specifier
record HasOneText (depot client : List Piece) (file path : List ℕ) : Type 0 where
  text : List ℕ
  in_path : path ≡ literal client ++ text
  rest : List ℕ
  in_file : file ≡ literal depot ++ (text ++ rest)

one_text : (ts : Texts) → length ts ≡ 1 → (v : List ℕ) × (ts ≡ v ∷ [])
one_text [] e = absurd (omega (arith, e))
one_text (v ∷ []) e = (v, refl)
one_text (v ∷ w ∷ ts) e = absurd (omega (arith, e))

its_text : (l : Label) (v : List ℕ) → text_for (l ∷ []) (v ∷ []) l ≡ v
its_text l v = rw (label_same l) refl

has_one_text : (depot client : List Piece) (file path : List ℕ) → same_specifiers depot client ≡ true → ends_with_first client ≡ true → IsCarried depot client file path →
    HasOneText depot client file path
has_one_text depot client file path h e r =
    let l = one_label client 0 0 e in
    let in_client : list_all (stands_once (labels client)) (labels depot) ≡ true =
    (and_parts (list_all (stands_once (labels client)) (labels depot)) (list_all (stands_once (labels depot)) (labels client)) h).0 in
    let in_depot : list_all (stands_once (labels depot)) (labels client) ≡ true =
    (and_parts (list_all (stands_once (labels client)) (labels depot)) (list_all (stands_once (labels depot)) (labels client)) h).1 in
    let once : stands_once (labels depot) l.0 ≡ true =
    (and_parts (stands_once (labels depot) l.0) true (sym (ap (list_all (stands_once (labels depot))) l.1) ∙ in_depot)).0 in
    let same_labels : labels depot ≡ l.0 ∷ [] =
    only_label (labels depot) l.0 (sym (ap (λ ls. list_all (stands_once ls) (labels depot)) l.1) ∙ in_client) (count_one (labels depot) l.0 once) in
    let many : length r.cut ≡ 1 = texts_many depot file r.cut r.is_cut ∙ ap (λ (ls : List Label). length ls) same_labels in
    let v = one_text r.cut many in
    let answer : answering depot client r.cut ≡ v.0 ∷ [] =
    ap (λ ls. map (text_for (labels depot) r.cut) ls) l.1
    ∙ ap (λ ls. text_for ls r.cut l.0 ∷ []) same_labels ∙ ap (λ ts. text_for (l.0 ∷ []) ts l.0 ∷ []) v.1 ∙ ap (λ (t : List ℕ). t ∷ []) (its_text l.0 v.0) in
    let some : 1 ≤ length (labels depot) = omega (arith, ap (λ (ls : List Label). length ls) same_labels) in
    let f = filled_first depot v.0 0 0 some in
    record {
      text = v.0;
      in_path = r.is_made ∙ ap (filled client) answer ∙ filled_end client v.0 e;
      rest = f.0;
      in_file = sym (texts_fill depot file r.cut r.is_cut) ∙ ap (filled depot) v.1 ∙ f.1;
    }

-- ---- one line

abbrev Begins : List ℕ → ViewLine → List ℕ → Type 0
Begins start line file = (text : List ℕ) × (beginning_of start line.depot line.client ≡ Some text) × (begins_with (printed file) text ≡ true)

fits_both : (from to : List Piece) (path made : List ℕ) → IsCarried from to path made → (fits from path ≡ true) × (fits to made ≡ true)
fits_both from to path made r = (ap is_some r.is_cut, ap is_some r.again)

-- the text of the specifier carries the rest of the start over
carries : (depot client : List Piece) (start file path s r : List ℕ) → HasOneText depot client file path → printed path ≡ start ++ r → start ≡ front client ++ s →
    begins_with (printed file) (front depot ++ s) ≡ true
carries depot client start file path s r t e f =
    let a : front client ++ printed t.text ≡ front client ++ (s ++ r) =
    sym (ap printed t.in_path ∙ printed_joined (literal client) t.text) ∙ e ∙ ap (λ (u : List ℕ). u ++ r) f ∙ append_assoc (front client) s r in
    let b : printed t.text ≡ s ++ r = same_rest (front client) (printed t.text) (s ++ r) a in
    let c : printed file ≡ (front depot ++ s) ++ (r ++ printed t.rest) =
    ap printed t.in_file ∙ printed_joined (literal depot) (t.text ++ t.rest)
    ∙ ap (λ (u : List ℕ). front depot ++ u) (printed_joined t.text t.rest ∙ ap (λ (u : List ℕ). u ++ printed t.rest) b ∙ append_assoc s r (printed t.rest))
    ∙ sym (append_assoc (front depot) s (r ++ printed t.rest)) in
    ap (λ u. begins_with u (front depot ++ s)) c ∙ begins_itself (front depot ++ s) (r ++ printed t.rest)

false_true : false ≡ true → ⊥
false_true e = absurd cc

line_begins : (line : ViewLine) (start file path : List ℕ) → is_paired line ≡ true → client_path line file ≡ Some path → begins_with (printed path) start ≡ true → Begins start line file
line_begins line start file path h e b =
    let r = is_carried line.depot line.client file path e in
    let fit = fits_both line.depot line.client file path r in
    go r fit.0 (begins_literal line.client path fit.1) (begins_with (front line.client) start) refl (begins_with start (front line.client)) refl (ends_with_first line.client) refl
  where
    -- the start and the literal text of the client side both begin the printed path
    one_of_them : begins_with (printed path) (front line.client) ≡ true → Shorter start (front line.client) ⊎ Shorter (front line.client) start
    one_of_them f =
        comparable start (front line.client) (drop (length start) (printed path)) (drop (length (front line.client)) (printed path))
        (sym (rest_of (printed path) start b) ∙ rest_of (printed path) (front line.client) f)

    neither : begins_with (printed path) (front line.client) ≡ true → begins_with (front line.client) start ≡ false → begins_with start (front line.client) ≡ false → ⊥
    neither f x y =
        elim (one_of_them f) [
          | inl m ↦ let z = begins_more start (front line.client) m in absurd (false_true (sym x ∙ z))
          | inr m ↦ let z = begins_more (front line.client) start m in absurd (false_true (sym y ∙ z))
        ]

    go : IsCarried line.depot line.client file path → fits line.depot file ≡ true → begins_with (printed path) (front line.client) ≡ true →
        (x : Bool) → begins_with (front line.client) start ≡ x → (y : Bool) → begins_with start (front line.client) ≡ y → (z : Bool) → ends_with_first line.client ≡ z →
        (text : List ℕ) × (cond x (Some (front line.depot)) (cond y (Some (cond z (front line.depot ++ drop (length (front line.client)) start) (front line.depot))) None) ≡ Some text)
        × (begins_with (printed file) text ≡ true)
    go r d f true p y q z s = (front line.depot, refl, begins_literal line.depot file d)
    go r d f false p false q z s = absurd (neither f p q)
    go r d f false p true q false s = (front line.depot, refl, begins_literal line.depot file d)
    go r d f false p true q true s = (
      front line.depot ++ drop (length (front line.client)) start,
      refl,
      carries line.depot line.client start file path (drop (length (front line.client)) start) (drop (length start) (printed path))
          (has_one_text line.depot line.client file path h s r) (rest_of (printed path) start b) (rest_of start (front line.client) q),
    )

-- ---- all lines

with_more : (file : List ℕ) (o : Option (List ℕ)) (more : Texts) → list_any (begins_with (printed file)) more ≡ true → list_any (begins_with (printed file)) (onto o more) ≡ true
with_more file None more e = e
with_more file (Some text) more e = or_right (begins_with (printed file) text) (list_any (begins_with (printed file)) more) e

below_is : (start : List ℕ) (line : ViewLine) → is_exclusion line.sign ≡ false → beginning_below start line ≡ beginning_of start line.depot line.client
below_is start line e = rw e refl

pub some_begins : (lines : List ViewLine) (start file path : List ℕ) → ArePaired lines → path_in lines file ≡ Some path → begins_with (printed path) start ≡ true →
    list_any (begins_with (printed file)) (beginnings start lines) ≡ true
some_begins [] start file path h e b = absurd cc
some_begins (line ∷ later) start file path h e b =
    elim (taken_case (taken_by_some later file)) [
      | inl t ↦
          with_more file (beginning_below start line) (beginnings start later)
          (some_begins later start file path (and_parts (is_paired line) (list_all is_paired later) h).1 (sym (in_later line later file t) ∙ e) b)
      | inr t ↦
          let g = is_given line later file path (sym (in_first line later file t) ∙ e) in
          let r = line_begins line start file path (and_parts (is_paired line) (list_all is_paired later) h).0 g.there b in
          ap (λ o. list_any (begins_with (printed file)) (onto o (beginnings start later))) (below_is start line g.maps ∙ r.1)
          ∙ or_left (begins_with (printed file) r.0) (list_any (begins_with (printed file)) (beginnings start later)) r.2
    ]
