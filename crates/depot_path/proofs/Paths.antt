-- What is read is a path, and what is printed is read again.
use Rattle.std.proofs.Common.{◌≡◌, ℕ, Bool, true, false, cond, nat_le, List, [], ◌∷◌, length, drop, Option, Some, None, refl, sym, ap, subst, ◌∙◌, arith, Ok}
use Rattle.std.specs.Prelude.{codes, ◌||◌, ◌&&◌, not, nat_lt, nat_eq}
use Rattle.std.specs.List.{list_any}
use Rattle.std.proofs.lemmas.Bool.Decides.{nat_tests}
use Rattle.std.proofs.lemmas.Bool.{and_parts, and_from, or_from, or_parts}
use Rattle.depot_path.specs.declared.fault.PathFault.{PathFault}
use Rattle.depot_path.specs.declared.fault.PathFault.TheVariants.{NoSlashes, EmptyPart, BadEscape, BadByte, TooLong, Dots}
use Rattle.depot_path.specs.Bytes.{is_among, same}
use Rattle.depot_path.specs.Path.{printed, unescaped, components, begins_with_slashes, has_empty_component, has_dot_component, has_three_dots, has_bad_escape, is_text, is_path, first_fault, unless, path_fault, path_of}
use Rattle.depot_path.proofs.Units.{Mark, Plain, At, Hash, Star, SmallStar, Percent, spelled, meant, AreMarks, AreMarksOf, find_marks, marks_of, marks_are, marks_spelled, marks_meant, reads, no_bad, none_barred, same_control, same_dots, same_chars, same_slashes, split_spelled, split_meant, parts_of, slash_split, any_part, count_parts, same_empty, is_dot, is_two_dots, same_length, both_or, start}

-- a text and the path that it spells look alike
record Alike (text path : List ℕ) : Type 0 where
  size : length text ≡ length (printed path)
  slashes : begins_with_slashes text ≡ begins_with_slashes path
  count : length (components text) ≡ length (components path)
  empty : has_empty_component text ≡ has_empty_component path
  dot : has_dot_component text ≡ has_dot_component path
  dots : has_three_dots text ≡ has_three_dots path
  plain : is_text text ≡ is_text path

false_true : (let b : Bool = false in b) ≡ true → ⊥
false_true e = absurd cc

record SlashesFirst (marks : List Mark) : Type 0 where
  after : List Mark
  text_is : drop 2 (spelled marks) ≡ spelled after
  path_is : drop 2 (meant marks) ≡ meant after

slashes_first : (marks : List Mark) → begins_with_slashes (meant marks) ≡ true → SlashesFirst marks
slashes_first [] e = absurd (false_true e)
slashes_first (Plain b ∷ []) e = absurd (false_true (and_parts (nat_eq 47 b) false e).1)
slashes_first (Plain b ∷ Plain c ∷ marks) e = record { after = marks; text_is = refl; path_is = refl }
slashes_first (Plain b ∷ At ∷ marks) e = absurd (false_true (and_parts (nat_eq 47 b) false e).1)
slashes_first (Plain b ∷ Hash ∷ marks) e = absurd (false_true (and_parts (nat_eq 47 b) false e).1)
slashes_first (Plain b ∷ Star ∷ marks) e = absurd (false_true (and_parts (nat_eq 47 b) false e).1)
slashes_first (Plain b ∷ SmallStar ∷ marks) e = absurd (false_true (and_parts (nat_eq 47 b) false e).1)
slashes_first (Plain b ∷ Percent ∷ marks) e = absurd (false_true (and_parts (nat_eq 47 b) false e).1)
slashes_first (At ∷ marks) e = absurd (false_true e)
slashes_first (Hash ∷ marks) e = absurd (false_true e)
slashes_first (Star ∷ marks) e = absurd (false_true e)
slashes_first (SmallStar ∷ marks) e = absurd (false_true e)
slashes_first (Percent ∷ marks) e = absurd (false_true e)

both_parts : (test : List ℕ → Bool) → ((part : List Mark) → test (spelled part) ≡ test (meant part)) → (marks : List Mark) → SlashesFirst marks →
    list_any test (components (spelled marks)) ≡ list_any test (components (meant marks))
both_parts test same marks h =
    ap (λ t. list_any test (slash_split t)) h.text_is ∙ ap (λ parts. list_any test parts) (split_spelled h.after)
    ∙ any_part test same (parts_of h.after)
    ∙ sym (ap (λ t. list_any test (slash_split t)) h.path_is ∙ ap (λ parts. list_any test parts) (split_meant h.after))

both_counts : (marks : List Mark) → SlashesFirst marks → length (components (spelled marks)) ≡ length (components (meant marks))
both_counts marks h =
    ap (λ t. length (slash_split t)) h.text_is ∙ ap (λ (parts : List (List ℕ)). length parts) (split_spelled h.after)
    ∙ count_parts (parts_of h.after)
    ∙ sym (ap (λ t. length (slash_split t)) h.path_is ∙ ap (λ (parts : List (List ℕ)). length parts) (split_meant h.after))

both_and : {a b c d : Bool} → a ≡ b → c ≡ d → (a && not c) ≡ (b && not d)
both_and e f = cc

alike : (marks : List Mark) → AreMarks marks → begins_with_slashes (meant marks) ≡ true → Alike (spelled marks) (meant marks)
alike marks h e =
    let f : SlashesFirst marks = slashes_first marks e in
    record {
      size = same_length marks h;
      slashes = same_slashes marks;
      count = both_counts marks f;
      empty = both_parts (same []) same_empty marks f;
      dot = both_parts (λ part. same part (codes ".") || same part (codes "..")) (λ part. both_or (is_dot part) (is_two_dots part)) marks f;
      dots = same_dots marks;
      plain = both_and (same_chars marks (Some start) refl) (same_control marks);
    }

-- ---- faults

some_none : {f : PathFault} → (let o : Option PathFault = Some f in o) ≡ None → ⊥
some_none e = absurd cc

no_fault_here : (c : Bool) (f : PathFault) (rest : Option PathFault) → cond c (Some f) rest ≡ None → c ≡ false
no_fault_here true f rest e = absurd (some_none e)
no_fault_here false f rest e = refl

no_fault_after : (c : Bool) (f : PathFault) (rest : Option PathFault) → cond c (Some f) rest ≡ None → rest ≡ None
no_fault_after true f rest e = absurd (some_none e)
no_fault_after false f rest e = e

not_true : (a : Bool) → not a ≡ false → a ≡ true
not_true true e = refl
not_true false e = absurd cc

pub record Passes (text : List ℕ) : Type 0 where
  pub size : nat_lt 1024 (length text) ≡ false
  pub slashes : begins_with_slashes text ≡ true
  pub count : nat_lt (length (components text)) 2 ≡ false
  pub empty : has_empty_component text ≡ false
  pub escapes : has_bad_escape text ≡ false
  pub barred : list_any (is_among (codes "@#*")) text ≡ false
  pub plain : is_text text ≡ true
  pub dot : has_dot_component text ≡ false
  pub dots : has_three_dots text ≡ false

passes : (text : List ℕ) → path_fault text ≡ None → Passes text
passes text e0 =
    let e1 = no_fault_after _ _ _ e0 in
    let e2 = no_fault_after _ _ _ e1 in
    let e3 = no_fault_after _ _ _ e2 in
    let e4 = no_fault_after _ _ _ e3 in
    let e5 = no_fault_after _ _ _ e4 in
    record {
      size = no_fault_here _ _ _ e0;
      slashes = not_true _ (no_fault_here _ _ _ e1);
      count = (or_parts _ _ (no_fault_here _ _ _ e2)).0;
      empty = (or_parts _ _ (no_fault_here _ _ _ e2)).1;
      escapes = no_fault_here _ _ _ e3;
      barred = (or_parts _ _ (no_fault_here _ _ _ e4)).0;
      plain = not_true _ (or_parts _ _ (no_fault_here _ _ _ e4)).1;
      dot = (or_parts _ _ (no_fault_here _ _ _ e5)).0;
      dots = (or_parts _ _ (no_fault_here _ _ _ e5)).1;
    }

pub not_false : (a : Bool) → a ≡ false → not a ≡ true
not_false a e = ap not e

short : (m n : ℕ) → nat_lt 1024 m ≡ false → m ≡ n → nat_le n 1024 ≡ true
short m n e f = grind (arith, nat_tests)

enough : (m n : ℕ) → nat_lt m 2 ≡ false → m ≡ n → nat_le 2 n ≡ true
enough m n e f = grind (arith, nat_tests)

path_from : (text path : List ℕ) → Passes text → Alike text path → is_path path ≡ true
path_from text path p a =
    and_from _ _ (and_from _ _ (and_from _ _ (and_from _ _ (and_from _ _ (and_from _ _
    (short (length text) (length (printed path)) p.size a.size)
    (sym a.slashes ∙ p.slashes))
    (enough (length (components text)) (length (components path)) p.count a.count))
    (not_false _ (sym a.empty ∙ p.empty)))
    (sym a.plain ∙ p.plain))
    (not_false _ (sym a.dot ∙ p.dot)))
    (not_false _ (sym a.dots ∙ p.dots))

alike_read : (text : List ℕ) → Passes text → Alike text (unescaped 0 text)
alike_read text p =
    let r : AreMarksOf 0 text = find_marks 0 text p.escapes p.barred in
    let starts : begins_with_slashes (meant r.marks) ≡ true = sym (same_slashes r.marks) ∙ ap begins_with_slashes r.source_is ∙ p.slashes in
    let a : Alike (spelled r.marks) (meant r.marks) = alike r.marks r.are starts in
    subst (λ t. Alike t (unescaped 0 text)) r.source_is (subst (λ u. Alike (spelled r.marks) u) r.value_is a)

pub reads_path : (text : List ℕ) → path_fault text ≡ None → is_path (unescaped 0 text) ≡ true
reads_path text e = let p : Passes text = passes text e in path_from text (unescaped 0 text) p (alike_read text p)

-- ---- printed paths

not_long : (m n : ℕ) → nat_le n 1024 ≡ true → m ≡ n → nat_lt 1024 m ≡ false
not_long m n e f = grind (arith, nat_tests)

not_few : (m n : ℕ) → nat_le 2 n ≡ true → m ≡ n → nat_lt m 2 ≡ false
not_few m n e f = grind (arith, nat_tests)

pub not_not : (a : Bool) → not a ≡ true → a ≡ false
not_not true e = absurd cc
not_not false e = refl

no_fault : (c0 c1 c2 c3 c4 c5 : Bool) → c0 ≡ false → c1 ≡ false → c2 ≡ false → c3 ≡ false → c4 ≡ false → c5 ≡ false →
    first_fault ((c0, TooLong) ∷ (c1, NoSlashes) ∷ (c2, EmptyPart) ∷ (c3, BadEscape) ∷ (c4, BadByte) ∷ (c5, Dots) ∷ []) ≡ None
no_fault true c1 c2 c3 c4 c5 e0 e1 e2 e3 e4 e5 = absurd cc
no_fault false true c2 c3 c4 c5 e0 e1 e2 e3 e4 e5 = absurd cc
no_fault false false true c3 c4 c5 e0 e1 e2 e3 e4 e5 = absurd cc
no_fault false false false true c4 c5 e0 e1 e2 e3 e4 e5 = absurd cc
no_fault false false false false true c5 e0 e1 e2 e3 e4 e5 = absurd cc
no_fault false false false false false true e0 e1 e2 e3 e4 e5 = absurd cc
no_fault false false false false false false e0 e1 e2 e3 e4 e5 = refl

alike_printed : (path : List ℕ) → begins_with_slashes path ≡ true → Alike (printed path) path
alike_printed path e =
    let starts : begins_with_slashes (meant (marks_of path)) ≡ true = ap begins_with_slashes (marks_meant path) ∙ e in
    let a : Alike (spelled (marks_of path)) (meant (marks_of path)) = alike (marks_of path) (marks_are path) starts in
    subst (λ t. Alike t path) (marks_spelled path) (subst (λ u. Alike (spelled (marks_of path)) u) (marks_meant path) a)

passes_printed : (path : List ℕ) → is_path path ≡ true → path_fault (printed path) ≡ None
passes_printed path e6 =
    let e5 = (and_parts _ _ e6).0 in
    let e4 = (and_parts _ _ e5).0 in
    let e3 = (and_parts _ _ e4).0 in
    let e2 = (and_parts _ _ e3).0 in
    let e1 = (and_parts _ _ e2).0 in
    let starts : begins_with_slashes path ≡ true = (and_parts _ _ e1).1 in
    let a : Alike (printed path) path = alike_printed path starts in
    no_fault _ _ _ _ _ _
    (not_long (length (printed path)) (length (printed path)) (and_parts _ _ e1).0 refl)
    (ap not (a.slashes ∙ starts))
    (or_from _ _ (not_few (length (components (printed path))) (length (components path)) (and_parts _ _ e2).1 a.count) (a.empty ∙ not_not _ (and_parts _ _ e3).1))
    (ap has_bad_escape (sym (marks_spelled path)) ∙ no_bad (marks_of path) (marks_are path))
    (or_from _ _ (ap (λ t. list_any (is_among (codes "@#*")) t) (sym (marks_spelled path)) ∙ none_barred (marks_of path) (marks_are path)) (ap not (a.plain ∙ (and_parts _ _ e4).1)))
    (or_from _ _ (a.dot ∙ not_not _ (and_parts _ _ e5).1) (a.dots ∙ not_not _ (and_parts _ _ e6).1))

found : (text path : List ℕ) → path_fault text ≡ None → unescaped 0 text ≡ path → path_of text ≡ Ok path
found text path e f = ap (λ o. unless o (unescaped 0 text)) e ∙ ap (λ p. unless None p) f

pub prints_path : (path : List ℕ) → is_path path ≡ true → path_of (printed path) ≡ Ok path
prints_path path e =
    found (printed path) path (passes_printed path e)
    (ap (λ t. unescaped 0 t) (sym (marks_spelled path)) ∙ reads (marks_of path) (marks_are path) ∙ marks_meant path)
