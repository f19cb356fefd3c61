-- How the numbers of lines go on by one line, and that a line which says anything is among those that may name the caller.
use Rattle.std.proofs.Common.{◌≡◌, ◌⊎◌, inl, inr, ℕ, zero, suc, ◌+◌, ◌-◌, ◌<◌, ◌≤◌, Bool, true, false, cond, List, [], ◌∷◌, ◌++◌, length, get_or, refl, sym, ap, subst, ◌∙◌, arith, Option, Some, None, Ok, Err}
use Rattle.std.specs.Prelude.{◌&&◌, ◌||◌, ◌==◌, nat_le, not, option_and_then, slice_get, unwrap_or}
use Rattle.std.specs.BTreeMap.{BTreeMap, get}
use Rattle.std.specs.Cmp.Lexicographic.{nat_list_eq_equiv, slice_cmp}
use Rattle.std.specs.List.{list_all, list_any}
use Rattle.std.specs.Option.{option_copied}
use Rattle.std.specs.Ordering.{is_eq, nat_cmp}
use Rattle.std.specs.Str.{bytes_eq}
use Rattle.std.proofs.lemmas.Bool.{and_from, and_parts, cases_Bool, cases_lt, cond-false, cond-true, eqb-true, false_from_ne_true, ne_eqb, or_parts}
use Rattle.std.proofs.lemmas.List.{append-nil}
use Rattle.std.proofs.lemmas.Slice.Eq.{bytes_eq-Decides}
use Rattle.std.proofs.lemmas.Option.{get_or_from_slice_get, slice_get-get_or, slice_get_within}
use Rattle.std.proofs.lemmas.Map.Text.{is_eq-slice_cmp}
use Rattle.depot_path.specs.Answers.{Answers}
use Rattle.depot_path.specs.Bytes.{is_digit}
use Rattle.depot_path.specs.Fit.{fits}
use Rattle.depot_path.specs.Name.{begins_with_dash, is_barred, is_name, name_of}
use Rattle.depot_path.specs.Utf8.{is_utf8}
use Rattle.depot_path.specs.declared.name.NameFault.TheVariants.{Memory, NotAName}
use Rattle.protect_table.specs.Mode.{denies, grants}
use Rattle.protect_table.specs.Numbers.{AreOf, AreRising, IsAdded, IsSaid, IsWithin, denies_there, denying, end_of, granting, grants_there, is_for, is_of, is_of_many, names_one, numbers_at, numbers_from, one_if, said_at, said_to}
use Rattle.protect_table.specs.Rights.{denies_at, denies_everywhere, granted, grants_at, grants_somewhere, is_grantee, is_none, is_whole, names, verdict}
use Rattle.protect_table.specs.Wildcard.{fits_next, fits_word}
use Rattle.protect_table.specs.declared.line.ProtectLine.{ProtectLine}
use Rattle.protect_table.specs.declared.mode.Grantee.{Grantee}
use Rattle.protect_table.specs.declared.mode.Grantee.TheVariants.{User, Group}
use Rattle.protect_table.specs.declared.numbers.Numbers.{Numbers}
use Rattle.protect_table.specs.declared.protects.Table.{Table}
use Rattle.protect_table.specs.declared.said.Question.{Question}
use Rattle.protect_table.specs.declared.said.Said.{Said}
use Rattle.protect_table.specs.declared.who.Who.{Who}
use Rattle.protect_table.proofs.Standing.{Undecided, decided, nothing_decides, undecided, undecided_more}

abbrev Test : Type 0
Test = ProtectLine → Bool

abbrev ByName : Type 0
ByName = BTreeMap (List ℕ) (List ℕ)

-- ---- one line more

behind_if : (b : Bool) (n : ℕ) (numbers before after : List ℕ) → numbers ≡ before ++ after → cond b (n ∷ numbers) numbers ≡ cond b (n ∷ before) before ++ after
behind_if true n numbers before after e = ap (λ l. n ∷ l) e
behind_if false n numbers before after e = e

pub one_more : (n : ℕ) (test : Test) (lines : List ProtectLine) (line : ProtectLine) →
    numbers_from n test (lines ++ line ∷ []) ≡ numbers_from n test lines ++ one_if (test line) (n + length lines)
one_more n test [] line = ap (one_if (test line)) (omega arith)
one_more n test (x ∷ lines) line =
    let m : n + 1 + length lines ≡ n + suc (length lines) = omega arith in
    behind_if (test x) n _ _ _ (one_more (n + 1) test lines line ∙ ap (λ k. numbers_from (n + 1) test lines ++ one_if (test line) k) m)

pub added : (before after : Numbers) (lines : List ProtectLine) (line : ProtectLine) (n : ℕ) → n ≡ length lines → AreOf before lines → IsAdded before after n line →
    AreOf after (lines ++ line ∷ [])
added before after lines line n e h more =
    let last : n ≡ 0 + length lines = omega (arith, e) in
    let so_far : (test : Test) (l m : List ℕ) → l ≡ numbers_from 0 test lines → m ≡ l ++ one_if (test line) n → m ≡ numbers_from 0 test (lines ++ line ∷ []) =
    λ test l m was is. is ∙ ap (λ k. k ++ one_if (test line) n) was ∙ ap (λ k. numbers_from 0 test lines ++ one_if (test line) k) last ∙ sym (one_more 0 test lines line) in
    record {
      users = λ name. so_far (is_of User name) _ _ (h.users name) (more.users name);
      groups = λ name. so_far (is_of Group name) _ _ (h.groups name) (more.groups name);
      others = so_far is_of_many _ _ h.others more.others;
    }

-- ---- they rise

least_if : (b : Bool) (n : ℕ) (numbers : List ℕ) → ((j : ℕ) → j < length numbers → n + 1 ≤ get_or numbers j 0) →
    (j : ℕ) → j < length (cond b (n ∷ numbers) numbers) → n ≤ get_or (cond b (n ∷ numbers) numbers) j 0
least_if true n numbers least zero low = omega arith
least_if true n numbers least (suc j) low = omega (arith, least j (omega (arith, low)))
least_if false n numbers least j low = omega (arith, least j low)

at_least : (n : ℕ) (test : Test) (lines : List ProtectLine) (j : ℕ) → j < length (numbers_from n test lines) → n ≤ get_or (numbers_from n test lines) j 0
at_least n test [] j low = absurd (omega (arith, low))
at_least n test (x ∷ lines) j low = least_if (test x) n (numbers_from (n + 1) test lines) (at_least (n + 1) test lines) j low

rising_if : (b : Bool) (n : ℕ) (numbers : List ℕ) → ((j : ℕ) → j < length numbers → n + 1 ≤ get_or numbers j 0) → AreRising numbers → AreRising (cond b (n ∷ numbers) numbers)
rising_if true n numbers least rise i zero less low = absurd (omega (arith, less))
rising_if true n numbers least rise zero (suc j) less low = omega (arith, least j (omega (arith, low)))
rising_if true n numbers least rise (suc i) (suc j) less low = rise i j (omega (arith, less)) (omega (arith, low))
rising_if false n numbers least rise i j less low = rise i j less low

pub are_rising : (n : ℕ) (test : Test) (lines : List ProtectLine) → AreRising (numbers_from n test lines)
are_rising n test [] i j less low = absurd (omega (arith, low))
are_rising n test (x ∷ lines) i j less low = rising_if (test x) n (numbers_from (n + 1) test lines) (at_least (n + 1) test lines) (are_rising (n + 1) test lines) i j less low

-- ---- the number of a line that passes is among them

abbrev IsThere : List ℕ → ℕ → Type 0
IsThere numbers n = (j : ℕ) × (j < length numbers) × (get_or numbers j 0 ≡ n)

first_if : (b : Bool) (n k : ℕ) (numbers : List ℕ) → b ≡ true → n ≡ k → IsThere (cond b (n ∷ numbers) numbers) k
first_if true n k numbers e is = (0, omega arith, is)
first_if false n k numbers e is = absurd cc

later_if : (b : Bool) (n k : ℕ) (numbers : List ℕ) → IsThere numbers k → IsThere (cond b (n ∷ numbers) numbers) k
later_if true n k numbers (j, low, is) = (suc j, omega (arith, low), is)
later_if false n k numbers there = there

pub is_there : (n : ℕ) (test : Test) (lines : List ProtectLine) (k : ℕ) (line : ProtectLine) → slice_get lines k ≡ Some line → test line ≡ true →
    IsThere (numbers_from n test lines) (n + k)
is_there n test [] k line e passes = absurd cc
is_there n test (x ∷ lines) zero line e passes =
    let is : x ≡ line = cc in
    first_if (test x) n (n + 0) (numbers_from (n + 1) test lines) (ap test is ∙ passes) (omega arith)
is_there n test (x ∷ lines) (suc k) line e passes =
    let m : n + 1 + k ≡ n + suc k = omega arith in
    later_if (test x) n (n + suc k) (numbers_from (n + 1) test lines) (subst (IsThere (numbers_from (n + 1) test lines)) m (is_there (n + 1) test lines k line e passes))

-- ---- a name without a `*` fits itself alone

not_star : (b : ℕ) → is_barred b ≡ false → (b == 0x2A) ≡ false
not_star b e = false_from_ne_true (b == 0x2A) (λ star. let is : b ≡ 0x2A = eqb-true b 0x2A star in let no : true ≡ false = ap is_barred (sym is) ∙ e in absurd cc)

byte_fits : (star : Bool) (b : ℕ) (word text : List ℕ) → star ≡ false → ((rest : List ℕ) → fits_word word rest ≡ true → word ≡ rest) →
    fits_next star b (fits_word word) text ≡ true → b ∷ word ≡ text
byte_fits true b word text e rest fits = absurd cc
byte_fits false b word [] e rest fits = absurd cc
byte_fits false b word (c ∷ text) e rest fits =
    let both = and_parts (b == c) (fits_word word text) fits in
    let first : b ≡ c = eqb-true b c both.0 in
    let others : word ≡ text = rest text both.1 in
    cc

is_itself : (word text : List ℕ) → list_any is_barred word ≡ false → fits_word word text ≡ true → word ≡ text
is_itself [] [] plain fits = refl
is_itself [] (c ∷ text) plain fits = absurd cc
is_itself (b ∷ word) text plain fits =
    let parts = or_parts (is_barred b) (list_any is_barred word) plain in
    byte_fits (b == 0x2A) b word text (not_star b parts.0) (λ rest. is_itself word rest parts.1) fits

fourth : (a b c d e f : Bool) → (a && b && c && not d && e && f) ≡ true → d ≡ false
fourth true true true false e f h = refl
fourth true true true true e f h = absurd cc
fourth true true false d e f h = absurd cc
fourth true false c d e f h = absurd cc
fourth false b c d e f h = absurd cc

name_fits : (word text : List ℕ) → is_name word ≡ true → fits_word word text ≡ true → is_eq (slice_cmp nat_cmp word text) ≡ true
name_fits word text named fits =
    let plain = fourth (nat_le 1 (length word)) (nat_le (length word) 128) (not (begins_with_dash word)) (list_any is_barred word) (not (list_all is_digit word)) (is_utf8 word) named in
    let same : word ≡ text = is_itself word text plain fits in
    is_eq-slice_cmp word text ∙ ap (bytes_eq word) (sym same) ∙ nat_list_eq_equiv.refl word

-- ---- a line for the caller is kept for the user, for a group or for many

some_at : (p : List ℕ → Bool) (xs : List (List ℕ)) → list_any p xs ≡ true → (i : ℕ) × (i < length xs) × (p (get_or xs i []) ≡ true)
some_at p [] e = absurd cc
some_at p (x ∷ xs) e = elim (cases_Bool (p x)) [
  | inl here ↦ (0, omega arith, here)
  | inr not_here ↦ let later = some_at p xs (ap (λ b. b || list_any p xs) (sym not_here) ∙ e) in (suc later.0, omega (arith, later.1), later.2)
]

abbrev pub IsKept : Who → ProtectLine → Type 0
IsKept who line = (is_of_many line ≡ true) ⊎ ((is_of User who.user line ≡ true) ⊎ ((i : ℕ) × (i < length who.groups) × (is_of Group (get_or who.groups i []) line ≡ true)))

kept_as : (grantee : Grantee) (who : Who) (line : ProtectLine) → line.grantee ≡ grantee → is_name line.name ≡ true → is_grantee grantee line.name who ≡ true → IsKept who line
kept_as User who line e named fits =
    let is = name_fits line.name who.user named fits in
    let P : Grantee → Type 0 = λ g. (is_for User g && (is_name line.name && is_eq (slice_cmp nat_cmp line.name who.user))) ≡ true in
    inr (inl (subst P (sym e) (and_from (is_name line.name) _ named is)))
kept_as Group who line e named fits =
    let some = some_at (fits_word line.name) who.groups fits in
    let name = get_or who.groups some.0 [] in
    let is = name_fits line.name name named some.2 in
    let P : Grantee → Type 0 = λ g. (is_for Group g && (is_name line.name && is_eq (slice_cmp nat_cmp line.name name))) ≡ true in
    inr (inr (some.0, some.1, subst P (sym e) (and_from (is_name line.name) _ named is)))

pub kept : (who : Who) (line : ProtectLine) → names who line ≡ true → IsKept who line
kept who line for_them = elim (cases_Bool (names_one line)) [
  | inl one ↦ kept_as line.grantee who line refl one (and_parts (fits_word line.host who.host) (is_grantee line.grantee line.name who) for_them).1
  | inr many ↦ inl (ap not many)
]

-- ---- what says anything is for the caller

named_in : (g d n : Bool) (granted : Bool) → verdict g d ≡ Some granted → (g ≡ true → n ≡ true) → (d ≡ true → n ≡ true) → n ≡ true
named_in true d n granted e from_g from_d = from_g refl
named_in false true n granted e from_g from_d = from_d refl
named_in false false n granted e from_g from_d = absurd cc

second : (a b : Bool) → (a && b) ≡ true → b ≡ true
second a b e = (and_parts a b e).1

named_there : (who : Who) (need : ℕ) (file : Option (List ℕ)) (line : ProtectLine) (granted : Bool) →
    verdict (grants_there who need file line) (denies_there who need file line) ≡ Some granted → names who line ≡ true
named_there who need None line granted e =
    named_in (grants_somewhere who need line) (denies_everywhere who need line) (names who line) granted e
    (second (not line.excludes && grants line.mode need) (names who line))
    (second (line.excludes && denies line.mode need && is_whole line.path) (names who line))
named_there who need (Some path) line granted e =
    named_in (grants_at who path need line) (denies_at who path need line) (names who line) granted e
    (λ g. second (fits line.path path) (names who line) (second (not line.excludes && grants line.mode need) (fits line.path path && names who line) g))
    (λ d. second (fits line.path path) (names who line) (second (line.excludes && denies line.mode need) (fits line.path path && names who line) d))

line_of_number : (says : ProtectLine → Option Bool) (found : Option ProtectLine) (granted : Bool) → option_and_then says found ≡ Some granted →
    (line : ProtectLine) × (found ≡ Some line) × (says line ≡ Some granted)
line_of_number says None granted e = absurd cc
line_of_number says (Some line) granted e = (line, refl, e)

-- ---- the last line that says anything

-- no line of these numbers says anything later
abbrev pub AreWithin : Question → List ProtectLine → Option Said → List ℕ → Type 0
AreWithin asked lines last numbers = (i : ℕ) → i < length numbers → IsWithin asked lines last (get_or numbers i 0)

pub still_within : (asked : Question) (lines : List ProtectLine) (last next : Option Said) (numbers : List ℕ) → end_of last ≤ end_of next →
    AreWithin asked lines last numbers → AreWithin asked lines next numbers
still_within asked lines last next numbers later h i low granted e = omega (arith, later, h i low granted e)

pub within_all : (asked : Question) (numbers : Numbers) (lines : List ProtectLine) (last : Option Said) → AreOf numbers lines →
    AreWithin asked lines last numbers.others → AreWithin asked lines last (numbers_at numbers.users asked.who.now.user) →
    ((i : ℕ) → i < length asked.who.now.groups → AreWithin asked lines last (numbers_at numbers.groups (get_or asked.who.now.groups i []))) →
    (number : ℕ) → IsWithin asked lines last number
within_all asked numbers lines last are many own groups number granted e =
    let found = line_of_number (said_to asked) (slice_get lines number) granted e in
    let for_them = named_there asked.who.now asked.need (option_copied asked.file) found.0 granted found.2 in
    let among : (test : Test) (kept : List ℕ) → kept ≡ numbers_from 0 test lines → test found.0 ≡ true → AreWithin asked lines last kept → number < end_of last =
    λ test kept is passes within.
    let there = is_there 0 test lines number found.0 found.1 passes in
    let of_lines : get_or kept there.0 0 ≡ 0 + number = ap (λ l. get_or l there.0 0) is ∙ there.2 in
    let at : get_or kept there.0 0 ≡ number = omega (arith, of_lines) in
    let said : said_at asked lines (get_or kept there.0 0) ≡ Some granted = ap (said_at asked lines) at ∙ e in
    let low : there.0 < length kept = subst (λ l. there.0 < length l) (sym is) there.1 in
    subst (λ n. n < end_of last) at (within there.0 low granted said) in
    elim (kept asked.who.now found.0 for_them) [
      | inl of_many ↦ among is_of_many numbers.others are.others of_many many
      | inr (inl of_user) ↦ among (is_of User asked.who.now.user) _ (are.users asked.who.now.user) of_user own
      | inr (inr of_group) ↦ among (is_of Group (get_or asked.who.now.groups of_group.0 [])) _ (are.groups (get_or asked.who.now.groups of_group.0 [])) of_group.2 (groups of_group.0 of_group.1)
    ]

-- ---- what stands is what the last of them says

module _ (asked : Question) (lines : List ProtectLine) where
  silent : (k : ℕ) (x : ProtectLine) → k < length lines → said_at asked lines k ≡ None → verdict (granting asked (get_or lines k x)) (denying asked (get_or lines k x)) ≡ None
  silent k x low e = sym (ap (option_and_then (said_to asked)) (slice_get-get_or lines k x low)) ∙ e

  none_said : (o : Option Bool) → ((granted : Bool) → o ≡ Some granted → ⊥) → o ≡ None
  none_said None h = refl
  none_said (Some granted) h = absurd (h granted refl)

  -- all lines from one on say nothing, by how many they are
  undecided_from : (x : ProtectLine) (count at : ℕ) → count + at ≡ length lines → ((k : ℕ) (granted : Bool) → at ≤ k → said_at asked lines k ≡ Some granted → ⊥) →
      Undecided (granting asked) (denying asked) lines at
  undecided_from x zero at e h = undecided (granting asked) (denying asked) lines at (omega (arith, e))
  undecided_from x (suc count) at e h =
      let before = undecided_from x count (at + 1) (omega (arith, e)) (λ k granted low said. h k granted (omega (arith, low)) said) in
      undecided_more (granting asked) (denying asked) lines at (at + 1) x refl before
      (silent at x (omega (arith, e)) (none_said (said_at asked lines at) (λ granted said. h at granted (omega arith) said)))

  pub is_granted : (said : Said) → said_at asked lines said.line ≡ Some said.granted → ((number : ℕ) → IsWithin asked lines (Some said) number) →
      said.granted ≡ granted (granting asked) (denying asked) lines
  is_granted said is within =
      let found = line_of_number (said_to asked) (slice_get lines said.line) said.granted is in
      let low : said.line < length lines = slice_get_within lines said.line found.0 found.1 in
      let here : get_or lines said.line found.0 ≡ found.0 = get_or_from_slice_get lines said.line found.0 found.0 found.1 in
      let yet = undecided_from found.0 (length lines - (said.line + 1)) (said.line + 1) (omega (arith, low)) (λ k granted high e. absurd (omega (arith, high, within k granted e))) in
      sym (decided (granting asked) (denying asked) lines said.line (said.line + 1) found.0 said.granted refl yet (ap (said_to asked) here ∙ found.2))

none_by_length : (lines : List ProtectLine) → (length lines == 0) ≡ is_none lines
none_by_length [] = refl
none_by_length (y ∷ lines) = ne_eqb (suc (length lines)) 0 (λ e. omega (arith, e))

nothing_said : (asked : Question) (lines : List ProtectLine) → ((number : ℕ) → IsWithin asked lines None number) → granted (granting asked) (denying asked) lines ≡ is_none lines
nothing_said asked [] within = refl
nothing_said asked (y ∷ lines) within =
    nothing_decides (granting asked) (denying asked) (y ∷ lines) 0 refl
    (undecided_from asked (y ∷ lines) y (length (y ∷ lines)) 0 (omega arith) (λ k granted high e. absurd (omega (arith, within k granted e))))

pub none_is : (lines read : List ProtectLine) (asked : Question) → read ≡ lines → ((number : ℕ) → IsWithin asked lines None number) →
    (length read == 0) ≡ granted (granting asked) (denying asked) lines
none_is lines read asked is within = ap (λ (l : List ProtectLine). length l == 0) is ∙ none_by_length lines ∙ sym (nothing_said asked lines within)

-- ---- what is kept for a line that was read

named_if : (b : Bool) (text name : List ℕ) → Ok name ≡ cond b (Ok text) (Err NotAName) → (b ≡ true) × (name ≡ text)
named_if true text name e = (refl, cc)
named_if false text name e = absurd cc

pub is_named : (text name : List ℕ) → Answers Memory (Ok name) (name_of text) → (is_name text ≡ true) × (name ≡ text)
is_named text name h = elim h.is [ inl e ↦ absurd cc | inr e ↦ named_if (is_name text) text name e ]

no_name_if : (b : Bool) (text : List ℕ) → Err NotAName ≡ cond b (Ok text) (Err NotAName) → b ≡ false
no_name_if true text e = absurd cc
no_name_if false text e = refl

pub is_no_name : (text : List ℕ) → Answers Memory (Err NotAName) (name_of text) → is_name text ≡ false
is_no_name text h = elim h.is [ inl e ↦ absurd cc | inr e ↦ no_name_if (is_name text) text e ]

none_added : (numbers : List ℕ) (b : Bool) (n : ℕ) → b ≡ false → numbers ≡ numbers ++ one_if b n
none_added numbers true n e = absurd cc
none_added numbers false n e = sym (append-nil numbers)

other_kind : (kind other : Grantee) (b : Bool) → (is_for kind other ≡ false) → (is_for kind other && b) ≡ false
other_kind kind other b e = ap (λ x. x && b) e

pub user_added : (users after groups : ByName) (others : List ℕ) (n : ℕ) (line : ProtectLine) (name : List ℕ) → line.grantee ≡ User → (is_name line.name ≡ true) × (name ≡ line.name) →
    ((other : List ℕ) → numbers_at after other ≡ numbers_at users other ++ one_if (is_eq (slice_cmp nat_cmp name other)) n) →
    IsAdded (record { users = users; groups = groups; others = others }) (record { users = after; groups = groups; others = others }) n line
user_added users after groups others n line name e named more = record {
  users = λ other. more other ∙ ap (λ b. numbers_at users other ++ one_if b n) (ap (λ m. is_eq (slice_cmp nat_cmp m other)) named.1
      ∙ sym (ap (λ g. is_for User g && (names_one line && is_eq (slice_cmp nat_cmp line.name other))) e ∙ ap (λ b. b && is_eq (slice_cmp nat_cmp line.name other)) named.0));
  groups = λ other. none_added (numbers_at groups other) (is_of Group other line) n (ap (λ g. is_for Group g && (names_one line && is_eq (slice_cmp nat_cmp line.name other))) e);
  others = none_added others (is_of_many line) n (ap not named.0);
}

pub group_added : (users groups after : ByName) (others : List ℕ) (n : ℕ) (line : ProtectLine) (name : List ℕ) → line.grantee ≡ Group → (is_name line.name ≡ true) × (name ≡ line.name) →
    ((other : List ℕ) → numbers_at after other ≡ numbers_at groups other ++ one_if (is_eq (slice_cmp nat_cmp name other)) n) →
    IsAdded (record { users = users; groups = groups; others = others }) (record { users = users; groups = after; others = others }) n line
group_added users groups after others n line name e named more = record {
  users = λ other. none_added (numbers_at users other) (is_of User other line) n (ap (λ g. is_for User g && (names_one line && is_eq (slice_cmp nat_cmp line.name other))) e);
  groups = λ other. more other ∙ ap (λ b. numbers_at groups other ++ one_if b n) (ap (λ m. is_eq (slice_cmp nat_cmp m other)) named.1
      ∙ sym (ap (λ g. is_for Group g && (names_one line && is_eq (slice_cmp nat_cmp line.name other))) e ∙ ap (λ b. b && is_eq (slice_cmp nat_cmp line.name other)) named.0));
  others = none_added others (is_of_many line) n (ap not named.0);
}

other_of_one : (line : ProtectLine) (g b : Bool) → is_name line.name ≡ false → (g && (names_one line && b)) ≡ false
other_of_one line true b e = ap (λ x. x && b) e
other_of_one line false b e = refl

pub other_added : (users groups : ByName) (others after : List ℕ) (n : ℕ) (line : ProtectLine) → is_name line.name ≡ false → after ≡ others ++ n ∷ [] →
    IsAdded (record { users = users; groups = groups; others = others }) (record { users = users; groups = groups; others = after }) n line
other_added users groups others after n line e more = record {
  users = λ other. none_added (numbers_at users other) (is_of User other line) n (other_of_one line (is_for User line.grantee) _ e);
  groups = λ other. none_added (numbers_at groups other) (is_of Group other line) n (other_of_one line (is_for Group line.grantee) _ e);
  others = more ∙ ap (λ b. others ++ one_if (not b) n) (sym e);
}

-- ---- a number behind the others of a name

same_text : (name other : List ℕ) → is_eq (slice_cmp nat_cmp name other) ≡ true → name ≡ other
same_text name other e = (bytes_eq-Decides name other).0 (sym (is_eq-slice_cmp name other) ∙ e)

pub behind_others : (old removed new : ByName) (name other : List ℕ) (n : ℕ) (had : Option (List ℕ)) (so_far pushed : List ℕ) →
    had ≡ get (slice_cmp nat_cmp) old name → so_far ≡ unwrap_or had [] → pushed ≡ so_far ++ n ∷ [] →
    get (slice_cmp nat_cmp) removed other ≡ cond (is_eq (slice_cmp nat_cmp name other)) None (get (slice_cmp nat_cmp) old other) →
    get (slice_cmp nat_cmp) new other ≡ cond (is_eq (slice_cmp nat_cmp name other)) (Some pushed) (get (slice_cmp nat_cmp) removed other) →
    numbers_at new other ≡ numbers_at old other ++ one_if (is_eq (slice_cmp nat_cmp name other)) n
behind_others old removed new name other n had so_far pushed was before more without with = elim (cases_Bool (is_eq (slice_cmp nat_cmp name other))) [
  | inl same ↦
      ap (λ o. unwrap_or o []) (with ∙ cond-true _ (Some pushed) _ same) ∙ more ∙ ap (λ l. l ++ n ∷ []) (before ∙ ap (λ o. unwrap_or o []) was ∙ ap (numbers_at old) (same_text name other same))
      ∙ ap (λ b. numbers_at old other ++ one_if b n) (sym same)
  | inr apart ↦
      ap (λ o. unwrap_or o []) (with ∙ cond-false _ (Some pushed) _ apart ∙ without ∙ cond-false _ None _ apart)
      ∙ none_added (numbers_at old other) _ n apart
]

-- ---- the numbers in a table

pub of_table : (table held : Table) (lines : List ProtectLine) → table ≡ held → held.lines ≡ lines → AreOf held.numbers held.lines → AreOf table.numbers lines
of_table table held lines same is are = subst (λ (t : Table). AreOf t.numbers lines) (sym same) (subst (λ l. AreOf held.numbers l) is are)

pub rise_as : (numbers kept : List ℕ) (test : Test) (lines : List ProtectLine) → numbers ≡ kept → kept ≡ numbers_from 0 test lines → AreRising numbers
rise_as numbers kept test lines e is = subst AreRising (sym (e ∙ is)) (are_rising 0 test lines)

-- what was said so far, with the lines for many, those for the user, and those for the first of the groups
pub record IsLast (asked : Question) (lines : List ProtectLine) (numbers : Numbers) (groups : List (List ℕ)) (last : Option Said) (count : ℕ) : Type 0 where
  pub said : IsSaid asked lines last
  pub many : AreWithin asked lines last numbers.others
  pub own : AreWithin asked lines last (numbers_at numbers.users asked.who.now.user)
  pub of_groups : (i : ℕ) → i < count → AreWithin asked lines last (numbers_at numbers.groups (get_or groups i []))

any_default : (names : List (List ℕ)) (i : ℕ) (c d : List ℕ) → i < length names → get_or names i c ≡ get_or names i d
any_default names i c d low =
    let both : Some (get_or names i c) ≡ Some (get_or names i d) = sym (slice_get-get_or names i c low) ∙ slice_get-get_or names i d low in
    cc

pub group_more : {asked : Question} {lines : List ProtectLine} {numbers : Numbers} {groups : List (List ℕ)} {last next : Option Said} {count : ℕ} {name : List ℕ} {found : List ℕ} →
    count < length groups → IsLast asked lines numbers groups last count → end_of last ≤ end_of next → IsSaid asked lines next → found ≡ numbers_at numbers.groups name → name ≡ get_or groups count name →
    AreWithin asked lines next found → IsLast asked lines numbers groups next (count + 1)
group_more {asked} {lines} {numbers} {groups} {last} {next} {count} {name} {found} few h later said is at within = record {
  said = said;
  many = still_within asked lines last next numbers.others later h.many;
  own = still_within asked lines last next (numbers_at numbers.users asked.who.now.user) later h.own;
  of_groups = λ i low. elim (cases_lt i count) [
    | inl before ↦ still_within asked lines last next (numbers_at numbers.groups (get_or groups i [])) later (h.of_groups i before)
    | inr here ↦
        let same : i ≡ count = omega (arith, low, here) in
        subst (AreWithin asked lines next) (is ∙ ap (numbers_at numbers.groups) (at ∙ any_default groups count name [] few) ∙ ap (λ k. numbers_at numbers.groups (get_or groups k [])) (sym same)) within
  ];
}
