-- The laws of the rights.
use Rattle.std.proofs.Common.{◌≡◌, inl, inr, ℕ, ◌+◌, ◌≤◌, nat_le, Bool, true, false, cond, List, [], ◌∷◌, ◌++◌, length, refl, sym, ap, ◌∙◌, arith}
use Rattle.std.specs.Prelude.{◌&&◌, ◌||◌, ◌==◌, not, nat_eq}
use Rattle.std.specs.List.{list_any, list_all}
use Rattle.std.proofs.lemmas.Bool.{cases_lt, eqb-true, and_parts}
use Rattle.std.proofs.lemmas.Bool.Decides.{nat_tests}
use Rattle.depot_path.specs.Path.{begins_with_slashes}
use Rattle.depot_path.specs.Fit.{fits}
use Rattle.depot_path.proofs.Rows.{step, begin}
use Rattle.depot_path.specs.declared.piece.Piece.{Piece}
use Rattle.depot_path.specs.declared.piece.Piece.TheVariants.{Byte, Dots}
use Rattle.protect_table.specs.Mode.{grants, denies, is_single, need_of}
use Rattle.protect_table.specs.Rights.{names, matches, is_whole, is_ordinary, grants_at, denies_at, grants_somewhere, denies_everywhere, stands, granted, may, may_any, greatest}
use Rattle.protect_table.specs.declared.line.ProtectLine.{ProtectLine}
use Rattle.protect_table.specs.declared.who.Who.{Who}

abbrev Test : Type 0
Test = ProtectLine → Bool

some_lines : (g d : Test) (lines : List ProtectLine) → 1 ≤ length lines → granted g d lines ≡ stands g d lines
some_lines g d [] long = absurd (omega arith)
some_lines g d (y ∷ lines) long = refl

with_line : (before after : List ProtectLine) (line : ProtectLine) → 1 ≤ length (before ++ line ∷ after)
with_line [] after line = omega arith
with_line (y ∷ before) after line = omega arith

-- ---- a line that neither grants nor denies

any_skips : (d : Test) (before after : List ProtectLine) (line : ProtectLine) → d line ≡ false → list_any d (before ++ line ∷ after) ≡ list_any d (before ++ after)
any_skips d [] after line e = ap (λ c. c || list_any d after) e
any_skips d (y ∷ before) after line e = ap (λ c. d y || c) (any_skips d before after line e)

stands_skips : (g d : Test) (before after : List ProtectLine) (line : ProtectLine) → g line ≡ false → d line ≡ false → stands g d (before ++ line ∷ after) ≡ stands g d (before ++ after)
stands_skips g d [] after line e f = ap (λ c. (c && not (list_any d after)) || stands g d after) e
stands_skips g d (y ∷ before) after line e f =
    ap (λ c. (g y && not c) || stands g d (before ++ line ∷ after)) (any_skips d before after line f)
    ∙ ap (λ c. (g y && not (list_any d (before ++ after))) || c) (stands_skips g d before after line e f)

skips : (g d : Test) (before after : List ProtectLine) (line : ProtectLine) → g line ≡ false → d line ≡ false → 1 ≤ length (before ++ after) →
    granted g d (before ++ line ∷ after) ≡ granted g d (before ++ after)
skips g d before after line e f long =
    some_lines g d (before ++ line ∷ after) (with_line before after line) ∙ stands_skips g d before after line e f ∙ sym (some_lines g d (before ++ after) long)

no_match : (a b c n : Bool) → n ≡ false → (a && b && (c && n)) ≡ false
no_match true true true n e = e
no_match true true false n e = refl
no_match true false c n e = refl
no_match false b c n e = refl

no_name : (a b n : Bool) → n ≡ false → (a && b && n) ≡ false
no_name true true n e = e
no_name true false n e = refl
no_name false b n e = refl

no_whole : (a b c n : Bool) → n ≡ false → (a && b && c && n) ≡ false
no_whole true true true n e = e
no_whole true true false n e = refl
no_whole true false c n e = refl
no_whole false b c n e = refl

pub other_at : (before after : List ProtectLine) (line : ProtectLine) (who : Who) (path : List ℕ) (need : ℕ) → names who line ≡ false → 1 ≤ length (before ++ after) →
    may (before ++ line ∷ after) who path need ≡ may (before ++ after) who path need
other_at before after line who path need e long =
    skips (grants_at who path need) (denies_at who path need) before after line
    (no_match (not line.excludes) (grants line.mode need) (fits line.path path) (names who line) e)
    (no_match line.excludes (denies line.mode need) (fits line.path path) (names who line) e) long

pub other_somewhere : (before after : List ProtectLine) (line : ProtectLine) (who : Who) (need : ℕ) → names who line ≡ false → 1 ≤ length (before ++ after) →
    may_any (before ++ line ∷ after) who need ≡ may_any (before ++ after) who need
other_somewhere before after line who need e long =
    skips (grants_somewhere who need) (denies_everywhere who need) before after line
    (no_name (not line.excludes) (grants line.mode need) (names who line) e)
    (no_whole line.excludes (denies line.mode need) (is_whole line.path) (names who line) e) long

-- ---- a line that denies

or_true : (a : Bool) → (a || true) ≡ true
or_true true = refl
or_true false = refl

any_within : (d : Test) (before after : List ProtectLine) (line : ProtectLine) → d line ≡ true → list_any d (before ++ line ∷ after) ≡ true
any_within d [] after line e = ap (λ c. c || list_any d after) e
any_within d (y ∷ before) after line e = ap (λ c. d y || c) (any_within d before after line e) ∙ or_true (d y)

no_earlier : (a s : Bool) → ((a && false) || s) ≡ s
no_earlier true s = refl
no_earlier false s = refl

stands_from : (g d : Test) (before after : List ProtectLine) (line : ProtectLine) → d line ≡ true → stands g d (before ++ line ∷ after) ≡ stands g d (line ∷ after)
stands_from g d [] after line e = refl
stands_from g d (y ∷ before) after line e =
    ap (λ c. (g y && not c) || stands g d (before ++ line ∷ after)) (any_within d before after line e)
    ∙ ap (λ c. (g y && false) || c) (stands_from g d before after line e) ∙ no_earlier (g y) (stands g d (line ∷ after))

granted_from : (g d : Test) (before after : List ProtectLine) (line : ProtectLine) → d line ≡ true → granted g d (before ++ line ∷ after) ≡ granted g d (line ∷ after)
granted_from g d before after line e = some_lines g d (before ++ line ∷ after) (with_line before after line) ∙ stands_from g d before after line e

denied : (g d : Test) (lines : List ProtectLine) (line : ProtectLine) → g line ≡ false → d line ≡ true → granted g d (lines ++ line ∷ []) ≡ false
denied g d lines line e f = granted_from g d lines [] line f ∙ ap (λ c. (c && true) || false) e

dots_fit : (t : List ℕ) → fits (Dots ∷ []) t ≡ true
dots_fit [] = begin Dots []
dots_fit (x ∷ t) = step Dots [] x t ∙ ap (λ c. false || c) (dots_fit t)

whole_fits : (path : List ℕ) → begins_with_slashes path ≡ true → fits (Byte 47 ∷ Byte 47 ∷ Dots ∷ []) path ≡ true
whole_fits [] e = absurd cc
whole_fits (a ∷ []) e = absurd (absurd_by (nat_eq 47 a) e)
  where
    absurd_by : (c : Bool) → (c && false) ≡ true → ⊥
    absurd_by true e = cc
    absurd_by false e = cc
whole_fits (a ∷ b ∷ t) e =
    let h = and_parts (nat_eq 47 a) (nat_eq 47 b && true) e in
    let k = and_parts (nat_eq 47 b) true h.1 in
    step (Byte 47) (Byte 47 ∷ Dots ∷ []) a (b ∷ t) ∙ ap (λ c. c && fits (Byte 47 ∷ Dots ∷ []) (b ∷ t)) h.0
    ∙ step (Byte 47) (Dots ∷ []) b t ∙ ap (λ c. c && fits (Dots ∷ []) t) k.0 ∙ dots_fit t

whole_is : (p : List Piece) → is_whole p ≡ true → p ≡ Byte 47 ∷ Byte 47 ∷ Dots ∷ []
whole_is (Byte a ∷ Byte b ∷ Dots ∷ []) e =
    let h = and_parts (a == 47) (b == 47) e in
    ap (λ x. Byte x ∷ Byte b ∷ Dots ∷ []) (eqb-true a 47 h.0) ∙ ap (λ x. Byte 47 ∷ Byte x ∷ Dots ∷ []) (eqb-true b 47 h.1)
whole_is _ e = absurd cc

all_three : (a b c n : Bool) → a ≡ true → b ≡ true → c ≡ true → n ≡ true → (a && b && (c && n)) ≡ true
all_three a b c n e f h k = cc

all_four : (a b c n : Bool) → a ≡ true → b ≡ true → c ≡ true → n ≡ true → (a && b && c && n) ≡ true
all_four a b c n e f h k = cc

not_granting : (a b c : Bool) → a ≡ true → (not a && b && c) ≡ false
not_granting true b c e = refl
not_granting false b c e = absurd cc

whole_denies_at : (line : ProtectLine) (who : Who) (path : List ℕ) (need : ℕ) →
    line.excludes ≡ true → is_whole line.path ≡ true → names who line ≡ true → denies line.mode need ≡ true → begins_with_slashes path ≡ true → denies_at who path need line ≡ true
whole_denies_at line who path need e w n d s =
    all_three line.excludes (denies line.mode need) (fits line.path path) (names who line) e d (ap (λ p. fits p path) (whole_is line.path w) ∙ whole_fits path s) n

pub earlier_at : (before after : List ProtectLine) (line : ProtectLine) (who : Who) (path : List ℕ) (need : ℕ) →
    line.excludes ≡ true → is_whole line.path ≡ true → names who line ≡ true → denies line.mode need ≡ true → begins_with_slashes path ≡ true →
    may (before ++ line ∷ after) who path need ≡ may (line ∷ after) who path need
earlier_at before after line who path need e w n d s =
    granted_from (grants_at who path need) (denies_at who path need) before after line (whole_denies_at line who path need e w n d s)

pub earlier_somewhere : (before after : List ProtectLine) (line : ProtectLine) (who : Who) (need : ℕ) →
    line.excludes ≡ true → is_whole line.path ≡ true → names who line ≡ true → denies line.mode need ≡ true →
    may_any (before ++ line ∷ after) who need ≡ may_any (line ∷ after) who need
earlier_somewhere before after line who need e w n d =
    granted_from (grants_somewhere who need) (denies_everywhere who need) before after line
    (all_four line.excludes (denies line.mode need) (is_whole line.path) (names who line) e d w n)

pub whole_at : (lines : List ProtectLine) (line : ProtectLine) (who : Who) (path : List ℕ) (need : ℕ) →
    line.excludes ≡ true → is_whole line.path ≡ true → names who line ≡ true → denies line.mode need ≡ true → begins_with_slashes path ≡ true → may (lines ++ line ∷ []) who path need ≡ false
whole_at lines line who path need e w n d s =
    denied (grants_at who path need) (denies_at who path need) lines line
    (not_granting line.excludes (grants line.mode need) (matches who path line) e) (whole_denies_at line who path need e w n d s)

pub whole_somewhere : (lines : List ProtectLine) (line : ProtectLine) (who : Who) (need : ℕ) →
    line.excludes ≡ true → is_whole line.path ≡ true → names who line ≡ true → denies line.mode need ≡ true → may_any (lines ++ line ∷ []) who need ≡ false
whole_somewhere lines line who need e w n d =
    denied (grants_somewhere who need) (denies_everywhere who need) lines line
    (not_granting line.excludes (grants line.mode need) (names who line) e)
    (all_four line.excludes (denies line.mode need) (is_whole line.path) (names who line) e d w n)

pub ordinary_denies : (line : ProtectLine) (need : ℕ) → is_single line.mode ≡ false → denies line.mode need ≡ true
ordinary_denies line need e = ap (λ c. not c || (need == need_of line.mode)) e

-- ---- ordinary modes alone

not_single : (line : ProtectLine) → is_ordinary line ≡ true → is_single line.mode ≡ false
not_single line e = by_single (is_single line.mode) e
  where
    by_single : (c : Bool) → not c ≡ true → c ≡ false
    by_single true e = absurd cc
    by_single false e = refl

le_lower : (lower need m : ℕ) → lower ≤ need → nat_le need m ≡ true → nat_le lower m ≡ true
le_lower lower need m h e = grind (arith, nat_tests)

grants_lower : (line : ProtectLine) (lower need : ℕ) → is_single line.mode ≡ false → lower ≤ need → grants line.mode need ≡ true → grants line.mode lower ≡ true
grants_lower line lower need e h g =
    ap (λ c. cond c (lower == need_of line.mode) (nat_le lower (need_of line.mode))) e
    ∙ le_lower lower need (need_of line.mode) h (sym (ap (λ c. cond c (need == need_of line.mode) (nat_le need (need_of line.mode))) e) ∙ g)

same_denies : (line : ProtectLine) (lower need : ℕ) → is_single line.mode ≡ false → denies line.mode lower ≡ denies line.mode need
same_denies line lower need e = ordinary_denies line lower e ∙ sym (ordinary_denies line need e)

still : (a b b' c : Bool) → (b ≡ true → b' ≡ true) → (a && b && c) ≡ true → (a && b' && c) ≡ true
still true true b' true h e = ap (λ x. true && x && true) (h refl)
still true true b' false h e = absurd cc
still true false b' c h e = absurd cc
still false b b' c h e = absurd cc

pub record Lowers (g g' d d' : Test) : Type 0 where
  pub grant : (line : ProtectLine) → is_ordinary line ≡ true → g line ≡ true → g' line ≡ true
  pub deny : (line : ProtectLine) → is_ordinary line ≡ true → d' line ≡ d line

any_same : (g g' d d' : Test) → Lowers g g' d d' → (lines : List ProtectLine) → list_all is_ordinary lines ≡ true → list_any d' lines ≡ list_any d lines
any_same g g' d d' h [] e = refl
any_same g g' d d' h (y ∷ lines) e =
    let k = and_parts (is_ordinary y) (list_all is_ordinary lines) e in
    ap (λ c. c || list_any d' lines) (h.deny y k.0) ∙ ap (λ c. d y || c) (any_same g g' d d' h lines k.1)

or_still : (a b n s s' : Bool) → (a ≡ true → b ≡ true) → (s ≡ true → s' ≡ true) → ((a && n) || s) ≡ true → ((b && n) || s') ≡ true
or_still true b true s s' h k e = ap (λ x. (x && true) || s') (h refl)
or_still true b false s s' h k e = ap (λ x. (b && false) || x) (k e) ∙ last b
  where
    last : (c : Bool) → ((c && false) || true) ≡ true
    last true = refl
    last false = refl
or_still false b n s s' h k e = ap (λ x. (b && n) || x) (k e) ∙ last (b && n)
  where
    last : (c : Bool) → (c || true) ≡ true
    last true = refl
    last false = refl

stands_lower : (g g' d d' : Test) → Lowers g g' d d' → (lines : List ProtectLine) → list_all is_ordinary lines ≡ true → stands g d lines ≡ true → stands g' d' lines ≡ true
stands_lower g g' d d' h [] e s = s
stands_lower g g' d d' h (y ∷ lines) e s =
    let k = and_parts (is_ordinary y) (list_all is_ordinary lines) e in
    ap (λ c. (g' y && not c) || stands g' d' lines) (any_same g g' d d' h lines k.1)
    ∙ or_still (g y) (g' y) (not (list_any d lines)) (stands g d lines) (stands g' d' lines) (h.grant y k.0) (stands_lower g g' d d' h lines k.1) s

granted_lower : (g g' d d' : Test) → Lowers g g' d d' → (lines : List ProtectLine) → list_all is_ordinary lines ≡ true → granted g d lines ≡ true → granted g' d' lines ≡ true
granted_lower g g' d d' h [] e s = refl
granted_lower g g' d d' h (y ∷ lines) e s = stands_lower g g' d d' h (y ∷ lines) e s

pub lower_at : (lines : List ProtectLine) (who : Who) (path : List ℕ) (lower need : ℕ) → list_all is_ordinary lines ≡ true → lower ≤ need →
    may lines who path need ≡ true → may lines who path lower ≡ true
lower_at lines who path lower need o h m =
    granted_lower (grants_at who path need) (grants_at who path lower) (denies_at who path need) (denies_at who path lower)
    (record {
      grant = λ line e. still (not line.excludes) (grants line.mode need) (grants line.mode lower) (matches who path line) (grants_lower line lower need (not_single line e) h);
      deny = λ line e. ap (λ c. line.excludes && c && matches who path line) (same_denies line lower need (not_single line e));
    }) lines o m

pub lower_somewhere : (lines : List ProtectLine) (who : Who) (lower need : ℕ) → list_all is_ordinary lines ≡ true → lower ≤ need →
    may_any lines who need ≡ true → may_any lines who lower ≡ true
lower_somewhere lines who lower need o h m =
    granted_lower (grants_somewhere who need) (grants_somewhere who lower) (denies_everywhere who need) (denies_everywhere who lower)
    (record {
      grant = λ line e. still (not line.excludes) (grants line.mode need) (grants line.mode lower) (names who line) (grants_lower line lower need (not_single line e) h);
      deny = λ line e. ap (λ c. line.excludes && c && is_whole line.path && names who line) (same_denies line lower need (not_single line e));
    }) lines o m

-- ---- the greatest need

by_cond : (P : ℕ → Type 0) (c : Bool) (n m : ℕ) → (c ≡ true → P n) → (c ≡ false → P m) → P (cond c n m)
by_cond P true n m h k = h refl
by_cond P false n m h k = k refl

pub greatest_passes : (test : ℕ → Bool) → 1 ≤ greatest test → test (greatest test) ≡ true
greatest_passes test =
    let P : ℕ → Type 0 = λ n. 1 ≤ n → test n ≡ true in
    by_cond P (test 6) 6 _ (λ e h. e) (λ _. by_cond P (test 5) 5 _ (λ e h. e) (λ _. by_cond P (test 4) 4 _ (λ e h. e) (λ _.
    by_cond P (test 3) 3 _ (λ e h. e) (λ _. by_cond P (test 2) 2 _ (λ e h. e) (λ _. by_cond P (test 1) 1 0 (λ e h. e) (λ _ h. absurd (omega arith)))))))

less : (test : ℕ → Bool) (need k : ℕ) → test need ≡ true → need ≤ k + 1 → test (k + 1) ≡ false → need ≤ k
less test need k e low misses = elim (cases_lt need (k + 1)) [
  | inl lt ↦ omega (arith, lt)
  | inr le ↦ let same : need ≡ k + 1 = omega (arith, low, le) in absurd (cc (ap test same))
]

pub greatest_most : (test : ℕ → Bool) (need : ℕ) → 1 ≤ need → need ≤ 6 → test need ≡ true → need ≤ greatest test
greatest_most test need one six e =
    let P : ℕ → Type 0 = λ n. need ≤ n in
    by_cond P (test 6) 6 _ (λ _. six) (λ f. let b = less test need 5 e six f in
    by_cond P (test 5) 5 _ (λ _. b) (λ f. let b = less test need 4 e b f in
    by_cond P (test 4) 4 _ (λ _. b) (λ f. let b = less test need 3 e b f in
    by_cond P (test 3) 3 _ (λ _. b) (λ f. let b = less test need 2 e b f in
    by_cond P (test 2) 2 _ (λ _. b) (λ f. let b = less test need 1 e b f in
    by_cond P (test 1) 1 0 (λ _. b) (λ f. less test need 0 e b f))))))
