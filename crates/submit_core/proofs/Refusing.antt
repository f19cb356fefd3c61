-- The first refusal among several lists of them.
use Rattle.std.proofs.Common.{◌≡◌, Bool, true, false, List, [], ◌∷◌, ◌++◌, Option, Some, None, refl, sym, ap, ◌∙◌}
use Rattle.std.specs.Prelude.{is_some, option_map}
use Rattle.std.specs.Option.{option_or}
use Rattle.depot_rows.specs.depot_model.declared.reply.Row.{Row}
use Rattle.depot_rows.specs.depot_model.declared.refusal.Refusal.{Refusal}
use Rattle.depot_rows.specs.depot_model.Refusals.{refusal_row}
use Rattle.depot_rows.specs.depot_model.Step.{Step, refuse_if, refuses, unless}
use Rattle.reply_rows.specs.Refusing.{first_of}

pub first_on : (xs ys : List (Option Refusal)) → first_of (xs ++ ys) ≡ option_or (first_of xs) (first_of ys)
first_on [] ys = refl
first_on (None ∷ xs) ys = first_on xs ys
first_on (Some why ∷ xs) ys = refl

-- the row of a refusal that is there, of one of two
pub row_first : (row : Option Row) (x y : Option Refusal) → is_some row ≡ true → row ≡ option_map refusal_row x → row ≡ option_map refusal_row (option_or x y)
row_first None x y some e = absurd (let no : false ≡ true = some in cc)
row_first (Some r) None y some e = absurd cc
row_first (Some r) (Some why) y some e = e

-- where there is none, that of the other
pub row_second : (row other : Option Row) (x y : Option Refusal) → is_some row ≡ false → row ≡ option_map refusal_row x → other ≡ option_map refusal_row y
    → other ≡ option_map refusal_row (option_or x y)
row_second (Some r) other x y none e k = absurd (let no : true ≡ false = none in cc)
row_second None other None y none e k = k
row_second None other (Some why) y none e k = absurd cc

-- the step by the first refusal
pub first_refuses : (tests : List (Option Refusal)) (step : Step) (why : Refusal) → first_of tests ≡ Some why → unless tests step ≡ refuses why
first_refuses [] step why e = absurd cc
first_refuses (None ∷ tests) step why e = first_refuses tests step why e
first_refuses (Some other ∷ tests) step why e = let one : other ≡ why = cc in ap refuses one

pub none_refuses : (tests : List (Option Refusal)) (step : Step) → first_of tests ≡ None → unless tests step ≡ step
none_refuses [] step e = refl
none_refuses (None ∷ tests) step e = none_refuses tests step e
none_refuses (Some other ∷ tests) step e = absurd cc

-- a refusal by a test
pub refuse_none : (b : Bool) (why : Refusal) → b ≡ false → None ≡ option_map refusal_row (refuse_if b why)
refuse_none true why e = absurd (let no : true ≡ false = e in cc)
refuse_none false why e = refl

pub refuse_some : (b : Bool) (why : Refusal) (row : Row) → b ≡ true → row ≡ refusal_row why → Some row ≡ option_map refusal_row (refuse_if b why)
refuse_some true why row e is = ap (λ (r : Row). Some r) is
refuse_some false why row e is = absurd (let no : false ≡ true = e in cc)

pub none_of : (row : Option Row) (x : Option Refusal) → is_some row ≡ false → row ≡ option_map refusal_row x → x ≡ None
none_of None None none e = refl
none_of None (Some why) none e = absurd cc
none_of (Some row) x none e = absurd (let no : true ≡ false = none in cc)

-- of files, where the first isn't refused
pub next_first : (xs ys : List (Option Refusal)) → first_of xs ≡ None → first_of (xs ++ ys) ≡ first_of ys
next_first xs ys e = first_on xs ys ∙ ap (λ (o : Option Refusal). option_or o (first_of ys)) e

pub first_three : (a b c : Option Refusal) → first_of (a ∷ b ∷ c ∷ []) ≡ option_or a (option_or b c)
first_three (Some why) b c = refl
first_three None (Some why) c = refl
first_three None None (Some why) = refl
first_three None None None = refl

-- the row of the first of three refusals
module _ (a b c : Option Refusal) where
  abbrev pub three : List (Option Refusal)
  three = a ∷ b ∷ c ∷ []

  pub first_row : (row : Option Row) → is_some row ≡ true → row ≡ option_map refusal_row a → row ≡ option_map refusal_row (first_of three)
  first_row row some e = row_first row a (option_or b c) some e ∙ ap (λ (x : Option Refusal). option_map refusal_row x) (sym (first_three a b c))

  pub second_row : (row other : Option Row) → is_some row ≡ false → row ≡ option_map refusal_row a → is_some other ≡ true → other ≡ option_map refusal_row b
      → other ≡ option_map refusal_row (first_of three)
  second_row row other none e some f =
      row_second row other a (option_or b c) none e (row_first other b c some f) ∙ ap (λ (x : Option Refusal). option_map refusal_row x) (sym (first_three a b c))

  pub third_row : (row other last : Option Row) → is_some row ≡ false → row ≡ option_map refusal_row a → is_some other ≡ false → other ≡ option_map refusal_row b
      → last ≡ option_map refusal_row c → last ≡ option_map refusal_row (first_of three)
  third_row row other last none e none_too f g =
      row_second row last a (option_or b c) none e (row_second other last b c none_too f g) ∙ ap (λ (x : Option Refusal). option_map refusal_row x) (sym (first_three a b c))

-- the row of the first of three lists of refusals
module _ (xs ys zs : List (Option Refusal)) where
  first_parts : first_of (xs ++ (ys ++ zs)) ≡ option_or (first_of xs) (option_or (first_of ys) (first_of zs))
  first_parts = first_on xs (ys ++ zs) ∙ ap (λ (o : Option Refusal). option_or (first_of xs) o) (first_on ys zs)

  to_rows : {row : Option Row} → row ≡ option_map refusal_row (option_or (first_of xs) (option_or (first_of ys) (first_of zs)))
      → row ≡ option_map refusal_row (first_of (xs ++ (ys ++ zs)))
  to_rows e = e ∙ ap (λ (x : Option Refusal). option_map refusal_row x) (sym first_parts)

  pub first_part : (row : Option Row) → is_some row ≡ true → row ≡ option_map refusal_row (first_of xs) → row ≡ option_map refusal_row (first_of (xs ++ (ys ++ zs)))
  first_part row some e = to_rows (row_first row (first_of xs) (option_or (first_of ys) (first_of zs)) some e)

  pub second_part : (row other : Option Row) → is_some row ≡ false → row ≡ option_map refusal_row (first_of xs) → is_some other ≡ true
      → other ≡ option_map refusal_row (first_of ys) → other ≡ option_map refusal_row (first_of (xs ++ (ys ++ zs)))
  second_part row other none e some f =
      to_rows (row_second row other (first_of xs) (option_or (first_of ys) (first_of zs)) none e (row_first other (first_of ys) (first_of zs) some f))

  pub third_part : (row other last : Option Row) → is_some row ≡ false → row ≡ option_map refusal_row (first_of xs) → is_some other ≡ false
      → other ≡ option_map refusal_row (first_of ys) → last ≡ option_map refusal_row (first_of zs) → last ≡ option_map refusal_row (first_of (xs ++ (ys ++ zs)))
  third_part row other last none e none_too f g =
      to_rows (row_second row last (first_of xs) (option_or (first_of ys) (first_of zs)) none e (row_second other last (first_of ys) (first_of zs) none_too f g))
