-- The first of the common refusals that holds.
use Rattle.std.proofs.Common.{◌≡◌, ℕ, Bool, true, false, List, [], ◌∷◌, ◌++◌, Option, Some, None, length, take, drop, get_or, ◌≤◌, ◌<◌, ◌-◌, refl, ap, ◌∙◌, arith}
use Rattle.std.specs.Prelude.{flat_map, not, option_map}
use Rattle.std.proofs.lemmas.List.{take_all}
use Rattle.depot_rows.specs.depot_model.declared.command.FileArgument.{FileArgument}
use Rattle.depot_rows.specs.depot_model.declared.refusal.Refusal.{Refusal}
use Rattle.depot_rows.specs.depot_model.declared.refusal.Refusal.TheVariants.{NoSuchLabel}
use Rattle.depot_rows.specs.depot_model.declared.reply.Row.{Row}
use Rattle.depot_rows.specs.depot_model.Common.{first_unknown}
use Rattle.depot_rows.specs.depot_model.Refusals.{refusal_row}
use Rattle.depot_rows.specs.depot_model.Step.{refuse_if}
use Rattle.reply_rows.specs.Refusing.{first_of}

-- where the caller has the right and its client is there, an unknown name is the first
pub first_is : (may lacks : Bool) (denied none : Refusal) (unknown : Option Refusal) → may ≡ true → lacks ≡ false
    → first_of (refuse_if (not may) denied ∷ refuse_if lacks none ∷ unknown ∷ []) ≡ unknown
first_is true false denied none None e k = refl
first_is true false denied none (Some why) e k = refl
first_is true true denied none unknown e k = absurd cc
first_is false lacks denied none unknown e k = absurd cc

-- the first item and those behind it
parted : (rest : List FileArgument) (x : FileArgument) → 1 ≤ length rest → x ≡ get_or rest 0 x → x ∷ take (length rest - 1) (drop 1 rest) ≡ rest
parted [] x few is = absurd (omega arith)
parted (y ∷ rest) x few is = λ i. is i ∷ take_all (length (y ∷ rest) - 1) rest (omega arith) i

module _ (unknown : FileArgument → List (List ℕ)) (rest : List FileArgument) where
  abbrev names : List FileArgument → List (List ℕ)
  names files = flat_map unknown files

  pub unknown_here : (file : FileArgument) (name : List ℕ) → 1 ≤ length rest → file ≡ get_or rest 0 file → name ∷ [] ≡ unknown file
      → Some (NoSuchLabel name) ≡ first_unknown (names rest)
  unknown_here file name some is here =
      (λ i. first_unknown (here i ++ names (take (length rest - 1) (drop 1 rest)))) ∙ ap (λ files. first_unknown (names files)) (parted rest file some is)

  pub unknown_later : (file : FileArgument) → 1 ≤ length rest → file ≡ get_or rest 0 file → [] ≡ unknown file
      → names (take (length rest - 1) (drop 1 rest)) ≡ names rest
  unknown_later file some is here =
      (λ i. here i ++ names (take (length rest - 1) (drop 1 rest))) ∙ ap names (parted rest file some is)

pub unknown_nowhere : (unknown : FileArgument → List (List ℕ)) (rest : List FileArgument) → length rest < 1 → None ≡ first_unknown (flat_map unknown rest)
unknown_nowhere unknown [] none = refl
unknown_nowhere unknown (file ∷ rest) none = absurd (omega arith)

-- one refusal is the first of it alone
pub one_refusal : (test : Option Refusal) → option_map refusal_row test ≡ option_map refusal_row (first_of (test ∷ []))
one_refusal None = refl
one_refusal (Some why) = refl

-- the first of several is that of the first ones, where there is one among them, or else that of the later ones
pub first_here : (tests more : List (Option Refusal)) (row : Row) → Some row ≡ option_map refusal_row (first_of tests)
    → Some row ≡ option_map refusal_row (first_of (tests ++ more))
first_here [] more row e = absurd cc
first_here (None ∷ tests) more row e = first_here tests more row e
first_here (Some why ∷ tests) more row e = e

pub first_later : (tests more : List (Option Refusal)) → None ≡ option_map refusal_row (first_of tests)
    → option_map refusal_row (first_of more) ≡ option_map refusal_row (first_of (tests ++ more))
first_later [] more e = refl
first_later (None ∷ tests) more e = first_later tests more e
first_later (Some why ∷ tests) more e = absurd cc

-- where none of several is there, none of the later ones is
pub none_later : (tests more : List (Option Refusal)) → None ≡ option_map refusal_row (first_of (tests ++ more)) → first_of more ≡ None
none_later [] more e = go (first_of more) e
  where
    go : (o : Option Refusal) → None ≡ option_map refusal_row o → o ≡ None
    go None h = refl
    go (Some why) h = absurd cc
none_later (None ∷ tests) more e = none_later tests more e
none_later (Some why ∷ tests) more e = absurd cc

-- a refusal that isn't there doesn't hold
pub not_shelved : (held : Bool) (why : Refusal) → first_of (refuse_if held why ∷ []) ≡ None → held ≡ false
not_shelved false why e = refl
not_shelved true why e = absurd cc
