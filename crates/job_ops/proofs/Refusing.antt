-- The row of the first refusal, and refusals behind others.
use Rattle.std.proofs.Common.{◌≡◌, Bool, true, false, List, [], ◌∷◌, ◌++◌, Option, Some, None, refl}
use Rattle.std.specs.Prelude.{option_map}
use Rattle.depot_rows.specs.depot_model.declared.reply.Row.{Row}
use Rattle.depot_rows.specs.depot_model.declared.refusal.Refusal.{Refusal}
use Rattle.depot_rows.specs.depot_model.Refusals.{refusal_row}
use Rattle.depot_rows.specs.depot_model.Step.{Step as ModelStep, refuse_if, unless}
use Rattle.reply_rows.specs.Refusing.{first_of}

-- the first one by its test, which holds and which doesn't
pub first_held : (test : Bool) (why : Refusal) (tests : List (Option Refusal)) (row : Row) → test ≡ true → row ≡ refusal_row why
    → Some row ≡ option_map refusal_row (first_of (refuse_if test why ∷ tests))
first_held true why tests row holds is = λ i. Some (is i)
first_held false why tests row holds is = absurd cc

pub first_passed : (test : Bool) (why : Refusal) (tests : List (Option Refusal)) → test ≡ false
    → option_map refusal_row (first_of tests) ≡ option_map refusal_row (first_of (refuse_if test why ∷ tests))
first_passed true why tests fails = absurd cc
first_passed false why tests fails = refl

-- tests behind others
pub unless_behind : (tests more : List (Option Refusal)) (own : ModelStep) → unless tests (unless more own) ≡ unless (tests ++ more) own
unless_behind [] more own = refl
unless_behind (None ∷ tests) more own = unless_behind tests more own
unless_behind (Some why ∷ tests) more own = refl
