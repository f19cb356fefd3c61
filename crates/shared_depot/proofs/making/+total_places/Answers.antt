use Rattle.std.proofs.Common.{◌≡◌, ◌≤◌, ◌+◌, ◌<◌, ◌∙◌, ℕ, Option, Some, None, Result, sym, subst, arith}
use Rattle.std.specs.Prelude.{IfOk, SomeIff}
use Rattle.std.specs.Option.{ok_or}
use Rattle.std.specs.declared.alloc.AllocError.{AllocError}
use Rattle.locked_tables.specs.Known.{all_places}
use Rattle.shared_depot.proofs.Places.{all_with}
use Rattle.shared_depot.specs.Sharing.{places_in}
use Rattle.shared_depot.proofs.making.+total_places.Goals as goal

-- a sum that fits is that sum
fitting : {E : Type 0} (sum : Option ℕ) (error : E) (Fit : Type 0) (total : ℕ) → SomeIff sum Fit total → IfOk (ok_or sum error) (λ n. n ≡ total)
fitting None error Fit total is = tt
fitting (Some n) error Fit total is = is.1

pub returns : goal.returns
returns t c =
    let places = places_in c.args.places.now in
    let count = c.args.parties in
    let differs = c.if-parties-eq0.false in
    let some : 1 ≤ count = omega (arith, differs) in
    let total : c.in_ok-before.before + c.place_count.result ≡ all_places places count =
    (λ k. c.in_ok-before.ensures k + c.place_count.ensures k) ∙ sym (all_with places count some) in
    subst (λ (r : Result ℕ AllocError). IfOk r (λ n. n ≡ all_places places count)) (sym c.ok_or.ensures.value)
    (subst (λ (m : ℕ). IfOk {E = AllocError} (ok_or c.checked_add.result (record {})) (λ n. n ≡ m)) total
    (fitting c.checked_add.result (record {}) (c.in_ok-before.before + c.place_count.result < 18446744073709551616) (c.in_ok-before.before + c.place_count.result) c.checked_add.ensures))
