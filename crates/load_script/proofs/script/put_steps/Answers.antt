use Rattle.std.proofs.Common.{◌≡◌, ◌+◌, ◌-◌, ◌<◌, ℕ, suc, true, false, [], ◌++◌, get_or, set, length, refl, sym, ap, subst, arith}
use Rattle.std.specs.Prelude.{◌%◌}
use Rattle.std.proofs.lemmas.List.{get_or-replicate}
use Rattle.seeded_numbers.specs.Numbers.{next_number, value_of}
use Rattle.load_script.specs.Script.{files_after, is_among, step_of, steps_behind}
use Rattle.load_script.proofs.Steps.{IsSoFar, goes_on}
use Rattle.load_script.proofs.script.put_steps.Goals as goal

pub loop-done-init : goal.loop-done-init
loop-done-init c = record {
  before = [];
  text =
      let whole : c.args.count - 0 ≡ c.args.count = omega arith in
      (λ k. c.args.out.now ++ steps_behind [] (files_after (c.new-draw.ensures k) (whole k)));
  many = refl;
  flags = λ file below. get_or-replicate 10 file false false below;
  ten = refl;
}

pub loop-done-preserved : goal.loop-done-preserved
loop-done-preserved c =
    let at = c.loop-done in
    let whole = c.args.out.now ++ steps_behind [] (files_after c.args.seed c.args.count) in
    let left : c.args.count - at.done ≡ suc (c.args.count - (at.done + 1)) = let below = c.loop-done-test.true in omega arith in
    let file_is : c.next-file.result % 10 ≡ value_of (next_number at.draw) % 10 = ap (λ n. n % 10) c.next-file.ensures.value in
    let flag_is : get_or at.known (c.next-file.result % 10) false ≡ is_among at.invariant.before (c.next-file.result % 10) = at.invariant.flags (c.next-file.result % 10) (omega arith) in
    let flag = get_or at.known (c.next-file.result % 10) false in
    let A : ℕ → Type 0 = λ f. flag ≡ is_among at.invariant.before f in
    let N : ℕ → Type 0 = λ f. c.put_step.new.out ≡ at.out ++ step_of f flag (at.done + 1) in
    let W : ℕ → Type 0 = λ f. f < length at.known in
    let flag_at : flag ≡ is_among at.invariant.before (value_of (next_number at.draw) % 10) = subst A file_is flag_is in
    let next_is : c.put_step.new.out ≡ at.out ++ step_of (value_of (next_number at.draw) % 10) flag (at.done + 1) = subst N file_is c.in_ok-put_step.ensures in
    let ten = at.invariant.ten in
    let within : value_of (next_number at.draw) % 10 < length at.known = subst W file_is (omega arith) in
    let file_is_back = sym file_is in
    let S : ℕ → Type 0 = λ x. IsSoFar whole c.put_step.new.out (set at.known (c.next-file.result % 10) true) x (c.args.count - (at.done + 1)) (at.done + 1) in
    let F : ℕ → Type 0 = λ f. IsSoFar whole c.put_step.new.out (set at.known f true) (next_number at.draw) (c.args.count - (at.done + 1)) (at.done + 1) in
    subst S (sym c.next-file.ensures.number) (subst F file_is_back
    (goes_on whole at.out c.put_step.new.out at.known at.draw (c.args.count - at.done) (c.args.count - (at.done + 1)) at.done at.invariant left flag flag_at next_is within))
