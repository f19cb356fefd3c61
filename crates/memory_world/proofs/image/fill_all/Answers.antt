use Rattle.std.proofs.Common.{◌≡◌, ◌∙◌, ◌⊎◌, inl, inr, ◌<◌, ◌≤◌, ap, ℕ, List, Vec, length, get_or, arith, rules, length-set}
use Rattle.std.proofs.lemmas.Bool.{cases_lt}
use Rattle.std.proofs.lemmas.List.{with_items_is}
use Rattle.std.specs.Vec.{with_items}
use Rattle.memory_world.specs.Files.{contents}
use Rattle.memory_world.specs.Ranges.{is_in}
use Rattle.memory_world.proofs.Contents.{contents_at, contents_past, set_same, set_other}
use Rattle.memory_world.proofs.Filled.{one_filled, one_rest}
use Rattle.memory_world.proofs.image.fill_all.Goals as goal

pub loop-number-preserved : goal.loop-number-preserved
loop-number-preserved c =
    let n = c.loop-number.number in
    let files = c.loop-number.files.items in
    let old = contents c.args.files.now.items in
    let v = c.index_mut.result.now in
    let bytes = c.fill-rest.new.bytes in
    let lt : n < length files = omega (arith, c.loop-number.invariant.count, c.loop-number-test.true, c.len-number-end.ensures) in
    let is : v ≡ get_or files n v = search rules in
    let here : c.as_mut_slice.result.now ≡ old n = c.as_mut_slice.ensures.value ∙ contents_at files n v lt is ∙ c.loop-number.invariant.filled.later n (omega arith) in
    let long : length bytes ≡ length v.items = c.fill-rest.auto.bytes ∙ ap length c.as_mut_slice.ensures.value in
    let count : length c.as_mut_slice.result.now ≡ length (old n) = ap length here in
    let w = with_items v bytes in
    let items : w.items ≡ bytes = with_items_is v bytes (omega (arith, long, v.ok)) in
    record {
      count = omega (arith, c.loop-number.invariant.count, length-set files n w);
      rest = one_rest (is_in c.args.ranges.now) c.args.pick.now c.loop-number.rest.now c.fill-rest.result.now old n (length c.as_mut_slice.result.now) c.loop-number.invariant.rest count c.fill-rest.ensures.rest;
      filled = one_filled (is_in c.args.ranges.now) c.args.pick.now c.loop-number.rest.now old (contents files) _ n bytes c.loop-number.invariant.filled c.loop-number.invariant.rest
          (set_same files n w lt ∙ items)
          (λ f other. set_other files n f w other)
          (c.fill-rest.auto.bytes ∙ count)
          (λ k shut. c.fill-rest.ensures.kept k shut ∙ ap (λ (l : List ℕ). get_or l k 0) here)
          (λ k lt is_open. c.fill-rest.ensures.picked k (omega (arith, lt, count)) is_open);
    }

pub returns : goal.returns
returns c =
    let filled = c.loop-number.invariant.filled in
    let old = c.args.files.now.items in
    let all : length old ≤ c.loop-number.number = omega (arith, c.loop-number-test.false, c.len-number-end.ensures) in
    record {
      lengths = filled.lengths;
      kept = filled.kept;
      picked = λ f k lt is_open. filled.picked f k (no_more old f k c.loop-number.number all lt) lt is_open;
    }
  where
    no_more : (files : List (Vec ℕ Rattle.std.specs.declared.alloc.Global.Global)) (f k n : ℕ) → length files ≤ n → k < length (contents files f) → f < n
    no_more files f k n le lt = at (cases_lt f (length files))
      where
        at : (f < length files) ⊎ (length files ≤ f) → f < n
        at (inl within) = omega (arith, within, le)
        at (inr past) = absurd (omega (arith, lt, ap length (contents_past files f past)))
