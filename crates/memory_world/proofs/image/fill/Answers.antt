use Rattle.std.proofs.Common.{◌≡◌, ◌∙◌, ◌+◌, ◌<◌, sym, ap, List, ℕ, true, false, get_or, length, drop, arith}
use Rattle.std.proofs.lemmas.List.{set-get_or}
use Rattle.memory_world.specs.Ranges.{is_in, open_below}
use Rattle.memory_world.proofs.Filled.{below_place, one_open, one_shut, kept_at, picked_at, picked_past, rest_from}
use Rattle.memory_world.proofs.image.fill.Goals as goal
use Rattle.memory_world.proofs.image.fill.Goals.{then-is_open, else-is_open}

pub overflow_add-used : goal.overflow_add-used
overflow_add-used c =
    omega (arith, c.loop-place.invariant.used, below_place (is_in c.args.ranges.now c.args.number) c.loop-place.place, c.loop-place-test.true)

pub loop-place-preserved : goal.loop-place-preserved
loop-place-preserved c = elim c.if-is_open.branch [
  | then-is_open w ↦
      let test = is_in c.args.ranges.now c.args.number in
      let is : is_in c.args.ranges.now c.args.number c.loop-place.place ≡ true = sym c.is_open.ensures ∙ w.if-is_open.true in
      let within : c.loop-place.place < length c.loop-place.bytes = omega (arith, c.loop-place-test.true, c.loop-place.auto.bytes) in
      record {
        used = w.used-is ∙ ap (λ n. n + 1) c.loop-place.invariant.used ∙ sym (one_open test c.loop-place.place is);
        kept = λ k shut. ap (λ (l : List ℕ). get_or l k 0) w.bytes-is ∙ kept_at test c.loop-place.bytes c.loop-place.place w.byte_at.result k within is shut ∙ c.loop-place.invariant.kept k shut;
        picked = λ k lt yes. ap (λ (l : List ℕ). get_or l k 0) w.bytes-is ∙ picked_at test c.loop-place.bytes c.args.pick.now c.loop-place.place c.loop-place.used w.byte_at.result k within c.loop-place.invariant.used w.byte_at.ensures c.loop-place.invariant.picked lt yes;
      }
  | else-is_open w ↦
      let test = is_in c.args.ranges.now c.args.number in
      let is : is_in c.args.ranges.now c.args.number c.loop-place.place ≡ false = sym c.is_open.ensures ∙ w.if-is_open.false in
      let same : c.if-is_open.bytes ≡ c.loop-place.bytes = w.bytes-is ∙ set-get_or c.loop-place.bytes c.loop-place.place 0 in
      record {
        used = w.used-is ∙ c.loop-place.invariant.used ∙ sym (one_shut test c.loop-place.place is);
        kept = λ k shut. ap (λ (l : List ℕ). get_or l k 0) same ∙ c.loop-place.invariant.kept k shut;
        picked = λ k lt yes. ap (λ (l : List ℕ). get_or l k 0) same ∙ picked_past test c.loop-place.bytes c.args.pick.now c.loop-place.place k is c.loop-place.invariant.picked lt yes;
      }
]

pub returns-clause-picked : goal.returns-clause-picked
returns-clause-picked c = λ k lt yes. c.loop-place.invariant.picked k (omega (arith, lt, c.loop-place-test.false)) yes

pub returns-clause-rest : goal.returns-clause-rest
returns-clause-rest c =
    let last : c.loop-place.place ≡ length c.args.bytes.now = omega (arith, c.loop-place-test.false, c.loop-place.auto.place-end) in
    rest_from c.args.pick.now c.min.result c.loop-place.used (omega (arith, c.min.ensures)) ∙ ap (λ n. drop n c.args.pick.now) (c.loop-place.invariant.used ∙ ap (open_below (is_in c.args.ranges.now c.args.number)) last)
