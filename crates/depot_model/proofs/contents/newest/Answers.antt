use Rattle.std.proofs.Common.{◌≡◌, ◌<◌, ◌-◌, ℕ, zero, suc, refl, sym, ◌∙◌, arith, rules}
use Rattle.std.specs.Prelude.{nat_lt}
use Rattle.std.proofs.lemmas.List.Sorted.{IsPartitionPoint-from_clause, IsPartitionedBy-ltb}
use Rattle.depot_model.specs.declared.contents.FileLine.{FileLine}
use Rattle.depot_model.proofs.Lines.{newest_none, newest_last, not_falling}
use Rattle.depot_model.proofs.contents.newest.Goals as goal

positive : (n : ℕ) → (n ≡ 0 → ⊥) → 0 < n
positive zero h = absurd (h refl)
positive (suc n) h = omega arith

pub returns-then-count-eq0 : goal.returns-then-count-eq0
returns-then-count-eq0 c =
    let lines = c.args.lines.now in
    let n = c.args.before in
    let parted = IsPartitionedBy-ltb (λ (l : FileLine). l.line) lines n (not_falling 0 lines c.requires) in
    let point = IsPartitionPoint-from_clause (λ (l : FileLine). nat_lt l.line n) lines c.partition_point-count.result c.partition_point-count.ensures.partitioned parted (λ a r q k. search rules) in
    let none = c.if-count-eq0.true in
    sym (newest_none _ n lines (λ k d le lt. point.1 k d (omega arith) lt))

pub returns : goal.returns
returns c =
    let lines = c.args.lines.now in
    let n = c.args.before in
    let parted = IsPartitionedBy-ltb (λ (l : FileLine). l.line) lines n (not_falling 0 lines c.requires) in
    let point = IsPartitionPoint-from_clause (λ (l : FileLine). nat_lt l.line n) lines c.partition_point-count.result c.partition_point-count.ensures.partitioned parted (λ a r q k. search rules) in
    let bound = c.partition_point-count.ensures.bound in
    let some = positive c.partition_point-count.result c.if-count-eq0.false in
    let at = c.partition_point-count.result - 1 in
    c.as_ref.ensures.value
    ∙ sym (newest_last _ n lines at c.index-lines-count.result (omega arith) (λ k d le lt. point.0 k d le (omega arith)) (λ k d le lt. point.1 k d (omega arith) lt))
