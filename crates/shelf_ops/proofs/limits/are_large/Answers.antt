use Rattle.std.proofs.Common.{length, take, drop, ◌-◌, arith}
use Rattle.std.specs.Prelude.{map, sum}
use Rattle.shelf_ops.specs.Sizes.{size_by}
use Rattle.shelf_ops.proofs.Limited.{none_left, not_large, parted, too_large}
use Rattle.shelf_ops.proofs.limits.are_large.Goals as goal

pub returns-then-size-left : goal.returns-then-size-left
returns-then-size-left c =
    let first = parted c.loop-rest.rest.now c.deed-item.result c.in-len1-up.len_at_least c.deed-item.is in
    let later = sum (map size_by (take (length c.loop-rest.rest.now - 1) (drop 1 c.loop-rest.rest.now))) in
    let size = c.size_of-size.ensures in
    let is = c.loop-rest.invariant.counted in
    let over = c.if-size-left.true in
    too_large (size_by c.deed-item.result) c.loop-rest.left later (sum (map size_by c.args.deeds.now)) (omega (arith, size, over)) (omega (arith, is, first))

pub returns : goal.returns
returns c =
    let none = none_left c.loop-rest.rest.now (omega arith) in
    let is = c.loop-rest.invariant.counted in
    not_large c.loop-rest.left (sum (map size_by c.args.deeds.now)) (omega (arith, is, none))

pub loop-rest-preserved : goal.loop-rest-preserved
loop-rest-preserved c =
    let first = parted c.loop-rest.rest.now c.deed-item.result c.in-len1-up.len_at_least c.deed-item.is in
    let size = c.size_of-size.ensures in
    let is = c.loop-rest.invariant.counted in
    record { counted = omega (arith, size, is, first) }
