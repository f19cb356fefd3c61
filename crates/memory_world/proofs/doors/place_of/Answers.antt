use Rattle.std.proofs.Common.{◌≡◌, Some, ◌+◌, suc, length, refl, sym, ◌∙◌, arith, subst, None, take, ℕ}
use Rattle.std.specs.Prelude.{slice_get}
use Rattle.std.proofs.lemmas.Option.{slice_get_read}
use Rattle.memory_world.specs.Door.{bears, door_among}
use Rattle.memory_world.proofs.Found.{find-next, find-take_more}
use Rattle.memory_world.proofs.doors.place_of.Goals as goal

pub returns-then-is_of-clause-found : goal.returns-then-is_of-clause-found
returns-then-is_of-clause-found c =
    let doors = c.args.doors.now in
    let door = c.index-doors-at.result in
    let at : slice_get doors c.loop-at.at ≡ Some door = slice_get_read doors (length doors) c.loop-at.at door refl c.loop-at-test.true c.index-doors-at.is in
    find-next (bears c.args.name.now) doors c.loop-at.at door c.loop-at.invariant at (sym c.is_of.ensures ∙ c.if-is_of.true) ∙ sym at

pub loop-at-preserved : goal.loop-at-preserved
loop-at-preserved c =
    let doors = c.args.doors.now in
    let door = c.index-doors-at.result in
    let at : slice_get doors c.loop-at.at ≡ Some door = slice_get_read doors (length doors) c.loop-at.at door refl c.loop-at-test.true c.index-doors-at.is in
    let next : suc c.loop-at.at ≡ c.loop-at.at + 1 = omega arith in
    let P : ℕ → Type 0 = λ n. door_among (take n doors) c.args.name.now ≡ None in
    subst P next (find-take_more (bears c.args.name.now) doors c.loop-at.at door c.loop-at.invariant at (sym c.is_of.ensures ∙ c.if-is_of.false))
