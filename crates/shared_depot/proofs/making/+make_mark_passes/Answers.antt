use Rattle.std.proofs.Common.{◌≡◌, ◌-◌, ◌+◌, ◌≤◌, ◌++◌, ◌∷◌, [], ℕ, suc, ap, ◌∙◌, arith}
use Rattle.order_words.specs.Seats.{fresh_lanes}
use Rattle.party_marks.specs.Known.{PassKnown}
use Rattle.party_marks.specs.declared.mark.Mark.{Mark}
use Rattle.shared_depot.proofs.Seats.{last_seat, marks_more}
use Rattle.shared_depot.proofs.making.+make_mark_passes.Goals as goal

pub new-requires-clause-seat : goal.new-requires-clause-seat
new-requires-clause-seat g t c =
    let run = g.N.Marking.marks in
    let count = c.args.count in
    let next : 1 + count ≡ suc count = omega arith in
    let is : c.args.lanes.now.items ≡ fresh_lanes run (suc count) = c.requires.seats ∙ ap (λ (n : ℕ). fresh_lanes {E = Mark} run n) next in
    (last_seat run c.args.lanes.now.items c.pop.new.self.items c.in-Some.seat c.in-Some.ensures.items count is).1

pub make_mark_passes-requires : goal.make_mark_passes-requires
make_mark_passes-requires g t c =
    let run = g.N.Marking.marks in
    let count = c.args.count in
    let some : 1 ≤ count = omega arith in
    let next : 1 + count ≡ suc count = omega arith in
    let rest : count ≡ 1 + (count - 1) = omega arith in
    let is : c.args.lanes.now.items ≡ fresh_lanes run (suc count) = c.requires.seats ∙ ap (λ (n : ℕ). fresh_lanes {E = Mark} run n) next in
    let seats = (last_seat run c.args.lanes.now.items c.pop.new.self.items c.in-Some.seat c.in-Some.ensures.items count is).0 ∙ ap (λ (n : ℕ). fresh_lanes {E = Mark} run n) rest in
    λ κs lives. (omega (arith, c.decreases), (lives, ((omega arith, omega arith), seats)))

pub returns : goal.returns
returns g t c =
    let count = c.args.count in
    let some : 1 ≤ count = omega arith in
    c.in_ok-push.ensures.items
    ∙ (ap (λ (p : PassKnown). c.make_mark_passes.new.passes.items ++ p ∷ []) c.new.ensures
    ∙ marks_more c.args.passes.now.items c.make_mark_passes.new.passes.items count some c.in_ok-make_mark_passes.ensures)
