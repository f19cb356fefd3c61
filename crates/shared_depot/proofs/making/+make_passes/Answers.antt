use Rattle.std.proofs.Common.{◌≡◌, ◌+◌, ◌-◌, ◌≤◌, ◌++◌, ◌∷◌, [], ℕ, suc, ap, ◌∙◌, arith}
use Rattle.locked_tables.specs.Known.{PartyKnown}
use Rattle.locked_tables.specs.Taken.{party_lane}
use Rattle.locked_tables.specs.declared.taken.Taken.{Taken}
use Rattle.order_words.specs.Seats.{fresh_lane, fresh_lanes}
use Rattle.shared_depot.proofs.Seats.{last_seat, passes_more}
use Rattle.shared_depot.proofs.making.+make_passes.Goals as goal

pub new-requires-clause-seat : goal.new-requires-clause-seat
new-requires-clause-seat g t c =
    let run = g.N.Naming.run in
    let count = c.args.count in
    let some : 1 ≤ count = omega arith in
    let next : count + 13 ≡ suc (count - 1 + 13) = omega arith in
    let lane : count - 1 + 13 ≡ party_lane count = omega arith in
    let is : c.args.lanes.now.items ≡ fresh_lanes run (suc (count - 1 + 13)) = c.requires.seats ∙ ap (λ (n : ℕ). fresh_lanes {E = Taken} run n) next in
    (last_seat run c.args.lanes.now.items c.pop.new.self.items c.in-Some.seat c.in-Some.ensures.items (count - 1 + 13) is).1 ∙ ap (λ (n : ℕ). fresh_lane {E = Taken} run n) lane

pub returns-clause-passes : goal.returns-clause-passes
returns-clause-passes g t c =
    let count = c.args.count in
    let some : 1 ≤ count = omega arith in
    c.in_ok-push.ensures.items
    ∙ (ap (λ (p : PartyKnown). c.make_passes.new.passes.items ++ p ∷ []) c.new.ensures
    ∙ passes_more c.args.passes.now.items c.make_passes.new.passes.items count some c.in_ok-make_passes.ensures.passes)
