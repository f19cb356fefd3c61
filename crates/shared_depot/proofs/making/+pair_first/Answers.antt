use Rattle.std.proofs.Common.{◌≤◌, ◌++◌, ◌∷◌, [], sym, ap, ◌∙◌, arith}
use Rattle.party_marks.specs.Known.{PassKnown}
use Rattle.shared_depot.proofs.Seats.{last_mark, marks_more}
use Rattle.shared_depot.proofs.making.+pair_first.Goals as goal

pub new-requires-clause-party : goal.new-requires-clause-party
new-requires-clause-party g t c =
    let some : 1 ≤ c.args.count = omega arith in
    let first = last_mark c.args.journal.now.items c.pop.new.self.items c.in-Some.first c.args.count some c.in-Some.ensures.items c.requires.journal in
    let second = last_mark c.args.archive.now.items c.pop-2.new.self.items c.in-Some-pop.second c.args.count some c.in-Some-pop.ensures.items c.requires.archive in
    ap (λ (p : PassKnown). p.party) second.1 ∙ sym (ap (λ (p : PassKnown). p.party) first.1)

pub new-requires-clause-none : goal.new-requires-clause-none
new-requires-clause-none g t c =
    let some : 1 ≤ c.args.count = omega arith in
    let first = last_mark c.args.journal.now.items c.pop.new.self.items c.in-Some.first c.args.count some c.in-Some.ensures.items c.requires.journal in
    let second = last_mark c.args.archive.now.items c.pop-2.new.self.items c.in-Some-pop.second c.args.count some c.in-Some-pop.ensures.items c.requires.archive in
    (ap (λ (p : PassKnown). p.list) first.1, ap (λ (p : PassKnown). p.list) second.1)

pub returns : goal.returns
returns g t c =
    let count = c.args.count in
    let some : 1 ≤ count = omega arith in
    let first = last_mark c.args.journal.now.items c.pop.new.self.items c.in-Some.first count some c.in-Some.ensures.items c.requires.journal in
    c.in_ok-push.ensures.items
    ∙ (ap (λ (p : PassKnown). c.pair_first.new.passes.items ++ p ∷ []) (c.new.ensures ∙ first.1)
    ∙ marks_more c.args.passes.now.items c.pair_first.new.passes.items count some c.in_ok-pair_first.ensures)
