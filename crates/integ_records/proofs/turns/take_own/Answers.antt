use Rattle.std.proofs.Common.{Some, true, sym, ap, subst}
use Rattle.depot_rows.specs.depot_model.Revisions.{is_live_at}
use Rattle.depot_rows.specs.depot_model.Steps.Resolving.{own_deeds}
use Rattle.depot_rows.specs.depot_model.declared.command.Taking.{Taking}
use Rattle.depot_rows.specs.Deed.{opening_of, owing_of}
use Rattle.depot_rows.specs.declared.deed.Opening.{Opening}
use Rattle.integ_records.specs.Turns.{IsTurned, left_own}
use Rattle.integ_records.proofs.turns.take_own.Goals as goal

pub returns-in_ok-stays-in-Theirs : goal.returns-in_ok-stays-in-Theirs
returns-in_ok-stays-in-Theirs c = λ d has.
    let owing = c.args.owing.now in
    let o = opening_of c.args.opening.now in
    let r = owing_of owing in
    subst (λ (t : Taking). IsTurned c.args.deeds.now c.take_their_last.new.deeds (own_deeds d t o r) (left_own (is_live_at d owing.path owing.last) t o r) c.in_ok-stays-in-Theirs.stays (opening_of c.take_their_last.new.opening))
    (sym c.in-Theirs.is) (c.in_ok-stays-in-Theirs.ensures d has)

pub returns-in_ok-take_last-in-Yours : goal.returns-in_ok-take_last-in-Yours
returns-in_ok-take_last-in-Yours c = λ d has.
    let owing = c.args.owing.now in
    let o = opening_of c.args.opening.now in
    let r = owing_of owing in
    subst (λ (t : Taking). IsTurned c.args.deeds.now c.take_last.new.deeds (own_deeds d t o r) (left_own (is_live_at d owing.path owing.last) t o r) true (opening_of c.take_last.new.opening))
    (sym c.in-Yours.is)
    (record {
      added = c.in_ok-take_last-in-Yours.ensures.deeds;
      left_is = ap (λ (x : Opening). Some (opening_of x)) (sym c.in_ok-take_last-in-Yours.ensures.opening);
    })
