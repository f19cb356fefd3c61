use Rattle.std.proofs.Common.{◌≡◌, ◌∷◌, ap, length, arith}
use Rattle.std.specs.Prelude.{filter}
use Rattle.std.specs.Vec.Iter.{into_iter_items}
use Rattle.file_steps.proofs.Going.{kept_on}
use Rattle.have_sync.specs.Placing.{is_told}
use Rattle.have_sync.proofs.placing.told_among.Goals as goal

pub loop-path-preserved : goal.loop-path-preserved
loop-path-preserved c =
    let at = c.loop-path in
    let test = is_told c.args.asker.now in
    let steps : into_iter_items at.path-iterator ≡ c.in-Some.path ∷ into_iter_items c.next.new.self = c.in-Some.ensures.steps.0 in
    record {
      goes =
          kept_on test at.told c.add_told.new.told c.in-Some.path (into_iter_items at.path-iterator) (into_iter_items c.next.new.self) (filter test c.args.files) steps
          c.in_ok-add_told.ensures at.invariant.goes;
      left = let was = at.invariant.left in let gone = c.in-Some.ensures.steps.1 in let short = ap length steps in omega arith;
    }
