use Rattle.std.proofs.Common.{◌≡◌, ◌∷◌, ap, length, arith}
use Rattle.std.specs.Prelude.{filter}
use Rattle.std.specs.Vec.Iter.{into_iter_items}
use Rattle.file_steps.proofs.Going.{kept_on}
use Rattle.file_steps.proofs.loops.named_among.Goals as goal

pub loop-path-preserved : goal.loop-path-preserved
loop-path-preserved g c =
    let at = c.loop-path in
    let steps : into_iter_items at.path-iterator ≡ c.in-Some.path ∷ into_iter_items c.next.new.self = c.in-Some.ensures.steps.0 in
    record {
      goes = λ d reads.
          kept_on (g.S.FileSet.names c.args.set.now d c.args.argument.now) at.paths c.add_named.new.paths c.in-Some.path (into_iter_items at.path-iterator)
          (into_iter_items c.next.new.self) (filter (g.S.FileSet.names c.args.set.now d c.args.argument.now) c.args.candidates) steps (c.in_ok-add_named.ensures d reads)
          (at.invariant.goes d reads);
      left = let was = at.invariant.left in let gone = c.in-Some.ensures.steps.1 in let short = ap length steps in omega arith;
    }
