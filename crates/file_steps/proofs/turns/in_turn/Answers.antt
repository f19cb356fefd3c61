use Rattle.std.proofs.Common.{ℕ, List, ◌-◌, length, take, drop, refl, ap, subst, ◌∙◌}
use Rattle.depot_rows.specs.table_changes.Changed.{rows_of}
use Rattle.depot_rows.specs.depot_model.Deeds.{Deed}
use Rattle.depot_rows.specs.depot_model.Step.{Step as ModelStep, after, both, in_turn, nothing}
use Rattle.file_steps.specs.Goes.{Goes}
use Rattle.file_steps.proofs.Going.{goes_from, parted, turn_next}
use Rattle.file_steps.proofs.turns.in_turn.Goals as goal

pub loop-rest-init : goal.loop-rest-init
loop-rest-init g c = record {
  goes = λ d e stands. (
    nothing,
    goes_from (g.A.TurnAct.stands c.args.act.now (rows_of c.args.tables.now) d) (rows_of c.args.tables.now) d e c.new-step.result c.new-step.ensures stands,
    refl,
  );
  same = refl;
}

pub loop-rest-preserved : goal.loop-rest-preserved
loop-rest-preserved g c =
    let at = c.loop-rest in
    let acts = g.A.TurnAct.acts c.args.act.now in
    let rest = at.rest.now in
    let path = c.path-item.result in
    record {
      goes = λ d e stands.
          let now = at.invariant.goes d e stands in
          let there = after e now.0.deeds in (
            both now.0 (acts d there path),
            subst (λ (f : List Deed → List Deed → List ℕ → ModelStep). Goes (g.A.TurnAct.stands c.add_turn.new.act (rows_of c.args.tables.now) d) (rows_of c.args.tables.now) d e (both now.0 (f d there path)) c.add_turn.new.step)
                at.invariant.same (c.in_ok-add_turn.ensures.step d e now.0 now.1),
            turn_next (acts d) e now.0 path (take (length rest - 1) (drop 1 rest))
                ∙ ap (λ (x : List (List ℕ)). both now.0 (in_turn (acts d) there x)) (parted rest path c.in-len1-up.len_at_least c.path-item.is) ∙ now.2,
          );
      same = c.in_ok-add_turn.ensures.same ∙ at.invariant.same;
    }
