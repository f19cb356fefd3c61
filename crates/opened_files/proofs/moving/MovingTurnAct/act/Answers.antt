use Rattle.std.proofs.Common.{List, sym, subst}
use Rattle.depot_rows.specs.depot_model.Steps.Moving.{move_file}
use Rattle.depot_rows.specs.Effects.{Follow}
use Rattle.depot_rows.specs.declared.deed.Deed.{Deed}
use Rattle.opened_files.proofs.Moves.{file_own}
use Rattle.opened_files.proofs.moving.MovingTurnAct.act.Goals as goal

pub returns-clause-comes : goal.returns-clause-comes
returns-clause-comes c = λ d e reads.
    let moving = c.args.self.now in
    let caller = moving.caller.now in
    let model = move_file caller moving.change moving.from.now moving.to.now e c.args.path.now in
    record {
      reads = reads.reads;
      own_now = c.in_ok-note.ensures caller.client d e model.deeds (subst (λ (l : List Deed). Follow e l model.deeds) (sym c.as_slice.ensures) (c.in_ok-step.ensures d e reads).deeds)
          (file_own e caller moving.change moving.from.now moving.to.now c.args.path.now) reads.own_now;
    }
