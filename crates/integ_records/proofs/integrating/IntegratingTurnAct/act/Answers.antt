use Rattle.std.proofs.Common.{List, sym, subst}
use Rattle.depot_rows.specs.depot_model.Steps.Integrating.{integrate_file}
use Rattle.depot_rows.specs.Effects.{Follow}
use Rattle.depot_rows.specs.declared.deed.Deed.{Deed}
use Rattle.integ_records.proofs.Integrated.{file_own}
use Rattle.integ_records.proofs.integrating.IntegratingTurnAct.act.Goals as goal

pub returns-clause-comes : goal.returns-clause-comes
returns-clause-comes c = λ d e reads.
    let own = c.args.self.now in
    let caller = own.caller.now in
    let model = integrate_file d caller own.change own.from.now own.to.now e c.args.path.now in
    record {
      reads = reads.reads;
      is_own = c.in_ok-note.ensures caller.client d e model.deeds (subst (λ (l : List Deed). Follow e l model.deeds) (sym c.as_slice.ensures) (c.in_ok-step.ensures d e reads).deeds)
          (file_own d caller own.change e own.from.now own.to.now c.args.path.now) reads.is_own;
    }
