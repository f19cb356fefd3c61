use Rattle.std.proofs.Common.{sym, subst, List}
use Rattle.depot_rows.specs.db_records.declared.table.TableId.TheVariants as tables
use Rattle.depot_rows.specs.depot_model.Steps.Checkpoint.{checkpoint}
use Rattle.depot_rows.specs.declared.deed.Deed.{Deed}
use Rattle.depot_rows.specs.Effects.{Follow}
use Rattle.depot_checkpoint.proofs.taking.checkpoint_changes.Goals as goal

pub returns-clause-differences : goal.returns-clause-differences
returns-clause-differences c = λ d stand.
    let follows = (c.in_ok-step.ensures d (stand.each tables.Counter)).deeds in
    let P : List Deed → Type 0 = λ deeds. Follow d deeds (checkpoint d).deeds in
    c.in_ok-changes.ensures.differences d (checkpoint d).deeds stand.sound.landed_or_pending (subst P (sym c.as_slice.ensures) follows) (λ locks. stand.each tables.Working)
