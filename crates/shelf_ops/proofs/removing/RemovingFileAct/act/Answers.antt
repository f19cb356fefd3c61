use Rattle.std.proofs.Common.{ℕ, List}
use Rattle.depot_rows.specs.table_changes.Changed.{AllRows, rows_of}
use Rattle.depot_rows.specs.depot_model.Deeds.{Deed}
use Rattle.depot_rows.specs.depot_model.Steps.Shelving.{unkeep}
use Rattle.reply_rows.specs.Made.{IsMade}
use Rattle.reply_rows.specs.declared.step.Step.{Step}
use Rattle.command_parts.proofs.Refused.{first_told, if_ok, passed_first}
use Rattle.shelf_ops.specs.Sets.{KeptReads}
use Rattle.shelf_ops.specs.declared.removing.Removing.{Removing}
use Rattle.shelf_ops.proofs.removing.RemovingFileAct.act.Goals as goal

abbrev Done : AllRows → Removing → List ℕ → Step → Type 0
Done rows own path step = (d e : List Deed) → KeptReads own.caller.now own.asker.now rows d → Unit {0} → IsMade rows d e (unkeep d own.caller.now own.change path) step

pub returns-in-Some : goal.returns-in-Some
returns-in-Some c = if_ok {Q = Done (rows_of c.args._tables.now) c.args.self.now c.args.path.now} _ _ c.tells.ensures (λ step told d e reads later.
    first_told (rows_of c.args._tables.now) d e _ _ _ _ c.in-Some.row step c.in-Some.is (c.in_ok-row.ensures d c.args.self.now.caller.now reads.asked) told)

pub returns : goal.returns
returns c = if_ok {Q = Done (rows_of c.args._tables.now) c.args.self.now c.args.path.now} _ _ c.remove.ensures (λ step made d e reads later.
    let rows = rows_of c.args._tables.now in
    passed_first rows d e _ _ _ _ step c.in_default.not-Some (c.in_ok-row.ensures d c.args.self.now.caller.now reads.asked) (made rows d e))
