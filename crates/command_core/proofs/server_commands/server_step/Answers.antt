use Rattle.std.proofs.Common.{refl, sym, subst, codes}
use Rattle.depot_rows.specs.db_records.declared.table.TableId.TheVariants as tables
use Rattle.depot_rows.specs.table_changes.Changed.{rows_of}
use Rattle.depot_rows.specs.depot_model.Commands.{own_step}
use Rattle.depot_rows.specs.depot_model.declared.command.Command.{Command}
use Rattle.depot_rows.specs.depot_model.declared.refusal.Refusal.TheVariants.{BadUsage}
use Rattle.reply_rows.specs.Made.{IsMade}
use Rattle.reply_rows.proofs.Joined.{made_refusal}
use Rattle.command_core.specs.Outcomes.{HasTouched}
use Rattle.command_core.proofs.server_commands.server_step.Goals as goal

pub returns-in_ok-begun-in-Checkpoint : goal.returns-in_ok-begun-in-Checkpoint
returns-in_ok-begun-in-Checkpoint c = λ d sound family formed has.
    let begun = c.in_ok-begun-in-Checkpoint in
    let P : Command → Type 0 = λ k. HasTouched (rows_of c.args.tables.now) d k → IsMade (rows_of c.args.tables.now) d d (own_step d c.args.request.now k) begun.begun in
    subst P (sym c.in-Checkpoint.is) (λ has. begun.ensures d (has tables.Counter refl)) has

pub returns-in_ok-refused-in-Pull : goal.returns-in_ok-refused-in-Pull
returns-in_ok-refused-in-Pull c = λ d sound family formed has.
    let refused = c.in_ok-refused-in-Pull in
    let P : Command → Type 0 = λ k. IsMade (rows_of c.args.tables.now) d d (own_step d c.args.request.now k) refused.refused in
    subst P (sym c.in-Pull.is) (made_refusal (rows_of c.args.tables.now) d d (BadUsage (codes "pull")) c.in_ok-row-in-Pull.row refused.refused c.in_ok-row-in-Pull.ensures refused.ensures)
