use Rattle.std.proofs.Common.{ℕ, List}
use Rattle.depot_rows.specs.db_records.declared.table.TableId.TheVariants as table_ids
use Rattle.depot_rows.specs.table_changes.Changed.{AllRows, rows_of}
use Rattle.depot_rows.specs.depot_model.declared.command.FileArgument.{FileArgument}
use Rattle.depot_rows.specs.depot_model.declared.request.Caller.{Caller}
use Rattle.depot_rows.specs.depot_model.Deeds.{Deed}
use Rattle.depot_rows.specs.depot_model.Rules.{IsSound}
use Rattle.depot_rows.specs.depot_model.Steps.Shelving.{shelve_delete}
use Rattle.depot_rows.specs.Standing.{HasRows}
use Rattle.reply_rows.specs.Made.{IsMade}
use Rattle.reply_rows.specs.declared.step.Step.{Step}
use Rattle.named_files.specs.Asked.{IsAsker}
use Rattle.named_files.specs.declared.asker.Asker.{Asker}
use Rattle.command_parts.proofs.Refused.{first_told, if_ok, passed_first}
use Rattle.shelf_ops.specs.Sets.{KeptReads}
use Rattle.shelf_ops.proofs.removing.shelve_delete.Goals as goal

abbrev Removes : AllRows → Caller → Asker → ℕ → List FileArgument → Step → Type 0
Removes rows caller asker n arguments step =
    (d : List Deed) → IsSound d → IsAsker d caller asker → HasRows rows d table_ids.Domain → HasRows rows d table_ids.Change
    → IsMade rows d d (shelve_delete d caller n arguments) step

pub returns-in-Some : goal.returns-in-Some
returns-in-Some c =
    let rows = rows_of c.args.tables.now in
    if_ok {Q = Removes rows c.args.caller.now c.args.asker.now c.args.change c.args.arguments.now} _ _ c.tells.ensures (λ step told d sound asked domain change.
    first_told rows d d _ _ _ _ c.in-Some.row step c.in-Some.is (c.in_ok-row.ensures d change) told)

pub returns-in-Some-2 : goal.returns-in-Some-2
returns-in-Some-2 c =
    let rows = rows_of c.args.tables.now in
    let caller = c.args.caller.now in
    if_ok {Q = Removes rows caller c.args.asker.now c.args.change c.args.arguments.now} _ _ c.tells-in-Some-2.ensures (λ step told d sound asked domain change.
    passed_first rows d d _ _ _ _ step c.in_default.not-Some (c.in_ok-row.ensures d change)
    (first_told rows d d _ _ _ _ c.in-Some-2.row step c.in-Some-2.is (c.in_ok-row-2.ensures d caller sound asked domain) told))

pub returns : goal.returns
returns c =
    let rows = rows_of c.args.tables.now in
    let caller = c.args.caller.now in
    if_ok {Q = Removes rows caller c.args.asker.now c.args.change c.args.arguments.now} _ _ c.within_forms.ensures (λ step within d sound asked domain change.
    let reads : KeptReads caller c.args.asker.now rows d = record { sound = sound; asked = asked; has_domain = domain } in
    passed_first rows d d _ _ _ _ step c.in_default.not-Some (c.in_ok-row.ensures d change)
    (passed_first rows d d _ _ _ _ step c.in_default-2.not-Some (c.in_ok-row-2.ensures d caller sound asked domain)
    (within rows d d _ (c.in_ok-done.ensures d reads reads))))
