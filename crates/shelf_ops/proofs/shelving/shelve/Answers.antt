use Rattle.std.proofs.Common.{◌≡◌, Bool, ℕ, List, true, subst}
use Rattle.std.specs.List.{list_all}
use Rattle.depot_rows.specs.db_records.declared.table.TableId.TheVariants as table_ids
use Rattle.depot_rows.specs.table_changes.Changed.{AllRows, rows_of}
use Rattle.depot_rows.specs.depot_model.declared.command.FileArgument.{FileArgument}
use Rattle.depot_rows.specs.depot_model.declared.request.Request.{Request}
use Rattle.depot_rows.specs.depot_model.Deeds.{Deed}
use Rattle.depot_rows.specs.depot_model.Rules.{IsSound}
use Rattle.depot_rows.specs.depot_model.Step.{Step as ModelStep}
use Rattle.depot_rows.specs.depot_model.Steps.Reverting.{not_open}
use Rattle.depot_rows.specs.depot_model.Steps.Shelving.{shelve, shelve_file, within_forms}
use Rattle.depot_rows.specs.depot_model.WellFormed.{asks_head}
use Rattle.depot_rows.specs.Standing.{HasRows}
use Rattle.reply_rows.specs.Made.{IsMade}
use Rattle.reply_rows.specs.declared.step.Step.{Step}
use Rattle.named_files.specs.Asked.{IsAsker}
use Rattle.named_files.specs.declared.asker.Asker.{Asker}
use Rattle.command_parts.proofs.Refused.{first_told, if_ok, passed_first}
use Rattle.shelf_ops.specs.Shelved.{OpenedReads}
use Rattle.shelf_ops.proofs.Shelved.{over_opened}
use Rattle.shelf_ops.proofs.shelving.shelve.Goals as goal

abbrev Shelves : AllRows → Request → Asker → ℕ → Bool → List FileArgument → Step → Type 0
Shelves rows request asker n replaces arguments step =
    (d : List Deed) → list_all asks_head arguments ≡ true → IsSound d → IsAsker d request.caller asker → HasRows rows d table_ids.Domain
    → HasRows rows d table_ids.Working → HasRows rows d table_ids.Change → HasRows rows d table_ids.Rev
    → IsMade rows d d (shelve d request n replaces arguments) step

pub returns-in-Some : goal.returns-in-Some
returns-in-Some c =
    let rows = rows_of c.args.tables.now in
    if_ok {Q = Shelves rows c.args.request.now c.args.asker.now c.args.change c.args.replaces c.args.arguments.now} _ _ c.tells.ensures (λ step told d asks sound asked domain working change rev.
    first_told rows d d _ _ _ _ c.in-Some.row step c.in-Some.is (c.in_ok-row.ensures d change) told)

pub returns : goal.returns
returns c =
    let rows = rows_of c.args.tables.now in
    let request = c.args.request.now in
    if_ok {Q = Shelves rows request c.args.asker.now c.args.change c.args.replaces c.args.arguments.now} _ _ c.within_forms.ensures (λ step within d asks sound asked domain working change rev.
    let reads : OpenedReads request.caller c.args.asker.now rows d =
    record { sound = sound; asked = asked; has_domain = domain; has_working = working; has_rev = rev } in
    let act : FileArgument → List ℕ → ModelStep = λ _. shelve_file d request c.args.replaces in
    passed_first rows d d _ _ _ _ step c.in_default.not-Some (c.in_ok-row.ensures d change)
    (subst (λ (m : ModelStep). IsMade rows d d (within_forms m) step) (over_opened d request.caller c.args.change not_open act c.args.arguments.now asks)
    (within rows d d _ (c.in_ok-done.ensures d reads reads))))
