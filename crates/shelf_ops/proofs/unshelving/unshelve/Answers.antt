use Rattle.std.proofs.Common.{◌≡◌, ℕ, List, Option, true, false, subst}
use Rattle.std.specs.List.{list_all}
use Rattle.depot_rows.specs.db_records.declared.table.TableId.TheVariants as table_ids
use Rattle.depot_rows.specs.table_changes.Changed.{AllRows, rows_of}
use Rattle.depot_rows.specs.depot_model.declared.command.FileArgument.{FileArgument}
use Rattle.depot_rows.specs.depot_model.declared.request.Caller.{Caller}
use Rattle.depot_rows.specs.depot_model.Arguments.{named, no_file, over_all}
use Rattle.depot_rows.specs.depot_model.Deeds.{Deed}
use Rattle.depot_rows.specs.depot_model.Rules.{IsSound}
use Rattle.depot_rows.specs.depot_model.Shelves.{kept_paths}
use Rattle.depot_rows.specs.depot_model.Step.{Step as ModelStep}
use Rattle.depot_rows.specs.depot_model.Steps.Shelving.{unshelve, unshelve_file}
use Rattle.depot_rows.specs.depot_model.WellFormed.{asks_head}
use Rattle.depot_rows.specs.Standing.{HasRows}
use Rattle.reply_rows.specs.Made.{IsMade}
use Rattle.reply_rows.specs.declared.step.Step.{Step}
use Rattle.named_files.specs.Asked.{IsAsker}
use Rattle.named_files.specs.declared.asker.Asker.{Asker}
use Rattle.named_files.proofs.Heads.{over_all_heads}
use Rattle.command_parts.proofs.Refused.{first_told, if_ok, passed_first}
use Rattle.shelf_ops.specs.Shelved.{OpenedReads}
use Rattle.shelf_ops.proofs.unshelving.unshelve.Goals as goal

abbrev Unshelves : AllRows → Caller → Asker → ℕ → Option ℕ → List FileArgument → Step → Type 0
Unshelves rows caller asker n change arguments step =
    (d : List Deed) → list_all asks_head arguments ≡ true → IsSound d → IsAsker d caller asker → HasRows rows d table_ids.Domain
    → HasRows rows d table_ids.Working → HasRows rows d table_ids.Change → HasRows rows d table_ids.Rev
    → IsMade rows d d (unshelve d caller n change arguments) step

pub returns-in-Some : goal.returns-in-Some
returns-in-Some c =
    let rows = rows_of c.args.tables.now in
    if_ok {Q = Unshelves rows c.args.caller.now c.args.asker.now c.args.shelved c.args.change c.args.arguments.now} _ _ c.tells.ensures (λ step told d asks sound asked domain working change rev.
    first_told rows d d _ _ _ _ c.in-Some.row step c.in-Some.is (c.in_ok-row.ensures d change) told)

pub returns-in-Some-2 : goal.returns-in-Some-2
returns-in-Some-2 c =
    let rows = rows_of c.args.tables.now in
    let caller = c.args.caller.now in
    if_ok {Q = Unshelves rows caller c.args.asker.now c.args.shelved c.args.change c.args.arguments.now} _ _ c.tells-in-Some-2.ensures (λ step told d asks sound asked domain working change rev.
    passed_first rows d d _ _ _ _ step c.in_default.not-Some (c.in_ok-row.ensures d change)
    (first_told rows d d _ _ _ _ c.in-Some-2.row step c.in-Some-2.is (c.in_ok-row-2.ensures d caller sound asked domain) told))

pub returns : goal.returns
returns c =
    let rows = rows_of c.args.tables.now in
    let caller = c.args.caller.now in
    let n = c.args.shelved in
    let arguments = c.args.arguments.now in
    if_ok {Q = Unshelves rows caller c.args.asker.now n c.args.change arguments} _ _ c.within_files.ensures (λ step within d asks sound asked domain working change rev.
    let reads : OpenedReads caller c.args.asker.now rows d =
    record { sound = sound; asked = asked; has_domain = domain; has_working = working; has_rev = rev } in
    let done = c.in_ok-done.done in
    let files = kept_paths d n in
    let open_it : ℕ → FileArgument → List ℕ → ModelStep = λ m _. unshelve_file d caller n m in
    passed_first rows d d _ _ _ _ step c.in_default.not-Some (c.in_ok-row.ensures d change)
    (passed_first rows d d _ _ _ _ step c.in_default-2.not-Some (c.in_ok-row-2.ensures d caller sound asked domain)
    (within rows d d _
    (subst (λ (m : ℕ). IsMade rows d d (over_all (named false d caller files) no_file (open_it m) arguments) done) c.unwrap_or.ensures
    (subst (λ (m : ModelStep). IsMade rows d d m done) (over_all_heads d caller files no_file (open_it c.unwrap_or.result) arguments asks)
    (c.in_ok-done.ensures d reads reads))))))
