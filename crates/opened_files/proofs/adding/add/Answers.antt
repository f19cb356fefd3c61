use Rattle.std.proofs.Common.{◌≡◌, ℕ, true, List, [], subst}
use Rattle.std.specs.List.{list_all}
use Rattle.depot_rows.specs.db_records.declared.table.TableId.TheVariants as table_ids
use Rattle.depot_rows.specs.depot_path.Path.{printed}
use Rattle.depot_rows.specs.table_changes.Changed.{rows_of}
use Rattle.depot_rows.specs.depot_model.declared.command.FileArgument.{FileArgument}
use Rattle.depot_rows.specs.depot_model.declared.refusal.Refusal.TheVariants.{NotInView}
use Rattle.depot_rows.specs.depot_model.Arguments.{over}
use Rattle.depot_rows.specs.depot_model.Deeds.{Deed}
use Rattle.depot_rows.specs.depot_model.Rules.{IsSound}
use Rattle.depot_rows.specs.depot_model.Step.{refuses}
use Rattle.depot_rows.specs.depot_model.Steps.Adding.{add, add_file, files_to_add, spelled}
use Rattle.depot_rows.specs.depot_model.WellFormed.{spells_path}
use Rattle.depot_rows.specs.Standing.{HasRows}
use Rattle.reply_rows.specs.Made.{IsMade}
use Rattle.reply_rows.specs.declared.step.Step.{Step}
use Rattle.named_files.specs.Asked.{IsAsker}
use Rattle.command_parts.proofs.Refused.{first_told, if_ok, passed_first}
use Rattle.opened_files.specs.Adds.{Reads}
use Rattle.opened_files.proofs.adding.add.Goals as goal

pub returns-in-Some : goal.returns-in-Some
returns-in-Some c =
    let rows = rows_of c.args.tables.now in
    let Q : Step → Type 0 = λ step. (d : List Deed) → list_all spells_path c.args.arguments.now ≡ true → IsSound d
    → IsAsker d c.args.caller.now c.args.asker.now → HasRows rows d table_ids.Change → HasRows rows d table_ids.Working → HasRows rows d table_ids.Rev
    → IsMade rows d d (add d c.args.caller.now c.args.change c.args.file_type.now c.args.arguments.now) step in
    if_ok {Q = Q} _ _ c.tells.ensures (λ step told d spell sound asked change working revisions.
    first_told rows d d _ _ _ _ c.in-Some.row step c.in-Some.is (c.in_ok-row.ensures d change) told)

pub returns : goal.returns
returns c =
    let rows = rows_of c.args.tables.now in
    let Q : Step → Type 0 = λ step. (d : List Deed) → list_all spells_path c.args.arguments.now ≡ true → IsSound d
    → IsAsker d c.args.caller.now c.args.asker.now → HasRows rows d table_ids.Change → HasRows rows d table_ids.Working → HasRows rows d table_ids.Rev
    → IsMade rows d d (add d c.args.caller.now c.args.change c.args.file_type.now c.args.arguments.now) step in
    if_ok {Q = Q} _ _ c.within_files.ensures (λ step within d spell sound asked change working revisions.
    let caller = c.args.caller.now in
    let reads : Reads caller c.args.asker.now rows d = record { sound = sound; asked = asked; listed = working; revisions = revisions } in
    passed_first rows d d _ _ _ _ step c.in_default.not-Some (c.in_ok-row.ensures d change)
    (within rows d d _
    (subst (λ (t : List ℕ). IsMade rows d d
    (over (files_to_add d caller) (λ (a : FileArgument). refuses (NotInView (printed (spelled a)))) (λ _. add_file d caller c.args.change t) [] c.args.arguments.now) c.in_ok-done.done)
    c.in_ok-own_type.ensures (c.in_ok-done.ensures d spell reads reads))))
