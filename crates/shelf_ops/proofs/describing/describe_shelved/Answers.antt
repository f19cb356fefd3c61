use Rattle.std.proofs.Common.{List, Option, [], ◌∷◌, sym, subst, ◌∙◌}
use Rattle.std.specs.Option.{option_copied}
use Rattle.depot_rows.specs.db_records.declared.table.TableId.TheVariants as table_ids
use Rattle.depot_rows.specs.table_changes.Changed.{rows_of}
use Rattle.depot_rows.specs.depot_model.declared.request.Caller.{Caller}
use Rattle.depot_rows.specs.depot_model.declared.refusal.Refusal.{Refusal}
use Rattle.depot_rows.specs.depot_model.declared.refusal.Refusal.TheVariants.{NoShelf}
use Rattle.depot_rows.specs.depot_model.Deeds.{Deed}
use Rattle.depot_rows.specs.depot_model.Numbers.{pending}
use Rattle.depot_rows.specs.depot_model.Rules.{IsSound}
use Rattle.depot_rows.specs.depot_model.Step.{unless}
use Rattle.depot_rows.specs.depot_model.Steps.Shelving.{describe_shelved}
use Rattle.depot_rows.specs.Standing.{HasRows}
use Rattle.reply_rows.specs.Made.{IsMade}
use Rattle.reply_rows.specs.declared.step.Step.{Step}
use Rattle.reply_rows.proofs.Joined.{made_refusal}
use Rattle.named_files.specs.Asked.{IsAsker}
use Rattle.command_parts.proofs.Refused.{if_ok}
use Rattle.shelf_ops.proofs.Described.{by_pending, described}
use Rattle.shelf_ops.proofs.Shelf.{has_none, has_some}
use Rattle.shelf_ops.proofs.describing.describe_shelved.Goals as goal

pub returns-then-is_empty : goal.returns-then-is_empty
returns-then-is_empty c =
    let n = c.args.change in
    let rows = rows_of c.args.tables.now in
    let Q : Step → Type 0 = λ step. (d : List Deed) (caller : Caller) → IsSound d → IsAsker d caller c.args.asker.now → HasRows rows d table_ids.Domain
    → HasRows rows d table_ids.Change → IsMade rows d d (describe_shelved d caller n) step in
    if_ok {Q = Q} _ _ c.tells.ensures (λ step told d caller sound asked domain change.
    let are = c.in_ok-files.ensures d caller sound asked domain in
    subst (λ (r : Option Refusal). IsMade rows d d (unless (r ∷ []) (by_pending d caller n (pending d n))) step)
    (sym (has_none d caller n c.in_ok-files.files are c.is_empty.result c.is_empty.ensures c.if-is_empty.true))
    (made_refusal rows d d (NoShelf n) c.in_ok-row.row step c.in_ok-row.ensures told))

pub returns : goal.returns
returns c =
    let n = c.args.change in
    let rows = rows_of c.args.tables.now in
    let Q : Step → Type 0 = λ step. (d : List Deed) (caller : Caller) → IsSound d → IsAsker d caller c.args.asker.now → HasRows rows d table_ids.Domain
    → HasRows rows d table_ids.Change → IsMade rows d d (describe_shelved d caller n) step in
    if_ok {Q = Q} _ _ c.tells-2.ensures (λ step told d caller sound asked domain change.
    let files = c.in_ok-files.files in
    let are = c.in_ok-files.ensures d caller sound asked domain in
    subst (λ (r : Option Refusal). IsMade rows d d (unless (r ∷ []) (by_pending d caller n (pending d n))) step)
    (sym (has_some d caller n files are c.is_empty.result c.is_empty.ensures c.if-is_empty.false))
    (described rows d caller n c.as_slice.result.now (option_copied c.change_of-found.result) c.in_ok-row-2.row step (c.as_slice.ensures ∙ are)
    (c.in_ok-row-2.ensures d sound domain) told (c.change_of-found.ensures d change)))
