use Rattle.std.proofs.Common.{List, ap, sym, subst, ◌∙◌, map}
use Rattle.std.specs.Prelude.{filter_map}
use Rattle.depot_rows.specs.db_records.declared.table.TableId.TheVariants as table_ids
use Rattle.depot_rows.specs.table_changes.Changed.{rows_of}
use Rattle.depot_rows.specs.depot_model.declared.reply.Row.{Row}
use Rattle.depot_rows.specs.depot_model.Deeds.{Deed}
use Rattle.depot_rows.specs.depot_model.Opened.{opened}
use Rattle.depot_rows.specs.depot_model.Steps.Reverting.{opened_row, openers_shown, show_opened}
use Rattle.depot_rows.specs.Standing.{HasRows}
use Rattle.reply_rows.specs.Made.{IsMade, told}
use Rattle.reply_rows.specs.declared.step.Step.{Step}
use Rattle.reply_rows.proofs.Bare.{tells_made}
use Rattle.command_parts.proofs.Refused.{if_ok}
use Rattle.opened_files.proofs.OpenedRows.{all_shown, bare}
use Rattle.opened_files.proofs.showing.ShowingFileAct.act.Goals as goal

pub returns : goal.returns
returns c =
    let rows = rows_of c.args.tables.now in
    let own = c.args.self.now in
    let Q : Step → Type 0 = λ step. (d e : List Deed) → HasRows rows d table_ids.Working → Unit {0}
    → IsMade rows d e (show_opened own.all d own.caller.now c.args._argument.now c.args.path.now) step in
    if_ok {Q = Q} _ _ c.show.ensures (λ step is d e has later.
    let caller = own.caller.now in
    let path = c.args.path.now in
    let openings = filter_map (λ client. opened d client path) (openers_shown own.all d caller path) in
    let same = is d has ∙ ap (λ (rs : List Row). told rs) (all_shown d path own.all caller) in
    subst (λ (x : Step). IsMade rows d e (show_opened own.all d caller c.args._argument.now path) x) (sym same)
    (tells_made rows d e (map (opened_row d) openings) (bare d openings)))
