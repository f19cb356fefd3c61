use Rattle.std.proofs.Common.{List}
use Rattle.depot_rows.specs.table_changes.Changed.{AllRows}
use Rattle.depot_rows.specs.depot_model.declared.refusal.Refusal.TheVariants.{AllIntegrated}
use Rattle.depot_rows.specs.depot_model.Deeds.{Deed}
use Rattle.depot_rows.specs.depot_model.Step.{refuses}
use Rattle.reply_rows.specs.Made.{IsMade}
use Rattle.reply_rows.specs.declared.step.Step.{Step}
use Rattle.reply_rows.proofs.Joined.{made_refusal}
use Rattle.command_parts.proofs.Refused.{if_ok}
use Rattle.integ_records.proofs.opened_targets.none_left.Goals as goal

pub returns : goal.returns
returns c =
    let why = AllIntegrated c.args.path.now in
    let Q : Step → Type 0 = λ step. (all : AllRows) (d e : List Deed) → IsMade all d e (refuses why) step in
    if_ok {Q = Q} _ _ c.tells.ensures (λ step told all d e. made_refusal all d e why c.in_ok-row.row step c.in_ok-row.ensures told)
