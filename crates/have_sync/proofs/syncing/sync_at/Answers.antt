use Rattle.std.proofs.Common.{ℕ, subst, sym, ap, ◌∙◌}
use Rattle.std.specs.Prelude.{option_map}
use Rattle.std.specs.Option.{option_copied}
use Rattle.depot_rows.specs.db_records.declared.record.Record.TheVariants.{Working}
use Rattle.depot_rows.specs.table_changes.Changed.{rows_of}
use Rattle.depot_rows.specs.depot_model.Steps.Syncing.{sync_have}
use Rattle.reply_rows.specs.Made.{IsMade}
use Rattle.have_sync.proofs.Synced.{where_not, where_opened}
use Rattle.have_sync.proofs.syncing.sync_at.Goals as goal

pub returns-in_ok-step-in-Some-clause-step : goal.returns-in_ok-step-in-Some-clause-step
returns-in_ok-step-in-Some-clause-step c = λ d e reads of has.
    where_opened (rows_of c.args.tables.now) d e c.args.caller.now c.args.again c.args.argument.now c.args.path.now c.args.found.rev c.in_ok-step-in-Some.step c.in-Some.row.now
    (ap (λ r. option_map Working (option_copied r)) (sym c.in-Some.is) ∙ c.in_ok-row.ensures d reads.working)
    (λ o base. c.in_ok-step-in-Some.ensures d e o reads has base)

pub returns-in_ok-step-in-None-clause-step : goal.returns-in_ok-step-in-None-clause-step
returns-in_ok-step-in-None-clause-step c = λ d e reads of has.
    let caller = c.args.caller.now in
    let path = c.args.path.now in
    let rows = rows_of c.args.tables.now in
    let step = c.in_ok-step-in-None.step in
    where_not rows d e caller c.args.again c.args.argument.now path c.args.found.rev step
    (ap (λ r. option_map Working (option_copied r)) (sym c.in-None.is) ∙ c.in_ok-row.ensures d reads.working)
    (subst (λ (n : ℕ). IsMade rows d e (sync_have c.args.again d caller path n) step) (c.in_ok-wanted-in-None.ensures.rev d reads has)
    (c.in_ok-step-in-None.ensures.step d e reads of (c.in_ok-wanted-in-None.ensures.row d has)))

pub returns-in_ok-step-in-Some-clause-places : goal.returns-in_ok-step-in-Some-clause-places
returns-in_ok-step-in-Some-clause-places c = λ rows of. of

pub returns-in_ok-step-in-None-clause-places : goal.returns-in_ok-step-in-None-clause-places
returns-in_ok-step-in-None-clause-places c = λ rows of. c.in_ok-step-in-None.ensures.places rows of
