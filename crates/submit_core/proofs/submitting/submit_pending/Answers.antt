use Rattle.std.proofs.Common.{ℕ, List, inr, sym, ap, subst, ◌∙◌}
use Rattle.std.specs.Prelude.{option_map}
use Rattle.std.specs.Option.{option_copied}
use Rattle.depot_rows.specs.db_records.declared.record.Record.TheVariants.{Change}
use Rattle.depot_rows.specs.table_changes.Changed.{rows_of}
use Rattle.depot_rows.specs.depot_model.Rules.{IsName}
use Rattle.depot_rows.specs.depot_model.Steps.Submitting.{submit}
use Rattle.step_stores.specs.Stored.{IsStoring}
use Rattle.submit_core.proofs.PendingRows.{has_row, text_is}
use Rattle.submit_core.proofs.submitting.submit_pending.Goals as goal

pub returns-in_ok-step-in-Some : goal.returns-in_ok-step-in-Some
returns-in_ok-step-in-Some c = λ d p has asked change unshelved pending client.
    let user = c.as_bytes-user.ensures in
    let request = c.args.request.now in
    let n = c.args.change in
    subst (λ (text : List ℕ). IsStoring (rows_of c.args.tables.now) c.args.tables.now.archive_end d (submit d request n text) c.in_ok-step-in-Some.step)
    (text_is d n p c.in-Some.row.now pending (ap (λ r. option_map Change (option_copied r)) (sym c.in-Some.is) ∙ c.change_of.ensures d change))
    (c.in_ok-step-in-Some.ensures d has asked
    (record { user = subst (λ (u : List ℕ). IsName u) user.value user.named; change = inr (p, (pending, client)); unshelved = inr unshelved }))

pub returns-in-None : goal.returns-in-None
returns-in-None c = λ d p has asked change unshelved pending client.
    absurd (has_row d c.args.change p pending (ap (λ r. option_map Change (option_copied r)) (sym c.in-None.is) ∙ c.change_of.ensures d change))
