use Rattle.std.proofs.Common.{Option, sym, ap, ◌∙◌}
use Rattle.std.specs.Borrow.{Bor}
use Rattle.std.specs.Option.{option_copied}
use Rattle.std.specs.Prelude.{option_map}
use Rattle.depot_rows.specs.depot_path.Bytes.{same}
use Rattle.depot_rows.specs.db_records.declared.record.Record.TheVariants.{Change}
use Rattle.depot_rows.specs.db_records.declared.rows.ChangeRecord.{ChangeRecord}
use Rattle.depot_rows.specs.Effects.{is_submitted}
use Rattle.job_ops.proofs.ChangeRows.{landed_is}
use Rattle.job_ops.proofs.refusals.is_landed.Goals as goal

pub returns-in-Some : goal.returns-in-Some
returns-in-Some c = λ d sound has.
    c.eq.ensures ∙ (λ i. same (c.as_bytes.ensures i) (c.as_slice.ensures i))
    ∙ ap (λ (row : Option (Bor ChangeRecord)). is_submitted (option_map Change (option_copied row))) (sym c.in-Some.is)
    ∙ ap is_submitted (c.change_of.ensures d has) ∙ landed_is d c.args.change sound.landed_or_pending

pub returns-in-None : goal.returns-in-None
returns-in-None c = λ d sound has.
    ap (λ (row : Option (Bor ChangeRecord)). is_submitted (option_map Change (option_copied row))) (sym c.in-None.is)
    ∙ ap is_submitted (c.change_of.ensures d has) ∙ landed_is d c.args.change sound.landed_or_pending
