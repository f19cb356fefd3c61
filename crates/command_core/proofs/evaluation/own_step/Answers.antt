use Rattle.std.proofs.Common.{refl, sym, ◌∙◌}
use Rattle.depot_rows.specs.db_records.declared.table.TableId.TheVariants as tables
use Rattle.command_core.proofs.evaluation.own_step.Goals as goal

pub returns : goal.returns
returns c = λ d sound who other formed has.
    c.in_ok-step.ensures d sound (c.in_ok-asker.ensures d sound who (has tables.Protect refl) (has tables.Domain refl)) (sym c.is_spec.ensures ∙ c.if-is_spec.false)
    (sym c.is_server.ensures ∙ c.if-is_server.false) (sym c.is_job.ensures ∙ c.if-is_job.false) other formed has
