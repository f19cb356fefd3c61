use Rattle.std.proofs.Common.{List, Some, ap, sym, ◌∙◌}
use Rattle.depot_rows.specs.db_records.Record.{key_of}
use Rattle.depot_rows.specs.db_records.declared.record.Record.{Record}
use Rattle.depot_rows.specs.Effects.{put_at}
use Rattle.row_changes.specs.Landing.{with_rows}
use Rattle.row_changes.specs.Overlay.{seen}
use Rattle.row_changes.proofs.Landed.{rows-push, rows-over}
use Rattle.row_changes.proofs.overlay.Overlay.put_rows.Goals as goal

pub loop-row-preserved : goal.loop-row-preserved
loop-row-preserved c = λ before q.
    rows-over c.pop.new.self.items (seen c.put_row.new.self.touched before) (put_at (key_of c.in-Some.row) (Some c.in-Some.row) (seen c.loop-row.self.touched before)) (c.in_ok-put_row.ensures before) q
    ∙ sym (rows-push c.pop.new.self.items c.in-Some.row (seen c.loop-row.self.touched before) q)
    ∙ ap (λ (l : List Record). with_rows l (seen c.loop-row.self.touched before) q) (sym c.in-Some.ensures.items)
    ∙ c.loop-row.invariant before q
