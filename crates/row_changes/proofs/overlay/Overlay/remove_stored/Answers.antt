use Rattle.std.proofs.Common.{List, map, sym, ◌∙◌, None}
use Rattle.depot_rows.specs.db_records.declared.record.Record.{Record}
use Rattle.depot_rows.specs.db_records.Record.{key_of}
use Rattle.depot_rows.specs.Effects.{put_at}
use Rattle.row_changes.specs.Overlay.{seen}
use Rattle.row_changes.specs.Ranges.{removed}
use Rattle.row_changes.proofs.overlay.Overlay.remove_stored.Goals as goal

pub loop-row-preserved : goal.loop-row-preserved
loop-row-preserved c = λ rows q.
    let rest : List Record = c.next.new.self in
    (λ i. removed (map key_of rest) (λ k. c.in_ok-put.ensures rows k i) q)
    ∙ (λ i. removed (map key_of rest) (put_at (c.in_ok-key.ensures i) None (seen c.loop-row.self.touched rows)) q)
    ∙ (λ i. removed (map key_of (sym c.in-Some.ensures.steps i)) (seen c.loop-row.self.touched rows) q)
    ∙ c.loop-row.invariant rows q
