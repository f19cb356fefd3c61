use Rattle.std.proofs.Common.{List, ap, ◌∙◌, ◌≡◌}
use Rattle.depot_rows.specs.db_records.declared.record.Record.{Record}
use Rattle.depot_rows.specs.table_changes.Changed.{rows_of}
use Rattle.depot_rows.specs.depot_model.Rules.{Rows}
use Rattle.depot_rows.specs.Effects.{landed, raised}
use Rattle.depot_rows.specs.Standing.{row_in}
use Rattle.row_changes.specs.Landing.{with_rows}
use Rattle.row_changes.specs.Overlay.{seen}
use Rattle.row_changes.proofs.Landed.{rows-landed}
use Rattle.row_changes.proofs.overlay.Overlay.land.Goals as goal

pub returns : goal.returns
returns c =
    let rows : Rows = row_in (rows_of c.args.tables.now) in
    let before : Rows = seen c.args.self.now.touched rows in
    let put : seen c.put_rows.new.self.touched rows ≡ landed c.args.landing.now before =
    λ i q. (c.in_ok-put_rows.ensures rows q ∙ ap (λ (l : List Record). with_rows l before q) c.in_ok-rows.ensures ∙ rows-landed c.args.landing.now before q) i in
    λ q. c.in_ok-raise.ensures q ∙ ap (λ (f : Rows). raised c.args.landing.now.change f q) put
