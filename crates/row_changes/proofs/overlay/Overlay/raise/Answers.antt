use Rattle.std.proofs.Common.{ap, ◌∙◌, refl, ◌≡◌}
use Rattle.depot_rows.specs.db_records.declared.key.Key.{Key}
use Rattle.depot_rows.specs.db_records.declared.key.Key.TheVariants as keys
use Rattle.depot_rows.specs.table_changes.Changed.{rows_of}
use Rattle.depot_rows.specs.depot_model.Rules.{Rows}
use Rattle.depot_rows.specs.Effects.{raised}
use Rattle.depot_rows.specs.Standing.{row_in}
use Rattle.row_changes.specs.Overlay.{seen}
use Rattle.row_changes.proofs.Puts.{becomes-put}
use Rattle.std.specs.Prelude.{max, codes}
use Rattle.depot_rows.specs.depot_model.Records.{numbered_record}
use Rattle.depot_rows.specs.depot_model.Rules.{top_in, value_of}
use Rattle.depot_rows.specs.Effects.{counter_row}
use Rattle.row_changes.proofs.overlay.Overlay.raise.Goals as goal

pub returns : goal.returns
returns c =
    let rows : Rows = row_in (rows_of c.args.tables.now) in
    let before : Rows = seen c.args.self.now.touched rows in
    let at : Key = keys.Counter (codes "change") in
    let key : keys.Counter c.in_ok-from_bytes.field-0 ≡ at = λ i. keys.Counter (c.in_ok-from_bytes.ensures i) in
    let found : c.counter_value.result ≡ top_in before = c.counter_value.ensures ∙ ap value_of (c.get.ensures.row ∙ ap before key) in
    let value : c.max-value.result ≡ max c.args.number (top_in before) = c.max-value.ensures ∙ (λ i. max (c.from.ensures i) (found i)) in
    becomes-put c.put.result rows (raised c.args.number) (keys.Counter c.in_ok-from_bytes.field-0) at
    c.numbered_row-row.result (numbered_record (counter_row (codes "change")) (max c.args.number (top_in before))) c.args.self.now.touched c.put.new.self.touched c.put.ensures key
    (c.numbered_row-row.ensures ∙ (λ i. numbered_record (counter_row (c.in_ok-from_bytes-2.ensures i)) (value i))) (λ q. refl)
