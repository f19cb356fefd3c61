use Rattle.std.proofs.Common.{List, ◌++◌, ap, sym, append_assoc, append-nil, ◌∙◌}
use Rattle.std.specs.Prelude.{filter, flat_map, map}
use Rattle.depot_rows.specs.db_records.declared.record.Record.{Record}
use Rattle.depot_rows.specs.db_records.declared.table.TableId.TheVariants.{Working}
use Rattle.depot_rows.specs.declared.deed.Opening.{Opening}
use Rattle.depot_rows.specs.table_changes.Changed.{rows_of}
use Rattle.depot_rows.specs.table_store.Marks.{is_of_client}
use Rattle.depot_rows.specs.table_store.Rows.{TableRows}
use Rattle.depot_rows.specs.Deed.{opening_of}
use Rattle.opening_reads.specs.InChange.{opening_of_row}
use Rattle.opening_reads.proofs.InChange.{openings_told}
use Rattle.opening_reads.proofs.in_change.openings_of.Goals as goal

pub loop-row-init : goal.loop-row-init
loop-row-init c =
    let told = flat_map (opening_of_row c.args.client.now c.args.change) in
    (λ i. c.new-openings.ensures i ++ told (c.into_iter-row-iterator.ensures.into_iter_gives i))
    ∙ ap told (c.of_client-row-items.ensures ∙ (λ i. filter (is_of_client ((c.in_ok-own.ensures ∙ c.as_bytes.ensures.value) i)) (c.version-version.ensures.rows i).rows))

pub loop-row-preserved : goal.loop-row-preserved
loop-row-preserved c =
    let given = opening_of_row c.args.client.now c.args.change in
    ap (λ (l : List Opening). l ++ flat_map given c.next.new.self) c.in_ok-add_opening.ensures
    ∙ append_assoc c.loop-row.openings (given c.in-Some.row.now) (flat_map given c.next.new.self)
    ∙ ap (λ (rows : List Record). c.loop-row.openings ++ flat_map given rows) (sym c.in-Some.ensures.steps)
    ∙ c.loop-row.invariant

pub returns : goal.returns
returns c = λ d sound has.
    let client = c.args.client.now in
    let version = c.version-version in
    let table = c.table-in_order.ensures in
    let given = opening_of_row client c.args.change in
    ap (map opening_of)
    (sym (append-nil c.loop-row.openings) ∙ ap (λ (rows : List Record). c.loop-row.openings ++ flat_map given rows) (sym c.in-None.ensures.steps.0) ∙ c.loop-row.invariant)
    ∙ openings_told d sound client c.args.change version.result.now (rows_of c.args.tables.now Working) (ap (λ (v : TableRows). v.rows) version.ensures.rows) version.ensures.table
    table.of_table table.rising has
