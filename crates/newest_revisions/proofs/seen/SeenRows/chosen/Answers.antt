use Rattle.std.proofs.Common.{sym, ap, ◌∙◌}
use Rattle.std.specs.Option.{option_copied}
use Rattle.depot_rows.specs.depot_path.Path.{is_path}
use Rattle.depot_rows.proofs.depot_path.Paths.{prints_path}
use Rattle.depot_rows.specs.db_records.declared.table.TableId.TheVariants as tables
use Rattle.depot_rows.specs.table_changes.Changed.{rows_of}
use Rattle.newest_revisions.proofs.NewestRead.{row_seen, stored_is}
use Rattle.newest_revisions.proofs.seen.SeenRows.chosen.Goals as goal

pub returns-in-Some-clause-row : goal.returns-in-Some-clause-row
returns-in-Some-clause-row c = λ d are sound has there.
    let path = c.args.path.now in
    let rows = rows_of c.args.tables.now tables.Rev in
    let bytes = c.as_bytes-bytes.ensures in
    let r = c.in-Some.row.now in
    let is = ap (λ o. option_copied o) c.in-Some.is in
    row_seen d path (prints_path path (ap is_path (sym bytes.value) ∙ bytes.path)) rows has r (c.in_ok-row.ensures.row r is rows are) c.args.caller.now
    c.args.wanted.now (c.in_ok-row.ensures.asked r is) sound

pub returns-in-Some-clause-stored : goal.returns-in-Some-clause-stored
returns-in-Some-clause-stored c = λ are r e.
    let rows = rows_of c.args.tables.now tables.Rev in
    stored_is c.args.path.now rows r (c.in_ok-row.ensures.row r (ap (λ o. option_copied o) c.in-Some.is ∙ e) rows are)

pub returns-in_ok-row-in-None-clause-row : goal.returns-in_ok-row-in-None-clause-row
returns-in_ok-row-in-None-clause-row c = λ d are sound has there. c.in_ok-row-in-None.ensures.row d sound has there

pub returns-in_ok-row-in-None-clause-stored : goal.returns-in_ok-row-in-None-clause-stored
returns-in_ok-row-in-None-clause-stored c = λ are r e. c.in_ok-row-in-None.ensures.stored r e

pub returns-in-Some-clause-read_again : goal.returns-in-Some-clause-read_again
returns-in-Some-clause-read_again c = let bytes = c.as_bytes-bytes.ensures in prints_path c.args.path.now (ap is_path (sym bytes.value) ∙ bytes.path)

pub returns-in_ok-row-in-None-clause-read_again : goal.returns-in_ok-row-in-None-clause-read_again
returns-in_ok-row-in-None-clause-read_again c = let bytes = c.as_bytes-bytes.ensures in prints_path c.args.path.now (ap is_path (sym bytes.value) ∙ bytes.path)
