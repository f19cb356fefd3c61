use Rattle.std.proofs.Common.{sym, ap, ◌∙◌}
use Rattle.std.specs.Option.{option_copied}
use Rattle.depot_rows.specs.depot_path.Path.{is_path}
use Rattle.depot_rows.proofs.depot_path.Paths.{prints_path}
use Rattle.depot_rows.specs.db_records.declared.table.TableId.TheVariants as tables
use Rattle.depot_rows.specs.table_changes.Changed.{rows_of}
use Rattle.newest_revisions.proofs.NewestRead.{has_row, newest_chosen}
use Rattle.newest_revisions.proofs.seen.SeenRows.choice.Goals as goal

pub returns-in-Some-clause-choice : goal.returns-in-Some-clause-choice
returns-in-Some-clause-choice c = λ d are sound has there.
    let path = c.args.path.now in
    let rows = rows_of c.args.tables.now tables.Rev in
    let bytes = c.as_bytes-bytes.ensures in
    let own = prints_path path (ap is_path (sym bytes.value) ∙ bytes.path) in
    let r = c.in-Some.row.now in
    let is = ap (λ o. option_copied o) c.in-Some.is in
    let newest = c.in_ok-row.ensures.row r is rows are in
    record {
      choice_is = newest_chosen d path own rows has r newest c.args.caller.now c.args.wanted.now (c.in_ok-row.ensures.asked r is) sound;
      has_row = has_row d path own rows has r newest;
    }

pub returns-in_ok-found-in-None-clause-choice : goal.returns-in_ok-found-in-None-clause-choice
returns-in_ok-found-in-None-clause-choice c = λ d are sound has there. c.in_ok-found-in-None.ensures d sound has there
