use Rattle.std.proofs.Common.{ap}
use Rattle.row_reads.proofs.LinesRead.{lines_kept}
use Rattle.row_reads.proofs.protections.rows_keep_lines.Goals as goal

pub returns : goal.returns
returns c = λ d sound has.
    let version = c.version-version in
    let table = c.table-table.ensures in
    lines_kept version.result.now _ (ap (λ v. v.rows) version.ensures.rows) version.ensures.table table.of_table table.rising d sound has
