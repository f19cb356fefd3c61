use Rattle.std.proofs.Common.{ap}
use Rattle.row_reads.proofs.CountersRead.{counters_told}
use Rattle.row_reads.proofs.counters.rows_have_counters.Goals as goal

pub returns : goal.returns
returns c = λ d has.
    let version = c.version-version in
    let table = c.table-table.ensures in
    counters_told version.result.now _ (ap (λ v. v.rows) version.ensures.rows) version.ensures.table table.of_table table.rising d has
