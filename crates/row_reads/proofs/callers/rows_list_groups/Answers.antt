use Rattle.std.proofs.Common.{ap}
use Rattle.row_reads.proofs.GroupsListed.{groups_told}
use Rattle.row_reads.proofs.callers.rows_list_groups.Goals as goal

pub returns : goal.returns
returns c = λ d user sound has.
    let version = c.version-version in
    let table = c.table-table.ensures in
    groups_told version.result.now _ (ap (λ v. v.rows) version.ensures.rows) version.ensures.table table.of_table table.rising d sound has user
