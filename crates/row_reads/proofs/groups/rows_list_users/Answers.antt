use Rattle.std.proofs.Common.{ap}
use Rattle.row_reads.proofs.UsersRead.{users_told}
use Rattle.row_reads.proofs.groups.rows_list_users.Goals as goal

pub returns : goal.returns
returns c = λ d group has.
    let version = c.version-version in
    let table = c.table-table.ensures in
    users_told version.result.now _ (ap (λ v. v.rows) version.ensures.rows) version.ensures.table table.of_table table.rising d group has
