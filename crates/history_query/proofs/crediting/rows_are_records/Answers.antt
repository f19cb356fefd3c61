use Rattle.std.proofs.Common.{ap}
use Rattle.history_query.proofs.Credits.{records_told}
use Rattle.history_query.proofs.crediting.rows_are_records.Goals as goal

pub returns : goal.returns
returns c = λ d caller asker path asked has.
    let version = c.version-version in
    let table = c.table-table.ensures in
    records_told version.result.now _ (ap (λ v. v.rows) version.ensures.rows) version.ensures.table table.of_table table.rising d caller asker path asked has
