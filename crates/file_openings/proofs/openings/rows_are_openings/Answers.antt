use Rattle.std.proofs.Common.{ap}
use Rattle.file_openings.proofs.Told.{openings_told}
use Rattle.file_openings.proofs.openings.rows_are_openings.Goals as goal

pub returns : goal.returns
returns c = λ d path own has.
    let version = c.version-version in
    let table = c.table-table.ensures in
    openings_told version.result.now _ (ap (λ v. v.rows) version.ensures.rows) version.ensures.table table.of_table table.rising d path own has
