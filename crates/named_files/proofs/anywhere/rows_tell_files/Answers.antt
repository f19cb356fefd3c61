use Rattle.std.proofs.Common.{ap}
use Rattle.named_files.proofs.OpenedFiles.{all_told}
use Rattle.named_files.proofs.anywhere.rows_tell_files.Goals as goal

pub returns : goal.returns
returns c = λ d client beginnings sound has apart.
    let version = c.version-version in
    let table = c.table-table.ensures in
    all_told client version.result.now _ (ap (λ v. v.rows) version.ensures.rows) version.ensures.table table.of_table table.rising d sound has beginnings apart
