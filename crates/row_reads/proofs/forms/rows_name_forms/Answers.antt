use Rattle.std.proofs.Common.{ap}
use Rattle.depot_rows.specs.Deed.{kind_of}
use Rattle.row_reads.proofs.FormsRead.{names_told}
use Rattle.row_reads.proofs.forms.rows_name_forms.Goals as goal

pub returns : goal.returns
returns c = λ d has.
    let version = c.version-version in
    let table = c.table-table.ensures in
    names_told (kind_of c.args.kind) version.result.now _ (ap (λ v. v.rows) version.ensures.rows) version.ensures.table table.of_table table.rising d has
