use Rattle.std.proofs.Common.{ap}
use Rattle.integ_records.proofs.Credits.{credits_read}
use Rattle.integ_records.proofs.crediting.rows_tell_credits.Goals as goal

pub returns : goal.returns
returns c = λ d s t n sound has is_s is_t.
    let version = c.version-version in
    let table = c.table-table.ensures in
    credits_read version.result.now _ (ap (λ v. v.rows) version.ensures.rows) version.ensures.table table.of_table table.rising d s t n sound is_s is_t has
