use Rattle.std.proofs.Common.{◌∙◌}
use Rattle.std.specs.Prelude.{◌&&◌, slice_get}
use Rattle.table_store.specs.db_records.Key.{key_fields}
use Rattle.table_store.specs.db_records.Record.{key_of}
use Rattle.row_ranges.specs.Ranges.{range_texts}
use Rattle.row_ranges.specs.Walking.{agrees}
use Rattle.row_ranges.proofs.Between.{agrees-begins, two-at-most}
use Rattle.row_ranges.proofs.range.KeyRange.begins_row.Goals as goal

pub returns : goal.returns
returns c =
    let texts = range_texts c.args.self.now in
    c.has_texts.ensures
    ∙ ((λ i. agrees (slice_get texts 0) (c.row_first.ensures i) && agrees (slice_get texts 1) (c.row_second.ensures i))
    ∙ agrees-begins texts (two-at-most c.args.self.now) (key_fields (key_of c.args.row.now)))
