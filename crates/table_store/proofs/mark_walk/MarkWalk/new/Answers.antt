use Rattle.std.proofs.Common.{List, ap, ◌∙◌}
use Rattle.std.specs.Option.{option_copied}
use Rattle.db_records.specs.declared.record.Record.{Record}
use Rattle.table_store.specs.Marks.{is_of, leading, rows_now}
use Rattle.table_store.specs.SearchKey.{sought_mark}
use Rattle.table_store.proofs.Marks.{marked_walk}
use Rattle.table_store.proofs.mark_walk.MarkWalk.new.Goals as goal

-- the rows at the places from the first of the mark on are those that have it
pub returns : goal.returns
returns c =
    let mark = sought_mark c.args.mark in
    let rows = c.args.rows.now in
    ap (λ (places : List Record). rows_now (is_of mark) rows (leading (is_of mark) places)) c.walk_from.ensures
    ∙ marked_walk mark (option_copied c.args.from) rows c.args.marked.now c.rows_rise.ensures c.rows_rise-2.ensures c.requires
