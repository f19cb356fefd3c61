use Rattle.std.proofs.Common.{◌≡◌, ◌++◌, List, [], sym, ap, append-nil, ◌∙◌}
use Rattle.std.specs.Prelude.{filter_map, map}
use Rattle.depot_rows.specs.db_records.declared.record.Record.{Record}
use Rattle.depot_rows.specs.db_records.declared.rows.RevRecord.{RevRecord}
use Rattle.revision_reads.specs.History.{seen}
use Rattle.change_lists.specs.Files.{listable_in}
use Rattle.change_lists.proofs.Described.{rows_seen}
use Rattle.change_lists.proofs.files.landed_rows.Goals as goal

pub returns : goal.returns
returns c = λ d caller sound asked has.
    let n = c.args.change in
    let asker = c.args.asker.now in
    let found : List RevRecord = map (λ r. r.now) c.loop-row.rows.items in
    let ended : c.loop-row.row-iterator ≡ [] = c.in-None.ensures.steps.0 in
    sym (rows_seen c.loop-row.rows.items)
    ∙ ap (map seen) (sym (append-nil found) ∙ ap (λ (l : List Record). found ++ filter_map (listable_in asker) l) (sym ended) ∙ c.loop-row.invariant)
    ∙ c.rows_tell_made.ensures.made d caller asker sound asked has n
