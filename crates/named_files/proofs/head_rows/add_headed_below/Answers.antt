use Rattle.std.proofs.Common.{ℕ, List, None, ◌++◌, ap, ◌∙◌, map}
use Rattle.depot_rows.specs.db_records.declared.record.Record.{Record}
use Rattle.depot_rows.specs.table_changes.Changed.{rows_of}
use Rattle.named_files.specs.HeadRows.{heads_after}
use Rattle.named_files.specs.Listed.{listed, listing_table}
use Rattle.named_files.proofs.Fronts.{files_begin}
use Rattle.named_files.proofs.head_rows.add_headed_below.Goals as goal

pub loop-row-init : goal.loop-row-init
loop-row-init c =
    let listing = c.args.listing.now in
    let rows = rows_of c.args.tables.now (listing_table listing) in
    let are = c.into_iter-row-iterator.ensures.into_iter_gives ∙ c.in_ok-row-items.ensures in
    record {
      files = ap (λ (l : List (List ℕ)). c.args.paths.now ++ l) (ap (listed listing) are ∙ files_begin listing c.args.beginning.now rows);
      lasts = ap (λ (l : List Record). map (λ r. r.now) c.args.heads.now.items ++ heads_after None l) are;
    }
