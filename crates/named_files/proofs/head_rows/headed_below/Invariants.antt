use Rattle.std.proofs.Common.{◌≡◌, ◌++◌, length, map}
use Rattle.depot_rows.specs.table_changes.Changed.{rows_of}
use Rattle.named_files.specs.Beginnings.{in_turn}
use Rattle.named_files.specs.HeadRows.{heads_in_turn}
use Rattle.named_files.specs.Listed.{listed, listing_table}
use Rattle.named_files.proofs.head_rows.headed_below.Given as goal

abbrev pub invariant-loop-rest : goal.invariant-loop-rest
invariant-loop-rest l = record {
  files : l.paths ++ in_turn l.rest (listed l.listing (rows_of l.tables (listing_table l.listing))) ≡ in_turn l.beginnings (listed l.listing (rows_of l.tables (listing_table l.listing)));
  lasts : map (λ r. r.now) l.heads.items ++ heads_in_turn l.listing (rows_of l.tables (listing_table l.listing)) l.rest
      ≡ heads_in_turn l.listing (rows_of l.tables (listing_table l.listing)) l.beginnings;
}

abbrev pub decreases-loop-rest : goal.decreases-loop-rest
decreases-loop-rest l = length l.rest
