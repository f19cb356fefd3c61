use Rattle.std.proofs.Common.{◌≡◌, ◌++◌, map}
use Rattle.std.specs.Prelude.{filter}
use Rattle.std.specs.Option.{option_copied}
use Rattle.depot_rows.specs.table_changes.Changed.{rows_of}
use Rattle.named_files.specs.HeadRows.{heads_after, heads_in_front}
use Rattle.named_files.specs.Listed.{has_beginning, listed, listing_table}
use Rattle.named_files.proofs.head_rows.add_headed_below.Given as goal

abbrev pub invariant-loop-row : goal.invariant-loop-row
invariant-loop-row l = record {
  files : l.paths ++ listed l.listing l.row-iterator ≡ l.fn.paths ++ filter (has_beginning l.beginning) (listed l.listing (rows_of l.tables (listing_table l.listing)));
  lasts : map (λ r. r.now) l.heads.items ++ heads_after (option_copied l.before) l.row-iterator
      ≡ map (λ r. r.now) l.fn.heads.items ++ heads_in_front l.listing (rows_of l.tables (listing_table l.listing)) l.beginning;
}
