use Rattle.std.proofs.Common.{◌≡◌, ◌++◌}
use Rattle.std.specs.Prelude.{filter, flat_map}
use Rattle.depot_rows.specs.db_records.declared.table.TableId.TheVariants as table_ids
use Rattle.depot_rows.specs.table_changes.Changed.{rows_of}
use Rattle.depot_rows.specs.table_store.Marks.{is_of_change}
use Rattle.named_files.specs.Listed.{has_beginning, leading, path_revised}
use Rattle.named_files.specs.declared.listing.Listing.TheVariants.{Submitted}
use Rattle.named_files.proofs.made_files.add_made_below.Given as goal

abbrev pub invariant-loop-row : goal.invariant-loop-row
invariant-loop-row l =
    l.paths ++ flat_map path_revised (leading Submitted l.beginning l.row-iterator)
    ≡ l.fn.paths ++ filter (has_beginning l.beginning) (flat_map path_revised (filter (is_of_change l.change) (rows_of l.tables table_ids.Rev)))
