use Rattle.std.proofs.Common.{◌≡◌}
use Rattle.std.specs.List.{list_all}
use Rattle.depot_rows.specs.table_store.Tables.{version_of}
use Rattle.row_rules.specs.Stored.{stored}
use Rattle.row_rules.specs.Tests.{keeps}
use Rattle.row_rules.proofs.keeping.all_keep.Given as goal

abbrev pub invariant-loop-row : goal.invariant-loop-row
invariant-loop-row l = list_all (keeps (stored l.tables)) l.row-iterator ≡ list_all (keeps (stored l.tables)) (version_of l.tables l.fn.table).rows
