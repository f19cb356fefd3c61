-- Depots with the same rows in each table.
use Rattle.std.proofs.Common.{◌≡◌, ◌<◌, ℕ, get_or, arith}
use Rattle.std.proofs.Math.Path.{fun_ext}
use Rattle.depot_rows.specs.db_records.Table.{all_tables}
use Rattle.depot_rows.specs.db_records.declared.table.TableId.{TableId}
use Rattle.depot_rows.specs.db_records.declared.table.TableId.TheVariants.{Counter, Group, Protect, Domain, Have, Label, Integed, Resolve, Working, Change, Rev}
use Rattle.depot_rows.specs.table_changes.Changed.{AllRows}

-- what is so of each of the tables, by their numbers, is so of all rows
pub in_each : (one other : AllRows) → ((n : ℕ) → n < 11 → one (get_or all_tables n Counter) ≡ other (get_or all_tables n Counter)) → one ≡ other
in_each one other same = fun_ext each
  where
    each : (table : TableId) → one table ≡ other table
    each Counter = same 0 (omega arith)
    each Group = same 1 (omega arith)
    each Protect = same 2 (omega arith)
    each Domain = same 3 (omega arith)
    each Have = same 4 (omega arith)
    each Label = same 5 (omega arith)
    each Integed = same 6 (omega arith)
    each Resolve = same 7 (omega arith)
    each Working = same 8 (omega arith)
    each Change = same 9 (omega arith)
    each Rev = same 10 (omega arith)
