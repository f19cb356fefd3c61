use Rattle.std.proofs.Common.{◌≡◌, ◌≤◌, ◌+◌, ℕ}
use Rattle.std.specs.Prelude.{unwrap_or}
use Rattle.std.specs.BTreeMap.{get}
use Rattle.std.specs.Ordering.{nat_cmp}
use Rattle.depot_rows.specs.db_records.declared.table.TableId.TheVariants as table_ids
use Rattle.depot_rows.specs.table_store.Tables.{version_of}
use Rattle.row_rules.specs.Fixing.{fix_count}
use Rattle.row_rules.proofs.fixes.have_few_fixes.Given as goal

abbrev pub invariant-loop-row : goal.invariant-loop-row
invariant-loop-row l =
    (q : ℕ) → (unwrap_or (get nat_cmp l.counts q) 0 ≤ 100)
    × (unwrap_or (get nat_cmp l.counts q) 0 + fix_count q l.row-iterator ≡ fix_count q (version_of l.tables table_ids.Domain).rows)
