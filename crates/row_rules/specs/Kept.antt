-- The rules that rows keep, but for how many fixes a change has. They are those of the crate of the model.
use Rattle.std.specs.Prelude.{◌≡◌, ◌≤◌, ◌<◌, ℕ, suc, List, codes, IsSome, IfSome}
use Rattle.depot_rows.specs.db_records.declared.key.Key.{Key}
use Rattle.depot_rows.specs.db_records.declared.key.Key.TheVariants as keys
use Rattle.depot_rows.specs.depot_model.Rules.{Rows, IsRow, HasRev, change_of, lock_of, top_in, value_of}

pub record KeepRowRules (rows : Rows) : Type 0 where
  pub each : (key : Key) → IfSome (rows key) (IsRow rows)
  pub revisions_run : (path : List ℕ) (n : ℕ) → HasRev rows path (suc (suc n)) → HasRev rows path (suc n)
  pub changes_rise : (path : List ℕ) (m n : ℕ) → m < n → HasRev rows path m → HasRev rows path n → change_of (rows (keys.Rev path m)) < change_of (rows (keys.Rev path n))
  pub lines_run : (n : ℕ) → IsSome (rows (keys.Protect (suc (suc n)))) → IsSome (rows (keys.Protect (suc n)))
  pub one_lock : (path a b : List ℕ) → lock_of (rows (keys.Working path a)) ≡ 1 → lock_of (rows (keys.Working path b)) ≡ 1 → a ≡ b
  pub top_is : (n : ℕ) → IsSome (rows (keys.Change n)) → n ≤ top_in rows
  pub top_fits : top_in rows ≤ 2147483647
  pub generation_fits : value_of (rows (keys.Counter (codes "journal"))) ≤ 4095
