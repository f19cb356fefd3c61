-- Fixes that are on, as rows have them (Command-Line Reference, "p4 fix").
use Rattle.std.specs.Prelude.{◌≤◌, ℕ, ◌+◌, ◌==◌, nat_le, Bool, false, ◌&&◌, List, [], ◌∷◌, codes, if◌then◌else◌, Option, Some, None}
use Rattle.depot_rows.specs.depot_path.Bytes.{same}
use Rattle.depot_rows.specs.spec_form.declared.shape.Shape.TheVariants.{Fix as FixShape}
use Rattle.depot_rows.specs.db_records.declared.record.Record.{Record}
use Rattle.depot_rows.specs.db_records.declared.record.Record.TheVariants.{Domain}
use Rattle.depot_rows.specs.depot_model.Rules.{value_in, number_in}

-- the change of a fix that is on, whose number a row can have
abbrev pub is_on_text : List ℕ → Bool
is_on_text text = same (value_in FixShape (codes "State") text) (codes "on") && nat_le (number_in FixShape (codes "Change") text) 4294967295

abbrev pub change_in_text : List ℕ → Option ℕ
change_in_text text = if is_on_text text then Some (number_in FixShape (codes "Change") text) else None

-- the change that a row fixes
abbrev pub fixed_change : Record → Option ℕ
fixed_change (Domain r) = if same r.kind (codes "fix") then change_in_text r.form else None
fixed_change _ = None

abbrev pub is_fix_of : ℕ → Record → Bool
is_fix_of n row = elim (fixed_change row) [ None ↦ false | Some m ↦ m == n ]

-- how many rows fix a change
abbrev pub fix_count : ℕ → List Record → ℕ
fix_count n [] = 0
fix_count n (row ∷ rows) = (if is_fix_of n row then 1 else 0) + fix_count n rows

-- no change has more than 100 fixes that are on
abbrev pub HaveFewFixes : List Record → Type 0
HaveFewFixes rows = (n : ℕ) → fix_count n rows ≤ 100
