-- `counter`, `counters` (Command-Line Reference, "p4 counter", "p4 counters"): a counter that was never set, or was deleted, shows 0.
use Rattle.std.specs.Prelude.{ℕ, ◌==◌, List, [], ◌∷◌, filter_map, codes, if◌then◌else◌, Option, Some, None, option_map, unwrap_or}
use Rattle.db_records.specs.depot_path.Bytes.{same}
use Rattle.depot_model.specs.Sorted.{inserted}
use Rattle.depot_model.specs.declared.reply.Row.{Row}
use Rattle.depot_model.specs.Deeds.{Deed, Count}
use Rattle.depot_model.specs.Latest.{keys_of, count_name, count_of}
use Rattle.depot_model.specs.Numbers.{top}
use Rattle.depot_model.specs.Rows.{row, text_field, number_field}
use Rattle.depot_model.specs.Step.{Step, tells, does}

-- the value of a counter; that of `change` is the greatest number ever used
abbrev pub above_zero : ℕ → Option ℕ
above_zero n = if n == 0 then None else Some n

abbrev pub counter_of : List Deed → List ℕ → Option ℕ
counter_of d name = if same name (codes "change") then above_zero (top d) else count_of d name

abbrev pub counter_row : List ℕ → ℕ → Row
counter_row name value = row (text_field (codes "counter") name ∷ number_field (codes "value") value ∷ [])

abbrev pub counter_show : List Deed → List ℕ → Step
counter_show d name = tells (counter_row name (unwrap_or (counter_of d name) 0) ∷ [])

abbrev pub counter_set : List ℕ → ℕ → Step
counter_set name value = does (Count name (Some value) ∷ []) (counter_row name value)

abbrev pub counter_delete : List ℕ → Step
counter_delete name = does (Count name None ∷ []) (counter_row name 0)

abbrev pub counters : List Deed → Step
counters d = tells (filter_map (λ name. option_map (counter_row name) (counter_of d name)) (inserted (codes "change") (keys_of count_name d)))
