-- What a submit reads, and its refusals in their order (Command-Line Reference, "p4 submit"). The order is this project's own choice.
use Rattle.std.specs.Prelude.{ℕ, ◌==◌, List, [], ◌∷◌, ◌++◌, length, nat_lt, flat_map, Option}
use Rattle.depot_rows.specs.db_records.declared.table.TableId.TheVariants as tables
use Rattle.depot_rows.specs.table_changes.Changed.{AllRows}
use Rattle.depot_rows.specs.depot_model.declared.request.Request.{Request}
use Rattle.depot_rows.specs.depot_model.declared.refusal.Refusal.{Refusal}
use Rattle.depot_rows.specs.depot_model.declared.refusal.Refusal.TheVariants.{EmptyChange, OverLimit}
use Rattle.depot_rows.specs.depot_model.declared.refusal.Limit.TheVariants.{Text, Change, Files}
use Rattle.depot_rows.specs.depot_model.Deeds.{Deed, Opening}
use Rattle.depot_rows.specs.depot_model.Rules.{IsSound}
use Rattle.depot_rows.specs.depot_model.Step.{refuse_if}
use Rattle.depot_rows.specs.depot_model.Steps.Submitting.{file_refusals}
use Rattle.depot_rows.specs.Standing.{HasRows}

-- the rows that are read for a change, the rights aside
pub record HasSubmitted (all : AllRows) (d : List Deed) : Type 0 where
  pub sound : IsSound d
  pub counters : HasRows all d tables.Counter
  pub forms : HasRows all d tables.Domain
  pub resolves : HasRows all d tables.Resolve
  pub workings : HasRows all d tables.Working
  pub revisions : HasRows all d tables.Rev

abbrev pub front_refusals : ℕ → List ℕ → ℕ → List (Option Refusal)
front_refusals n text files = refuse_if (files == 0) (EmptyChange n) ∷ refuse_if (nat_lt 65536 (length text)) (OverLimit Text) ∷ []

abbrev pub last_refusals : ℕ → ℕ → List (Option Refusal)
last_refusals number files = refuse_if (nat_lt 2147483647 number) (OverLimit Change) ∷ refuse_if (nat_lt 10000 files) (OverLimit Files) ∷ []

abbrev pub submit_refusals : List Deed → Request → ℕ → ℕ → List ℕ → List Opening → List (Option Refusal)
submit_refusals d request n number text openings =
    front_refusals n text (length openings) ++ (flat_map (file_refusals d request) openings ++ last_refusals number (length openings))
