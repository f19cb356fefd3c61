-- The step of a checkpoint, by the value of the counter that tells the generation.
use Rattle.std.proofs.Common.{◌≡◌, ℕ, ◌+◌, ◌≤◌, ◌<◌, Bool, true, false, List, [], ◌∷◌, Option, Some, None, refl, sym, ap, ◌∙◌, arith}
use Rattle.std.proofs.lemmas.Bool.Decides.{nat_tests}
use Rattle.std.specs.Prelude.{codes, nat_le, option_map, unwrap_or}
use Rattle.depot_rows.specs.db_records.declared.key.Key.TheVariants as keys
use Rattle.depot_rows.specs.db_records.declared.record.Record.{Record}
use Rattle.depot_rows.specs.db_records.declared.record.Record.TheVariants.{Counter}
use Rattle.depot_rows.specs.db_records.declared.table.TableId.TheVariants as table_ids
use Rattle.depot_rows.specs.depot_model.Deeds.{Count, Deed}
use Rattle.depot_rows.specs.depot_model.Latest.{count_of}
use Rattle.depot_rows.specs.depot_model.Records.{unplaced}
use Rattle.depot_rows.specs.depot_model.Rows.{row, number_field}
use Rattle.depot_rows.specs.depot_model.Step.{Step, does, refuse_if, refuses, unless}
use Rattle.depot_rows.specs.depot_model.Steps.Checkpoint.{checkpoint, generation}
use Rattle.depot_rows.specs.depot_model.declared.refusal.Limit.TheVariants.{Generation}
use Rattle.depot_rows.specs.depot_model.declared.refusal.Refusal.TheVariants.{OverLimit}
use Rattle.depot_rows.specs.Standing.{HasRows}
use Rattle.depot_rows.specs.table_changes.Changed.{AllRows}
use Rattle.depot_rows.specs.table_store.Rows.{row_at}
use Rattle.spec_ops.specs.Counters.{value_in}

-- the row has the value that the depot counts
value_counted : (found : Option Record) (said : Option ℕ) → option_map unplaced found ≡ option_map (λ value. Counter (record { name = codes "journal"; value = value })) said → value_in found ≡ unwrap_or said 0
value_counted None None e = refl
value_counted None (Some n) e = absurd cc
value_counted (Some (Counter r)) (Some n) e = cc
value_counted (Some _) None e = absurd cc
value_counted (Some _) (Some n) e = absurd cc

pub generation_is : (all : AllRows) (d : List Deed) → HasRows all d table_ids.Counter → value_in (row_at (keys.Counter (codes "journal")) (all table_ids.Counter)) ≡ generation d
generation_is all d has = value_counted (row_at (keys.Counter (codes "journal")) (all table_ids.Counter)) (count_of d (codes "journal")) (has (keys.Counter (codes "journal")) refl)

abbrev opened : ℕ → Step
opened n = does (Count (codes "journal") (Some n) ∷ []) (row (number_field (codes "journal") n ∷ []))

pub is_last : (d : List Deed) (n : ℕ) → n ≡ generation d → 4095 ≤ n → checkpoint d ≡ refuses (OverLimit Generation)
is_last d n is last = ap (λ (b : Bool). unless (refuse_if b (OverLimit Generation) ∷ []) (opened (generation d + 1))) (sym (reached n (generation d) is last))
  where
    reached : (n m : ℕ) → n ≡ m → 4095 ≤ n → true ≡ nat_le 4095 m
    reached n m is last = grind (arith, nat_tests)

pub is_next : (d : List Deed) (n : ℕ) → n ≡ generation d → n < 4095 → checkpoint d ≡ opened (n + 1)
is_next d n is less =
    ap (λ (b : Bool). unless (refuse_if b (OverLimit Generation) ∷ []) (opened (generation d + 1))) (below n (generation d) is less)
    ∙ ap (λ (m : ℕ). opened (m + 1)) (sym is)
  where
    below : (n m : ℕ) → n ≡ m → n < 4095 → nat_le 4095 m ≡ false
    below n m is less = grind (arith, nat_tests)
