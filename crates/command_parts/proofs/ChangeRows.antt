-- What rows tell of changes.
use Rattle.std.proofs.Common.{◌≡◌, ℕ, Option, Some, None, List, refl}
use Rattle.depot_rows.specs.depot_model.declared.request.Caller.{Caller}
use Rattle.depot_rows.specs.depot_model.declared.refusal.Refusal.{Refusal}
use Rattle.depot_rows.specs.depot_model.declared.refusal.Refusal.TheVariants.{NoSuchChange, NotYours}
use Rattle.std.specs.Prelude.{option_map, not}
use Rattle.depot_rows.specs.db_records.declared.record.Record.{Record}
use Rattle.depot_rows.specs.depot_model.Deeds.{Deed, Pending, Landing}
use Rattle.depot_rows.specs.depot_model.Numbers.{pending, landing}
use Rattle.depot_rows.specs.depot_model.Records.{change_record, pending_record, landed_record}
use Rattle.depot_rows.specs.depot_model.Step.{refuse_if}
use Rattle.depot_rows.specs.depot_model.Steps.Opening.{change_refusal, is_of}
use Rattle.command_parts.specs.Changes.{change_told}

pub told_is : (d : List Deed) (caller : Caller) (n : ℕ) → change_told caller n (change_record d n) ≡ change_refusal d caller n
told_is d caller n = go (pending d n) (landing d n)
  where
    go : (p : Option Pending) (l : Option Landing)
        → change_told caller n (elim p as (λ _. Option Record) [ Some x ↦ Some (pending_record x) | None ↦ option_map landed_record l ])
        ≡ (elim p as (λ _. Option Refusal) [ None ↦ Some (NoSuchChange n) | Some x ↦ refuse_if (not (is_of caller x)) (NotYours n) ])
    go None None = refl
    go None (Some l) = refl
    go (Some p) l = refl
