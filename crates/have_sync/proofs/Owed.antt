-- What the row of an owed resolve says is what the depot says.
use Rattle.std.proofs.Common.{◌≡◌, ℕ, Bool, false, List, Option, Some, None, refl, ap, ◌∙◌}
use Rattle.std.specs.Prelude.{nat_le, option_map}
use Rattle.depot_rows.specs.db_records.declared.record.Record.{Record}
use Rattle.depot_rows.specs.db_records.declared.record.Record.TheVariants as records
use Rattle.depot_rows.specs.db_records.declared.rows.ResolveRecord.{ResolveRecord}
use Rattle.depot_rows.specs.depot_model.declared.request.Caller.{Caller}
use Rattle.depot_rows.specs.depot_model.Deeds.{Deed}
use Rattle.depot_rows.specs.depot_model.Opened.{Resolve, owed}
use Rattle.depot_rows.specs.depot_model.Records.{resolve_record}
use Rattle.depot_rows.specs.depot_model.Steps.Syncing.{is_owed}
use Rattle.have_sync.specs.Syncing.{reaches}

-- in any row
abbrev reached : ℕ → Option Record → Bool
reached n (Some (records.Resolve r)) = nat_le n r.last
reached n _ = false

of_row : (n : ℕ) (row : Option ResolveRecord) → reaches row n ≡ reached n (option_map records.Resolve row)
of_row n None = refl
of_row n (Some r) = refl

of_resolve : (n : ℕ) (r : Option Resolve) → reached n (option_map resolve_record r) ≡ (elim r as (λ _. Bool) [ None ↦ false | Some r ↦ nat_le n r.owing.last ])
of_resolve n None = refl
of_resolve n (Some r) = refl

pub owed_read : (d : List Deed) (caller : Caller) (path : List ℕ) (n : ℕ) (row : Option ResolveRecord)
    → option_map records.Resolve row ≡ option_map resolve_record (owed d caller.client path path) → reaches row n ≡ is_owed d caller path n
owed_read d caller path n row is = of_row n row ∙ ap (reached n) is ∙ of_resolve n (owed d caller.client path path)
