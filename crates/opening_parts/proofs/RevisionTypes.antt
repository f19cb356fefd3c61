-- The type of a revision by its row is that of the revision.
use Rattle.std.proofs.Common.{◌≡◌, ℕ, List, [], Option, Some, None, refl, ap}
use Rattle.std.specs.Prelude.{codes, option_map}
use Rattle.std.proofs.lemmas.Option.{same_Some}
use Rattle.depot_rows.specs.db_records.declared.record.Record.{Record}
use Rattle.depot_rows.specs.db_records.declared.record.Record.TheVariants.{Rev}
use Rattle.depot_rows.specs.db_records.declared.rows.RevRecord.{RevRecord}
use Rattle.depot_rows.specs.depot_model.Records.{rev_record, unplaced}
use Rattle.depot_rows.specs.depot_model.Revisions.{Revision}
use Rattle.opening_parts.specs.RevisionTypes.{type_in}

abbrev type_field : Record → List ℕ
type_field (Rev r) = r.file_type
type_field _ = []

pub type_told : (rev : ℕ) (row : Option RevRecord) (found : Option Revision) → option_map (λ r. unplaced (Rev r)) row ≡ option_map (rev_record rev) found
    → type_in row ≡ (elim found as (λ _. List ℕ) [ None ↦ codes "text" | Some r ↦ r.entry.file_type ])
type_told rev None None e = refl
type_told rev None (Some r) e = absurd cc
type_told rev (Some row) None e = absurd cc
type_told rev (Some row) (Some r) e = ap type_field (same_Some (unplaced (Rev row)) (rev_record rev r) e)
