-- What the row of an owed resolve says is what the depot says.
use Rattle.std.proofs.Common.{◌≡◌, ℕ, List, Option, Some, None, Ok, refl, sym, ap, ◌∙◌}
use Rattle.std.specs.Prelude.{option_map}
use Rattle.depot_rows.specs.depot_path.Path.{path_of, printed}
use Rattle.depot_rows.specs.db_records.declared.key.Key.TheVariants as keys
use Rattle.depot_rows.specs.db_records.declared.record.Record.{Record}
use Rattle.depot_rows.specs.db_records.declared.record.Record.TheVariants as records
use Rattle.depot_rows.specs.depot_model.Deeds.{Deed}
use Rattle.depot_rows.specs.depot_model.Opened.{Resolve, owed}
use Rattle.depot_rows.specs.depot_model.Records.{at_path, record_of, resolve_record, unplaced}
use Rattle.row_reads.proofs.FoundRows.{at_own_path}
use Rattle.opening_reads.specs.Owed.{resolve_of}

resolve_placed : (row : Option Record) → resolve_of (option_map unplaced row) ≡ resolve_of row
resolve_placed None = refl
resolve_placed (Some (records.Resolve r)) = refl
resolve_placed (Some (records.Counter r)) = refl
resolve_placed (Some (records.Group r)) = refl
resolve_placed (Some (records.Protect r)) = refl
resolve_placed (Some (records.Domain r)) = refl
resolve_placed (Some (records.Have r)) = refl
resolve_placed (Some (records.Label r)) = refl
resolve_placed (Some (records.Integed r)) = refl
resolve_placed (Some (records.Working r)) = refl
resolve_placed (Some (records.Change r)) = refl
resolve_placed (Some (records.Rev r)) = refl

again : (o : Option Resolve) → option_map records.Resolve (resolve_of (option_map resolve_record o)) ≡ option_map resolve_record o
again None = refl
again (Some r) = refl

-- the resolve that a key found
pub owed_read : (d : List Deed) (client path from : List ℕ) (row : Option Record) → path_of (printed path) ≡ Ok path → path_of (printed from) ≡ Ok from
    → option_map unplaced row ≡ record_of d (keys.Resolve client (printed path) (printed from))
    → option_map records.Resolve (resolve_of row) ≡ option_map resolve_record (owed d client path from)
owed_read d client path from row e f is =
    ap (option_map records.Resolve)
    (sym (resolve_placed row)
    ∙ ap resolve_of
    (is ∙ at_own_path path (λ p. at_path (printed from) (λ source. option_map resolve_record (owed d client p source))) e
    ∙ at_own_path from (λ source. option_map resolve_record (owed d client path source)) f))
    ∙ again (owed d client path from)
