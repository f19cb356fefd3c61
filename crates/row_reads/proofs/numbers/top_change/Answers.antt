use Rattle.std.proofs.Common.{◌≡◌, Option, Some, None, refl, ap, ◌∙◌}
use Rattle.std.specs.Prelude.{codes, option_map}
use Rattle.std.specs.Option.{option_copied}
use Rattle.depot_rows.specs.db_records.declared.key.Key.TheVariants as keys
use Rattle.depot_rows.specs.db_records.declared.record.Record.{Record}
use Rattle.depot_rows.specs.db_records.declared.record.Record.TheVariants as records
use Rattle.depot_rows.specs.db_records.declared.table.TableId.TheVariants as tables
use Rattle.depot_rows.specs.depot_model.Records.{unplaced}
use Rattle.depot_rows.specs.depot_model.Rules.{value_of}
use Rattle.depot_rows.proofs.ChangeCounter.{top_value}
use Rattle.row_reads.proofs.FoundRows.{at_key}
use Rattle.row_reads.proofs.numbers.top_change.Goals as goal

-- the place of a spot is none of a counter's
value_unplaced : (row : Option Record) → value_of row ≡ value_of (option_map unplaced row)
value_unplaced None = refl
value_unplaced (Some (records.Rev r)) = refl
value_unplaced (Some (records.Counter r)) = refl
value_unplaced (Some (records.Group r)) = refl
value_unplaced (Some (records.Protect r)) = refl
value_unplaced (Some (records.Domain r)) = refl
value_unplaced (Some (records.Have r)) = refl
value_unplaced (Some (records.Label r)) = refl
value_unplaced (Some (records.Integed r)) = refl
value_unplaced (Some (records.Resolve r)) = refl
value_unplaced (Some (records.Working r)) = refl
value_unplaced (Some (records.Change r)) = refl

pub returns : goal.returns
returns c = λ d has.
    let version = c.version-version in
    c.value_in-number.ensures ∙ value_unplaced (option_copied c.get-row.result)
    ∙ ap value_of
    (at_key tables.Counter d _ c.in_ok-key.key (keys.Counter (codes "change")) version.result.now _ has refl c.in_ok-key.ensures (ap (λ v. v.rows) version.ensures.rows) c.get-row.ensures)
    ∙ top_value d
