use Rattle.std.proofs.Common.{◌≡◌, Option, Some, None, List, refl, ap, ◌∙◌}
use Rattle.std.specs.Prelude.{option_map}
use Rattle.depot_rows.specs.depot_path.Path.{printed}
use Rattle.depot_rows.specs.db_records.declared.key.Key.TheVariants as keys
use Rattle.depot_rows.specs.db_records.declared.record.Record.TheVariants.{Working}
use Rattle.depot_rows.specs.db_records.declared.table.TableId.TheVariants as tables
use Rattle.depot_rows.specs.depot_model.Deeds.{Deed, Opening}
use Rattle.depot_rows.specs.depot_model.Opened.{opened}
use Rattle.depot_rows.specs.depot_model.Records.{working_record}
use Rattle.row_reads.proofs.FoundRows.{at_key, opened_read}
use Rattle.file_openings.specs.Openings.{working_of}
use Rattle.file_openings.proofs.own.opening_of.Goals as goal

again : (d : List Deed) (o : Option Opening) → option_map Working (working_of (option_map (working_record d) o)) ≡ option_map (working_record d) o
again d None = refl
again d (Some o) = refl

pub returns : goal.returns
returns c = λ d has.
    let version = c.version-version in
    let client = c.args.client.now in
    let path = c.args.path.now in
    ap (option_map Working) (c.as_working-opening.ensures
    ∙ ap working_of (opened_read d client path _ c.in_ok-key.ensures.read_again
    (at_key tables.Working d _ c.in_ok-key.key (keys.Working (printed path) client) version.result.now _ has refl c.in_ok-key.ensures.key
    (ap (λ v. v.rows) version.ensures.rows) c.get-row.ensures)))
    ∙ again d (opened d client path)
