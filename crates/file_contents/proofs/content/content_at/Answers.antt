use Rattle.std.proofs.Common.{refl, sym, ap, subst, ◌∙◌}
use Rattle.depot_rows.specs.depot_path.Path.{is_path, printed}
use Rattle.depot_rows.specs.db_records.declared.key.Key.{Key}
use Rattle.depot_rows.specs.db_records.declared.key.Key.TheVariants as keys
use Rattle.depot_rows.specs.db_records.declared.table.TableId.TheVariants as tables
use Rattle.depot_rows.specs.table_store.Rows.{TableRows, row_at}
use Rattle.depot_rows.specs.table_changes.Changed.{rows_of}
use Rattle.depot_rows.specs.depot_model.Steps.Submitting.{content_at}
use Rattle.file_contents.specs.Content.{IsFound, found_in_row}
use Rattle.file_contents.specs.declared.content.Found.{Found}
use Rattle.file_contents.proofs.Finding.{found}
use Rattle.file_contents.proofs.content.content_at.Goals as goal

pub returns : goal.returns
returns c = λ d sound has.
    let all = rows_of c.args.tables.now in
    let path = c.args.path.now in
    let rev = c.args.rev in
    let bytes = c.as_bytes-bytes.ensures in
    let good = ap is_path (sym bytes.value) ∙ bytes.path in
    let version = c.version-version in
    let row = c.get-row.ensures ∙ ap (λ (k : Key). row_at k version.result.now.rows) c.in_ok-key.ensures
    ∙ ap (λ (v : TableRows). row_at (keys.Rev (printed path) rev) v.rows) version.ensures.rows in
    subst (λ (f : Found). IsFound all d f (content_at d path rev)) (sym (c.in_ok-found.ensures ∙ ap found_in_row row))
    (found all d path rev sound has good (row_at (keys.Rev (printed path) rev) (all tables.Rev)) refl)
