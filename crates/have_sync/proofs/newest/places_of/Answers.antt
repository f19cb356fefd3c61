use Rattle.std.proofs.Common.{ap, ◌∙◌}
use Rattle.depot_rows.specs.db_records.declared.table.TableId.TheVariants as tables
use Rattle.depot_rows.specs.table_changes.Changed.{rows_of}
use Rattle.depot_rows.specs.table_store.Rows.{TableRows}
use Rattle.have_sync.proofs.newest.places_of.Goals as goal

pub returns : goal.returns
returns c = record {
  heads = c.none-heads.ensures.heads (rows_of c.args.tables.now tables.Rev);
  haves = c.before-haves.ensures.place;
  haves_are = ap (λ v. v.now.rows) c.before-haves.ensures.version ∙ ap (λ (v : TableRows). v.rows) c.version-lists.ensures.rows;
}
