use Rattle.std.proofs.Common.{refl, ap, ◌∙◌}
use Rattle.depot_rows.specs.depot_path.Path.{printed}
use Rattle.depot_rows.specs.db_records.declared.key.Key.TheVariants as keys
use Rattle.depot_rows.specs.db_records.declared.table.TableId.TheVariants as tables
use Rattle.row_reads.proofs.FoundRows.{at_key, have_read}
use Rattle.have_sync.proofs.newest.Places.have.Goals as goal

pub returns-clause-places : goal.returns-clause-places
returns-clause-places c = λ rows of. record {
  heads = of.heads;
  haves = c.get-row.ensures.place of.haves;
  haves_are = ap (λ v. v.now.rows) c.get-row.ensures.version ∙ of.haves_are;
}

pub returns-clause-have : goal.returns-clause-have
returns-clause-have c = λ d of has.
    let version = c.args.self.now.haves.version.now in
    c.have_rev-rev.ensures
    ∙ have_read d c.args.client.now c.args.path.now _ c.in_ok-key.ensures.read_again
    (at_key tables.Have d _ c.in_ok-key.key (keys.Have c.args.client.now (printed c.args.path.now)) version _ has refl c.in_ok-key.ensures.key of.haves_are (c.get-row.ensures.found of.haves))
