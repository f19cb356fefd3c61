use Rattle.std.proofs.Common.{◌∙◌, ap}
use Rattle.depot_rows.specs.table_changes.Changed.{AllRows}
use Rattle.shared_depot.proofs.Order.{fresh_archive, fresh_run}
use Rattle.shared_depot.proofs.shared.SharedDepot.new.Goals as goal

pub new-archive-requires-clause-archive : goal.new-archive-requires-clause-archive
new-archive-requires-clause-archive g c =
    let D = g.D.Disk in
    fresh_archive D.says g.N.Naming.rows g.N.Naming.end g.N.Imaging.images g.N.Serving.begins c.args.depot
    c.requires.can c.requires.rows c.requires.end (λ files. (c.requires.images files).0) (λ files. (c.requires.images files).1) c.requires.begins

pub new-common-requires-clause-run : goal.new-common-requires-clause-run
new-common-requires-clause-run g c =
    let D = g.D.Disk in (
      c.args.depot.tables,
      (
        c.args.depot.journal,
        fresh_run D.says g.N.Naming.rows g.N.Naming.end g.N.Imaging.images g.N.Serving.begins c.args.depot
            c.requires.can c.requires.rows c.requires.end (λ files. (c.requires.images files).0) (λ files. (c.requires.images files).1) c.requires.begins g.N.Serving.masters c.requires.masters,
      ),
    )

pub new-journal-requires-clause-run : goal.new-journal-requires-clause-run
new-journal-requires-clause-run g c =
    let D = g.D.Disk in
    fresh_run D.says g.N.Naming.rows g.N.Naming.end g.N.Imaging.images g.N.Serving.begins c.args.depot
    c.requires.can c.requires.rows c.requires.end (λ files. (c.requires.images files).0) (λ files. (c.requires.images files).1) c.requires.begins g.N.Serving.masters c.requires.masters

pub new-common-requires-clause-rows : goal.new-common-requires-clause-rows
new-common-requires-clause-rows g c = λ table. ap (λ (all : AllRows). all table) c.in-Ok-share_tables.ensures ∙ c.requires.rows table
