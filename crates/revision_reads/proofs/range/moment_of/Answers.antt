use Rattle.std.proofs.Common.{sym, ap, ◌∙◌}
use Rattle.depot_rows.specs.depot_path.Path.{is_path}
use Rattle.depot_rows.proofs.depot_path.Paths.{prints_path}
use Rattle.depot_rows.specs.depot_model.Revisions.{revision}
use Rattle.revision_reads.proofs.Asked.{moment_told, no_moment}
use Rattle.revision_reads.proofs.range.moment_of.Goals as goal

pub returns-in-None : goal.returns-in-None
returns-in-None c = λ d sound has there.
    no_moment (revision d c.args.path.now c.args.rev) (sym c.in-None.is ∙ c.in_ok-change.ensures d has)

pub returns-in-Some : goal.returns-in-Some
returns-in-Some c = λ d sound has there.
    let path = c.args.path.now in
    let bytes = c.as_bytes-bytes in
    c.moment_in.ensures
    ∙ moment_told d path (prints_path path (ap is_path (sym bytes.ensures.value) ∙ bytes.ensures.path)) sound c.args.rev c.in-Some.change _
    (sym c.in-Some.is ∙ c.in_ok-change.ensures d has) (c.change_of-row.ensures d there)
