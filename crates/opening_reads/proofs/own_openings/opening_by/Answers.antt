use Rattle.std.proofs.Common.{Some, sym, ap, ◌∙◌}
use Rattle.std.specs.Prelude.{option_map}
use Rattle.std.specs.Option.{option_copied}
use Rattle.depot_rows.specs.db_records.declared.record.Record.TheVariants.{Working}
use Rattle.depot_rows.specs.Deed.{opening_of}
use Rattle.depot_rows.specs.declared.deed.Opening.{Opening}
use Rattle.opening_reads.proofs.Opens.{row_told}
use Rattle.opening_reads.proofs.own_openings.opening_by.Goals as goal

pub returns-in_ok-opening-in-Some : goal.returns-in_ok-opening-in-Some
returns-in_ok-opening-in-Some c = λ d sound has.
    ap (λ (o : Opening). Some (opening_of o)) c.in_ok-opening-in-Some.ensures
    ∙ row_told d c.args.client.now c.args.path.now c.in-Some.row.now sound (ap (λ r. option_map Working (option_copied r)) (sym c.in-Some.is) ∙ c.in_ok-row.ensures d has)
