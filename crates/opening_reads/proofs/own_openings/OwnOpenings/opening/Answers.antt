use Rattle.std.proofs.Common.{Option, sym, ap, ◌∙◌}
use Rattle.std.specs.Prelude.{option_map}
use Rattle.depot_rows.specs.Deed.{opening_of}
use Rattle.depot_rows.specs.declared.deed.Opening.{Opening}
use Rattle.opening_reads.proofs.OwnDeeds.{opened_before, opened_then}
use Rattle.opening_reads.proofs.own_openings.OwnOpenings.opening.Goals as goal

pub returns-in_ok-opening-in-Some : goal.returns-in_ok-opening-in-Some
returns-in_ok-opening-in-Some c = λ d e sound has own.
    ap (λ (o : Option Opening). option_map opening_of o) c.in_ok-opening-in-Some.ensures
    ∙ opened_then c.args.self.now c.args.client.now d e own c.args.path.now c.in-Some.changed.now (sym c.in-Some.ensures.value)

pub returns-in_ok-opening-in-None : goal.returns-in_ok-opening-in-None
returns-in_ok-opening-in-None c = λ d e sound has own.
    c.in_ok-opening-in-None.ensures d sound has ∙ opened_before c.args.self.now c.args.client.now d e own c.args.path.now (sym c.in-None.ensures.value)
