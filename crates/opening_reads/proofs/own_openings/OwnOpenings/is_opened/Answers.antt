use Rattle.std.proofs.Common.{Option, sym, ap, ◌∙◌}
use Rattle.std.specs.Prelude.{is_some}
use Rattle.depot_rows.specs.depot_model.Deeds.{Opening}
use Rattle.opening_reads.proofs.OwnDeeds.{opened_before, opened_then, still_some}
use Rattle.opening_reads.proofs.own_openings.OwnOpenings.is_opened.Goals as goal

pub returns-in-Some : goal.returns-in-Some
returns-in-Some c = λ d e has own.
    c.is_some.ensures ∙ still_some c.in-Some.changed.now
    ∙ ap (λ (o : Option Opening). is_some o) (opened_then c.args.self.now c.args.client.now d e own c.args.path.now c.in-Some.changed.now (sym c.in-Some.ensures.value))

pub returns-in_ok-opened-in-None : goal.returns-in_ok-opened-in-None
returns-in_ok-opened-in-None c = λ d e has own.
    c.in_ok-opened-in-None.ensures d has
    ∙ ap (λ (o : Option Opening). is_some o) (opened_before c.args.self.now c.args.client.now d e own c.args.path.now (sym c.in-None.ensures.value))
