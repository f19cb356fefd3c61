use Rattle.std.proofs.Common.{ℕ, Bool, sym, ap, ◌∙◌}
use Rattle.std.specs.Prelude.{if◌then◌else◌}
use Rattle.depot_rows.specs.depot_model.Revisions.{head}
use Rattle.depot_rows.specs.depot_model.Steps.Integrating.{type_at}
use Rattle.integ_records.proofs.opened_targets.new_type.Goals as goal

pub returns-then-live : goal.returns-then-live
returns-then-live c = λ d sound has.
    let from = c.args.from.now in
    let to = c.args.to.now in
    c.in_ok-own.ensures d has ∙ ap (λ (n : ℕ). type_at d to n) (c.in_ok-rev.ensures d sound has)
    ∙ ap (λ (b : Bool). if b then type_at d to (head d to) else type_at d from c.args.last) (sym c.if-live.true ∙ c.in_ok-live.ensures d sound has)

pub returns : goal.returns
returns c = λ d sound has.
    let from = c.args.from.now in
    let to = c.args.to.now in
    c.in_ok-file_type.ensures d has
    ∙ ap (λ (b : Bool). if b then type_at d to (head d to) else type_at d from c.args.last) (sym c.if-live.false ∙ c.in_ok-live.ensures d sound has)
