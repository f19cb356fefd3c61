use Rattle.std.proofs.Common.{◌≡◌, ℕ, List, Some, Err, rules, refl, sym, ap, subst, ◌∙◌}
use Rattle.std.specs.Prelude.{IsSome}
use Rattle.outside_api.specs.Reaching.{stays}
use Rattle.depot_rows.specs.depot_model.declared.reply.Row.{Row}
use Rattle.depot_rows.specs.table_changes.Changed.{rows_of}
use Rattle.replica_answers.specs.Printing.{Gives}
use Rattle.replica_answers.proofs.Digests.{front_same, given_in, gives_on}
use Rattle.replica_answers.proofs.Good.{content_there, row_waiting}
use Rattle.replica_answers.proofs.printing.fill_row.Goals as goal

pub returns-in_err-content-clause-told : goal.returns-in_err-content-clause-told
returns-in_err-content-clause-told g c = λ d told before stand shown waits tells has.
    let e : c.from_residual.result ≡ Err c.in_err-content.field-0.0 = search rules in
    let some : IsSome c.args.row.now.content = search rules in
    let content = content_there told.content (subst (λ (r : Row). IsSome r.content) waits some) in
    let own = row_waiting d c.args.row.now told content.0 (ap (λ (r : Row). r.fields) waits) (shown content.0 content.1) in
    let Text : List ℕ → Type 0 = λ text. text ≡ content.0 in
    let Same : Unit {0} → Type 0 = λ _. c.args.row.now ≡ told in
    subst (Gives Same) (sym e) (gives_on Text Same c.in_err-content.field-0.0 (c.in_err-content.ensures.told d content.0 before stand own tells has))

pub returns-in_ok-content-clause-told : goal.returns-in_ok-content-clause-told
returns-in_ok-content-clause-told g c = λ d told before stand shown waits tells has.
    let some : IsSome c.args.row.now.content = search rules in
    let content = content_there told.content (subst (λ (r : Row). IsSome r.content) waits some) in
    let own = row_waiting d c.args.row.now told content.0 (ap (λ (r : Row). r.fields) waits) (shown content.0 content.1) in
    let is : Some c.in_ok-content.content ≡ told.content = ap Some (c.in_ok-content.ensures.told d content.0 before stand own tells has) ∙ sym content.1 in
    λ i. record { fields = ap (λ (r : Row). r.fields) waits i; content = is i }

pub returns-else-is_some-clause-reached : goal.returns-else-is_some-clause-reached
returns-else-is_some-clause-reached g c = stays

pub returns-in_ok-content-clause-given : goal.returns-in_ok-content-clause-given
returns-in_ok-content-clause-given g c = λ before tells.
    let own = c.in_ok-content.ensures.given before tells in
    (own.0, (own.1.0, (own.1.1.0, given_in (rows_of c.args.tables.now) own.0 c.args.row.now c.in_ok-content.content own.1.1.1)))

pub returns-else-is_some-clause-given : goal.returns-else-is_some-clause-given
returns-else-is_some-clause-given g c = λ before tells.
    let none : IsSome c.args.row.now.content → ⊥ = search rules in
    (before, (tells, (front_same before, λ content is. absurd (none (subst IsSome (sym is) refl)))))
