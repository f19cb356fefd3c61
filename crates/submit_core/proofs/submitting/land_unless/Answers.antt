use Rattle.std.proofs.Common.{◌≡◌, ℕ, List, None, sym, subst, ◌∙◌}
use Rattle.std.specs.Prelude.{option_map}
use Rattle.depot_rows.specs.table_changes.Changed.{rows_of}
use Rattle.depot_rows.specs.depot_model.Deeds.{Opening}
use Rattle.depot_rows.specs.depot_model.Refusals.{refusal_row}
use Rattle.depot_rows.specs.depot_model.Step.{Step as ModelStep}
use Rattle.reply_rows.specs.Refusing.{first_of}
use Rattle.step_stores.specs.Stored.{IsStoring}
use Rattle.submit_core.specs.Submitting.{submit_refusals}
use Rattle.submit_core.proofs.Deciding.{decided_landed, decided_refused}
use Rattle.submit_core.proofs.submitting.land_unless.Goals as goal

pub returns-in_ok-step-in-Some : goal.returns-in_ok-step-in-Some
returns-in_ok-step-in-Some c = λ d reads forms opened openings_are number asked.
    let request = c.args.request.now in
    let change = c.args.change in
    let text = c.args.text.now in
    let tests = λ (n : ℕ) (l : List Opening). option_map refusal_row (first_of (submit_refusals d request change n text l)) in
    decided_refused d request change text (rows_of c.args.tables.now) c.args.tables.now.archive_end c.in-Some.row c.in_ok-step-in-Some.step
    (sym c.in-Some.is ∙ c.in_ok-refusal.ensures d request reads opened ∙ (λ i. tests (number i) (openings_are i)))
    c.in_ok-step-in-Some.ensures

pub returns-in_ok-step-in-None : goal.returns-in_ok-step-in-None
returns-in_ok-step-in-None c = λ d reads forms opened openings_are number asked.
    let request = c.args.request.now in
    let change = c.args.change in
    let text = c.args.text.now in
    let tests = λ (n : ℕ) (l : List Opening). option_map refusal_row (first_of (submit_refusals d request change n text l)) in
    let none : None ≡ c.in_ok-refusal.refusal = cc in
    let decided = decided_landed d request change text asked (none ∙ c.in_ok-refusal.ensures d request reads opened ∙ (λ i. tests (number i) (openings_are i))) in
    subst (λ (m : ModelStep). IsStoring (rows_of c.args.tables.now) c.args.tables.now.archive_end d m c.in_ok-step-in-None.step) (sym decided.0)
    (c.in_ok-step-in-None.ensures d reads forms opened openings_are (c.in_ok-number-in-None.ensures ∙ number) decided.1)
