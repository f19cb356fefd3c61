use Rattle.std.proofs.Common.{◌≡◌, ℕ, [], List, Option, Some, None, sym, ap, subst, ◌∙◌}
use Rattle.std.specs.Option.{option_copied}
use Rattle.depot_rows.specs.table_changes.Changed.{rows_of}
use Rattle.depot_rows.specs.depot_model.Step.{nothing}
use Rattle.depot_rows.specs.depot_model.Steps.Syncing.{sync_word}
use Rattle.reply_rows.specs.Made.{IsMade}
use Rattle.reply_rows.specs.declared.step.Step.{Step}
use Rattle.reply_rows.proofs.Bare.{tells_made}
use Rattle.have_sync.proofs.Synced.{have_by}
use Rattle.have_sync.proofs.syncing.sync_have.Goals as goal

pub returns-in_ok-step-in-Some-clause-step : goal.returns-in_ok-step-in-Some-clause-step
returns-in_ok-step-in-Some-clause-step c = λ d e reads of has.
    let caller = c.args.caller.now in
    let path = c.args.path.now in
    let wanted = c.args.wanted.rev in
    let again = c.args.again in
    let rows = rows_of c.args.tables.now in
    let step = c.in_ok-step-in-Some.step in
    let word : Some c.in-Some.word.now ≡ sync_word again c.in_ok-had.had wanted = ap (λ o. option_copied o) (sym c.in-Some.is) ∙ c.sync_word-said.ensures in
    subst (λ (h : ℕ). IsMade rows d e (have_by d caller path h wanted (sync_word again h wanted)) step) (c.in_ok-had.ensures.have d of reads.shown.has_have)
    (subst (λ (w : Option (List ℕ)). IsMade rows d e (have_by d caller path c.in_ok-had.had wanted w) step) word (c.in_ok-step-in-Some.ensures rows d e reads.shown.asked has))

pub returns-in-None-clause-step : goal.returns-in-None-clause-step
returns-in-None-clause-step c = λ d e reads of has.
    let caller = c.args.caller.now in
    let path = c.args.path.now in
    let wanted = c.args.wanted.rev in
    let again = c.args.again in
    let rows = rows_of c.args.tables.now in
    let step = c.new-step.result in
    let word : None ≡ sync_word again c.in_ok-had.had wanted = ap (λ o. option_copied o) (sym c.in-None.is) ∙ c.sync_word-said.ensures in
    subst (λ (h : ℕ). IsMade rows d e (have_by d caller path h wanted (sync_word again h wanted)) step) (c.in_ok-had.ensures.have d of reads.shown.has_have)
    (subst (λ (w : Option (List ℕ)). IsMade rows d e (have_by d caller path c.in_ok-had.had wanted w) step) word
    (subst (λ (s : Step). IsMade rows d e nothing s) (sym c.new-step.ensures) (tells_made rows d e [] tt)))

pub returns-in_ok-step-in-Some-clause-places : goal.returns-in_ok-step-in-Some-clause-places
returns-in_ok-step-in-Some-clause-places c = λ rows of. c.in_ok-had.ensures.places rows of

pub returns-in-None-clause-places : goal.returns-in-None-clause-places
returns-in-None-clause-places c = λ rows of. c.in_ok-had.ensures.places rows of
