use Rattle.std.proofs.Common.{[], Option, sym, ap, subst, ◌∙◌}
use Rattle.std.specs.Prelude.{IfSome}
use Rattle.depot_rows.specs.table_changes.Changed.{rows_of}
use Rattle.depot_rows.specs.depot_model.Choice.{Choice}
use Rattle.depot_rows.specs.depot_model.Step.{nothing}
use Rattle.depot_rows.specs.depot_model.Steps.Syncing as model
use Rattle.named_files.specs.declared.listing.Listing.TheVariants.{Submitted}
use Rattle.named_files.proofs.Wanting.{reads_wanted}
use Rattle.reply_rows.specs.Made.{IsMade}
use Rattle.reply_rows.specs.declared.step.Step.{Step}
use Rattle.reply_rows.proofs.Bare.{tells_made}
use Rattle.newest_revisions.specs.Newest.{HasRow, choice_of}
use Rattle.newest_revisions.specs.declared.newest.Revision.{Revision}
use Rattle.have_sync.proofs.syncing.sync_to.Goals as goal

pub returns-in_ok-step-in-Some-clause-step : goal.returns-in_ok-step-in-Some-clause-step
returns-in_ok-step-in-Some-clause-step c = λ d e reads of.
    let caller = c.args.caller.now in
    let path = c.args.path.now in
    let argument = c.args.argument.now in
    let rows = rows_of c.args.tables.now in
    let shown = reads.shown in
    let at = c.in_ok-choice.ensures.choice d of shown.sound shown.has_rev (reads_wanted caller c.args.asker.now Submitted rows d shown argument.spec.wanted) in
    let has = subst (λ (found : Option Revision). IfSome found (HasRow d path)) c.in-Some.is at.has_row in
    subst (λ (x : Choice). IsMade rows d e (model.sync_to c.args.again d caller argument path x) c.in_ok-step-in-Some.step) (ap choice_of (sym c.in-Some.is) ∙ at.choice_is)
    (c.in_ok-step-in-Some.ensures.step d e reads (c.in_ok-choice.ensures.places rows of) has)

pub returns-in-None-clause-step : goal.returns-in-None-clause-step
returns-in-None-clause-step c = λ d e reads of.
    let caller = c.args.caller.now in
    let path = c.args.path.now in
    let argument = c.args.argument.now in
    let rows = rows_of c.args.tables.now in
    let shown = reads.shown in
    let at = c.in_ok-choice.ensures.choice d of shown.sound shown.has_rev (reads_wanted caller c.args.asker.now Submitted rows d shown argument.spec.wanted) in
    let step = c.new-step.result in
    subst (λ (x : Choice). IsMade rows d e (model.sync_to c.args.again d caller argument path x) step) (ap choice_of (sym c.in-None.is) ∙ at.choice_is)
    (subst (λ (s : Step). IsMade rows d e nothing s) (sym c.new-step.ensures) (tells_made rows d e [] tt))

pub returns-in_ok-step-in-Some-clause-places : goal.returns-in_ok-step-in-Some-clause-places
returns-in_ok-step-in-Some-clause-places c = λ rows of. c.in_ok-step-in-Some.ensures.places rows (c.in_ok-choice.ensures.places rows of)

pub returns-in-None-clause-places : goal.returns-in-None-clause-places
returns-in-None-clause-places c = λ rows of. c.in_ok-choice.ensures.places rows of
