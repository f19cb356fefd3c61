use Rattle.std.proofs.Common.{subst, sym}
use Rattle.depot_rows.specs.depot_model.Step.{tells}
use Rattle.reply_rows.specs.Made.{IsMade}
use Rattle.named_files.specs.Sets.{rows_without}
use Rattle.named_files.specs.declared.listing.Listing.{Listing}
use Rattle.named_files.proofs.listed_files.missing_of.Goals as goal

pub returns-in_ok-step-in-OpenedBy : goal.returns-in_ok-step-in-OpenedBy
returns-in_ok-step-in-OpenedBy c = λ all d e.
    subst (λ (l : Listing). IsMade all d e (tells (rows_without l c.args.argument.now)) c.in_ok-step-in-OpenedBy.step) (sym c.in-OpenedBy.is) (c.in_ok-step-in-OpenedBy.ensures all d e)

pub returns-in_ok-step-in-Had : goal.returns-in_ok-step-in-Had
returns-in_ok-step-in-Had c = λ all d e.
    subst (λ (l : Listing). IsMade all d e (tells (rows_without l c.args.argument.now)) c.in_ok-step-in-Had.step) (sym c.in-Had.is) (c.in_ok-step-in-Had.ensures all d e)

pub returns-in_ok-step-in-Submitted : goal.returns-in_ok-step-in-Submitted
returns-in_ok-step-in-Submitted c = λ all d e.
    subst (λ (l : Listing). IsMade all d e (tells (rows_without l c.args.argument.now)) c.in_ok-step-in-Submitted.step) (sym c.in-Submitted.is) (c.in_ok-step-in-Submitted.ensures all d e)
