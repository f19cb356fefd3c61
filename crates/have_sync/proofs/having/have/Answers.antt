use Rattle.std.proofs.Common.{[], ◌∷◌, subst, sym}
use Rattle.std.specs.Prelude.{true}
use Rattle.depot_rows.specs.table_changes.Changed.{rows_of}
use Rattle.depot_rows.specs.depot_model.declared.command.FileArgument.{FileArgument}
use Rattle.depot_rows.specs.depot_model.Arguments.{named, over_all}
use Rattle.depot_rows.specs.depot_model.Step.{tells}
use Rattle.depot_rows.specs.depot_model.Steps.Placing.{have_row}
use Rattle.depot_rows.specs.Standing.{HasRows}
use Rattle.reply_rows.specs.Made.{IsMade}
use Rattle.named_files.specs.Listed.{files_of, listing_table}
use Rattle.named_files.specs.Sets.{rows_without}
use Rattle.named_files.specs.declared.listing.Listing.{Listing}
use Rattle.have_sync.proofs.having.have.Goals as goal

pub returns : goal.returns
returns c = λ d sound asked had.
    let caller = c.args.caller.now in
    let rows = rows_of c.args.tables.now in
    let is = c.in_ok-listing.ensures in
    let P : Listing → Type 0 =
    λ l. IsMade rows d d (over_all (named true d caller (files_of l d)) (λ (a : FileArgument). tells (rows_without l a)) (λ _ path. tells (have_row d caller path ∷ [])) c.args.arguments.now) c.in_ok-step.step in
    subst P is
    (c.in_ok-step.ensures d (record { sound = sound; asked = asked; listed = subst (λ (l : Listing). HasRows rows d (listing_table l)) (sym is) had })
    (record { asked = asked; listed = had }))
