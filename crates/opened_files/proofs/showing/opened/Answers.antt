use Rattle.std.proofs.Common.{Bool, List, ℕ, true, subst, sym}
use Rattle.depot_rows.specs.db_records.declared.table.TableId.TheVariants as table_ids
use Rattle.depot_rows.specs.table_changes.Changed.{rows_of}
use Rattle.depot_rows.specs.depot_model.declared.command.FileArgument.{FileArgument}
use Rattle.depot_rows.specs.depot_model.Arguments.{named, over_all}
use Rattle.depot_rows.specs.depot_model.Deeds.{Deed}
use Rattle.depot_rows.specs.depot_model.Rules.{IsSound}
use Rattle.depot_rows.specs.depot_model.Step.{tells}
use Rattle.depot_rows.specs.depot_model.Steps.Reverting.{not_open, opened_files, opened_step, show_opened}
use Rattle.depot_rows.specs.Standing.{HasRows}
use Rattle.reply_rows.specs.Made.{IsMade}
use Rattle.reply_rows.specs.declared.step.Step.{Step}
use Rattle.named_files.specs.Asked.{IsAsker}
use Rattle.named_files.specs.Listed.{files_of, listing_table}
use Rattle.named_files.specs.Sets.{rows_without}
use Rattle.named_files.specs.declared.listing.Listing.{Listing}
use Rattle.command_parts.proofs.Refused.{if_ok}
use Rattle.opened_files.proofs.Own.{opened_by_is}
use Rattle.opened_files.proofs.showing.opened.Goals as goal

pub returns-then-all : goal.returns-then-all
returns-then-all c =
    let rows = rows_of c.args.tables.now in
    let Q : Step → Type 0 = λ step. (d : List Deed) → IsSound d → IsAsker d c.args.caller.now c.args.asker.now → HasRows rows d table_ids.Working
    → IsMade rows d d (opened_step d c.args.caller.now c.args.all c.args.arguments.now) step in
    if_ok {Q = Q} _ _ c.over_all.ensures (λ step made d sound asked working.
    let caller = c.args.caller.now in
    subst (λ (b : Bool). IsMade rows d d (over_all (named true d caller (opened_files b d caller)) not_open (show_opened c.args.all d caller) c.args.arguments.now) step)
    (sym c.if-all.true)
    (made d (record { sound = sound; asked = asked; listed = working }) working))

pub returns : goal.returns
returns c =
    let rows = rows_of c.args.tables.now in
    let Q : Step → Type 0 = λ step. (d : List Deed) → IsSound d → IsAsker d c.args.caller.now c.args.asker.now → HasRows rows d table_ids.Working
    → IsMade rows d d (opened_step d c.args.caller.now c.args.all c.args.arguments.now) step in
    if_ok {Q = Q} _ _ c.over_all-2.ensures (λ step made d sound asked working.
    let caller = c.args.caller.now in
    let show_it = show_opened c.args.all d caller in
    let is = c.in_ok-listing.ensures in
    let arguments = c.args.arguments.now in
    let P : Listing → Type 0 = λ l. IsMade rows d d (over_all (named true d caller (files_of l d)) (λ (a : FileArgument). tells (rows_without l a)) show_it arguments) step in
    let Q : List (List ℕ) → Type 0 = λ files. IsMade rows d d (over_all (named true d caller files) not_open show_it arguments) step in
    subst (λ (b : Bool). Q (opened_files b d caller)) (sym c.if-all.false)
    (subst Q (opened_by_is d caller)
    (subst P is
    (made d (record {
      sound = sound;
      asked = asked;
      listed = subst (λ (l : Listing). HasRows rows d (listing_table l)) (sym is) working;
    }) working))))
