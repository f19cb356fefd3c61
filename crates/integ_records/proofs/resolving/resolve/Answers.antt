use Rattle.std.proofs.Common.{◌≡◌, ℕ, List, true, false, sym, subst}
use Rattle.std.specs.Prelude.{filter}
use Rattle.std.specs.List.{list_all}
use Rattle.depot_rows.specs.db_records.declared.table.TableId.TheVariants as table_ids
use Rattle.depot_rows.specs.table_changes.Changed.{rows_of}
use Rattle.depot_rows.specs.depot_model.declared.command.FileArgument.{FileArgument}
use Rattle.depot_rows.specs.depot_model.Arguments.{names, opened_by, over_all}
use Rattle.depot_rows.specs.depot_model.Deeds.{Deed}
use Rattle.depot_rows.specs.depot_model.Rules.{IsSound}
use Rattle.depot_rows.specs.depot_model.Step.{Step as ModelStep, tells}
use Rattle.depot_rows.specs.depot_model.Steps.Resolving.{resolve, resolve_file}
use Rattle.depot_rows.specs.depot_model.Steps.Reverting.{not_open}
use Rattle.depot_rows.specs.depot_model.WellFormed.{asks_head}
use Rattle.depot_rows.specs.Standing.{HasRows}
use Rattle.reply_rows.specs.Made.{IsMade}
use Rattle.reply_rows.specs.declared.step.Step.{Step}
use Rattle.named_files.specs.Asked.{IsAsker}
use Rattle.named_files.specs.Listed.{files_of, listing_table}
use Rattle.named_files.specs.Sets.{at_head, rows_without}
use Rattle.named_files.specs.declared.listing.Listing.{Listing}
use Rattle.named_files.proofs.Heads.{over_all_heads}
use Rattle.command_parts.proofs.Refused.{if_ok}
use Rattle.integ_records.proofs.resolving.resolve.Goals as goal

pub returns : goal.returns
returns c =
    let rows = rows_of c.args.tables.now in
    let caller = c.args.caller.now in
    let taking = c.args.taking in
    let arguments = c.args.arguments.now in
    let Q : Step → Type 0 = λ step. (d : List Deed) → list_all asks_head arguments ≡ true → IsSound d → IsAsker d c.args.caller.now c.args.asker.now
    → HasRows rows d table_ids.Domain → HasRows rows d table_ids.Resolve → HasRows rows d table_ids.Working → HasRows rows d table_ids.Rev
    → IsMade rows d d (resolve d caller taking arguments) step in
    if_ok {Q = Q} _ _ c.within_files.ensures (λ step within d asks sound asked domain owed working revisions.
    let done = c.in_ok-done.done in
    let resolve_it : FileArgument → List ℕ → ModelStep = λ _. resolve_file taking d caller in
    let is = c.in_ok-listing.ensures in
    let P : Listing → Type 0 =
    λ l. IsMade rows d d (over_all (λ a. filter (names false d caller (at_head a.spec)) (files_of l d)) (λ (a : FileArgument). tells (rows_without l a)) resolve_it arguments) done in
    within rows d d _
    (subst (λ (m : ModelStep). IsMade rows d d m done) (over_all_heads d caller (opened_by d caller.client) not_open resolve_it arguments asks)
    (subst P is
    (c.in_ok-done.ensures d (record {
      sound = sound;
      asked = asked;
      listed = subst (λ (l : Listing). HasRows rows d (listing_table l)) (sym is) working;
      has_domain = domain;
      has_rev = revisions;
    }) (record { sound = sound; asked = asked; forms = domain; owed = owed; listed = working; revisions = revisions })))))
