use Rattle.std.proofs.Common.{◌≡◌, ℕ, true, false, List, [], sym, subst}
use Rattle.std.specs.Prelude.{filter}
use Rattle.std.specs.List.{list_all}
use Rattle.depot_rows.specs.db_records.declared.table.TableId.TheVariants as table_ids
use Rattle.depot_rows.specs.table_changes.Changed.{rows_of}
use Rattle.depot_rows.specs.depot_model.declared.command.FileArgument.{FileArgument}
use Rattle.depot_rows.specs.depot_model.Arguments.{had, names, no_file, over}
use Rattle.depot_rows.specs.depot_model.Deeds.{Deed}
use Rattle.depot_rows.specs.depot_model.Rules.{IsSound}
use Rattle.depot_rows.specs.depot_model.Step.{Step as ModelStep, tells}
use Rattle.depot_rows.specs.depot_model.Steps.Editing.{open_file, open_had}
use Rattle.depot_rows.specs.depot_model.WellFormed.{asks_head}
use Rattle.depot_rows.specs.Deed.{action_of}
use Rattle.depot_rows.specs.Standing.{HasRows}
use Rattle.reply_rows.specs.Made.{IsMade}
use Rattle.reply_rows.specs.declared.step.Step.{Step}
use Rattle.named_files.specs.Asked.{IsAsker}
use Rattle.named_files.specs.Listed.{files_of, listing_table}
use Rattle.named_files.specs.Sets.{at_head, rows_without}
use Rattle.named_files.specs.declared.listing.Listing.{Listing}
use Rattle.named_files.proofs.Heads.{over_heads}
use Rattle.command_parts.proofs.Refused.{first_told, if_ok, passed_first}
use Rattle.opened_files.proofs.editing.open_had.Goals as goal

pub returns-in-Some : goal.returns-in-Some
returns-in-Some c =
    let rows = rows_of c.args.tables.now in
    let Q : Step → Type 0 = λ step. (d : List Deed) → list_all asks_head c.args.arguments.now ≡ true → IsSound d
    → IsAsker d c.args.caller.now c.args.asker.now → HasRows rows d table_ids.Domain → HasRows rows d table_ids.Have → HasRows rows d table_ids.Working
    → HasRows rows d table_ids.Change → HasRows rows d table_ids.Rev
    → IsMade rows d d (open_had (action_of c.args.action) d c.args.caller.now c.args.change c.args.file_type.now c.args.arguments.now) step in
    if_ok {Q = Q} _ _ c.tells.ensures (λ step told d asks sound asked domain had working change revisions.
    first_told rows d d _ _ _ _ c.in-Some.row step c.in-Some.is (c.in_ok-row.ensures d change) told)

pub returns : goal.returns
returns c =
    let rows = rows_of c.args.tables.now in
    let Q : Step → Type 0 = λ step. (d : List Deed) → list_all asks_head c.args.arguments.now ≡ true → IsSound d
    → IsAsker d c.args.caller.now c.args.asker.now → HasRows rows d table_ids.Domain → HasRows rows d table_ids.Have → HasRows rows d table_ids.Working
    → HasRows rows d table_ids.Change → HasRows rows d table_ids.Rev
    → IsMade rows d d (open_had (action_of c.args.action) d c.args.caller.now c.args.change c.args.file_type.now c.args.arguments.now) step in
    if_ok {Q = Q} _ _ c.within_files.ensures (λ step within d asks sound asked domain has_had working change revisions.
    let caller = c.args.caller.now in
    let arguments = c.args.arguments.now in
    let done = c.in_ok-done.done in
    let open_it : FileArgument → List ℕ → ModelStep = λ _. open_file d caller (action_of c.args.action) c.args.change c.args.file_type.now in
    let is = c.in_ok-listing.ensures in
    let P : Listing → Type 0 =
    λ l. IsMade rows d d (over (λ a. filter (names false d caller (at_head a.spec)) (files_of l d)) (λ (a : FileArgument). tells (rows_without l a)) open_it [] arguments) done in
    passed_first rows d d _ _ _ _ step c.in_default.not-Some (c.in_ok-row.ensures d change)
    (within rows d d _
    (subst (λ (m : ModelStep). IsMade rows d d m done) (over_heads d caller (had d caller.client) no_file open_it arguments asks)
    (subst P is
    (c.in_ok-done.ensures d (record {
      sound = sound;
      asked = asked;
      listed = subst (λ (l : Listing). HasRows rows d (listing_table l)) (sym is) has_had;
      has_domain = domain;
      has_rev = revisions;
    }) (record { sound = sound; asked = asked; forms = domain; had = has_had; listed = working; revisions = revisions }))))))
