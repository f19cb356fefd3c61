use Rattle.std.proofs.Common.{◌≡◌, ℕ, List, [], Option, true, false, sym, ap, subst, ◌∙◌}
use Rattle.std.specs.Prelude.{filter}
use Rattle.depot_rows.specs.db_records.declared.table.TableId.TheVariants as table_ids
use Rattle.depot_rows.specs.table_changes.Changed.{AllRows, rows_of}
use Rattle.depot_rows.specs.depot_path.declared.file_spec.FileSpec.{FileSpec}
use Rattle.depot_rows.specs.depot_model.declared.command.FileArgument.{FileArgument}
use Rattle.depot_rows.specs.depot_model.declared.command.PatternArgument.{PatternArgument}
use Rattle.depot_rows.specs.depot_model.declared.request.Caller.{Caller}
use Rattle.depot_rows.specs.depot_model.Arguments.{named, names, opened_by, within_files}
use Rattle.depot_rows.specs.depot_model.Deeds.{Deed}
use Rattle.depot_rows.specs.depot_model.Rules.{IsSound}
use Rattle.depot_rows.specs.depot_model.Step.{Step as ModelStep}
use Rattle.depot_rows.specs.depot_model.Steps.Moving.{move, move_all}
use Rattle.depot_rows.specs.depot_model.WellFormed.{asks_head}
use Rattle.depot_rows.specs.Standing.{HasRows}
use Rattle.reply_rows.specs.Made.{IsMade}
use Rattle.reply_rows.specs.declared.step.Step.{Step}
use Rattle.named_files.specs.Asked.{IsAsker}
use Rattle.named_files.specs.declared.asker.Asker.{Asker}
use Rattle.named_files.specs.Listed.{files_of, listing_table}
use Rattle.named_files.specs.Sets.{at_head}
use Rattle.named_files.specs.declared.listing.Listing.{Listing}
use Rattle.named_files.specs.declared.listing.Listing.TheVariants.{OpenedBy}
use Rattle.named_files.proofs.Heads.{at_own_head}
use Rattle.command_parts.proofs.Refused.{first_told, if_ok, passed_first}
use Rattle.opened_files.proofs.Moves.{some_moved}
use Rattle.opened_files.proofs.moving.move_files.Goals as goal

abbrev Moves : AllRows → Caller → Asker → Option ℕ → FileArgument → PatternArgument → Step → Type 0
Moves rows caller asker change from to step =
    (d : List Deed) → asks_head from ≡ true → IsSound d → IsAsker d caller asker → HasRows rows d table_ids.Domain → HasRows rows d table_ids.Change
    → HasRows rows d table_ids.Working → HasRows rows d table_ids.Rev → IsMade rows d d (move d caller change from to) step

-- the files at their heads are those that the argument names
heads_named : (d : List Deed) (caller : Caller) (from : FileArgument) (listing : Listing) (paths : List (List ℕ)) → asks_head from ≡ true → listing ≡ OpenedBy caller.client
    → paths ≡ filter (names false d caller (at_head from.spec)) (files_of listing d) → paths ≡ named false d caller (opened_by d caller.client) from
heads_named d caller from listing paths asks is are =
    are ∙ ap (λ (l : Listing). filter (names false d caller (at_head from.spec)) (files_of l d)) is
    ∙ ap (λ (spec : FileSpec). filter (names false d caller spec) (opened_by d caller.client)) (at_own_head from asks)

pub returns-in-Some : goal.returns-in-Some
returns-in-Some c =
    let rows = rows_of c.args.tables.now in
    if_ok {Q = Moves rows c.args.caller.now c.args.asker.now c.args.change c.args.from.now c.args.to.now} _ _ c.tells.ensures (λ step told d asks sound asked domain change working revisions.
    first_told rows d d _ [] _ _ c.in-Some.row step c.in-Some.is (c.in_ok-row.ensures d change) told)

pub returns-then-is_empty : goal.returns-then-is_empty
returns-then-is_empty c =
    let rows = rows_of c.args.tables.now in
    let caller = c.args.caller.now in
    let from = c.args.from.now in
    let to = c.args.to.now in
    if_ok {Q = Moves rows caller c.args.asker.now c.args.change from to} _ _ c.not_open.ensures (λ step made d asks sound asked domain change working revisions.
    let is = c.in_ok-listing.ensures in
    let listed = subst (λ (l : Listing). HasRows rows d (listing_table l)) (sym is) working in
    let paths_are = heads_named d caller from c.in_ok-listing.listing c.in_ok-paths.paths asks is
    (c.in_ok-paths.ensures d (record { sound = sound; asked = asked; listed = listed; has_domain = domain; has_rev = revisions })) in
    passed_first rows d d _ [] _ _ step c.in_default.not-Some (c.in_ok-row.ensures d change)
    (subst (λ (ps : List (List ℕ)). IsMade rows d d (within_files (move_all d caller c.args.change from to ps)) step) (sym (c.is_empty.ensures.0 c.if-is_empty.true) ∙ paths_are)
    (made rows d d)))

pub returns : goal.returns
returns c =
    let rows = rows_of c.args.tables.now in
    let caller = c.args.caller.now in
    let from = c.args.from.now in
    let to = c.args.to.now in
    if_ok {Q = Moves rows caller c.args.asker.now c.args.change from to} _ _ c.within_files.ensures (λ step within d asks sound asked domain change working revisions.
    let is = c.in_ok-listing.ensures in
    let listed = subst (λ (l : Listing). HasRows rows d (listing_table l)) (sym is) working in
    let paths_are = heads_named d caller from c.in_ok-listing.listing c.in_ok-paths.paths asks is
    (c.in_ok-paths.ensures d (record { sound = sound; asked = asked; listed = listed; has_domain = domain; has_rev = revisions })) in
    let done = c.in_ok-done.done in
    let slice = c.as_slice.result.now in
    let some : slice ≡ [] → ⊥ = λ none. let empty : true ≡ false = sym (c.is_empty.ensures.1 (sym c.as_slice.ensures ∙ none)) ∙ c.if-is_empty.false in absurd cc in
    passed_first rows d d _ [] _ _ step c.in_default.not-Some (c.in_ok-row.ensures d change)
    (within rows d d _
    (subst (λ (ps : List (List ℕ)). IsMade rows d d (move_all d caller c.args.change from to ps) done) (c.as_slice.ensures ∙ paths_are)
    (subst (λ (m : ModelStep). IsMade rows d d m done) (some_moved d caller c.args.change from to slice some)
    (c.in_ok-done.ensures d d (record {
      reads = record { sound = sound; asked = asked; listed = working; revisions = revisions; head = asks };
      own_now = c.new.ensures caller.client d;
    }))))))
