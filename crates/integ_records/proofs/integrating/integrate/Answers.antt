use Rattle.std.proofs.Common.{◌≡◌, ℕ, List, [], Option, true, false, sym, subst, ◌∙◌}
use Rattle.depot_rows.specs.db_records.declared.table.TableId.TheVariants as table_ids
use Rattle.depot_rows.specs.table_changes.Changed.{AllRows, rows_of}
use Rattle.depot_rows.specs.depot_model.declared.command.FileArgument.{FileArgument}
use Rattle.depot_rows.specs.depot_model.declared.command.PatternArgument.{PatternArgument}
use Rattle.depot_rows.specs.depot_model.declared.request.Caller.{Caller}
use Rattle.depot_rows.specs.depot_model.Arguments.{named, submitted, within_files}
use Rattle.depot_rows.specs.depot_model.Deeds.{Deed}
use Rattle.depot_rows.specs.depot_model.Rules.{IsSound}
use Rattle.depot_rows.specs.depot_model.Step.{Step as ModelStep}
use Rattle.depot_rows.specs.depot_model.Steps.Integrating.{integrate, integrate_all}
use Rattle.depot_rows.specs.Standing.{HasRows}
use Rattle.reply_rows.specs.Made.{IsMade}
use Rattle.reply_rows.specs.declared.step.Step.{Step}
use Rattle.named_files.specs.Asked.{IsAsker}
use Rattle.named_files.specs.declared.asker.Asker.{Asker}
use Rattle.command_parts.proofs.Refused.{first_told, if_ok, passed_first}
use Rattle.integ_records.specs.Reading.{Reads}
use Rattle.integ_records.proofs.Integrated.{some_integrated}
use Rattle.integ_records.proofs.integrating.integrate.Goals as goal

abbrev Integrates : AllRows → Caller → Asker → Option ℕ → FileArgument → PatternArgument → Step → Type 0
Integrates rows caller asker change from to step =
    (d : List Deed) → IsSound d → IsAsker d caller asker → HasRows rows d table_ids.Domain → HasRows rows d table_ids.Have → HasRows rows d table_ids.Label
    → HasRows rows d table_ids.Integed → HasRows rows d table_ids.Working → HasRows rows d table_ids.Change → HasRows rows d table_ids.Rev
    → IsMade rows d d (integrate d caller change from to) step

pub returns-in-Some : goal.returns-in-Some
returns-in-Some c =
    let rows = rows_of c.args.tables.now in
    if_ok {Q = Integrates rows c.args.caller.now c.args.asker.now c.args.change c.args.from.now c.args.to.now} _ _ c.tells.ensures
    (λ step told d sound asked domain have label integed working change rev.
    first_told rows d d _ [] _ _ c.in-Some.row step c.in-Some.is (c.in_ok-row.ensures d change) told)

pub returns-then-is_empty : goal.returns-then-is_empty
returns-then-is_empty c =
    let rows = rows_of c.args.tables.now in
    let caller = c.args.caller.now in
    let from = c.args.from.now in
    let to = c.args.to.now in
    if_ok {Q = Integrates rows caller c.args.asker.now c.args.change from to} _ _ c.no_file.ensures
    (λ step made d sound asked domain have label integed working change rev.
    let paths_are : c.in_ok-paths.paths ≡ named false d caller (submitted d) from =
    c.in_ok-paths.ensures d
    (record { sound = sound; asked = asked; listed = rev; has_have = have; has_label = label; has_domain = domain; has_rev = rev; has_change = change }) in
    passed_first rows d d _ [] _ _ step c.in_default.not-Some (c.in_ok-row.ensures d change)
    (subst (λ (ps : List (List ℕ)). IsMade rows d d (within_files (integrate_all d caller c.args.change from to ps)) step) (sym (c.is_empty.ensures.0 c.if-is_empty.true) ∙ paths_are)
    (made rows d d)))

pub returns : goal.returns
returns c =
    let rows = rows_of c.args.tables.now in
    let caller = c.args.caller.now in
    let from = c.args.from.now in
    let to = c.args.to.now in
    if_ok {Q = Integrates rows caller c.args.asker.now c.args.change from to} _ _ c.within_files.ensures
    (λ step within d sound asked domain have label integed working change rev.
    let reads : Reads caller c.args.asker.now rows d = record {
      shown = record { sound = sound; asked = asked; listed = rev; has_have = have; has_label = label; has_domain = domain; has_rev = rev; has_change = change };
      integed = integed;
      working = working;
    } in
    let paths_are : c.in_ok-paths.paths ≡ named false d caller (submitted d) from = c.in_ok-paths.ensures d reads.shown in
    let done = c.in_ok-done.done in
    let slice = c.as_slice.result.now in
    let some : slice ≡ [] → ⊥ = λ none. let empty : true ≡ false = sym (c.is_empty.ensures.1 (sym c.as_slice.ensures ∙ none)) ∙ c.if-is_empty.false in absurd cc in
    passed_first rows d d _ [] _ _ step c.in_default.not-Some (c.in_ok-row.ensures d change)
    (within rows d d _
    (subst (λ (ps : List (List ℕ)). IsMade rows d d (integrate_all d caller c.args.change from to ps) done) (c.as_slice.ensures ∙ paths_are)
    (subst (λ (m : ModelStep). IsMade rows d d m done) (some_integrated d caller c.args.change from to slice some)
    (c.in_ok-done.ensures d d (record { reads = reads; is_own = c.new.ensures caller.client d }))))))
