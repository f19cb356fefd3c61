use Rattle.std.proofs.Common.{◌≡◌, Bool, List, ℕ, Option, Some, true, sym, ap, subst, ◌∙◌}
use Rattle.std.specs.Prelude.{is_none, option_map}
use Rattle.depot_rows.specs.depot_path.declared.revision.Wanted.TheVariants.{Head}
use Rattle.depot_rows.specs.table_changes.Changed.{AllRows, rows_of}
use Rattle.depot_rows.specs.depot_model.Choice.{shown}
use Rattle.depot_rows.specs.depot_model.Deeds.{Deed, Opening}
use Rattle.depot_rows.specs.depot_model.Refusals.{refusal_row}
use Rattle.depot_rows.specs.depot_model.Revisions.{is_live_head}
use Rattle.depot_rows.specs.depot_model.Steps.Adding.{add_file, opening}
use Rattle.depot_rows.specs.depot_model.Steps.Opening.{exclusive_refusal}
use Rattle.depot_rows.specs.Deed.{opening_of}
use Rattle.depot_rows.specs.declared.deed.Action.TheVariants.{Add}
use Rattle.depot_rows.specs.declared.deed.Opening.{Opening as DoneOpening}
use Rattle.reply_rows.specs.Made.{IsMade}
use Rattle.reply_rows.specs.declared.step.Step.{Step}
use Rattle.command_parts.proofs.Refused.{first_told, holding_told, if_ok, none_found, passed_first, passed_if}
use Rattle.opened_files.specs.Adds.{Reads, new_refusal}
use Rattle.opened_files.specs.Opens.{new_opening, open_step}
use Rattle.opened_files.specs.declared.adding.Adding.{Adding}
use Rattle.opened_files.proofs.Adds.{new_passed, new_told}
use Rattle.opened_files.proofs.adding.AddingFileAct.act.Goals as goal

abbrev Done : AllRows → Adding → List ℕ → Step → Type 0
Done rows own path step =
    (d e : List Deed) → Reads own.caller.now own.asker.now rows d → Unit {0} → IsMade rows d e (add_file d own.caller.now own.change own.file_type.now path) step

pub returns-in-Some : goal.returns-in-Some
returns-in-Some c = if_ok {Q = Done (rows_of c.args.tables.now) c.args.self.now c.args.path.now} _ _ c.tells.ensures (λ step told d e reads later.
    first_told (rows_of c.args.tables.now) d e _ _ _ _ c.in-Some.row step c.in-Some.is (c.in_ok-row.ensures d c.args.self.now.caller.now reads.asked) told)

pub returns-in_default-2 : goal.returns-in_default-2
returns-in_default-2 c = if_ok {Q = Done (rows_of c.args.tables.now) c.args.self.now c.args.path.now} _ _ c.tells-in_default-2.ensures (λ step told d e reads later.
    let caller = c.args.self.now.caller.now in
    let rows = rows_of c.args.tables.now in
    let none : is_none (shown d caller Head c.args.path.now) ≡ true =
    ap is_none (sym (c.in_ok-place.ensures d reads.sound reads.revisions (reads.revisions, tt) reads.asked.view) ∙ none_found _ c.in_default-2.not-Some) in
    passed_first rows d e _ _ _ _ step c.in_default.not-Some (c.in_ok-row.ensures d caller reads.asked)
    (holding_told rows d e _ _ _ _ c.in_ok-row-2.row step none c.in_ok-row-2.ensures told))

pub returns-in-Some-3 : goal.returns-in-Some-3
returns-in-Some-3 c = if_ok {Q = Done (rows_of c.args.tables.now) c.args.self.now c.args.path.now} _ _ c.tells-in-Some-3.ensures (λ step told d e reads later.
    let own = c.args.self.now in
    let caller = own.caller.now in
    let path = c.args.path.now in
    let rows = rows_of c.args.tables.now in
    let barred = exclusive_refusal d path caller.client own.file_type.now in
    let place : Some c.in-Some-2.place ≡ shown d caller Head path = sym c.in-Some-2.is ∙ c.in_ok-place.ensures d reads.sound reads.revisions (reads.revisions, tt) reads.asked.view in
    passed_first rows d e _ _ _ _ step c.in_default.not-Some (c.in_ok-row.ensures d caller reads.asked)
    (passed_if rows d e _ _ _ _ step (sym (ap is_none place))
    (new_told rows d e path _ (is_live_head d path) barred _ _ step c.in-Some-3.row c.in-Some-3.is
    (c.in_ok-row-3.ensures d reads.sound reads.listed reads.revisions
    ∙ ap (λ (b : Bool). option_map refusal_row (new_refusal path b (is_live_head d path) barred)) (c.in_ok-open.ensures d reads.listed)) told)))

pub returns : goal.returns
returns c = if_ok {Q = Done (rows_of c.args.tables.now) c.args.self.now c.args.path.now} _ _ c.open_file.ensures (λ step made d e reads later.
    let own = c.args.self.now in
    let caller = own.caller.now in
    let path = c.args.path.now in
    let type = own.file_type.now in
    let rows = rows_of c.args.tables.now in
    let barred = exclusive_refusal d path caller.client type in
    let place : Some c.in-Some-2.place ≡ shown d caller Head path = sym c.in-Some-2.is ∙ c.in_ok-place.ensures d reads.sound reads.revisions (reads.revisions, tt) reads.asked.view in
    passed_first rows d e _ _ _ _ step c.in_default.not-Some (c.in_ok-row.ensures d caller reads.asked)
    (passed_if rows d e _ _ _ _ step (sym (ap is_none place))
    (new_passed rows d e path _ (is_live_head d path) barred _ _ step c.in_default-3.not-Some
    (c.in_ok-row-3.ensures d reads.sound reads.listed reads.revisions
    ∙ ap (λ (b : Bool). option_map refusal_row (new_refusal path b (is_live_head d path) barred)) (c.in_ok-open.ensures d reads.listed))
    (subst (λ (p : Option (List ℕ)). IsMade rows d e (open_step (opening d caller own.change type path) p) step) place
    (subst (λ (o : Opening). IsMade rows d e (open_step o (Some c.in-Some-2.place)) step)
    (ap (λ (o : DoneOpening). opening_of o) c.in_ok-opening.ensures
    ∙ ap (λ (t : List ℕ). opening_of (new_opening caller path c.in_ok-base.base Add own.change t)) c.in_ok-file_type.ensures
    ∙ ap (λ (n : ℕ). opening_of (new_opening caller path n Add own.change type)) (c.in_ok-base.ensures d reads.sound reads.revisions))
    (made rows d e))))))
