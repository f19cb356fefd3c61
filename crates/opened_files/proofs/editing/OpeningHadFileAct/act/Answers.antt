use Rattle.std.proofs.Common.{◌≡◌, List, ℕ, Option, Some, true, sym, ap, subst, ◌∙◌}
use Rattle.std.specs.Prelude.{is_none, option_map}
use Rattle.depot_rows.specs.depot_path.declared.revision.Wanted.TheVariants.{Head}
use Rattle.depot_rows.specs.table_changes.Changed.{AllRows, rows_of}
use Rattle.depot_rows.specs.depot_model.Choice.{shown}
use Rattle.depot_rows.specs.depot_model.Deeds.{Deed}
use Rattle.depot_rows.specs.depot_model.Steps.Editing.{open_file}
use Rattle.depot_rows.specs.Deed.{action_of, opening_of}
use Rattle.depot_rows.specs.declared.deed.Opening.{Opening as DoneOpening}
use Rattle.reply_rows.specs.Made.{IsMade}
use Rattle.reply_rows.specs.declared.step.Step.{Step}
use Rattle.command_parts.proofs.Refused.{first_told, holding_told, if_ok, none_found, passed_first, passed_if}
use Rattle.opened_files.specs.Opens.{Reads, opens_shown}
use Rattle.opened_files.specs.declared.editing.OpeningHad.{OpeningHad}
use Rattle.opened_files.proofs.editing.OpeningHadFileAct.act.Goals as goal

abbrev Done : AllRows → OpeningHad → List ℕ → Step → Type 0
Done rows own path step =
    (d e : List Deed) → Reads own.caller.now own.asker.now rows d → Unit {0}
    → IsMade rows d e (open_file d own.caller.now (action_of own.action) own.change own.file_type.now path) step

pub returns-in-Some : goal.returns-in-Some
returns-in-Some c = if_ok {Q = Done (rows_of c.args.tables.now) c.args.self.now c.args.path.now} _ _ c.tells.ensures (λ step told d e reads later.
    first_told (rows_of c.args.tables.now) d e _ _ _ _ c.in-Some.row step c.in-Some.is (c.in_ok-row.ensures d c.args.self.now.caller.now reads.asked) told)

pub returns-in_default-2 : goal.returns-in_default-2
returns-in_default-2 c = if_ok {Q = Done (rows_of c.args.tables.now) c.args.self.now c.args.path.now} _ _ c.tells-in_default-2.ensures (λ step told d e reads later.
    let caller = c.args.self.now.caller.now in
    let path = c.args.path.now in
    let rows = rows_of c.args.tables.now in
    let none : is_none (shown d caller Head path) ≡ true =
    ap is_none (sym (c.in_ok-place.ensures d reads.sound reads.forms reads.revisions (reads.revisions, tt)) ∙ none_found _ c.in_default-2.not-Some) in
    passed_first rows d e _ _ _ _ step c.in_default.not-Some (c.in_ok-row.ensures d caller reads.asked)
    (holding_told rows d e _ _ _ _ c.in_ok-row-2.row step none c.in_ok-row-2.ensures told))

pub returns-in-Some-3 : goal.returns-in-Some-3
returns-in-Some-3 c = if_ok {Q = Done (rows_of c.args.tables.now) c.args.self.now c.args.path.now} _ _ c.open_again.ensures (λ step made d e reads later.
    let own = c.args.self.now in
    let caller = own.caller.now in
    let path = c.args.path.now in
    let rows = rows_of c.args.tables.now in
    let place : Some c.in-Some-2.place ≡ shown d caller Head path = sym c.in-Some-2.is ∙ c.in_ok-place.ensures d reads.sound reads.forms reads.revisions (reads.revisions, tt) in
    passed_first rows d e _ _ _ _ step c.in_default.not-Some (c.in_ok-row.ensures d caller reads.asked)
    (passed_if rows d e _ _ _ _ step (sym (ap is_none place))
    (subst (λ (p : Option (List ℕ)). IsMade rows d e (opens_shown d caller (action_of own.action) own.change own.file_type.now p path) step) place
    (made d e reads.sound reads.listed (ap (λ (o : Option DoneOpening). option_map opening_of o) (sym c.in-Some-3.is) ∙ c.in_ok-opening.ensures d reads.sound reads.listed)))))

pub returns : goal.returns
returns c = if_ok {Q = Done (rows_of c.args.tables.now) c.args.self.now c.args.path.now} _ _ c.open_new.ensures (λ step made d e reads later.
    let own = c.args.self.now in
    let caller = own.caller.now in
    let path = c.args.path.now in
    let rows = rows_of c.args.tables.now in
    let place : Some c.in-Some-2.place ≡ shown d caller Head path = sym c.in-Some-2.is ∙ c.in_ok-place.ensures d reads.sound reads.forms reads.revisions (reads.revisions, tt) in
    passed_first rows d e _ _ _ _ step c.in_default.not-Some (c.in_ok-row.ensures d caller reads.asked)
    (passed_if rows d e _ _ _ _ step (sym (ap is_none place))
    (subst (λ (p : Option (List ℕ)). IsMade rows d e (opens_shown d caller (action_of own.action) own.change own.file_type.now p path) step) place
    (made d e reads (ap (λ (o : Option DoneOpening). option_map opening_of o) (sym c.in-None.is) ∙ c.in_ok-opening.ensures d reads.sound reads.listed)))))
