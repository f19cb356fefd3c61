use Rattle.std.proofs.Common.{◌≡◌, ℕ, List, [], ◌∷◌, Option, Some, None, ap, subst, ◌∙◌}
use Rattle.depot_rows.specs.table_changes.Changed.{AllRows, rows_of}
use Rattle.depot_rows.specs.depot_model.Deeds.{Deed, Opening}
use Rattle.depot_rows.specs.depot_model.Opened.{opened}
use Rattle.depot_rows.specs.depot_model.Step.{unless}
use Rattle.depot_rows.specs.depot_model.Steps.Editing.{opening}
use Rattle.depot_rows.specs.depot_model.Steps.Opening.{exclusive_refusal}
use Rattle.depot_rows.specs.Deed.{action_of, opening_of}
use Rattle.depot_rows.specs.declared.deed.Opening.{Opening as Done}
use Rattle.reply_rows.specs.Made.{IsMade}
use Rattle.reply_rows.specs.declared.step.Step.{Step}
use Rattle.command_parts.proofs.Refused.{first_told, if_ok, passed_first}
use Rattle.opened_files.specs.Opens.{Reads, new_opening, open_step, opens_shown}
use Rattle.opened_files.specs.declared.editing.OpeningHad.{OpeningHad}
use Rattle.opened_files.proofs.Opens.{shown_by}
use Rattle.opened_files.proofs.editing.OpeningHad.open_new.Goals as goal

abbrev Opens : AllRows → OpeningHad → List ℕ → List ℕ → Step → Type 0
Opens rows own path place step =
    (d e : List Deed) → Reads own.caller.now own.asker.now rows d → None ≡ opened d own.caller.now.client path
    → IsMade rows d e (opens_shown d own.caller.now (action_of own.action) own.change own.file_type.now (Some place) path) step

pub returns-in-Some : goal.returns-in-Some
returns-in-Some c = if_ok {Q = Opens (rows_of c.args.tables.now) c.args.self.now c.args.path.now c.args.place.now} _ _ c.tells.ensures (λ step told d e reads is.
    let own = c.args.self.now in
    let caller = own.caller.now in
    let rows = rows_of c.args.tables.now in
    let place = Some c.args.place.now in
    let path = c.args.path.now in
    let action = action_of own.action in
    let by = shown_by d caller action own.change own.file_type.now place path in
    subst (λ (o : Option Opening). IsMade rows d e (by o) step) is
    (subst (λ (t : List ℕ). IsMade rows d e (unless (exclusive_refusal d path caller.client t ∷ []) (open_step (opening d caller action own.change t path) place)) step)
    (c.in_ok-file_type.ensures d reads.had reads.revisions)
    (first_told rows d e _ [] _ _ c.in-Some.row step c.in-Some.is (c.in_ok-row.ensures d reads.sound reads.listed) told)))

pub returns : goal.returns
returns c = if_ok {Q = Opens (rows_of c.args.tables.now) c.args.self.now c.args.path.now c.args.place.now} _ _ c.open_file.ensures (λ step made d e reads is.
    let own = c.args.self.now in
    let caller = own.caller.now in
    let rows = rows_of c.args.tables.now in
    let place = Some c.args.place.now in
    let path = c.args.path.now in
    let action = action_of own.action in
    let type = c.in_ok-file_type.file_type in
    let by = shown_by d caller action own.change own.file_type.now place path in
    subst (λ (o : Option Opening). IsMade rows d e (by o) step) is
    (subst (λ (t : List ℕ). IsMade rows d e (unless (exclusive_refusal d path caller.client t ∷ []) (open_step (opening d caller action own.change t path) place)) step)
    (c.in_ok-file_type.ensures d reads.had reads.revisions)
    (passed_first rows d e _ [] _ _ step c.in_default.not-Some (c.in_ok-row.ensures d reads.sound reads.listed)
    (subst (λ (o : Opening). IsMade rows d e (open_step o place) step)
    (ap (λ (o : Done). opening_of o) c.in_ok-opening.ensures
    ∙ ap (λ (n : ℕ). opening_of (new_opening caller path n own.action own.change type)) (c.in_ok-base.ensures d reads.had))
    (made rows d e)))))
