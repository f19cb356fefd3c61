use Rattle.std.proofs.Common.{◌≡◌, ℕ, List, [], Option, Some, sym, ap, subst, ◌∙◌}
use Rattle.std.specs.Prelude.{option_map}
use Rattle.depot_rows.specs.db_records.declared.table.TableId.TheVariants as table_ids
use Rattle.depot_rows.specs.table_changes.Changed.{AllRows, rows_of}
use Rattle.depot_rows.specs.depot_model.declared.refusal.Refusal.TheVariants.{AlreadyOpen}
use Rattle.depot_rows.specs.depot_model.Deeds.{Deed, Opening}
use Rattle.depot_rows.specs.depot_model.Opened.{opened}
use Rattle.depot_rows.specs.depot_model.Rules.{IsSound}
use Rattle.depot_rows.specs.Deed.{action_of, opening_of}
use Rattle.depot_rows.specs.Standing.{HasRows}
use Rattle.depot_rows.specs.declared.deed.Opening.{Opening as Done}
use Rattle.reply_rows.specs.Made.{IsMade}
use Rattle.reply_rows.specs.declared.step.Step.{Step}
use Rattle.reply_rows.proofs.Joined.{made_refusal}
use Rattle.command_parts.proofs.Refused.{first_told, if_ok, passed_first}
use Rattle.opened_files.specs.Opens.{opens_next, opens_shown}
use Rattle.opened_files.specs.declared.editing.OpeningHad.{OpeningHad}
use Rattle.opened_files.proofs.Opens.{shown_by}
use Rattle.opened_files.proofs.editing.OpeningHad.open_again.Goals as goal

abbrev Opens : AllRows → OpeningHad → List ℕ → List ℕ → Done → Step → Type 0
Opens rows own path place opening step =
    (d e : List Deed) → IsSound d → HasRows rows d table_ids.Working → Some (opening_of opening) ≡ opened d own.caller.now.client path
    → IsMade rows d e (opens_shown d own.caller.now (action_of own.action) own.change own.file_type.now (Some place) path) step

pub returns-in-Some : goal.returns-in-Some
returns-in-Some c = if_ok {Q = Opens (rows_of c.args.tables.now) c.args.self.now c.args.path.now c.args.place.now c.args.opening} _ _ c.tells.ensures (λ step told d e sound working is.
    let own = c.args.self.now in
    let rows = rows_of c.args.tables.now in
    let by = shown_by d own.caller.now (action_of own.action) own.change own.file_type.now (Some c.args.place.now) c.args.path.now in
    subst (λ (o : Option Opening). IsMade rows d e (by o) step) is
    (first_told rows d e _ [] _ _ c.in-Some.row step c.in-Some.is (c.in_ok-refusal.ensures d sound working) told))

pub returns-in-Some-reopened : goal.returns-in-Some-reopened
returns-in-Some-reopened c = if_ok {Q = Opens (rows_of c.args.tables.now) c.args.self.now c.args.path.now c.args.place.now c.args.opening} _ _ c.open_file.ensures (λ step made d e sound working is.
    let own = c.args.self.now in
    let rows = rows_of c.args.tables.now in
    let place = Some c.args.place.now in
    let path = c.args.path.now in
    let by = shown_by d own.caller.now (action_of own.action) own.change own.file_type.now place path in
    subst (λ (o : Option Opening). IsMade rows d e (by o) step) is
    (passed_first rows d e _ [] _ _ step c.in_default.not-Some (c.in_ok-refusal.ensures d sound working)
    (subst (λ (o : Option Opening). IsMade rows d e (opens_next path place o) step) (ap (λ (o : Option Done). option_map opening_of o) (sym c.in-Some-reopened.is) ∙ c.reopened.ensures)
    (made rows d e))))

pub returns-in_ok-row-in-None : goal.returns-in_ok-row-in-None
returns-in_ok-row-in-None c = if_ok {Q = Opens (rows_of c.args.tables.now) c.args.self.now c.args.path.now c.args.place.now c.args.opening} _ _ c.tells-in-None.ensures (λ step told d e sound working is.
    let own = c.args.self.now in
    let rows = rows_of c.args.tables.now in
    let place = Some c.args.place.now in
    let path = c.args.path.now in
    let by = shown_by d own.caller.now (action_of own.action) own.change own.file_type.now place path in
    subst (λ (o : Option Opening). IsMade rows d e (by o) step) is
    (passed_first rows d e _ [] _ _ step c.in_default.not-Some (c.in_ok-refusal.ensures d sound working)
    (subst (λ (o : Option Opening). IsMade rows d e (opens_next path place o) step) (ap (λ (o : Option Done). option_map opening_of o) (sym c.in-None.is) ∙ c.reopened.ensures)
    (made_refusal rows d e (AlreadyOpen path) c.in_ok-row-in-None.row step c.in_ok-row-in-None.ensures told))))
