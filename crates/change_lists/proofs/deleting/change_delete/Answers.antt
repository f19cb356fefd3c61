use Rattle.std.proofs.Common.{[], ◌∷◌, Option, refl, sym, ap, ◌∙◌}
use Rattle.std.specs.Prelude.{option_map}
use Rattle.depot_rows.specs.db_records.declared.record.Record.{Record}
use Rattle.depot_rows.specs.table_changes.Changed.{rows_of}
use Rattle.depot_rows.specs.depot_model.declared.refusal.Refusal.{Refusal}
use Rattle.depot_rows.specs.depot_model.Deeds.{Drop}
use Rattle.depot_rows.specs.depot_model.Refusals.{refusal_row}
use Rattle.depot_rows.specs.depot_model.Step.{does}
use Rattle.depot_rows.specs.depot_model.Steps.Changing.{delete_refusals}
use Rattle.depot_rows.specs.declared.deed.Deed.TheVariants as dones
use Rattle.reply_rows.proofs.Joined.{made_done}
use Rattle.command_parts.proofs.Refused.{granted_made, refused_made}
use Rattle.change_lists.specs.Deleting.{delete_told, deleted_row}
use Rattle.change_lists.proofs.Deleted.{delete_is, not_landed}
use Rattle.change_lists.proofs.deleting.change_delete.Goals as goal

pub returns-in_ok-step-in-Some : goal.returns-in_ok-step-in-Some
returns-in_ok-step-in-Some c = λ d sound has_change has_working.
    let caller = c.args.caller.now in
    let n = c.args.change in
    let holds = c.in_ok-holds.holds in
    refused_made (rows_of c.args.tables.now) d (delete_refusals d caller n) (does (Drop n ∷ []) (deleted_row n)) c.in-Some.row c.in_ok-step-in-Some.step
    (sym c.in-Some.is ∙ c.in_ok-refused.ensures ∙ ap (λ (r : Option Record). option_map refusal_row (delete_told caller n holds r)) (c.change_of-found.ensures d has_change)
    ∙ ap (λ (o : Option Refusal). option_map refusal_row o) (delete_is d caller n holds sound.landed_or_pending (c.in_ok-holds.ensures d sound has_working)))
    c.in_ok-step-in-Some.ensures

pub returns-in_ok-step-in-None : goal.returns-in_ok-step-in-None
returns-in_ok-step-in-None c = λ d sound has_change has_working.
    let all = rows_of c.args.tables.now in
    let caller = c.args.caller.now in
    let n = c.args.change in
    let holds = c.in_ok-holds.holds in
    let none = sym c.in-None.is ∙ c.in_ok-refused.ensures ∙ ap (λ (r : Option Record). option_map refusal_row (delete_told caller n holds r)) (c.change_of-found.ensures d has_change) in
    granted_made all d (delete_refusals d caller n) (does (Drop n ∷ []) (deleted_row n)) c.in_ok-step-in-None.step
    (none ∙ ap (λ (o : Option Refusal). option_map refusal_row o) (delete_is d caller n holds sound.landed_or_pending (c.in_ok-holds.ensures d sound has_working)))
    (made_done all d d (dones.Drop n ∷ []) (Drop n ∷ []) (deleted_row n) (deleted_row n) c.in_ok-step-in-None.step (refl, not_landed d caller n holds none, tt) refl refl
    c.in_ok-step-in-None.ensures)
