use Rattle.std.proofs.Common.{◌≡◌, None, refl, sym, subst}
use Rattle.depot_rows.specs.db_records.declared.table.TableId.TheVariants as tables
use Rattle.depot_rows.specs.table_changes.Changed.{rows_of}
use Rattle.depot_rows.specs.depot_model.declared.command.Command.{Command}
use Rattle.depot_rows.specs.depot_model.Commands.{own_step}
use Rattle.depot_rows.specs.depot_model.Common.{last_refusals}
use Rattle.step_stores.specs.Stored.{IsStoring}
use Rattle.command_core.specs.Outcomes.{HasTouched}
use Rattle.reply_rows.specs.Refusing.{first_of}
use Rattle.command_core.proofs.Refusals.{not_shelved}
use Rattle.command_core.proofs.submit_commands.submit_step.Goals as goal

pub returns-in_ok-submitted-in-SubmitDefault : goal.returns-in_ok-submitted-in-SubmitDefault
returns-in_ok-submitted-in-SubmitDefault c = λ d sound asked family none has.
    let submitted = c.in_ok-submitted-in-SubmitDefault in
    let P : Command → Type 0 = λ k. HasTouched (rows_of c.args.tables.now) d k
    → IsStoring (rows_of c.args.tables.now) c.args.tables.now.archive_end d (own_step d c.args.request.now k) submitted.submitted in
    subst P (sym c.in-SubmitDefault.is) (λ has. submitted.ensures d sound asked (has tables.Counter refl) (has tables.Domain refl) (has tables.Resolve refl) (has tables.Working refl) (has tables.Rev refl)) has

pub returns-in_ok-submitted-in-SubmitChange : goal.returns-in_ok-submitted-in-SubmitChange
returns-in_ok-submitted-in-SubmitChange c = λ d sound asked family none has.
    let submitted = c.in_ok-submitted-in-SubmitChange in
    let P : Command → Type 0 = λ k. first_of (last_refusals d k) ≡ None → HasTouched (rows_of c.args.tables.now) d k
    → IsStoring (rows_of c.args.tables.now) c.args.tables.now.archive_end d (own_step d c.args.request.now k) submitted.submitted in
    subst P (sym c.in-SubmitChange.is) (λ none has. submitted.ensures d sound (not_shelved _ _ none) asked (has tables.Counter refl) (has tables.Domain refl) (has tables.Resolve refl) (has tables.Working refl) (has tables.Change refl) (has tables.Rev refl)) none has
