use Rattle.std.proofs.Common.{List, ℕ, refl, sym, subst}
use Rattle.depot_rows.specs.db_records.declared.table.TableId.TheVariants as tables
use Rattle.depot_rows.specs.table_changes.Changed.{rows_of}
use Rattle.depot_rows.specs.depot_model.declared.command.Command.{Command}
use Rattle.depot_rows.specs.depot_model.Commands.{own_step}
use Rattle.depot_rows.specs.depot_model.Steps.Changing.{change_save}
use Rattle.depot_rows.specs.depot_model.Steps.Clients.{client_save, client_show}
use Rattle.depot_rows.specs.depot_model.Steps.Groups.{group_save}
use Rattle.depot_rows.specs.depot_model.Steps.Labels.{label_save}
use Rattle.depot_rows.specs.depot_model.Steps.Protections.{protect_save}
use Rattle.reply_rows.specs.Made.{IsMade}
use Rattle.command_core.specs.Outcomes.{HasTouched}
use Rattle.command_core.proofs.spec_commands.spec_step.Goals as goal

pub returns-in_ok-shown-in-CounterShow : goal.returns-in_ok-shown-in-CounterShow
returns-in_ok-shown-in-CounterShow c = λ d sound family formed has.
    let shown = c.in_ok-shown-in-CounterShow in
    let P : Command → Type 0 = λ k. HasTouched (rows_of c.args.tables.now) d k → IsMade (rows_of c.args.tables.now) d d (own_step d c.args.request.now k) shown.shown in
    subst P (sym c.in-CounterShow.is) (λ has. shown.ensures d (has tables.Counter refl)) has

pub returns-in_ok-set-in-CounterSet : goal.returns-in_ok-set-in-CounterSet
returns-in_ok-set-in-CounterSet c = λ d sound family formed has.
    let set = c.in_ok-set-in-CounterSet in
    let P : Command → Type 0 = λ k. IsMade (rows_of c.args.tables.now) d d (own_step d c.args.request.now k) set.set in
    subst P (sym c.in-CounterSet.is) (set.ensures (rows_of c.args.tables.now) d)

pub returns-in_ok-deleted-in-CounterDelete : goal.returns-in_ok-deleted-in-CounterDelete
returns-in_ok-deleted-in-CounterDelete c = λ d sound family formed has.
    let deleted = c.in_ok-deleted-in-CounterDelete in
    let P : Command → Type 0 = λ k. IsMade (rows_of c.args.tables.now) d d (own_step d c.args.request.now k) deleted.deleted in
    subst P (sym c.in-CounterDelete.is) (deleted.ensures (rows_of c.args.tables.now) d)

pub returns-in_ok-listed-in-Counters : goal.returns-in_ok-listed-in-Counters
returns-in_ok-listed-in-Counters c = λ d sound family formed has.
    let listed = c.in_ok-listed-in-Counters in
    let P : Command → Type 0 = λ k. HasTouched (rows_of c.args.tables.now) d k → IsMade (rows_of c.args.tables.now) d d (own_step d c.args.request.now k) listed.listed in
    subst P (sym c.in-Counters.is) (λ has. listed.ensures d (has tables.Counter refl)) has

pub returns-in_ok-shown-in-ClientShow : goal.returns-in_ok-shown-in-ClientShow
returns-in_ok-shown-in-ClientShow c = λ d sound family formed has.
    let shown = c.in_ok-shown-in-ClientShow in
    let P : Command → Type 0 = λ k. HasTouched (rows_of c.args.tables.now) d k → IsMade (rows_of c.args.tables.now) d d (own_step d c.args.request.now k) shown.shown in
    subst P (sym c.in-ClientShow.is) (λ has. subst (λ name. IsMade (rows_of c.args.tables.now) d d (client_show d name) shown.shown) c.client_of.ensures (shown.ensures d sound (has tables.Domain refl))) has

pub returns-in_ok-saved-in-ClientSave : goal.returns-in_ok-saved-in-ClientSave
returns-in_ok-saved-in-ClientSave c = λ d sound family formed has.
    let saved = c.in_ok-saved-in-ClientSave in
    let P : Command → Type 0 = λ k. IsMade (rows_of c.args.tables.now) d d (own_step d c.args.request.now k) saved.saved in
    subst P (sym c.in-ClientSave.is) (subst (λ input. IsMade (rows_of c.args.tables.now) d d (client_save input) saved.saved) c.input_of.ensures (saved.ensures (rows_of c.args.tables.now) d))

pub returns-in_ok-shown-in-LabelShow : goal.returns-in_ok-shown-in-LabelShow
returns-in_ok-shown-in-LabelShow c = λ d sound family formed has.
    let shown = c.in_ok-shown-in-LabelShow in
    let P : Command → Type 0 = λ k. HasTouched (rows_of c.args.tables.now) d k → IsMade (rows_of c.args.tables.now) d d (own_step d c.args.request.now k) shown.shown in
    subst P (sym c.in-LabelShow.is) (λ has. shown.ensures d sound (has tables.Domain refl)) has

pub returns-in_ok-saved-in-LabelSave : goal.returns-in_ok-saved-in-LabelSave
returns-in_ok-saved-in-LabelSave c = λ d sound family formed has.
    let saved = c.in_ok-saved-in-LabelSave in
    let P : Command → Type 0 = λ k. HasTouched (rows_of c.args.tables.now) d k → IsMade (rows_of c.args.tables.now) d d (own_step d c.args.request.now k) saved.saved in
    subst P (sym c.in-LabelSave.is) (λ has. subst (λ input. IsMade (rows_of c.args.tables.now) d d (label_save d input) saved.saved) c.input_of-in-LabelSave.ensures (saved.ensures d sound (has tables.Domain refl))) has

pub returns-in_ok-listed-in-Labels : goal.returns-in_ok-listed-in-Labels
returns-in_ok-listed-in-Labels c = λ d sound family formed has.
    let listed = c.in_ok-listed-in-Labels in
    let P : Command → Type 0 = λ k. HasTouched (rows_of c.args.tables.now) d k → IsMade (rows_of c.args.tables.now) d d (own_step d c.args.request.now k) listed.listed in
    subst P (sym c.in-Labels.is) (λ has. listed.ensures d sound (has tables.Domain refl)) has

pub returns-in_ok-shown-in-GroupShow : goal.returns-in_ok-shown-in-GroupShow
returns-in_ok-shown-in-GroupShow c = λ d sound family formed has.
    let shown = c.in_ok-shown-in-GroupShow in
    let P : Command → Type 0 = λ k. HasTouched (rows_of c.args.tables.now) d k → IsMade (rows_of c.args.tables.now) d d (own_step d c.args.request.now k) shown.shown in
    subst P (sym c.in-GroupShow.is) (λ has. shown.ensures d (has tables.Group refl)) has

pub returns-in_ok-saved-in-GroupSave : goal.returns-in_ok-saved-in-GroupSave
returns-in_ok-saved-in-GroupSave c = λ d sound family formed has.
    let saved = c.in_ok-saved-in-GroupSave in
    let P : Command → Type 0 = λ k. IsMade (rows_of c.args.tables.now) d d (own_step d c.args.request.now k) saved.saved in
    subst P (sym c.in-GroupSave.is) (subst (λ input. IsMade (rows_of c.args.tables.now) d d (group_save input) saved.saved) c.input_of-in-GroupSave.ensures (saved.ensures (rows_of c.args.tables.now) d))

pub returns-in_ok-shown-in-ProtectShow : goal.returns-in_ok-shown-in-ProtectShow
returns-in_ok-shown-in-ProtectShow c = λ d sound family formed has.
    let shown = c.in_ok-shown-in-ProtectShow in
    let P : Command → Type 0 = λ k. HasTouched (rows_of c.args.tables.now) d k → IsMade (rows_of c.args.tables.now) d d (own_step d c.args.request.now k) shown.shown in
    subst P (sym c.in-ProtectShow.is) (λ has. shown.ensures d sound (has tables.Protect refl)) has

pub returns-in_ok-saved-in-ProtectSave : goal.returns-in_ok-saved-in-ProtectSave
returns-in_ok-saved-in-ProtectSave c = λ d sound family formed has.
    let saved = c.in_ok-saved-in-ProtectSave in
    let P : Command → Type 0 = λ k. IsMade (rows_of c.args.tables.now) d d (own_step d c.args.request.now k) saved.saved in
    subst P (sym c.in-ProtectSave.is) (subst (λ input. IsMade (rows_of c.args.tables.now) d d (protect_save input) saved.saved) c.input_of-in-ProtectSave.ensures (saved.ensures (rows_of c.args.tables.now) d))

pub returns-in_ok-saved-in-ChangeSave : goal.returns-in_ok-saved-in-ChangeSave
returns-in_ok-saved-in-ChangeSave c = λ d sound family formed has.
    let saved = c.in_ok-saved-in-ChangeSave in
    let P : Command → Type 0 = λ k. HasTouched (rows_of c.args.tables.now) d k → IsMade (rows_of c.args.tables.now) d d (own_step d c.args.request.now k) saved.saved in
    subst P (sym c.in-ChangeSave.is) (λ has. subst (λ (input : List ℕ). IsMade (rows_of c.args.tables.now) d d (change_save d c.args.request.now input) saved.saved) c.input_of-in-ChangeSave.ensures
    (saved.ensures d sound (has tables.Counter refl) (has tables.Change refl) (has tables.Working refl))) has

pub returns-in_ok-deleted-in-ChangeDelete : goal.returns-in_ok-deleted-in-ChangeDelete
returns-in_ok-deleted-in-ChangeDelete c = λ d sound family formed has.
    let deleted = c.in_ok-deleted-in-ChangeDelete in
    let P : Command → Type 0 = λ k. HasTouched (rows_of c.args.tables.now) d k → IsMade (rows_of c.args.tables.now) d d (own_step d c.args.request.now k) deleted.deleted in
    subst P (sym c.in-ChangeDelete.is) (λ has. deleted.ensures d sound (has tables.Change refl) (has tables.Working refl)) has
