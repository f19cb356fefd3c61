use Rattle.std.proofs.Common.{List, refl, sym, subst}
use Rattle.std.specs.Prelude.{IsTrue}
use Rattle.std.specs.List.{list_all}
use Rattle.std.proofs.lemmas.Bool.{and_parts}
use Rattle.depot_rows.specs.db_records.declared.table.TableId.TheVariants as tables
use Rattle.depot_rows.specs.table_changes.Changed.{rows_of}
use Rattle.depot_rows.specs.depot_model.declared.command.Command.{Command}
use Rattle.depot_rows.specs.depot_model.declared.command.FileArgument.{FileArgument}
use Rattle.depot_rows.specs.depot_model.Commands.{own_step}
use Rattle.depot_rows.specs.depot_model.Steps.Adding.{add}
use Rattle.depot_rows.specs.depot_model.Steps.Editing.{delete, edit}
use Rattle.depot_rows.specs.depot_model.Steps.Reverting.{lock, opened_step, reopen, revert, unlock}
use Rattle.depot_rows.specs.depot_model.WellFormed.{asks_head, is_type_or_none, spells_path}
use Rattle.reply_rows.specs.Made.{IsMade}
use Rattle.command_core.specs.Outcomes.{IsFormed, HasTouched}
use Rattle.command_core.proofs.opening_commands.opening_step.Goals as goal

pub returns-in_ok-added-in-Add : goal.returns-in_ok-added-in-Add
returns-in_ok-added-in-Add c = λ d sound asked family formed has.
    let added = c.in_ok-added-in-Add in
    let P : Command → Type 0 = λ k. IsFormed k → HasTouched (rows_of c.args.tables.now) d k → IsMade (rows_of c.args.tables.now) d d (own_step d c.args.request.now k) added.added in
    subst P (sym c.in-Add.is) (λ formed has. subst (λ (xs : List FileArgument). IsTrue (list_all spells_path xs) → IsMade (rows_of c.args.tables.now) d d (add d c.args.request.now.caller c.in-Add.change c.in-Add.file_type xs) added.added) c.as_slice.ensures
    (λ promised. added.ensures d promised sound asked (has tables.Change refl) (has tables.Working refl) (has tables.Rev refl)) (and_parts (is_type_or_none c.in-Add.file_type) _ formed.0).1) formed has

pub returns-in_ok-edited-in-Edit : goal.returns-in_ok-edited-in-Edit
returns-in_ok-edited-in-Edit c = λ d sound asked family formed has.
    let edited = c.in_ok-edited-in-Edit in
    let P : Command → Type 0 = λ k. IsFormed k → HasTouched (rows_of c.args.tables.now) d k → IsMade (rows_of c.args.tables.now) d d (own_step d c.args.request.now k) edited.edited in
    subst P (sym c.in-Edit.is) (λ formed has. subst (λ (xs : List FileArgument). IsTrue (list_all asks_head xs) → IsMade (rows_of c.args.tables.now) d d (edit d c.args.request.now.caller c.in-Edit.change c.in-Edit.file_type xs) edited.edited) c.as_slice-in-Edit.ensures
    (λ promised. edited.ensures d promised sound asked (has tables.Domain refl) (has tables.Have refl) (has tables.Working refl) (has tables.Change refl) (has tables.Rev refl)) formed.1) formed has

pub returns-in_ok-deleted-in-Delete : goal.returns-in_ok-deleted-in-Delete
returns-in_ok-deleted-in-Delete c = λ d sound asked family formed has.
    let deleted = c.in_ok-deleted-in-Delete in
    let P : Command → Type 0 = λ k. IsFormed k → HasTouched (rows_of c.args.tables.now) d k → IsMade (rows_of c.args.tables.now) d d (own_step d c.args.request.now k) deleted.deleted in
    subst P (sym c.in-Delete.is) (λ formed has. subst (λ (xs : List FileArgument). IsTrue (list_all asks_head xs) → IsMade (rows_of c.args.tables.now) d d (delete d c.args.request.now.caller c.in-Delete.change xs) deleted.deleted) c.as_slice-in-Delete.ensures
    (λ promised. deleted.ensures d promised sound asked (has tables.Domain refl) (has tables.Have refl) (has tables.Working refl) (has tables.Change refl) (has tables.Rev refl)) formed.1) formed has

pub returns-in_ok-reverted-in-Revert : goal.returns-in_ok-reverted-in-Revert
returns-in_ok-reverted-in-Revert c = λ d sound asked family formed has.
    let reverted = c.in_ok-reverted-in-Revert in
    let P : Command → Type 0 = λ k. HasTouched (rows_of c.args.tables.now) d k → IsMade (rows_of c.args.tables.now) d d (own_step d c.args.request.now k) reverted.reverted in
    subst P (sym c.in-Revert.is) (λ has. subst (λ (xs : List FileArgument). IsMade (rows_of c.args.tables.now) d d (revert d c.args.request.now.caller c.in-Revert.change xs) reverted.reverted) c.as_slice-in-Revert.ensures
    (reverted.ensures d sound asked (has tables.Have refl) (has tables.Working refl))) has

pub returns-in_ok-reopened-in-Reopen : goal.returns-in_ok-reopened-in-Reopen
returns-in_ok-reopened-in-Reopen c = λ d sound asked family formed has.
    let reopened = c.in_ok-reopened-in-Reopen in
    let P : Command → Type 0 = λ k. HasTouched (rows_of c.args.tables.now) d k → IsMade (rows_of c.args.tables.now) d d (own_step d c.args.request.now k) reopened.reopened in
    subst P (sym c.in-Reopen.is) (λ has. subst (λ (xs : List FileArgument). IsMade (rows_of c.args.tables.now) d d (reopen d c.args.request.now.caller c.in-Reopen.change c.in-Reopen.file_type xs) reopened.reopened) c.as_slice-in-Reopen.ensures
    (reopened.ensures d sound asked (has tables.Change refl) (has tables.Working refl))) has

pub returns-in_ok-locked-in-Lock : goal.returns-in_ok-locked-in-Lock
returns-in_ok-locked-in-Lock c = λ d sound asked family formed has.
    let locked = c.in_ok-locked-in-Lock in
    let P : Command → Type 0 = λ k. HasTouched (rows_of c.args.tables.now) d k → IsMade (rows_of c.args.tables.now) d d (own_step d c.args.request.now k) locked.locked in
    subst P (sym c.in-Lock.is) (λ has. subst (λ (xs : List FileArgument). IsMade (rows_of c.args.tables.now) d d (lock d c.args.request.now.caller c.in-Lock.change xs) locked.locked) c.as_slice-in-Lock.ensures
    (locked.ensures d sound asked (has tables.Working refl))) has

pub returns-in_ok-unlocked-in-Unlock : goal.returns-in_ok-unlocked-in-Unlock
returns-in_ok-unlocked-in-Unlock c = λ d sound asked family formed has.
    let unlocked = c.in_ok-unlocked-in-Unlock in
    let P : Command → Type 0 = λ k. HasTouched (rows_of c.args.tables.now) d k → IsMade (rows_of c.args.tables.now) d d (own_step d c.args.request.now k) unlocked.unlocked in
    subst P (sym c.in-Unlock.is) (λ has. subst (λ (xs : List FileArgument). IsMade (rows_of c.args.tables.now) d d (unlock d c.args.request.now.caller c.in-Unlock.change xs) unlocked.unlocked) c.as_slice-in-Unlock.ensures
    (unlocked.ensures d sound asked (has tables.Working refl))) has

pub returns-in_ok-listed-in-Opened : goal.returns-in_ok-listed-in-Opened
returns-in_ok-listed-in-Opened c = λ d sound asked family formed has.
    let listed = c.in_ok-listed-in-Opened in
    let P : Command → Type 0 = λ k. HasTouched (rows_of c.args.tables.now) d k → IsMade (rows_of c.args.tables.now) d d (own_step d c.args.request.now k) listed.listed in
    subst P (sym c.in-Opened.is) (λ has. subst (λ (xs : List FileArgument). IsMade (rows_of c.args.tables.now) d d (opened_step d c.args.request.now.caller c.in-Opened.all xs) listed.listed) c.as_slice-in-Opened.ensures
    (listed.ensures d sound asked (has tables.Working refl))) has

pub returns-in_ok-moved-in-Move : goal.returns-in_ok-moved-in-Move
returns-in_ok-moved-in-Move c = λ d sound asked family formed has.
    let moved = c.in_ok-moved-in-Move in
    let P : Command → Type 0 = λ k. IsFormed k → HasTouched (rows_of c.args.tables.now) d k → IsMade (rows_of c.args.tables.now) d d (own_step d c.args.request.now k) moved.moved in
    subst P (sym c.in-Move.is) (λ formed has. moved.ensures d formed.1 sound asked (has tables.Domain refl) (has tables.Change refl) (has tables.Working refl) (has tables.Rev refl)) formed has
