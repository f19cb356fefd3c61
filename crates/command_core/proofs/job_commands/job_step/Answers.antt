use Rattle.std.proofs.Common.{List, ℕ, refl, sym, subst}
use Rattle.depot_rows.specs.db_records.declared.table.TableId.TheVariants as tables
use Rattle.depot_rows.specs.table_changes.Changed.{rows_of}
use Rattle.depot_rows.specs.depot_model.declared.command.Command.{Command}
use Rattle.depot_rows.specs.depot_model.Commands.{own_step}
use Rattle.depot_rows.specs.depot_model.Steps.Jobs.{fix, fix_delete, job_save}
use Rattle.reply_rows.specs.Made.{IsMade}
use Rattle.command_core.specs.Outcomes.{HasTouched}
use Rattle.command_core.proofs.job_commands.job_step.Goals as goal

pub returns-in_ok-shown-in-JobShow : goal.returns-in_ok-shown-in-JobShow
returns-in_ok-shown-in-JobShow c = λ d sound family formed has.
    let shown = c.in_ok-shown-in-JobShow in
    let P : Command → Type 0 = λ k. HasTouched (rows_of c.args.tables.now) d k → IsMade (rows_of c.args.tables.now) d d (own_step d c.args.request.now k) shown.shown in
    subst P (sym c.in-JobShow.is) (λ has. shown.ensures d sound (has tables.Domain refl)) has

pub returns-in_ok-saved-in-JobSave : goal.returns-in_ok-saved-in-JobSave
returns-in_ok-saved-in-JobSave c = λ d sound family formed has.
    let saved = c.in_ok-saved-in-JobSave in
    let P : Command → Type 0 = λ k. HasTouched (rows_of c.args.tables.now) d k → IsMade (rows_of c.args.tables.now) d d (own_step d c.args.request.now k) saved.saved in
    subst P (sym c.in-JobSave.is) (λ has. subst (λ (input : List ℕ). IsMade (rows_of c.args.tables.now) d d (job_save d input) saved.saved) c.input_of.ensures
    (saved.ensures d sound (has tables.Domain refl))) has

pub returns-in_ok-listed-in-Jobs : goal.returns-in_ok-listed-in-Jobs
returns-in_ok-listed-in-Jobs c = λ d sound family formed has.
    let listed = c.in_ok-listed-in-Jobs in
    let P : Command → Type 0 = λ k. HasTouched (rows_of c.args.tables.now) d k → IsMade (rows_of c.args.tables.now) d d (own_step d c.args.request.now k) listed.listed in
    subst P (sym c.in-Jobs.is) (λ has. listed.ensures d sound (has tables.Domain refl)) has

pub returns-in_ok-fixed-in-Fix : goal.returns-in_ok-fixed-in-Fix
returns-in_ok-fixed-in-Fix c = λ d sound family formed has.
    let fixed = c.in_ok-fixed-in-Fix in
    let P : Command → Type 0 = λ k. HasTouched (rows_of c.args.tables.now) d k → IsMade (rows_of c.args.tables.now) d d (own_step d c.args.request.now k) fixed.fixed in
    subst P (sym c.in-Fix.is) (λ has. subst (λ (names : List (List ℕ)). IsMade (rows_of c.args.tables.now) d d (fix d c.args.request.now.caller c.in-Fix.change names) fixed.fixed) c.as_slice.ensures
    (fixed.ensures d sound (has tables.Domain refl) (has tables.Change refl))) has

pub returns-in_ok-deleted-in-FixDelete : goal.returns-in_ok-deleted-in-FixDelete
returns-in_ok-deleted-in-FixDelete c = λ d sound family formed has.
    let deleted = c.in_ok-deleted-in-FixDelete in
    let P : Command → Type 0 = λ k. HasTouched (rows_of c.args.tables.now) d k → IsMade (rows_of c.args.tables.now) d d (own_step d c.args.request.now k) deleted.deleted in
    subst P (sym c.in-FixDelete.is) (λ has. subst (λ (names : List (List ℕ)). IsMade (rows_of c.args.tables.now) d d (fix_delete d c.in-FixDelete.change names) deleted.deleted)
    c.as_slice-in-FixDelete.ensures
    (deleted.ensures d sound (has tables.Domain refl) (has tables.Change refl))) has

pub returns-in_ok-listed-in-Fixes : goal.returns-in_ok-listed-in-Fixes
returns-in_ok-listed-in-Fixes c = λ d sound family formed has.
    let listed = c.in_ok-listed-in-Fixes in
    let P : Command → Type 0 = λ k. HasTouched (rows_of c.args.tables.now) d k → IsMade (rows_of c.args.tables.now) d d (own_step d c.args.request.now k) listed.listed in
    subst P (sym c.in-Fixes.is) (λ has. listed.ensures d sound (has tables.Domain refl)) has
