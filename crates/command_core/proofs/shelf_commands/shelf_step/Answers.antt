use Rattle.std.proofs.Common.{List, refl, sym, subst}
use Rattle.std.specs.Prelude.{IsTrue}
use Rattle.std.specs.List.{list_all}
use Rattle.depot_rows.specs.db_records.declared.table.TableId.TheVariants as tables
use Rattle.depot_rows.specs.table_changes.Changed.{rows_of}
use Rattle.depot_rows.specs.depot_model.declared.command.Command.{Command}
use Rattle.depot_rows.specs.depot_model.declared.command.FileArgument.{FileArgument}
use Rattle.depot_rows.specs.depot_model.Commands.{own_step}
use Rattle.depot_rows.specs.depot_model.Steps.Shelving.{shelve, shelve_delete, unshelve}
use Rattle.depot_rows.specs.depot_model.WellFormed.{asks_head}
use Rattle.reply_rows.specs.Made.{IsMade}
use Rattle.command_core.specs.Outcomes.{HasTouched, IsFormed}
use Rattle.command_core.proofs.shelf_commands.shelf_step.Goals as goal

pub returns-in_ok-kept-in-Shelve : goal.returns-in_ok-kept-in-Shelve
returns-in_ok-kept-in-Shelve c = λ d sound asked family formed has.
    let kept = c.in_ok-kept-in-Shelve in
    let P : Command → Type 0 = λ k. IsFormed k → HasTouched (rows_of c.args.tables.now) d k → IsMade (rows_of c.args.tables.now) d d (own_step d c.args.request.now k) kept.kept in
    subst P (sym c.in-Shelve.is) (λ formed has. subst (λ (xs : List FileArgument). IsTrue (list_all asks_head xs) → IsMade (rows_of c.args.tables.now) d d (shelve d c.args.request.now c.in-Shelve.change c.in-Shelve.replaces xs) kept.kept) c.as_slice.ensures
    (λ promised. kept.ensures d promised sound asked (has tables.Domain refl) (has tables.Working refl) (has tables.Change refl) (has tables.Rev refl)) formed.1) formed has

pub returns-in_ok-removed-in-ShelveDelete : goal.returns-in_ok-removed-in-ShelveDelete
returns-in_ok-removed-in-ShelveDelete c = λ d sound asked family formed has.
    let removed = c.in_ok-removed-in-ShelveDelete in
    let P : Command → Type 0 = λ k. HasTouched (rows_of c.args.tables.now) d k → IsMade (rows_of c.args.tables.now) d d (own_step d c.args.request.now k) removed.removed in
    subst P (sym c.in-ShelveDelete.is) (λ has. subst (λ (xs : List FileArgument). IsMade (rows_of c.args.tables.now) d d (shelve_delete d c.args.request.now.caller c.in-ShelveDelete.change xs) removed.removed) c.as_slice-in-ShelveDelete.ensures
    (removed.ensures d sound asked (has tables.Domain refl) (has tables.Change refl))) has

pub returns-in_ok-opened-in-Unshelve : goal.returns-in_ok-opened-in-Unshelve
returns-in_ok-opened-in-Unshelve c = λ d sound asked family formed has.
    let opened = c.in_ok-opened-in-Unshelve in
    let P : Command → Type 0 = λ k. IsFormed k → HasTouched (rows_of c.args.tables.now) d k → IsMade (rows_of c.args.tables.now) d d (own_step d c.args.request.now k) opened.opened in
    subst P (sym c.in-Unshelve.is) (λ formed has. subst (λ (xs : List FileArgument). IsTrue (list_all asks_head xs) → IsMade (rows_of c.args.tables.now) d d (unshelve d c.args.request.now.caller c.in-Unshelve.shelved c.in-Unshelve.change xs) opened.opened) c.as_slice-in-Unshelve.ensures
    (λ promised. opened.ensures d promised sound asked (has tables.Domain refl) (has tables.Working refl) (has tables.Change refl) (has tables.Rev refl)) formed.1) formed has

pub returns-in_ok-described-in-DescribeShelved : goal.returns-in_ok-described-in-DescribeShelved
returns-in_ok-described-in-DescribeShelved c = λ d sound asked family formed has.
    let described = c.in_ok-described-in-DescribeShelved in
    let P : Command → Type 0 = λ k. HasTouched (rows_of c.args.tables.now) d k → IsMade (rows_of c.args.tables.now) d d (own_step d c.args.request.now k) described.described in
    subst P (sym c.in-DescribeShelved.is) (λ has. described.ensures d c.args.request.now.caller sound asked (has tables.Domain refl) (has tables.Change refl)) has
