use Rattle.std.proofs.Common.{List, refl, sym, subst}
use Rattle.depot_rows.specs.db_records.declared.table.TableId.TheVariants as tables
use Rattle.depot_rows.specs.table_changes.Changed.{rows_of}
use Rattle.depot_rows.specs.depot_model.declared.command.Command.{Command}
use Rattle.depot_rows.specs.depot_model.declared.command.FileArgument.{FileArgument}
use Rattle.depot_rows.specs.depot_model.Commands.{own_step}
use Rattle.depot_rows.specs.depot_model.Steps.Changes.{changes}
use Rattle.reply_rows.specs.Made.{IsMade}
use Rattle.command_core.specs.Outcomes.{HasTouched}
use Rattle.command_core.proofs.change_commands.change_step.Goals as goal

pub returns-in_ok-shown-in-ChangeShow : goal.returns-in_ok-shown-in-ChangeShow
returns-in_ok-shown-in-ChangeShow c = λ d sound asked family formed has.
    let shown = c.in_ok-shown-in-ChangeShow in
    let P : Command → Type 0 = λ k. HasTouched (rows_of c.args.tables.now) d k → IsMade (rows_of c.args.tables.now) d d (own_step d c.args.request.now k) shown.shown in
    subst P (sym c.in-ChangeShow.is) (λ has. shown.ensures d sound asked (has tables.Change refl) (has tables.Working refl)) has

pub returns-in_ok-listed-in-Changes : goal.returns-in_ok-listed-in-Changes
returns-in_ok-listed-in-Changes c = λ d sound asked family formed has.
    let listed = c.in_ok-listed-in-Changes in
    let P : Command → Type 0 = λ k. HasTouched (rows_of c.args.tables.now) d k → IsMade (rows_of c.args.tables.now) d d (own_step d c.args.request.now k) listed.listed in
    subst P (sym c.in-Changes.is) (λ has. subst (λ (xs : List FileArgument). IsMade (rows_of c.args.tables.now) d d (changes d c.args.request.now.caller c.in-Changes.most c.in-Changes.status c.in-Changes.user c.in-Changes.client xs) listed.listed) c.as_slice.ensures
    (listed.ensures d sound asked (has tables.Domain refl) (has tables.Have refl) (has tables.Label refl) (has tables.Change refl) (has tables.Rev refl))) has

pub returns-in_ok-described-in-Describe : goal.returns-in_ok-described-in-Describe
returns-in_ok-described-in-Describe c = λ d sound asked family formed has.
    let described = c.in_ok-described-in-Describe in
    let P : Command → Type 0 = λ k. HasTouched (rows_of c.args.tables.now) d k → IsMade (rows_of c.args.tables.now) d d (own_step d c.args.request.now k) described.described in
    subst P (sym c.in-Describe.is) (λ has. described.ensures d c.args.request.now.caller sound asked (has tables.Change refl) (has tables.Rev refl)) has
