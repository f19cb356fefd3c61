use Rattle.std.proofs.Common.{List, refl, sym, subst}
use Rattle.std.specs.Prelude.{IsTrue}
use Rattle.std.specs.List.{list_all}
use Rattle.depot_rows.specs.db_records.declared.table.TableId.TheVariants as tables
use Rattle.depot_rows.specs.table_changes.Changed.{rows_of}
use Rattle.depot_rows.specs.depot_model.declared.command.Command.{Command}
use Rattle.depot_rows.specs.depot_model.declared.command.FileArgument.{FileArgument}
use Rattle.depot_rows.specs.depot_model.Commands.{own_step}
use Rattle.depot_rows.specs.depot_model.Steps.History.{dirs, filelog, fstat, integrated, print}
use Rattle.depot_rows.specs.depot_model.Steps.Listing.{files}
use Rattle.depot_rows.specs.depot_model.WellFormed.{asks_head}
use Rattle.reply_rows.specs.Made.{IsMade}
use Rattle.command_core.specs.Outcomes.{IsFormed, HasTouched}
use Rattle.command_core.proofs.history_commands.history_step.Goals as goal

pub returns-in_ok-listed-in-Files : goal.returns-in_ok-listed-in-Files
returns-in_ok-listed-in-Files c = λ d sound asked family formed has.
    let listed = c.in_ok-listed-in-Files in
    let P : Command → Type 0 = λ k. HasTouched (rows_of c.args.tables.now) d k → IsMade (rows_of c.args.tables.now) d d (own_step d c.args.request.now k) listed.listed in
    subst P (sym c.in-Files.is) (λ has. subst (λ (xs : List FileArgument). IsMade (rows_of c.args.tables.now) d d (files d c.args.request.now.caller c.in-Files.live xs) listed.listed) c.as_slice.ensures
    (listed.ensures d sound asked (has tables.Domain refl) (has tables.Have refl) (has tables.Label refl) (has tables.Change refl) (has tables.Rev refl))) has

pub returns-in_ok-logged-in-FileLog : goal.returns-in_ok-logged-in-FileLog
returns-in_ok-logged-in-FileLog c = λ d sound asked family formed has.
    let logged = c.in_ok-logged-in-FileLog in
    let P : Command → Type 0 = λ k. HasTouched (rows_of c.args.tables.now) d k → IsMade (rows_of c.args.tables.now) d d (own_step d c.args.request.now k) logged.logged in
    subst P (sym c.in-FileLog.is) (λ has. subst (λ (xs : List FileArgument). IsMade (rows_of c.args.tables.now) d d (filelog d c.args.request.now.caller xs) logged.logged) c.as_slice-in-FileLog.ensures
    (logged.ensures d sound asked (has tables.Domain refl) (has tables.Have refl) (has tables.Label refl) (has tables.Integed refl) (has tables.Change refl) (has tables.Rev refl))) has

pub returns-in_ok-printed-in-Print : goal.returns-in_ok-printed-in-Print
returns-in_ok-printed-in-Print c = λ d sound asked family formed has.
    let printed = c.in_ok-printed-in-Print in
    let P : Command → Type 0 = λ k. HasTouched (rows_of c.args.tables.now) d k → IsMade (rows_of c.args.tables.now) d d (own_step d c.args.request.now k) printed.printed in
    subst P (sym c.in-Print.is) (λ has. subst (λ (xs : List FileArgument). IsMade (rows_of c.args.tables.now) d d (print d c.args.request.now.caller xs) printed.printed) c.as_slice-in-Print.ensures
    (printed.ensures d sound asked (has tables.Domain refl) (has tables.Have refl) (has tables.Label refl) (has tables.Change refl) (has tables.Rev refl))) has

pub returns-in_ok-listed-in-Dirs : goal.returns-in_ok-listed-in-Dirs
returns-in_ok-listed-in-Dirs c = λ d sound asked family formed has.
    let listed = c.in_ok-listed-in-Dirs in
    let P : Command → Type 0 = λ k. HasTouched (rows_of c.args.tables.now) d k → IsMade (rows_of c.args.tables.now) d d (own_step d c.args.request.now k) listed.listed in
    subst P (sym c.in-Dirs.is) (λ has. subst (λ (xs : List FileArgument). IsMade (rows_of c.args.tables.now) d d (dirs d c.args.request.now.caller xs) listed.listed) c.as_slice-in-Dirs.ensures
    (listed.ensures d sound asked (has tables.Rev refl))) has

pub returns-in_ok-stated-in-FileStat : goal.returns-in_ok-stated-in-FileStat
returns-in_ok-stated-in-FileStat c = λ d sound asked family formed has.
    let stated = c.in_ok-stated-in-FileStat in
    let P : Command → Type 0 = λ k. HasTouched (rows_of c.args.tables.now) d k → IsMade (rows_of c.args.tables.now) d d (own_step d c.args.request.now k) stated.stated in
    subst P (sym c.in-FileStat.is) (λ has. subst (λ (xs : List FileArgument). IsMade (rows_of c.args.tables.now) d d (fstat d c.args.request.now.caller xs) stated.stated) c.as_slice-in-FileStat.ensures
    (stated.ensures d sound asked (has tables.Domain refl) (has tables.Have refl) (has tables.Label refl) (has tables.Working refl) (has tables.Change refl) (has tables.Rev refl))) has

pub returns-in_ok-listed-in-Integrated : goal.returns-in_ok-listed-in-Integrated
returns-in_ok-listed-in-Integrated c = λ d sound asked family formed has.
    let listed = c.in_ok-listed-in-Integrated in
    let P : Command → Type 0 = λ k. IsFormed k → HasTouched (rows_of c.args.tables.now) d k → IsMade (rows_of c.args.tables.now) d d (own_step d c.args.request.now k) listed.listed in
    subst P (sym c.in-Integrated.is) (λ formed has. subst (λ (xs : List FileArgument). IsTrue (list_all asks_head xs) → IsMade (rows_of c.args.tables.now) d d (integrated d c.args.request.now.caller xs) listed.listed) c.as_slice-in-Integrated.ensures
    (λ promised. listed.ensures d promised sound asked (has tables.Domain refl) (has tables.Integed refl) (has tables.Rev refl)) formed.1) formed has
