use Rattle.std.proofs.Common.{ℕ, Option, refl, subst, sym}
use Rattle.depot_rows.specs.table_changes.Changed.{rows_of}
use Rattle.depot_rows.specs.depot_model.Steps.Changing.{change_show, show_new}
use Rattle.reply_rows.specs.Made.{IsMade}
use Rattle.reply_rows.proofs.Joined.{made_row}
use Rattle.change_lists.proofs.showing.change_show.Goals as goal

pub returns-in_ok-step-in-Some : goal.returns-in_ok-step-in-Some
returns-in_ok-step-in-Some c = λ d sound asked has_change has_working.
    let all = rows_of c.args.tables.now in
    let caller = c.args.caller.now in
    subst (λ (n : Option ℕ). IsMade all d d (change_show d caller n) c.in_ok-step-in-Some.step) (sym c.in-Some.is)
    (c.in_ok-step-in-Some.ensures d caller sound asked has_working (c.change_of-found.ensures d has_change))

pub returns-in_ok-step-in-None : goal.returns-in_ok-step-in-None
returns-in_ok-step-in-None c = λ d sound asked has_change has_working.
    let all = rows_of c.args.tables.now in
    let caller = c.args.caller.now in
    let row = show_new d caller in
    subst (λ (n : Option ℕ). IsMade all d d (change_show d caller n) c.in_ok-step-in-None.step) (sym c.in-None.is)
    (made_row all d d row row c.in_ok-step-in-None.step refl refl (c.in_ok-step-in-None.ensures d sound asked has_working))
