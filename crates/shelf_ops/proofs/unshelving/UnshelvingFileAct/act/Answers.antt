use Rattle.std.proofs.Common.{List, [], sym, subst, ◌∙◌}
use Rattle.depot_rows.specs.table_changes.Changed.{rows_of}
use Rattle.depot_rows.specs.depot_model.Deeds.{Deed}
use Rattle.depot_rows.specs.depot_model.Step.{Step as ModelStep, nothing}
use Rattle.depot_rows.specs.depot_model.Steps.Shelving.{unshelve_file, unshelve_opening}
use Rattle.reply_rows.specs.declared.step.Step.{Step}
use Rattle.reply_rows.specs.Made.{IsMade}
use Rattle.reply_rows.proofs.Bare.{tells_made}
use Rattle.command_parts.proofs.Refused.{if_ok, none_found}
use Rattle.shelf_ops.specs.Shelved.{OpenedReads}
use Rattle.shelf_ops.proofs.Unshelved.{by_kept, by_none}
use Rattle.shelf_ops.proofs.unshelving.UnshelvingFileAct.act.Goals as goal

pub returns-in_default : goal.returns-in_default
returns-in_default c = λ d e reads later.
    let own = c.args.self.now in
    let rows = rows_of c.args.tables.now in
    let none_is = sym (c.in_ok-form.ensures d reads.sound reads.has_domain) ∙ none_found _ c.in_default.not-Some in
    subst (λ (m : ModelStep). IsMade rows d e m c.new.result) (by_none d own.caller.now own.shelved own.change c.args.path.now none_is)
    (subst (λ (s : Step). IsMade rows d e nothing s) (sym c.new.ensures) (tells_made rows d e [] tt))

pub returns : goal.returns
returns c =
    let own = c.args.self.now in
    let caller = own.caller.now in
    let path = c.args.path.now in
    let rows = rows_of c.args.tables.now in
    let Q : Step → Type 0 = λ step. (d e : List Deed) → OpenedReads caller own.asker.now rows d → Unit {0}
    → IsMade rows d e (unshelve_file d caller own.shelved own.change path) step in
    if_ok {Q = Q} _ _ c.unshelve_opening.ensures (λ step made d e reads later.
    let kept_is = sym (c.in_ok-form.ensures d reads.sound reads.has_domain) ∙ c.in-Some.is in
    subst (λ (m : ModelStep). IsMade rows d e m step)
    ((λ i. unshelve_opening d caller (c.in_ok-opening.ensures d own.shelved reads.sound kept_is i) (c.in_ok-block.ensures i))
    ∙ by_kept d caller own.shelved own.change path c.in-Some.form kept_is)
    (made d e reads))
