use Rattle.std.proofs.Common.{◌≡◌, List, [], Option, Some, None, sym, ap, subst, ◌∙◌}
use Rattle.std.specs.Prelude.{option_map}
use Rattle.depot_rows.specs.table_changes.Changed.{rows_of}
use Rattle.depot_rows.specs.depot_model.Deeds.{Deed, Opening as ModelOpening}
use Rattle.depot_rows.specs.depot_model.Opened.{opened}
use Rattle.depot_rows.specs.depot_model.Step.{nothing}
use Rattle.depot_rows.specs.depot_model.Steps.Shelving.{shelve_file}
use Rattle.depot_rows.specs.Deed.{opening_of}
use Rattle.depot_rows.specs.declared.deed.Opening.{Opening}
use Rattle.reply_rows.specs.declared.step.Step.{Step}
use Rattle.reply_rows.specs.Made.{IsMade}
use Rattle.reply_rows.proofs.Bare.{tells_made}
use Rattle.command_parts.proofs.Refused.{if_ok}
use Rattle.shelf_ops.specs.Shelved.{OpenedReads}
use Rattle.shelf_ops.proofs.Shelved.{by_opening}
use Rattle.shelf_ops.proofs.shelving.ShelvingFileAct.act.Goals as goal

pub returns-in-Some : goal.returns-in-Some
returns-in-Some c =
    let own = c.args.self.now in
    let request = own.request.now in
    let path = c.args.path.now in
    let rows = rows_of c.args.tables.now in
    let Q : Step → Type 0 = λ step. (d e : List Deed) → OpenedReads request.caller own.asker.now rows d → Unit {0}
    → IsMade rows d e (shelve_file d request own.replaces path) step in
    if_ok {Q = Q} _ _ c.shelve_opening.ensures (λ step made d e reads later.
    let there : Some (opening_of c.in-Some.opening) ≡ opened d request.caller.client path =
    ap (λ (x : Option Opening). option_map opening_of x) (sym c.in-Some.is) ∙ c.in_ok-opening.ensures d reads.sound reads.has_working in
    subst (λ (x : Option ModelOpening). IsMade rows d e (by_opening d request own.replaces x) step) there (made d e path reads (sym there)))

pub returns-in-None : goal.returns-in-None
returns-in-None c = λ d e reads later.
    let own = c.args.self.now in
    let request = own.request.now in
    let rows = rows_of c.args.tables.now in
    let none : None ≡ opened d request.caller.client c.args.path.now =
    ap (λ (x : Option Opening). option_map opening_of x) (sym c.in-None.is) ∙ c.in_ok-opening.ensures d reads.sound reads.has_working in
    subst (λ (x : Option ModelOpening). IsMade rows d e (by_opening d request own.replaces x) c.new.result) none
    (subst (λ (s : Step). IsMade rows d e nothing s) (sym c.new.ensures) (tells_made rows d e [] tt))
