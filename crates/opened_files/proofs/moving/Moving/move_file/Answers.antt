use Rattle.std.proofs.Common.{◌≡◌, List, [], Option, Some, None, sym, ap, subst, ◌∙◌}
use Rattle.std.specs.Prelude.{option_map}
use Rattle.depot_rows.specs.table_changes.Changed.{rows_of}
use Rattle.depot_rows.specs.depot_model.Deeds.{Deed, Opening}
use Rattle.depot_rows.specs.depot_model.Opened.{opened}
use Rattle.depot_rows.specs.depot_model.Step.{Step as ModelStep, nothing}
use Rattle.depot_rows.specs.depot_model.Steps.Moving.{move_file, move_opening}
use Rattle.depot_rows.specs.Deed.{opening_of}
use Rattle.depot_rows.specs.declared.deed.Opening.{Opening as Done}
use Rattle.depot_rows.proofs.Locks.{opened-is}
use Rattle.reply_rows.specs.Made.{IsMade}
use Rattle.reply_rows.specs.declared.step.Step.{Step}
use Rattle.reply_rows.proofs.Bare.{tells_made}
use Rattle.command_parts.proofs.Refused.{if_ok}
use Rattle.opened_files.specs.Moves.{ReadsOwn}
use Rattle.opened_files.proofs.moving.Moving.move_file.Goals as goal

pub returns-in-Some : goal.returns-in-Some
returns-in-Some c =
    let rows = rows_of c.args.tables.now in
    let own = c.args.self.now in
    let Q : Step → Type 0 = λ step. (d e : List Deed) → ReadsOwn own.caller.now own.asker.now own.from.now own.own rows d e
    → IsMade rows d e (move_file own.caller.now own.change own.from.now own.to.now e c.args.path.now) step in
    if_ok {Q = Q} _ _ c.move_opening.ensures (λ step made d e reads.
    let caller = own.caller.now in
    let path = c.args.path.now in
    let o = opening_of c.in-Some.opening in
    let there : Some o ≡ opened e caller.client path =
    ap (λ (x : Option Done). option_map opening_of x) (sym c.in-Some.is) ∙ c.in_ok-opening.ensures d e reads.reads.sound reads.reads.listed reads.own_now in
    subst (λ (x : Option Opening). IsMade rows d e (elim x as (λ _. ModelStep) [ None ↦ nothing | Some p ↦ move_opening e caller own.change own.from.now own.to.now p ]) step) there
    (made d e reads (opened-is e caller.client path o (sym there)).0))

pub returns-in-None : goal.returns-in-None
returns-in-None c = λ d e reads.
    let own = c.args.self.now in
    let caller = own.caller.now in
    let path = c.args.path.now in
    let rows = rows_of c.args.tables.now in
    let there : None ≡ opened e caller.client path =
    ap (λ (x : Option Done). option_map opening_of x) (sym c.in-None.is) ∙ c.in_ok-opening.ensures d e reads.reads.sound reads.reads.listed reads.own_now in
    subst (λ (x : Option Opening). IsMade rows d e (elim x as (λ _. ModelStep) [ None ↦ nothing | Some p ↦ move_opening e caller own.change own.from.now own.to.now p ]) c.new.result) there
    (subst (λ (s : Step). IsMade rows d e nothing s) (sym c.new.ensures) (tells_made rows d e [] tt))
