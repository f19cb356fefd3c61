use Rattle.std.proofs.Common.{◌≡◌, ◌∙◌, add-one, true, false, sym}
use Rattle.std.proofs.lemmas.Result.{err_from_is_err_and}
use Rattle.record_text.specs.Layout.{is_move}
use Rattle.record_text.proofs.Plain.{moved_is, plain_is, fails_is}
use Rattle.record_text.proofs.text.action_of.Goals as goal

pub returns-in_err-action : goal.returns-in_err-action
returns-in_err-action c =
    let p = err_from_is_err_and c.from_residual.result c.from_residual.ensures.1 in
    rw (p.1, p.2) (fails_is c.args.ender c.args.bytes.now c.in_err-action.field-0.0 c.in_err-action.ensures)

pub returns-then-moves : goal.returns-then-moves
returns-then-moves c =
    let m : is_move c.in_ok-action.action ≡ true = sym c.moves.ensures ∙ c.if-moves.true in
    rw add-one (moved_is c.args.ender c.args.bytes.now c.in_ok-action.action c.in_ok-action.rest.now c.in_ok-action.ensures m)

pub returns : goal.returns
returns c =
    let m : is_move c.in_ok-action.action ≡ false = sym c.moves.ensures ∙ c.if-moves.false in
    plain_is c.args.ender c.args.bytes.now c.in_ok-action.action c.in_ok-action.rest.now c.in_ok-action.ensures m
