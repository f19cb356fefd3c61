use Rattle.std.proofs.Common.{Bool, None, sym, ap, ◌∙◌}
use Rattle.std.specs.Prelude.{if◌then◌else◌}
use Rattle.depot_rows.specs.depot_model.Steps.Syncing.{size_of, sync_row}
use Rattle.have_sync.proofs.Numbers.{apart_test, same_test}
use Rattle.have_sync.proofs.rows.changed_row.Goals as goal

pub returns-in_ok-row : goal.returns-in_ok-row
returns-in_ok-row c = λ d caller asked has.
    let path = c.args.path.now in
    let word = c.args.action.now in
    let rev = c.args.wanted.rev in
    c.in_ok-row.ensures d caller asked
    ∙ ap (λ (b : Bool). if b then sync_row d caller path c.args.had word None else sync_row d caller path rev word (size_of d path rev))
    (sym (same_test rev 0 c.if-gone.true))

pub returns-in_ok-row-2 : goal.returns-in_ok-row-2
returns-in_ok-row-2 c = λ d caller asked has.
    let path = c.args.path.now in
    let word = c.args.action.now in
    let rev = c.args.wanted.rev in
    c.in_ok-row-2.ensures d caller asked has
    ∙ ap (λ (b : Bool). if b then sync_row d caller path c.args.had word None else sync_row d caller path rev word (size_of d path rev))
    (sym (apart_test rev 0 c.if-gone.false))
