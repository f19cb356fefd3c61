use Rattle.std.proofs.Common.{ℕ, List, [], ◌∷◌, ◌++◌, map, take, get_or, sym, ap, ◌∙◌}
use Rattle.std.proofs.lemmas.List.{map_push, take_more}
use Rattle.run_parties.specs.Asking.{fresh}
use Rattle.session_loop.specs.declared.session.SessionRun.{SessionRun}
use Rattle.session_turns.proofs.beginning.fresh_runs.Goals as goal

pub loop-total-preserved : goal.loop-total-preserved
loop-total-preserved c =
    let items = c.args.totals.now in
    let i = c.loop-total._total-index in
    let one : ℕ → SessionRun = λ total. fresh in
    c.in_ok-push.ensures.items
    ∙ (ap (λ (runs : List SessionRun). runs ++ fresh ∷ []) c.loop-total.invariant
    ∙ (sym (map_push one (take i items) (get_or items i 0)) ∙ ap (map one) (sym (take_more items i 0 c.loop-total-test.true))))
