use Rattle.std.proofs.Common.{◌≡◌, ◌+◌, ℕ, suc, List, sym, ap, subst, arith, slice_set}
use Rattle.order_words.specs.Seats.{OrderState}
use Rattle.locked_tables.specs.Held.{HasLearnt, HaveLearntFrom}
use Rattle.locked_tables.specs.declared.taken.Taken.{Taken}
use Rattle.locked_tables.proofs.Learnt.{learnt_end, learnt_step}
use Rattle.locked_tables.proofs.placing.+learn_from.Goals as goal

pub returns-then-from-held-clause-learnt : goal.returns-then-from-held-clause-learnt
returns-then-from-held-clause-learnt g t c =
    let order = c.args.order.now.list in
    let from = c.args.from in
    let olds = slice_set c.args.held.now from c.learn_table.new.held in
    let news = c.learn_from.new.held in
    let same = subst (λ (l : List Taken). HaveLearntFrom (from + 1) l olds news) (ap (λ (o : OrderState Taken). o.list) c.learn_table.ensures.order) c.learn_from.ensures.learnt in
    let next : from + 1 ≡ suc from = omega arith in
    let learnt = subst (λ (n : ℕ). HaveLearntFrom n order olds news) next same in
    let one = subst (λ h. HasLearnt order h c.learn_table.new.held) (sym c.index-held-from.is) c.learn_table.ensures.learnt in
    learnt_step order from c.args.held.now news c.index-held-from.result c.learn_table.new.held c.index-held-from.is one learnt

pub returns-else-from-held-clause-learnt : goal.returns-else-from-held-clause-learnt
returns-else-from-held-clause-learnt g t c = learnt_end c.args.order.now.list c.args.from c.args.held.now (omega arith)
