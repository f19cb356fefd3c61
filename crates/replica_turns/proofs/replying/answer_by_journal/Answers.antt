use Rattle.depot_commit.proofs.Stored.{on_err}
use Rattle.std.proofs.lemmas.Result.{IfOk-weaker}
use Rattle.std.proofs.Common.{◌≡◌, refl, sym, ◌∙◌}
use Rattle.depot_commit.proofs.Moved.{fetched_none}
use Rattle.replica_turns.proofs.Replies.{by_other, by_pull, of_bare}
use Rattle.replica_turns.proofs.replying.answer_by_journal.Goals as goal

pub returns-then-is_pull-clause-answered : goal.returns-then-is_pull-clause-answered
returns-then-is_pull-clause-answered g c = λ depot same formed.
    by_pull (λ been. been ≡ depot) g.D.Disk.says c.args.replica.now c.pull.new.replica c.args.request.now c.pull.result
    (sym c.is_pull.ensures ∙ c.if-is_pull.true) (c.pull.ensures.answered depot same)

pub returns-else-is_pull-clause-answered : goal.returns-else-is_pull-clause-answered
returns-else-is_pull-clause-answered g c = λ depot same formed.
    by_other (λ been. been ≡ depot) g.D.Disk.says c.args.replica.now c.args.replica.now c.args.request.now c.reply_bare.result
    (sym c.is_pull.ensures ∙ c.if-is_pull.false) refl
    (of_bare depot g.D.Disk.says c.args.replica.now c.args.request.now c.reply_bare.result c.requires c.reply_bare.ensures.kept (λ d stand. c.reply_bare.ensures.told d stand formed))

pub returns-else-is_pull-clause-fetched : goal.returns-else-is_pull-clause-fetched
returns-else-is_pull-clause-fetched g c = fetched_none g.D.Disk.says g.met.D.Disk.only_now c.args.journal.now

pub returns-else-is_pull-clause-only : goal.returns-else-is_pull-clause-only
returns-else-is_pull-clause-only g c = IfOk-weaker c.reply_bare.result _ _ (λ answered told kept. refl) c.reply_bare.ensures.kept

pub returns-else-is_pull-clause-no_memory : goal.returns-else-is_pull-clause-no_memory
returns-else-is_pull-clause-no_memory g c = on_err c.reply_bare.result _ refl
