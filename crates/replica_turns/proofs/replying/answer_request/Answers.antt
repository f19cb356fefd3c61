use Rattle.std.proofs.lemmas.Result.{IfOk-weaker, on_err_weaker}
use Rattle.std.proofs.Common.{◌≡◌, refl, sym, ◌∙◌}
use Rattle.replica_turns.proofs.Replies.{by_other, prints_no_pull}
use Rattle.replica_turns.proofs.Unmoved.{unmoved_fetched, unmoved_read}
use Rattle.replica_turns.proofs.replying.answer_request.Goals as goal

pub reply_print-requires : goal.reply_print-requires
reply_print-requires g c = sym c.is_print.ensures ∙ c.if-is_print.true

pub answer_by_journal-requires : goal.answer_by_journal-requires
answer_by_journal-requires g c = sym c.is_print.ensures ∙ c.if-is_print.false

pub returns-then-is_print-clause-answered : goal.returns-then-is_print-clause-answered
returns-then-is_print-clause-answered g c = λ formed.
    let depot = c.args.depot.now in
    by_other (λ been. been ≡ depot) g.D.Disk.says c.args.replica.now c.args.replica.now c.args.request.now c.reply_print.result
    (prints_no_pull c.args.request.now.command (sym c.is_print.ensures ∙ c.if-is_print.true)) refl (c.reply_print.ensures.answered depot refl formed)

pub returns-then-is_print-clause-depot : goal.returns-then-is_print-clause-depot
returns-then-is_print-clause-depot g c =
    unmoved_read g.D.Disk.says c.args.depot.now c.reply_print.new.archive c.reply_print.ensures.read c.reply_print.ensures.never_falls

pub returns-else-is_print-clause-answered : goal.returns-else-is_print-clause-answered
returns-else-is_print-clause-answered g c = λ formed. c.answer_by_journal.ensures.answered c.args.depot.now refl formed

pub returns-else-is_print-clause-depot : goal.returns-else-is_print-clause-depot
returns-else-is_print-clause-depot g c =
    unmoved_fetched g.D.Disk.says c.args.depot.now c.answer_by_journal.new.journal c.answer_by_journal.ensures.fetched c.answer_by_journal.ensures.never_falls

pub returns-then-is_print-clause-only : goal.returns-then-is_print-clause-only
returns-then-is_print-clause-only g c = IfOk-weaker c.reply_print.result _ _ (λ answered same kept. record { journal = refl; archive = same kept }) c.reply_print.ensures.only

pub returns-then-is_print-clause-no_memory : goal.returns-then-is_print-clause-no_memory
returns-then-is_print-clause-no_memory g c = on_err_weaker c.reply_print.result (λ same. record { journal = refl; archive = same }) c.reply_print.ensures.no_memory

pub returns-else-is_print-clause-only : goal.returns-else-is_print-clause-only
returns-else-is_print-clause-only g c = IfOk-weaker c.answer_by_journal.result _ _ (λ answered same kept. record { journal = same kept; archive = refl }) c.answer_by_journal.ensures.only

pub returns-else-is_print-clause-no_memory : goal.returns-else-is_print-clause-no_memory
returns-else-is_print-clause-no_memory g c = on_err_weaker c.answer_by_journal.result (λ same. record { journal = same; archive = refl }) c.answer_by_journal.ensures.no_memory
