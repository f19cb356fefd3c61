use Rattle.std.proofs.Common.{ℕ, subst}
use Rattle.depot_rows.specs.table_changes.Changed.{rows_of}
use Rattle.depot_rows.specs.depot_model.Latest.{labelled}
use Rattle.depot_rows.specs.depot_model.Steps.Tagging.{tag_to}
use Rattle.reply_rows.specs.Made.{IsMade}
use Rattle.label_ops.proofs.taking.take.Goals as goal

pub returns-clause-heads : goal.returns-clause-heads
returns-clause-heads c = λ rows are. c.in_ok-new.ensures.heads rows are

pub returns-clause-step : goal.returns-clause-step
returns-clause-step c = λ d e reads are.
    let taking = c.args.taking.now in
    let label = taking.label.now in
    let path = c.args.path.now in
    let rows = rows_of c.args.tables.now in
    let step = c.in_ok-step.step in
    let old_is = c.in_ok-old.ensures d reads.has_label in
    subst (λ (n : ℕ). IsMade rows d e (tag_to label path (labelled d label path) n) step) (c.in_ok-new.ensures.rev d reads are old_is)
    (subst (λ (n : ℕ). IsMade rows d e (tag_to label path n c.in_ok-new.new) step) old_is (c.in_ok-step.ensures rows d e))
