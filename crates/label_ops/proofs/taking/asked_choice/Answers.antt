use Rattle.std.proofs.Common.{sym, ap, ◌∙◌}
use Rattle.depot_rows.specs.depot_path.declared.revision.Wanted.{Wanted}
use Rattle.depot_rows.specs.depot_path.declared.revision.Wanted.TheVariants.{One}
use Rattle.depot_rows.specs.depot_path.declared.revision.RevSpec.TheVariants.{Have}
use Rattle.depot_rows.specs.table_changes.Changed.{rows_of}
use Rattle.depot_rows.specs.depot_model.Steps.Tagging.{live_choice}
use Rattle.named_files.specs.declared.listing.Listing.TheVariants.{Submitted}
use Rattle.named_files.proofs.Wanting.{reads_wanted}
use Rattle.label_ops.proofs.Tags.{asked_have, asked_own}
use Rattle.label_ops.proofs.taking.asked_choice.Goals as goal

pub returns-in_ok-own-clause-rev : goal.returns-in_ok-own-clause-rev
returns-in_ok-own-clause-rev c = λ d reads are.
    let taking = c.args.taking.now in
    let caller = taking.caller.now in
    let there = reads_wanted caller taking.asker.now Submitted (rows_of c.args.tables.now) d reads (One Have) in
    c.in_ok-own.ensures.rev d are reads.sound reads.has_rev there
    ∙ ap (λ (w : Wanted). live_choice d caller w c.args.path.now) (asked_have taking.have c.args.wanted.now (sym c.asks_have-had.ensures ∙ c.if-had.true))

pub returns-in_ok-rev-clause-rev : goal.returns-in_ok-rev-clause-rev
returns-in_ok-rev-clause-rev c = λ d reads are.
    let taking = c.args.taking.now in
    let caller = taking.caller.now in
    let wanted = c.args.wanted.now in
    let there = reads_wanted caller taking.asker.now Submitted (rows_of c.args.tables.now) d reads wanted in
    c.in_ok-rev.ensures.rev d are reads.sound reads.has_rev there
    ∙ ap (λ (w : Wanted). live_choice d caller w c.args.path.now) (asked_own taking.have wanted (sym c.asks_have-had.ensures ∙ c.if-had.false))
