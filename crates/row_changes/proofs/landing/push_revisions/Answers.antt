use Rattle.std.proofs.Common.{ap, ◌∙◌, ◌++◌, map, List}
use Rattle.std.proofs.lemmas.List.{take_all}
use Rattle.depot_rows.specs.declared.deed.Entry.{Entry}
use Rattle.depot_rows.specs.Effects.{rev_row}
use Rattle.row_changes.proofs.Landed.{map-more}
use Rattle.row_changes.proofs.landing.push_revisions.Goals as goal

pub loop-entry-preserved : goal.loop-entry-preserved
loop-entry-preserved c = c.in_ok-push_revision.ensures
    ∙ map-more (rev_row c.args.change) c.args.rows.now.items c.loop-entry.rows.items
    c.args.entries.now c.loop-entry.entry-index c.entry-item.result c.loop-entry-test.true c.entry-item.is c.loop-entry.invariant

pub returns : goal.returns
returns c = c.loop-entry.invariant
    ∙ ap (λ (l : List Entry). c.args.rows.now.items ++ map (rev_row c.args.change) l) (take_all c.loop-entry.entry-index c.args.entries.now c.loop-entry-test.false)
