use Rattle.std.proofs.Common.{ap, ◌∙◌, ◌++◌, List}
use Rattle.std.specs.Prelude.{flat_map}
use Rattle.std.proofs.lemmas.List.{take_all}
use Rattle.depot_rows.specs.db_records.declared.record.Record.TheVariants as rows
use Rattle.depot_rows.specs.declared.deed.Entry.{Entry}
use Rattle.depot_rows.specs.Effects.{entry_pairs}
use Rattle.row_changes.specs.Landing.{integed_rows}
use Rattle.row_changes.proofs.Landed.{flat-more}
use Rattle.row_changes.proofs.landing.push_pairs.Goals as goal

pub loop-entry-preserved : goal.loop-entry-preserved
loop-entry-preserved c = c.in_ok-push_entry_pairs.ensures
    ∙ flat-more (entry_pairs c.args.change) (λ r. rows.Integed r) c.args.rows.now.items c.loop-entry.rows.items
    c.args.entries.now c.loop-entry.entry-index c.entry-item.result c.loop-entry-test.true c.entry-item.is c.loop-entry.invariant

pub returns : goal.returns
returns c = c.loop-entry.invariant
    ∙ ap (λ (l : List Entry). c.args.rows.now.items ++ integed_rows (flat_map (entry_pairs c.args.change) l)) (take_all c.loop-entry.entry-index c.args.entries.now c.loop-entry-test.false)
