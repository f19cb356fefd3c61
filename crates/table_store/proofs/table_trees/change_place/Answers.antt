use Rattle.std.proofs.Common.{sym, ap, ◌∙◌}
use Rattle.table_store.specs.Marks.{mark_of}
use Rattle.table_store.specs.SearchKey.{mark_found}
use Rattle.table_store.proofs.Marks.{places_tried, more_tried, places_unmarked}
use Rattle.table_store.proofs.table_trees.change_place.Goals as goal

pub returns-in-Some-clause-places : goal.returns-in-Some-clause-places
returns-in-Some-clause-places c = places_tried c.args.row.now c.args.marked.now c.args.op c.change.new.self c.change.result c.change.ensures.ok

pub returns-in-Some-clause-more : goal.returns-in-Some-clause-more
returns-in-Some-clause-more c = more_tried c.args.row.now c.args.marked.now c.args.op c.change.new.self c.change.result c.change.ensures.ok

pub returns-in-None-clause-places : goal.returns-in-None-clause-places
returns-in-None-clause-places c = places_unmarked c.args.row.now c.args.marked.now c.args.op (sym (c.of_row.ensures ∙ ap mark_of c.row.ensures) ∙ ap mark_found c.in-None.is)
