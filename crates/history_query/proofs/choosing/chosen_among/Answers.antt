use Rattle.std.proofs.Common.{◌≡◌, ◌∷◌, ap, length, arith}
use Rattle.std.specs.Prelude.{filter}
use Rattle.std.specs.Vec.Iter.{into_iter_items}
use Rattle.depot_rows.specs.db_records.declared.table.TableId.TheVariants as tables
use Rattle.depot_rows.specs.table_changes.Changed.{rows_of}
use Rattle.file_steps.proofs.Going.{kept_on}
use Rattle.named_files.specs.Sets.{is_listed}
use Rattle.history_query.proofs.choosing.chosen_among.Goals as goal

pub loop-path-preserved : goal.loop-path-preserved
loop-path-preserved c =
    let at = c.loop-path in
    let steps : into_iter_items at.path-iterator ≡ c.in-Some.path ∷ into_iter_items c.next.new.self = c.in-Some.ensures.steps.0 in
    let rows = rows_of c.args.tables.now tables.Rev in
    let said = c.in_ok-add_chosen.ensures in
    record {
      heads = λ all are. said.heads all (at.invariant.heads all are);
      goes = λ d reads are.
          let test = is_listed c.args.shown.now.caller.now d c.args.argument.now in
          kept_on test at.found.paths c.add_chosen.new.found.paths c.in-Some.path (into_iter_items at.path-iterator)
          (into_iter_items c.next.new.self) (filter test c.args.candidates) steps (said.paths d reads (at.invariant.heads rows are))
          (at.invariant.goes d reads are);
      rows = λ d reads are. said.rows d reads (at.invariant.heads rows are) (at.invariant.rows d reads are);
      left = let was = at.invariant.left in let gone = c.in-Some.ensures.steps.1 in let short = ap length steps in omega arith;
    }
