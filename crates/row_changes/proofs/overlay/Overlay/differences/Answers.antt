use Rattle.std.proofs.Common.{List, [], ◌∷◌, ◌++◌, ap, sym, subst, ◌∙◌, append_assoc}
use Rattle.std.specs.Prelude.{Option}
use Rattle.depot_rows.specs.db_records.declared.change.Change.{Change}
use Rattle.depot_rows.specs.db_records.declared.key.Key.{Key}
use Rattle.depot_rows.specs.db_records.declared.record.Record.{Record}
use Rattle.depot_rows.specs.table_changes.Changed.{rows_of}
use Rattle.row_changes.specs.Difference.{AreMade}
use Rattle.depot_rows.specs.Standing.{row_in}
use Rattle.row_changes.proofs.Made.{AreMade-push}
use Rattle.row_changes.proofs.overlay.Overlay.differences.Goals as goal

pub loop-key-init : goal.loop-key-init
unfolding AreMade
loop-key-init c = record { made = c.new-changes.ensures.items; whole = c.into_iter-key-iterator.ensures.into_iter_gives.0 }

pub loop-key-preserved : goal.loop-key-preserved
loop-key-preserved c = record {
  made = subst (λ (x : List Change). AreMade (row_in (rows_of c.args.tables.now)) (c.loop-key.yielded ++ (c.in-Some.key, c.in-Some.after) ∷ []) x) (sym c.in_ok-add_difference.ensures.2)
      (AreMade-push (row_in (rows_of c.args.tables.now)) c.loop-key.yielded c.loop-key.changes.items (c.in-Some.key, c.in-Some.after) c.in_ok-add_difference.ensures.0 c.loop-key.invariant.made c.in_ok-add_difference.ensures.1);
  whole = append_assoc c.loop-key.yielded ((c.in-Some.key, c.in-Some.after) ∷ []) c.next.new.self
      ∙ ap (λ (x : List (Key × Option Record)). c.loop-key.yielded ++ x) (sym c.in-Some.ensures.steps) ∙ c.loop-key.invariant.whole;
}
