use Rattle.std.proofs.Common.{List, [], ◌∷◌, ◌++◌, ap, sym, ◌∙◌, append_assoc, None}
use Rattle.depot_rows.specs.db_records.declared.key.Key.{Key}
use Rattle.depot_rows.specs.depot_model.Rules.{Rows}
use Rattle.depot_rows.specs.Effects.{put_at}
use Rattle.row_changes.specs.Overlay.{seen}
use Rattle.row_changes.proofs.Removed.{removed-push}
use Rattle.row_changes.proofs.overlay.Overlay.remove.Goals as goal

pub loop-key-preserved : goal.loop-key-preserved
loop-key-preserved c = record {
  whole = append_assoc c.loop-key.yielded (c.in-Some.key ∷ []) c.next.new.self.rest.items
      ∙ ap (λ (x : List Key). c.loop-key.yielded ++ x) (sym c.in-Some.ensures.steps.0) ∙ c.loop-key.invariant.whole;
  done = λ rows q. c.in_ok-put.ensures rows q ∙ ap (λ (r : Rows). put_at c.in-Some.key None r q) (λ i k. c.loop-key.invariant.done rows k i)
      ∙ ap (λ (r : Rows). r q) (sym (removed-push c.loop-key.yielded c.in-Some.key (seen c.args.self.now.touched rows)));
}
