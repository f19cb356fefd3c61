use Rattle.std.proofs.Common.{◌≡◌, ◌+◌, ap, sym, ◌∙◌}
use Rattle.depot_rows.specs.protect_table.Words.{words_of}
use Rattle.depot_rows.specs.db_records.declared.key.Key.TheVariants as keys
use Rattle.depot_rows.specs.depot_model.Records.{protect_record}
use Rattle.depot_rows.specs.depot_model.Rules.{Rows}
use Rattle.depot_rows.specs.Effects.{put_at}
use Rattle.row_changes.specs.Overlay.{seen}
use Rattle.row_changes.proofs.Guarded.{lines-more}
use Rattle.row_changes.proofs.overlay.Overlay.put_lines.Goals as goal

pub loop-line-preserved : goal.loop-line-preserved
loop-line-preserved c =
    let number : c.in-Some.next ≡ c.loop-line.line-index + 1 = c.in-Some.ensures.1 ∙ ap (λ n. n + 1) c.loop-line.invariant.count in
    record {
      count = number;
      done = λ rows q. c.in_ok-put_line.ensures rows q
          ∙ (λ i. put_at (keys.Protect (number i)) (protect_record (number i) (words_of c.line-item.result)) (λ k. c.loop-line.invariant.done rows k i) q)
          ∙ ap (λ (f : Rows). f q) (sym (lines-more c.args.lines.now c.loop-line.line-index c.line-item.result (seen c.args.self.now.touched rows) c.loop-line-test.true c.line-item.is));
    }
