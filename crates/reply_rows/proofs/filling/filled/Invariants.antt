use Rattle.std.proofs.Common.{◌≡◌, ◌≤◌, List, length, map, take}
use Rattle.depot_rows.specs.depot_model.declared.reply.Row.{Row}
use Rattle.reply_rows.specs.Made.{contents_of, waiting}
use Rattle.reply_rows.proofs.Waiting.{partly}
use Rattle.reply_rows.proofs.filling.filled.Given as goal

abbrev pub invariant-loop-left : goal.invariant-loop-left
invariant-loop-left l = record {
  within : l.left ≤ length l.rows.items;
  told : (rows : List Row) → l.fn.reply.rows ≡ map waiting rows → l.fn.contents ≡ contents_of rows
      → (l.left ≤ length rows) × (l.rows.items ≡ partly l.left rows) × (l.texts.items ≡ contents_of (take l.left rows));
}

abbrev pub decreases-loop-left : goal.decreases-loop-left
decreases-loop-left l = l.left
