use Rattle.std.proofs.Common.{◌≡◌, ◌<◌, ◌+◌, ◌-◌, length, drop, subst, sym, ◌∙◌, arith}
use Rattle.std.proofs.lemmas.List.{take_at}
use Rattle.depot_path.specs.Filling.{IsColumn, AreColumns}
use Rattle.depot_path.proofs.Columns.{next_column, next_columns}
use Rattle.depot_path.proofs.filling.columns_of.Goals as goal

pub loop-at-preserved : goal.loop-at-preserved
loop-at-preserved c =
    let pieces = c.args.pieces.now in
    let text = c.args.text.now in
    let k = c.loop-at.at - 1 in
    let place : c.loop-at.at ≡ k + 1 = omega (arith, c.loop-at-test.true) in
    let low : k < length pieces = omega (arith, c.loop-at.invariant.0, place) in
    let column = subst (λ i. IsColumn (drop i pieces) text c.loop-at.column.items) place c.loop-at.invariant.1 in
    let columns = subst (λ i. AreColumns (drop i pieces) text c.loop-at.columns.items) place c.loop-at.invariant.2 in
    let seen = subst (λ cells. IsColumn (drop (k + 1) pieces) text cells) (sym c.deref.ensures.value) column in
    let written = subst (λ cells. IsColumn (drop (k + 1) pieces) text cells) (sym c.as_mut_slice.ensures.value) column in
    let new = c.add_piece.ensures (drop (k + 1) pieces) written in
    let count : length c.add_piece.new.column ≡ c.loop-at.column.len = new.size ∙ sym seen.size ∙ c.deref.ensures.len in (
      omega (arith, low),
      subst (λ cells. IsColumn (drop k pieces) text cells) (sym (take_at c.add_piece.new.column _ _ count)) (next_column pieces text k _ c.add_piece.new.column low new),
      next_columns pieces text k _ c.keep_column.new.columns.items low (c.in_ok-keep_column.ensures (drop (k + 1) pieces) text seen columns),
    )
