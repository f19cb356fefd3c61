use Rattle.std.proofs.Common.{◌≡◌, ◌∷◌, [], ◌++◌, ◌<◌, ◌+◌, drop, length, sym, subst, ◌∙◌}
use Rattle.depot_path.specs.Filling.{IsFirst}
use Rattle.depot_path.proofs.Columns.{Walking, specifier_at, byte_at}
use Rattle.depot_path.proofs.filling.texts_by_columns.Goals.{then-is_specifier+in_ok-from_bytes+in_ok-push, else-is_specifier}
use Rattle.depot_path.proofs.filling.texts_by_columns.Goals as goal

pub loop-piece-preserved : goal.loop-piece-preserved
loop-piece-preserved c =
    let pieces = c.args.pieces.now in
    let text = c.args.text.now in
    let k = c.loop-piece.piece-index in
    let at = c.loop-piece.at in
    let done = c.loop-piece.texts.items in
    elim c.if-is_specifier.branch [
      | then-is_specifier+in_ok-from_bytes+in_ok-push w ↦
          let place = w.first_fit-end.result in
          let others = w.take_column-column.new.columns.items in
          let first = subst (λ cells. at < length cells → IsFirst cells at place) w.as_slice.ensures w.first_fit-end.ensures in
          let pushed : w.push.new.self.items ≡ done ++ w.in_ok-from_bytes.field-0 ∷ [] = cc w.in_ok-push.ensures.items in
          let next = specifier_at pieces text k _ at place c.loop-piece.columns.items others w.take_column-column.result done w.in_ok-from_bytes.field-0
          c.loop-piece-test.true (sym c.is_specifier.ensures ∙ w.if-is_specifier.true) c.loop-piece.invariant w.take_column-column.ensures first (λ p q. w.in_ok-from_bytes.ensures ∙ w.part.ensures p q) in
          rw (w.at-is, w.columns-is, w.texts-is) (subst (λ ts. Walking pieces text (drop (k + 1) pieces) place others ts) (sym pushed) next)
      | else-is_specifier w ↦
          let next = byte_at pieces text k _ at c.loop-piece.columns.items done c.loop-piece-test.true (sym c.is_specifier.ensures ∙ w.if-is_specifier.false) c.loop-piece.invariant in
          rw (w.at-is, w.columns-is, w.texts-is) next
    ]
