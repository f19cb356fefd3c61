use Rattle.std.proofs.Common.{List, ℕ, [], ◌∷◌, ap, refl, sym, ◌∙◌}
use Rattle.history_query.specs.Leaping.{texts_put}
use Rattle.history_query.proofs.Leaps.{put_more}
use Rattle.history_query.proofs.leaping.set_of.Goals as goal

pub loop-text-preserved : goal.loop-text-preserved
loop-text-preserved c =
    let at = c.loop-text in
    let before : List (List ℕ) = c.pop.new.self.items in
    ap (texts_put before) c.in_ok-insert.ensures
    ∙ sym (put_more before (c.in-Some.text ∷ []) at.set _ refl)
    ∙ ap (λ (l : List (List ℕ)). texts_put l at.set) (sym c.in-Some.ensures.items)
    ∙ at.invariant
