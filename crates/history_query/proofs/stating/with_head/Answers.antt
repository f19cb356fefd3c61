use Rattle.std.proofs.Common.{List, ◌∷◌, [], ◌++◌, ◌∙◌}
use Rattle.std.specs.Prelude.{codes}
use Rattle.depot_rows.specs.depot_model.Rows.{number_field, text_field}
use Rattle.depot_rows.specs.depot_model.declared.reply.Field.{Field}
use Rattle.history_query.proofs.Pushed.{joined_on}
use Rattle.history_query.proofs.stating.with_head.Goals as goal

pub returns : goal.returns
returns c =
    let old : List Field = c.args.made in
    let two = c.in_ok-kind.ensures ∙ joined_on old _ _ _ c.in_ok-action.ensures in
    let three = c.in_ok-moment.ensures ∙ joined_on old _ _ _ two in
    let four = c.in_ok-rev.ensures ∙ joined_on old _ _ _ three in
    let five = c.in_ok-more.ensures ∙ joined_on old _ _ _ four in
    five
    ∙ (λ i. old
    ++ (text_field (codes "headAction") (c.as_bytes.ensures i) ∷ text_field (codes "headType") (c.as_bytes-2.ensures i)
    ∷ number_field (codes "headTime") c.args.change.now.moment ∷ number_field (codes "headRev") (c.from.ensures i)
    ∷ number_field (codes "headChange") (c.from-2.ensures i) ∷ []))
