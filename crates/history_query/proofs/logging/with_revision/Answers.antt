use Rattle.std.proofs.Common.{List, ◌∷◌, [], ◌++◌, ◌∙◌}
use Rattle.std.specs.Prelude.{codes}
use Rattle.depot_rows.specs.depot_model.Rows.{number_field, text_field}
use Rattle.depot_rows.specs.depot_model.declared.reply.Field.{Field}
use Rattle.history_query.proofs.Pushed.{joined_on}
use Rattle.history_query.proofs.logging.with_revision.Goals as goal

pub returns : goal.returns
returns c =
    let old : List Field = c.args.made in
    let index = c.args.index.now in
    let two = c.in_ok-number.ensures ∙ joined_on old _ _ _ c.in_ok-rev.ensures in
    let three = c.in_ok-action.ensures ∙ joined_on old _ _ _ two in
    let four = c.in_ok-kind.ensures ∙ joined_on old _ _ _ three in
    let five = c.in_ok-moment.ensures ∙ joined_on old _ _ _ four in
    let six = c.in_ok-user.ensures ∙ joined_on old _ _ _ five in
    let seven = c.in_ok-client.ensures ∙ joined_on old _ _ _ six in
    seven
    ∙ (λ i. old
    ++ (number_field (codes "rev" ++ index) (c.from.ensures i) ∷ number_field (codes "change" ++ index) (c.from-2.ensures i)
    ∷ text_field (codes "action" ++ index) (c.as_bytes.ensures i) ∷ text_field (codes "type" ++ index) (c.as_bytes-2.ensures i)
    ∷ number_field (codes "time" ++ index) c.args.change.now.moment ∷ text_field (codes "user" ++ index) (c.as_bytes-3.ensures i)
    ∷ text_field (codes "client" ++ index) (c.as_bytes-4.ensures i) ∷ []))
