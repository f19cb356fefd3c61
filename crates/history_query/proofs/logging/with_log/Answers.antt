use Rattle.std.proofs.Common.{List, ◌∷◌, [], ◌++◌, ap, ◌∙◌, append_assoc}
use Rattle.std.specs.Prelude.{codes}
use Rattle.depot_rows.specs.depot_model.Rows.{text_field}
use Rattle.depot_rows.specs.depot_model.declared.reply.Field.{Field}
use Rattle.history_query.specs.Crediting.{credited}
use Rattle.history_query.specs.Logging.{credit_fields, digest_fields, revision_fields, size_fields}
use Rattle.history_query.proofs.Pushed.{joined_on}
use Rattle.history_query.proofs.logging.with_log.Goals as goal

pub returns : goal.returns
returns c =
    let old : List Field = c.args.made in
    let index = c.args.index.now in
    let row = c.args.row.now in
    let change = c.args.change.now in
    let two = c.in_ok-sized.ensures ∙ joined_on old _ _ _ c.in_ok-told.ensures in
    let three = c.in_ok-summed.ensures ∙ joined_on old _ _ _ two in
    let four = c.in_ok-described.ensures ∙ joined_on old _ _ _ three in
    let five = c.in_ok-more.ensures ∙ joined_on old _ _ _ four in
    let front = (revision_fields index row change ++ size_fields index row.digest row.length) ++ digest_fields index row.digest in
    let records = credit_fields index (credited c.args.credits.now row.rev) in
    five
    ∙ (λ i. old ++ ((front ++ (text_field (codes "desc" ++ index) (c.as_bytes.ensures i) ∷ [])) ++ records))
    ∙ ap (λ (l : List Field). old ++ l) (append_assoc front (text_field (codes "desc" ++ index) change.text ∷ []) records)
