use Rattle.std.proofs.Common.{List, ◌∷◌, [], ◌++◌, ◌∙◌}
use Rattle.std.specs.Prelude.{codes}
use Rattle.depot_rows.specs.depot_model.Rows.{number_field, text_field}
use Rattle.depot_rows.specs.depot_model.declared.reply.Field.{Field}
use Rattle.history_query.proofs.Pushed.{joined_on}
use Rattle.history_query.proofs.logging.with_record.Goals as goal

pub returns : goal.returns
returns c =
    let old : List Field = c.args.made in
    let two = c.in_ok-file.ensures ∙ joined_on old _ _ _ c.in_ok-how.ensures in
    let three = c.in_ok-first.ensures ∙ joined_on old _ _ _ two in
    let four = c.in_ok-last.ensures ∙ joined_on old _ _ _ three in
    let index = c.in_ok-index.ensures in
    four
    ∙ (λ i. old
    ++ (text_field (codes "how" ++ (c.as_bytes.ensures ∙ index) i) (c.as_bytes-2.ensures i) ∷ text_field (codes "file" ++ (c.as_bytes-3.ensures ∙ index) i) (c.as_bytes-4.ensures i)
    ∷ number_field (codes "srev" ++ (c.as_bytes-5.ensures ∙ index) i) (c.from.ensures i) ∷ number_field (codes "erev" ++ (c.as_bytes-6.ensures ∙ index) i) (c.from-2.ensures i) ∷ []))
