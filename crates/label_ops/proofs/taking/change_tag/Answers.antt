use Rattle.std.proofs.Common.{[], ◌∷◌, refl, sym, ap, ◌∙◌}
use Rattle.depot_rows.specs.depot_path.Path.{is_path}
use Rattle.depot_rows.specs.depot_model.Deeds.{Tag}
use Rattle.depot_rows.specs.depot_model.Steps.Tagging.{tag_row}
use Rattle.depot_rows.specs.declared.deed.Deed.TheVariants as dones
use Rattle.reply_rows.proofs.Joined.{made_done}
use Rattle.label_ops.specs.Tagged.{told_rev, word_of}
use Rattle.label_ops.proofs.Tags.{may_tag}
use Rattle.label_ops.proofs.taking.change_tag.Goals as goal

pub returns : goal.returns
returns c = λ all d e.
    let label = c.args.label.now in
    let path = c.args.path.now in
    let old = c.args.old in
    let new = c.args.new in
    let bytes = c.as_bytes-bytes.ensures in
    made_done all d e (dones.Tag c.in_ok-name.name c.in_ok-file.file new ∷ []) (Tag label path new ∷ []) c.in_ok-row.row
    (tag_row path (told_rev old new) (word_of old new)) c.in_ok-step.step
    (may_tag label path e new c.in_ok-name.name c.in_ok-file.file (ap is_path (sym bytes.value) ∙ bytes.path)
    c.in_ok-name.ensures c.in_ok-file.ensures)
    (c.in_ok-row.ensures ∙ (λ i. tag_row path (c.told_rev-rev.ensures i) (c.word_of-word.ensures i))) refl c.in_ok-step.ensures
