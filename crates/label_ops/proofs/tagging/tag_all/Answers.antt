use Rattle.std.proofs.Common.{[], ap, false, subst, ◌∙◌}
use Rattle.depot_rows.specs.table_changes.Changed.{rows_of}
use Rattle.depot_rows.specs.depot_model.Step.{Step as ModelStep}
use Rattle.depot_rows.specs.depot_model.declared.command.Labelling.{Labelling}
use Rattle.depot_rows.specs.depot_model.Steps.Tagging.{made_label, tag_files}
use Rattle.reply_rows.specs.Made.{IsMade}
use Rattle.label_ops.specs.Tagged.{taken_files}
use Rattle.label_ops.proofs.Following.{files_tag}
use Rattle.label_ops.proofs.Made.{tagged_on}
use Rattle.label_ops.proofs.Tags.{tags}
use Rattle.label_ops.proofs.tagging.tag_all.Goals as goal

pub returns : goal.returns
returns c = λ d reads.
    let caller = c.args.caller.now in
    let label = c.args.label.now in
    let removes = c.args.removes in
    let arguments = c.args.arguments.now in
    let rows = rows_of c.args.tables.now in
    let more = c.in_ok-more.more in
    let said = c.in_ok-add.ensures in
    c.in_ok-step.ensures rows d d _
    (tagged_on rows d (record { deeds = made_label d label; rows = [] }) (tag_files d caller label removes arguments) c.in_ok-made.made more c.add.new.self
    (files_tag d caller label removes arguments) (c.in_ok-made.ensures d d reads.has_domain)
    (subst (λ (m : ModelStep). IsMade rows d d m more)
    (ap (λ (l : Labelling). taken_files false l false d caller label arguments) c.labelling_of.ensures ∙ tags d caller label removes arguments)
    (c.in_ok-more.ensures d reads)) said.deeds said.rows said.stores said.reads)
