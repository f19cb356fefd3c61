use Rattle.std.proofs.Common.{Bool, [], ◌∷◌, sym, subst, ◌∙◌}
use Rattle.depot_rows.specs.table_changes.Changed.{rows_of}
use Rattle.depot_rows.specs.depot_model.declared.refusal.Refusal.TheVariants.{LabelLocked}
use Rattle.depot_rows.specs.depot_model.Step.{refuse_if, unless}
use Rattle.reply_rows.specs.Made.{IsMade}
use Rattle.reply_rows.proofs.Joined.{made_refusal}
use Rattle.label_ops.specs.Tagged.{tagged}
use Rattle.label_ops.proofs.tagging.tag.Goals as goal

pub returns-then-locked : goal.returns-then-locked
returns-then-locked c = λ d sound asked domain have has_label change rev.
    let label = c.args.label.now in
    let rows = rows_of c.args.tables.now in
    subst (λ (b : Bool). IsMade rows d d (unless (refuse_if b (LabelLocked label) ∷ []) (tagged d c.args.caller.now label c.args.removes c.args.arguments.now)) c.in_ok-refused.refused)
    (sym c.if-locked.true ∙ c.in_ok-locked.ensures d sound domain)
    (made_refusal rows d d (LabelLocked label) c.in_ok-row.row c.in_ok-refused.refused c.in_ok-row.ensures c.in_ok-refused.ensures)

pub returns : goal.returns
returns c = λ d sound asked domain have has_label change rev.
    let label = c.args.label.now in
    let rows = rows_of c.args.tables.now in
    subst (λ (b : Bool). IsMade rows d d (unless (refuse_if b (LabelLocked label) ∷ []) (tagged d c.args.caller.now label c.args.removes c.args.arguments.now)) c.in_ok-step.step)
    (sym c.if-locked.false ∙ c.in_ok-locked.ensures d sound domain)
    (c.in_ok-step.ensures d (record {
      sound = sound;
      asked = asked;
      listed = rev;
      has_have = have;
      has_label = has_label;
      has_domain = domain;
      has_rev = rev;
      has_change = change;
    }))
