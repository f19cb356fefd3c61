use Rattle.std.proofs.Common.{ℕ, List, Bool, true, [], ◌∷◌, sym, subst, ◌∙◌}
use Rattle.std.specs.Prelude.{not}
use Rattle.depot_rows.specs.table_changes.Changed.{rows_of}
use Rattle.depot_rows.specs.depot_model.declared.refusal.Refusal.TheVariants.{LabelLocked, NoSuchLabel}
use Rattle.depot_rows.specs.depot_model.Asking.{is_label}
use Rattle.depot_rows.specs.depot_model.Step.{Step as ModelStep, refuse_if, unless}
use Rattle.depot_rows.specs.depot_model.Steps.Labels.{is_locked}
use Rattle.reply_rows.specs.Made.{IsMade}
use Rattle.reply_rows.proofs.Joined.{made_refusal}
use Rattle.label_ops.specs.Tagged.{synced}
use Rattle.label_ops.proofs.Tags.{syncs}
use Rattle.label_ops.proofs.tagging.labelsync.Goals as goal

abbrev refused_by : List ℕ → ModelStep → Bool → Bool → ModelStep
refused_by label whole there locked = unless (refuse_if (not there) (NoSuchLabel label) ∷ refuse_if locked (LabelLocked label) ∷ []) whole

pub returns-then-not-there : goal.returns-then-not-there
returns-then-not-there c = λ d sound asked domain have has_label change rev.
    let label = c.args.label.now in
    let rows = rows_of c.args.tables.now in
    let labelling = c.args.labelling in
    let whole = synced d c.args.caller.now label labelling c.args.arguments.now in
    subst (λ (m : ModelStep). IsMade rows d d (unless (refuse_if (not (is_label d label)) (NoSuchLabel label) ∷ refuse_if (is_locked d label) (LabelLocked label) ∷ []) m) c.in_ok-absent.absent)
    (syncs d c.args.caller.now label labelling c.args.arguments.now)
    (subst (λ (b : Bool). IsMade rows d d (refused_by label whole b (is_locked d label)) c.in_ok-absent.absent) (sym c.if-not-there.true ∙ c.in_ok-there.ensures d domain)
    (made_refusal rows d d (NoSuchLabel label) c.in_ok-row.row c.in_ok-absent.absent c.in_ok-row.ensures c.in_ok-absent.ensures))

pub returns-then-locked : goal.returns-then-locked
returns-then-locked c = λ d sound asked domain have has_label change rev.
    let label = c.args.label.now in
    let rows = rows_of c.args.tables.now in
    let labelling = c.args.labelling in
    let whole = synced d c.args.caller.now label labelling c.args.arguments.now in
    subst (λ (m : ModelStep). IsMade rows d d (unless (refuse_if (not (is_label d label)) (NoSuchLabel label) ∷ refuse_if (is_locked d label) (LabelLocked label) ∷ []) m) c.in_ok-refused.refused)
    (syncs d c.args.caller.now label labelling c.args.arguments.now)
    (subst (λ (b : Bool). IsMade rows d d (refused_by label whole b (is_locked d label)) c.in_ok-refused.refused) (sym c.if-not-there.false ∙ c.in_ok-there.ensures d domain)
    (subst (λ (b : Bool). IsMade rows d d (refused_by label whole true b) c.in_ok-refused.refused) (sym c.if-locked.true ∙ c.in_ok-locked.ensures d sound domain)
    (made_refusal rows d d (LabelLocked label) c.in_ok-told.told c.in_ok-refused.refused c.in_ok-told.ensures c.in_ok-refused.ensures)))

pub returns : goal.returns
returns c = λ d sound asked domain have has_label change rev.
    let label = c.args.label.now in
    let rows = rows_of c.args.tables.now in
    let labelling = c.args.labelling in
    let whole = synced d c.args.caller.now label labelling c.args.arguments.now in
    subst (λ (m : ModelStep). IsMade rows d d (unless (refuse_if (not (is_label d label)) (NoSuchLabel label) ∷ refuse_if (is_locked d label) (LabelLocked label) ∷ []) m) c.in_ok-step.step)
    (syncs d c.args.caller.now label labelling c.args.arguments.now)
    (subst (λ (b : Bool). IsMade rows d d (refused_by label whole b (is_locked d label)) c.in_ok-step.step) (sym c.if-not-there.false ∙ c.in_ok-there.ensures d domain)
    (subst (λ (b : Bool). IsMade rows d d (refused_by label whole true b) c.in_ok-step.step) (sym c.if-locked.false ∙ c.in_ok-locked.ensures d sound domain)
    (c.in_ok-step.ensures rows d d _ (c.in_ok-whole.ensures d (record {
      sound = sound;
      asked = asked;
      listed = rev;
      has_have = have;
      has_label = has_label;
      has_domain = domain;
      has_rev = rev;
      has_change = change;
    })))))
