use Rattle.std.proofs.Common.{◌≡◌, Bool, Some, sym, ap, ◌∙◌}
use Rattle.std.specs.Prelude.{not, option_map}
use Rattle.depot_rows.specs.depot_path.Path.{printed}
use Rattle.depot_rows.specs.protect_table.Rights.{may}
use Rattle.depot_rows.specs.depot_model.declared.refusal.Refusal.TheVariants.{Denied}
use Rattle.depot_rows.specs.depot_model.declared.reply.Row.{Row}
use Rattle.depot_rows.specs.depot_model.Asking.{may_at}
use Rattle.depot_rows.specs.depot_model.Refusals.{refusal_row}
use Rattle.depot_rows.specs.depot_model.Step.{refuse_if}
use Rattle.opening_parts.proofs.refusing.right_refusal.Goals as goal

pub returns-then-may : goal.returns-then-may
returns-then-may c = λ d caller asked.
    let path = c.args.path.now in
    let need = c.args.need.0 in
    let may_is : c.may.result ≡ may_at d caller path need = c.may.ensures ∙ (λ i. may (asked.protects i) (asked.who i) path need) in
    ap (λ (m : Bool). option_map refusal_row (refuse_if (not m) (Denied (printed path) need))) (sym c.if-may.true ∙ may_is)

pub returns : goal.returns
returns c = λ d caller asked.
    let path = c.args.path.now in
    let need = c.args.need.0 in
    let may_is : c.may.result ≡ may_at d caller path need = c.may.ensures ∙ (λ i. may (asked.protects i) (asked.who i) path need) in
    ap (λ (r : Row). Some r) c.in_ok-row.ensures
    ∙ ap (λ (m : Bool). option_map refusal_row (refuse_if (not m) (Denied (printed path) need))) (sym c.if-may.false ∙ may_is)
