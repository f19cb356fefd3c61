use Rattle.std.proofs.Common.{◌≡◌, ℕ, true, false, List, length, sym, ap, ◌∙◌}
use Rattle.std.proofs.lemmas.Bool.{le-ltb, lt-ltb}
use Rattle.std.specs.Prelude.{◌-◌, codes, nat_lt, not}
use Rattle.depot_rows.specs.depot_path.Name.{is_name}
use Rattle.depot_rows.specs.spec_form.Form.{FormValue}
use Rattle.depot_rows.specs.spec_form.Places.{line_place}
use Rattle.depot_rows.specs.table_changes.Changed.{AllRows}
use Rattle.depot_rows.specs.depot_model.declared.refusal.Refusal.TheVariants.{BadForm}
use Rattle.depot_rows.specs.depot_model.Deeds.{Deed}
use Rattle.depot_rows.specs.depot_model.Steps.Clients.{saved}
use Rattle.depot_rows.specs.depot_model.Values.{value_of}
use Rattle.depot_rows.specs.view_map.Reading.{view_of}
use Rattle.depot_rows.specs.view_map.declared.fault.ViewFault.{ViewFault}
use Rattle.reply_rows.specs.declared.step.Step.{Step}
use Rattle.reply_rows.specs.Made.{IsMade}
use Rattle.command_parts.proofs.Refused.{holding_told, if_ok, passed_if}
use Rattle.spec_ops.proofs.Read.{by_read}
use Rattle.spec_ops.proofs.clients.save.Goals as goal

abbrev Saves : List ℕ → FormValue → Step → Type 0
Saves input form step = (all : AllRows) (d : List Deed) → IsMade all d d (saved input form) step

pub returns-then-not-is_name : goal.returns-then-not-is_name
returns-then-not-is_name c = if_ok {Q = Saves c.args.input.now c.args.form} _ _ c.tells.ensures (λ step told all d.
    let bad : is_name (value_of c.args.form (codes "Client")) ≡ false = ap is_name (sym c.form_value-name.ensures) ∙ sym c.is_name.ensures ∙ c.if-not-is_name.true in
    holding_told all d d _ _ _ _ c.in_ok-row.row step (ap not bad) c.in_ok-row.ensures told)

pub returns-then-lines-gt200 : goal.returns-then-lines-gt200
returns-then-lines-gt200 c = if_ok {Q = Saves c.args.input.now c.args.form} _ _ c.tells-then-lines-gt200.ensures (λ step told all d.
    let good : is_name (value_of c.args.form (codes "Client")) ≡ true = ap is_name (sym c.form_value-name.ensures) ∙ sym c.is_name.ensures ∙ c.if-not-is_name.false in
    let long = ap (λ (l : List (List ℕ)). nat_lt 200 (length l)) (sym c.lines-lines.ensures) ∙ lt-ltb 200 (length c.lines-lines.result.now) c.if-lines-gt200.true in
    passed_if all d d _ _ _ _ step (ap not good) (holding_told all d d _ _ _ _ c.in_ok-row-2.row step long c.in_ok-row-2.ensures told))

pub returns-in-Ok : goal.returns-in-Ok
returns-in-Ok c = if_ok {Q = Saves c.args.input.now c.args.form} _ _ c.keep_form.ensures (λ step made all d.
    let good : is_name (value_of c.args.form (codes "Client")) ≡ true = ap is_name (sym c.form_value-name.ensures) ∙ sym c.is_name.ensures ∙ c.if-not-is_name.false in
    let short = ap (λ (l : List (List ℕ)). nat_lt 200 (length l)) (sym c.lines-lines.ensures) ∙ le-ltb 200 (length c.lines-lines.result.now) c.if-lines-gt200.false in
    passed_if all d d _ _ _ _ step (ap not good) (passed_if all d d _ _ _ _ step short
    (by_read all d _ (λ (fault : ViewFault). BadForm (line_place c.args.input.now (codes "View") (fault.line - 1))) _ _ step _ c.in-Ok.field-0 c.in-Ok.ensures
    (λ i. view_of ((c.in_ok-name.ensures ∙ c.form_value-name.ensures) i) (c.lines-lines.ensures i)) (made all d))))
