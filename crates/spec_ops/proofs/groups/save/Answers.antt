use Rattle.std.proofs.Common.{◌∷◌, ℕ, List, [], length, refl, sym, ap, ◌∙◌, subst}
use Rattle.std.specs.List.{list_all}
use Rattle.std.specs.Prelude.{codes, nat_lt, not}
use Rattle.depot_rows.specs.depot_path.Name.{is_name}
use Rattle.depot_rows.specs.spec_form.Form.{FormValue, lines_of}
use Rattle.depot_rows.specs.table_changes.Changed.{AllRows}
use Rattle.depot_rows.specs.depot_model.declared.refusal.Refusal.TheVariants.{BadForm}
use Rattle.depot_rows.specs.depot_model.Deeds.{Deed, Group}
use Rattle.depot_rows.specs.depot_model.Refusals.{refusal_row}
use Rattle.depot_rows.specs.depot_model.Steps.Groups.{saved}
use Rattle.depot_rows.specs.depot_model.Values.{value_of}
use Rattle.depot_rows.specs.Effects.{Follow}
use Rattle.depot_rows.specs.declared.deed.Deed.{Deed as Done}
use Rattle.depot_rows.specs.declared.deed.Deed.TheVariants as deeds
use Rattle.reply_rows.specs.declared.step.Step.{Step}
use Rattle.reply_rows.specs.Made.{IsMade}
use Rattle.command_parts.proofs.Refused.{holding_told, if_ok, passed_if}
use Rattle.spec_ops.specs.Saving.{saved_row}
use Rattle.spec_ops.proofs.Made.{does_made}
use Rattle.std.proofs.lemmas.Bool.{le-ltb, lt-ltb}
use Rattle.spec_ops.proofs.groups.save.Goals as goal

abbrev Saves : List ℕ → FormValue → Step → Type 0
Saves input form step = (all : AllRows) (d : List Deed) → IsMade all d d (saved input form) step

pub returns-then-not-is_name : goal.returns-then-not-is_name
returns-then-not-is_name c = if_ok {Q = Saves c.args.input.now c.args.form.now} _ _ c.tells.ensures (λ step told all d.
    let bad = ap is_name (sym c.form_value-group.ensures) ∙ sym c.is_name.ensures ∙ c.if-not-is_name.true in
    holding_told all d d _ _ _ _ c.in_ok-row.row step (ap not bad) c.in_ok-row.ensures told)

pub returns-then-subgroups-gt0 : goal.returns-then-subgroups-gt0
returns-then-subgroups-gt0 c = if_ok {Q = Saves c.args.input.now c.args.form.now} _ _ c.tells-then-subgroups-gt0.ensures (λ step told all d.
    let good = ap is_name (sym c.form_value-group.ensures) ∙ sym c.is_name.ensures ∙ c.if-not-is_name.false in
    let some = ap (λ (l : List (List ℕ)). nat_lt 0 (length l)) (sym c.lines-subgroups.ensures) ∙ lt-ltb 0 (length c.lines-subgroups.result.now) c.if-subgroups-gt0.true in
    passed_if all d d _ _ _ _ step (ap not good) (holding_told all d d _ _ _ _ c.in_ok-row-2.row step some
    (c.in_ok-row-2.ensures ∙ ap (λ (n : ℕ). refusal_row (BadForm n)) c.line_place.ensures) told))

pub returns-then-not-are_names : goal.returns-then-not-are_names
returns-then-not-are_names c = if_ok {Q = Saves c.args.input.now c.args.form.now} _ _ c.tells-then-not-are_names.ensures (λ step told all d.
    let good = ap is_name (sym c.form_value-group.ensures) ∙ sym c.is_name.ensures ∙ c.if-not-is_name.false in
    let none = ap (λ (l : List (List ℕ)). nat_lt 0 (length l)) (sym c.lines-subgroups.ensures) ∙ le-ltb 0 (length c.lines-subgroups.result.now) c.if-subgroups-gt0.false in
    let bad = ap (list_all is_name) (sym c.lines-users.ensures) ∙ sym c.are_names.ensures ∙ c.if-not-are_names.true in
    passed_if all d d _ _ _ _ step (ap not good) (passed_if all d d _ _ _ _ step none
    (holding_told all d d _ _ _ _ c.in_ok-row-3.row step (ap not bad) c.in_ok-row-3.ensures told)))

pub returns-then-users-gt10000 : goal.returns-then-users-gt10000
returns-then-users-gt10000 c = if_ok {Q = Saves c.args.input.now c.args.form.now} _ _ c.tells-then-users-gt10000.ensures (λ step told all d.
    let good = ap is_name (sym c.form_value-group.ensures) ∙ sym c.is_name.ensures ∙ c.if-not-is_name.false in
    let none = ap (λ (l : List (List ℕ)). nat_lt 0 (length l)) (sym c.lines-subgroups.ensures) ∙ le-ltb 0 (length c.lines-subgroups.result.now) c.if-subgroups-gt0.false in
    let names = ap (list_all is_name) (sym c.lines-users.ensures) ∙ sym c.are_names.ensures ∙ c.if-not-are_names.false in
    let many = ap (λ (l : List (List ℕ)). nat_lt 10000 (length l)) (sym c.lines-users.ensures) ∙ lt-ltb 10000 (length c.lines-users.result.now) c.if-users-gt10000.true in
    passed_if all d d _ _ _ _ step (ap not good) (passed_if all d d _ _ _ _ step none (passed_if all d d _ _ _ _ step (ap not names)
    (holding_told all d d _ _ _ _ c.in_ok-row-4.row step many c.in_ok-row-4.ensures told))))

pub named-requires : goal.named-requires
named-requires c = sym c.is_name.ensures ∙ c.if-not-is_name.false

pub names_of-requires : goal.names_of-requires
names_of-requires c = sym c.are_names.ensures ∙ c.if-not-are_names.false

pub returns : goal.returns
returns c = λ all d.
    let form = c.args.form.now in
    let group = value_of form (codes "Group") in
    let users = lines_of form (codes "Users") in
    let good = ap is_name (sym c.form_value-group.ensures) ∙ sym c.is_name.ensures ∙ c.if-not-is_name.false in
    let none = ap (λ (l : List (List ℕ)). nat_lt 0 (length l)) (sym c.lines-subgroups.ensures) ∙ le-ltb 0 (length c.lines-subgroups.result.now) c.if-subgroups-gt0.false in
    let names = ap (list_all is_name) (sym c.lines-users.ensures) ∙ sym c.are_names.ensures ∙ c.if-not-are_names.false in
    let few = ap (λ (l : List (List ℕ)). nat_lt 10000 (length l)) (sym c.lines-users.ensures) ∙ le-ltb 10000 (length c.lines-users.result.now) c.if-users-gt10000.false in
    let named = c.in_ok-name.ensures ∙ c.form_value-group.ensures in
    let listed = c.in_ok-users.ensures ∙ c.lines-users.ensures in
    passed_if all d d _ _ _ _ _ (ap not good) (passed_if all d d _ _ _ _ _ none (passed_if all d d _ _ _ _ _ (ap not names) (passed_if all d d _ _ _ _ _ few
    (does_made all d (deeds.Group c.in_ok-name.name c.in_ok-users.users) (Group group users) c.in_ok-row-5.row (saved_row (codes "Group") group) c.in_ok-step.step c.group.new.self
    (subst (λ (done : Done). Follow d (done ∷ []) (Group group users ∷ [])) (λ i. deeds.Group (sym named i) (sym listed i)) (refl, tt, tt))
    (c.in_ok-row-5.ensures ∙ ap (saved_row (codes "Group")) c.form_value-group.ensures) refl c.in_ok-step.ensures c.in_ok-group.ensures.done))))
