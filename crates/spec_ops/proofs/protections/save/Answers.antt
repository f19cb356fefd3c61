use Rattle.std.proofs.Common.{◌∷◌, ◌++◌, ℕ, List, [], length, map, refl, sym, ap, ◌∙◌, subst}
use Rattle.std.proofs.lemmas.Bool.{le-ltb, lt-ltb}
use Rattle.std.specs.Prelude.{◌-◌, codes}
use Rattle.depot_rows.specs.protect_table.Line.{table_of}
use Rattle.depot_rows.specs.protect_table.declared.fault.ProtectFault.{ProtectFault}
use Rattle.depot_rows.specs.spec_form.Places.{line_place}
use Rattle.depot_rows.specs.table_changes.Changed.{AllRows}
use Rattle.depot_rows.specs.depot_model.declared.refusal.Refusal.{Refusal}
use Rattle.depot_rows.specs.depot_model.declared.refusal.Refusal.TheVariants.{BadForm}
use Rattle.depot_rows.specs.depot_model.declared.reply.Field.{Field}
use Rattle.depot_rows.specs.depot_model.Deeds.{Deed, Guard}
use Rattle.depot_rows.specs.depot_model.Rows.{row, text_field}
use Rattle.depot_rows.specs.depot_model.Steps.Protections.{kept_line, saved}
use Rattle.depot_rows.specs.Effects.{Follow}
use Rattle.depot_rows.specs.declared.deed.Deed.TheVariants as deeds
use Rattle.reply_rows.specs.declared.step.Step.{Step}
use Rattle.reply_rows.specs.Made.{IsMade}
use Rattle.command_parts.proofs.Refused.{holding_told, if_ok, passed_if}
use Rattle.spec_ops.proofs.Made.{does_made}
use Rattle.spec_ops.proofs.Read.{unless_fault}
use Rattle.spec_ops.proofs.protections.save.Goals as goal

abbrev Saves : List ℕ → List (List ℕ) → Step → Type 0
Saves input lines step = (all : AllRows) (d : List Deed) → IsMade all d d (saved input lines) step

abbrev why : List ℕ → ProtectFault → Refusal
why input fault = BadForm (line_place input (codes "Protections") (fault.line - 1))

pub returns-then-lines-gt1000 : goal.returns-then-lines-gt1000
returns-then-lines-gt1000 c =
    let lines = c.args.lines.now in
    if_ok {Q = Saves c.args.input.now lines} _ _ c.tells-then-lines-gt1000.ensures (λ step told all d.
    unless_fault all d _ (why c.args.input.now) _ _ step (table_of lines) c.from_lines.result c.in_default.not-Err c.from_lines.ensures refl
    (holding_told all d d _ _ _ _ c.in_ok-row.row step (lt-ltb 1000 (length lines) c.if-lines-gt1000.true) c.in_ok-row.ensures told))

pub returns : goal.returns
returns c = λ all d.
    let lines = c.args.lines.now in
    let field = text_field (codes "action") (codes "saved") in
    unless_fault all d _ (why c.args.input.now) _ _ _ (table_of lines) c.from_lines.result c.in_default.not-Err c.from_lines.ensures refl
    (passed_if all d d _ _ _ _ _ (le-ltb 1000 (length lines) c.if-lines-gt1000.false)
    (does_made all d (deeds.Guard c.in_ok-kept.kept) (Guard (map kept_line lines)) c.row.result (row (field ∷ [])) c.in_ok-step.step c.guard.new.self
    (subst (λ (l : List (List ℕ)). Follow d (deeds.Guard l ∷ []) (Guard (map kept_line lines) ∷ [])) (sym c.in_ok-kept.ensures) (refl, tt, tt))
    (c.row.ensures ∙ ap row (c.in_ok-row-2.ensures ∙ ap (λ (l : List Field). l ++ field ∷ []) c.new.ensures)) refl c.in_ok-step.ensures c.in_ok-guard.ensures.done))
