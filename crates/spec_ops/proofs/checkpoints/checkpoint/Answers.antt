use Rattle.std.proofs.Common.{◌≡◌, ◌<◌, ◌≤◌, ◌+◌, ◌∷◌, ◌++◌, List, [], ℕ, Some, refl, ap, sym, subst, ◌∙◌, arith}
use Rattle.std.proofs.lemmas.Bool.Decides.{nat_tests}
use Rattle.std.specs.Prelude.{codes}
use Rattle.depot_rows.specs.db_records.declared.key.Key.TheVariants as keys
use Rattle.depot_rows.specs.db_records.declared.table.TableId.TheVariants as table_ids
use Rattle.depot_rows.specs.depot_model.declared.refusal.Limit.TheVariants.{Generation}
use Rattle.depot_rows.specs.depot_model.declared.refusal.Refusal.TheVariants.{OverLimit}
use Rattle.depot_rows.specs.depot_model.declared.reply.Field.{Field}
use Rattle.depot_rows.specs.depot_model.Deeds.{Count, Deed}
use Rattle.depot_rows.specs.depot_model.Rows.{row, number_field}
use Rattle.depot_rows.specs.depot_model.Step.{Step as ModelStep}
use Rattle.depot_rows.specs.depot_model.Steps.Checkpoint.{checkpoint, generation}
use Rattle.depot_rows.specs.Effects.{Follow}
use Rattle.depot_rows.specs.Standing.{HasRows}
use Rattle.depot_rows.specs.declared.deed.Deed.TheVariants as deeds
use Rattle.depot_rows.specs.table_changes.Changed.{rows_of}
use Rattle.depot_rows.specs.table_store.Rows.{row_at}
use Rattle.reply_rows.specs.declared.step.Step.{Step}
use Rattle.reply_rows.specs.Made.{IsMade}
use Rattle.reply_rows.proofs.Joined.{made_refusal}
use Rattle.command_parts.proofs.Refused.{if_ok}
use Rattle.spec_ops.specs.Counters.{value_in}
use Rattle.spec_ops.proofs.Made.{does_made}
use Rattle.spec_ops.proofs.NextGeneration.{generation_is, is_last, is_next}
use Rattle.spec_ops.proofs.checkpoints.checkpoint.Goals as goal

pub returns-then-generation-ge-LAST : goal.returns-then-generation-ge-LAST
returns-then-generation-ge-LAST c =
    let rows = rows_of c.args.tables.now in
    let Q : Step → Type 0 = λ step. (d : List Deed) → HasRows rows d table_ids.Counter → IsMade rows d d (checkpoint d) step in
    if_ok {Q = Q} _ _ c.tells.ensures (λ step told d has.
    let n : ℕ = c.in_ok-generation.generation in
    let is : n ≡ generation d =
    c.in_ok-generation.ensures ∙ ap (λ (name : List ℕ). value_in (row_at (keys.Counter name) (rows table_ids.Counter))) c.in_ok-name.ensures ∙ generation_is rows d has in
    let reached = c.if-generation-ge-LAST.true in
    let last : 4095 ≤ n = grind (arith, nat_tests) in
    subst (λ (m : ModelStep). IsMade rows d d m step) (sym (is_last d n is last)) (made_refusal rows d d (OverLimit Generation) c.in_ok-row.row step c.in_ok-row.ensures told))

pub returns : goal.returns
returns c = λ d has.
    let rows = rows_of c.args.tables.now in
    let n : ℕ = c.in_ok-generation.generation in
    let is : n ≡ generation d =
    c.in_ok-generation.ensures ∙ ap (λ (name : List ℕ). value_in (row_at (keys.Counter name) (rows table_ids.Counter))) c.in_ok-name.ensures ∙ generation_is rows d has in
    let below = c.if-generation-ge-LAST.false in
    let less : n < 4095 = grind (arith, nat_tests) in
    let name : List ℕ = codes "journal" in
    let field = number_field name (n + 1) in
    let step : Step = record c.in_ok-step.step { deeds = c.count.new.self } in
    subst (λ (m : ModelStep). IsMade rows d d m step) (sym (is_next d n is less))
    (does_made rows d (deeds.Count c.in_ok-name.name (Some (n + 1))) (Count name (Some (n + 1))) c.row.result (row (field ∷ [])) c.in_ok-step.step c.count.new.self
    (subst (λ (x : List ℕ). Follow d (deeds.Count x (Some (n + 1)) ∷ []) (Count name (Some (n + 1)) ∷ [])) (sym c.in_ok-name.ensures) (refl, tt, tt))
    (c.row.ensures ∙ ap row (c.in_ok-row-2.ensures ∙ ap (λ (l : List Field). l ++ field ∷ []) c.new.ensures)) refl c.in_ok-step.ensures c.in_ok-count.ensures.done)
