use Rattle.std.proofs.Common.{◌≡◌, ℕ, List, Some, sym, subst}
use Rattle.depot_rows.specs.table_changes.Changed.{AllRows}
use Rattle.depot_rows.specs.depot_model.Deeds.{Deed, Branch, BranchFrom}
use Rattle.depot_rows.specs.depot_model.Revisions.{head}
use Rattle.reply_rows.specs.Made.{IsMade}
use Rattle.reply_rows.specs.declared.step.Step.{Step}
use Rattle.command_parts.proofs.Refused.{if_ok}
use Rattle.integ_records.specs.Ways.{paid_step, way_step}
use Rattle.integ_records.specs.declared.crediting.Span.{Span}
use Rattle.integ_records.specs.declared.opened_targets.Pair.{Pair}
use Rattle.integ_records.specs.declared.opened_targets.Way.{Way}
use Rattle.integ_records.proofs.opened_targets.integrate_by.Goals as goal

abbrev Opens : Pair → Span → ℕ → List ℕ → Way → Step → Type 0
Opens pair ends base type way step =
    (all : AllRows) (d e : List Deed) → base ≡ head d pair.to.now → IsMade all d e (way_step d pair.caller.now pair.change type pair.from.now pair.to.now ends way) step

pub returns-in-Integrate : goal.returns-in-Integrate
returns-in-Integrate c = if_ok {Q = Opens c.args.pair.now c.args.ends c.args.base c.args.file_type c.args.way} _ _ c.integrate_live.ensures (λ step made all d e over.
    let pair = c.args.pair.now in
    subst (λ (w : Way). IsMade all d e (way_step d pair.caller.now pair.change c.args.file_type pair.from.now pair.to.now c.args.ends w) step) (sym c.in-Integrate.is) (made all d e over))

pub returns-in_ok-path-in-Branch : goal.returns-in_ok-path-in-Branch
returns-in_ok-path-in-Branch c = if_ok {Q = Opens c.args.pair.now c.args.ends c.args.base c.args.file_type c.args.way} _ _ c.integrate_paid.ensures (λ step made all d e over.
    let pair = c.args.pair.now in
    subst (λ (w : Way). IsMade all d e (way_step d pair.caller.now pair.change c.args.file_type pair.from.now pair.to.now c.args.ends w) step) (sym c.in-Branch.is)
    (subst (λ (p : List ℕ). IsMade all d e (paid_step d pair.caller.now pair.change c.args.file_type pair.from.now pair.to.now c.args.ends Branch
    (Some (record { path = p; rev = c.args.ends.last })) BranchFrom) step) c.in_ok-path-in-Branch.ensures (made all d e over)))

pub returns-in-Delete : goal.returns-in-Delete
returns-in-Delete c = if_ok {Q = Opens c.args.pair.now c.args.ends c.args.base c.args.file_type c.args.way} _ _ c.integrate_paid-in-Delete.ensures (λ step made all d e over.
    let pair = c.args.pair.now in
    subst (λ (w : Way). IsMade all d e (way_step d pair.caller.now pair.change c.args.file_type pair.from.now pair.to.now c.args.ends w) step) (sym c.in-Delete.is) (made all d e over))
