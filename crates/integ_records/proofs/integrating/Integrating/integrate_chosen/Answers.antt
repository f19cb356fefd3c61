use Rattle.std.proofs.Common.{◌≡◌, ℕ, List, Option, None, Some, sym, ap, subst, ◌∙◌}
use Rattle.depot_rows.specs.depot_path.Path.{printed}
use Rattle.depot_rows.specs.table_changes.Changed.{AllRows, rows_of}
use Rattle.depot_rows.specs.depot_model.declared.refusal.Refusal.TheVariants.{NotInView}
use Rattle.depot_rows.specs.depot_model.Deeds.{Deed}
use Rattle.depot_rows.specs.depot_model.Step.{Step as ModelStep, refuses}
use Rattle.depot_rows.specs.depot_model.Steps.Integrating.{integrate_chosen, integrate_to}
use Rattle.depot_rows.specs.depot_model.Steps.Targets.{target_at, target_text}
use Rattle.reply_rows.specs.Made.{IsMade}
use Rattle.reply_rows.specs.declared.step.Step.{Step}
use Rattle.named_files.specs.declared.listing.Listing.TheVariants.{Submitted}
use Rattle.named_files.proofs.Wanting.{reads_wanted}
use Rattle.command_parts.proofs.Refused.{if_ok}
use Rattle.integ_records.specs.Reading.{ReadsOwn}
use Rattle.integ_records.specs.declared.integrating.Integrating.{Integrating}
use Rattle.integ_records.proofs.integrating.Integrating.integrate_chosen.Goals as goal

abbrev Integrates : AllRows → Integrating → List ℕ → Step → Type 0
Integrates rows own s step =
    (d e : List Deed) → ReadsOwn own.caller.now own.asker.now own.own rows d e → IsMade rows d e (integrate_chosen d e own.caller.now own.change own.from.now own.to.now s) step

pub returns-in-Some : goal.returns-in-Some
returns-in-Some c = if_ok {Q = Integrates (rows_of c.args.tables.now) c.args.self.now c.args.path.now} _ _ c.integrate_to.ensures (λ step made d e reads.
    let own = c.args.self.now in
    let caller = own.caller.now in
    let s = c.args.path.now in
    let rows = rows_of c.args.tables.now in
    let read = reads.reads.shown in
    let wanted = own.from.now.spec.wanted in
    let text_is = c.in_ok-text.ensures d read.sound read.has_rev (reads_wanted caller own.asker.now Submitted rows d read wanted) read.asked.view in
    let target_is : Some c.in-Some.target ≡ target_at d caller own.to.now (target_text d caller own.from.now own.to.now s) =
    sym c.in-Some.is ∙ c.in_ok-target.ensures d read.sound read.has_rev read.asked.view ∙ ap (λ (x : List ℕ). target_at d caller own.to.now x) text_is in
    let by : Option (List ℕ) → ModelStep = λ o. elim o as (λ _. ModelStep) [
      | None ↦ refuses (NotInView (printed (target_text d caller own.from.now own.to.now s)))
      | Some t ↦ integrate_to d e caller own.change wanted s t
    ] in
    subst (λ (o : Option (List ℕ)). IsMade rows d e (by o) step) target_is (made d e reads))

pub returns : goal.returns
returns c = if_ok {Q = Integrates (rows_of c.args.tables.now) c.args.self.now c.args.path.now} _ _ c.no_target.ensures (λ step made d e reads.
    let own = c.args.self.now in
    let caller = own.caller.now in
    let s = c.args.path.now in
    let rows = rows_of c.args.tables.now in
    let read = reads.reads.shown in
    let wanted = own.from.now.spec.wanted in
    let text_is = c.in_ok-text.ensures d read.sound read.has_rev (reads_wanted caller own.asker.now Submitted rows d read wanted) read.asked.view in
    let target_is : None ≡ target_at d caller own.to.now (target_text d caller own.from.now own.to.now s) =
    sym c.in-None.is ∙ c.in_ok-target.ensures d read.sound read.has_rev read.asked.view ∙ ap (λ (x : List ℕ). target_at d caller own.to.now x) text_is in
    let by : Option (List ℕ) → ModelStep = λ o. elim o as (λ _. ModelStep) [
      | None ↦ refuses (NotInView (printed (target_text d caller own.from.now own.to.now s)))
      | Some t ↦ integrate_to d e caller own.change wanted s t
    ] in
    subst (λ (o : Option (List ℕ)). IsMade rows d e (by o) step) target_is
    (subst (λ (x : List ℕ). IsMade rows d e (refuses (NotInView (printed x))) step) text_is (made rows d e)))
