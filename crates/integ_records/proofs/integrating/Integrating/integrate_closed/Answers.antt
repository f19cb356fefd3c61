use Rattle.std.proofs.Common.{◌≡◌, ℕ, List, [], ◌∷◌, None, sym, ap, subst, ◌∙◌}
use Rattle.std.specs.Prelude.{unwrap_or}
use Rattle.std.specs.List.{last_or}
use Rattle.depot_rows.specs.table_changes.Changed.{AllRows, rows_of}
use Rattle.depot_rows.specs.depot_model.Deeds.{Deed}
use Rattle.depot_rows.specs.depot_model.Step.{Step as ModelStep, unless}
use Rattle.depot_rows.specs.depot_model.Steps.Integrating.{integrate_revs, new_type, uncredited}
use Rattle.depot_rows.specs.depot_model.Steps.Opening.{exclusive_refusal}
use Rattle.reply_rows.specs.Made.{IsMade}
use Rattle.reply_rows.specs.declared.step.Step.{Step}
use Rattle.command_parts.proofs.Refused.{first_told, if_ok, passed_first}
use Rattle.integ_records.specs.Ends.{ends_of, last_in}
use Rattle.integ_records.specs.Integrates.{integrates_closed}
use Rattle.integ_records.specs.Reading.{Reads}
use Rattle.integ_records.specs.Ways.{by_ends}
use Rattle.integ_records.specs.declared.integrating.Integrating.{Integrating}
use Rattle.integ_records.proofs.Ending.{last_is}
use Rattle.integ_records.proofs.Opening.{ends_step}
use Rattle.integ_records.proofs.integrating.Integrating.integrate_closed.Goals as goal

abbrev Integrates : AllRows → Integrating → List ℕ → List ℕ → Step → Type 0
Integrates rows own s t step =
    (d e : List Deed) → Reads own.caller.now own.asker.now rows d → IsMade rows d e (integrates_closed d own.caller.now own.change own.from.now.spec.wanted s t) step

pub returns-in-Some : goal.returns-in-Some
returns-in-Some c = if_ok {Q = Integrates (rows_of c.args.tables.now) c.args.self.now c.args.from.now c.args.to.now} _ _ c.tells.ensures (λ step told d e reads.
    let own = c.args.self.now in
    let caller = own.caller.now in
    let s = c.args.from.now in
    let t = c.args.to.now in
    let rows = rows_of c.args.tables.now in
    let shown = reads.shown in
    let revs = uncredited d caller own.from.now.spec.wanted s t in
    let type_is : c.in_ok-file_type.file_type ≡ new_type d s t (unwrap_or (last_or None revs) 0) =
    c.in_ok-file_type.ensures d shown.sound shown.has_rev
    ∙ ap (λ (n : ℕ). new_type d s t n) (c.last_of-last.ensures ∙ ap last_in (c.in_ok-ends.ensures d reads) ∙ sym (last_is revs)) in
    subst (λ (ty : List ℕ). IsMade rows d e (unless (exclusive_refusal d t caller.client ty ∷ []) (integrate_revs d caller own.change s t revs)) step) type_is
    (first_told rows d e _ [] _ _ c.in-Some.row step c.in-Some.is (c.in_ok-row.ensures d shown.sound reads.working) told))

pub returns : goal.returns
returns c = if_ok {Q = Integrates (rows_of c.args.tables.now) c.args.self.now c.args.from.now c.args.to.now} _ _ c.integrate_ends.ensures (λ step made d e reads.
    let own = c.args.self.now in
    let caller = own.caller.now in
    let s = c.args.from.now in
    let t = c.args.to.now in
    let rows = rows_of c.args.tables.now in
    let shown = reads.shown in
    let revs = uncredited d caller own.from.now.spec.wanted s t in
    let ends_are = c.in_ok-ends.ensures d reads in
    let type_by : c.in_ok-file_type.file_type ≡ new_type d s t (last_in (ends_of revs)) =
    c.in_ok-file_type.ensures d shown.sound shown.has_rev ∙ ap (λ (n : ℕ). new_type d s t n) (c.last_of-last.ensures ∙ ap last_in ends_are) in
    subst (λ (ty : List ℕ). IsMade rows d e (unless (exclusive_refusal d t caller.client ty ∷ []) (integrate_revs d caller own.change s t revs)) step)
    (type_by ∙ ap (λ (n : ℕ). new_type d s t n) (sym (last_is revs)))
    (passed_first rows d e _ [] _ _ step c.in_default.not-Some (c.in_ok-row.ensures d shown.sound reads.working)
    (subst (λ (m : ModelStep). IsMade rows d e m step) ((λ i. by_ends d caller own.change (type_by i) s t (ends_are i)) ∙ ends_step d caller own.change s t revs)
    (made d e shown.sound shown.has_rev))))
