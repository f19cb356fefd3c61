use Rattle.std.proofs.Common.{◌≡◌, ℕ, List, [], ◌∷◌, Option, None, true, false, sym, ap, subst, ◌∙◌}
use Rattle.std.specs.Prelude.{is_some, not, unwrap_or}
use Rattle.std.specs.List.{last_or}
use Rattle.depot_rows.specs.depot_path.declared.revision.Wanted.TheVariants.{Head}
use Rattle.depot_rows.specs.table_changes.Changed.{AllRows, rows_of}
use Rattle.depot_rows.specs.depot_model.declared.refusal.Refusal.{Refusal}
use Rattle.depot_rows.specs.depot_model.Choice.{shown}
use Rattle.depot_rows.specs.depot_model.Deeds.{Deed}
use Rattle.depot_rows.specs.depot_model.Opened.{opened}
use Rattle.depot_rows.specs.depot_model.Step.{unless}
use Rattle.depot_rows.specs.depot_model.Steps.Integrating.{integrate_revs, integrate_to, new_type, uncredited}
use Rattle.reply_rows.specs.Made.{IsMade}
use Rattle.reply_rows.specs.declared.step.Step.{Step}
use Rattle.command_parts.proofs.Refused.{first_told, holding_told, if_ok, passed_first, passed_if}
use Rattle.opening_reads.proofs.OwnDeeds.{exclusive_still}
use Rattle.integ_records.specs.Reading.{ReadsOwn}
use Rattle.integ_records.specs.declared.integrating.Integrating.{Integrating}
use Rattle.integ_records.proofs.integrating.Integrating.integrate_to.Goals as goal

abbrev Integrates : AllRows → Integrating → List ℕ → List ℕ → Step → Type 0
Integrates rows own s t step =
    (d e : List Deed) → ReadsOwn own.caller.now own.asker.now own.own rows d e → IsMade rows d e (integrate_to d e own.caller.now own.change own.from.now.spec.wanted s t) step

pub returns-in-Some : goal.returns-in-Some
returns-in-Some c = if_ok {Q = Integrates (rows_of c.args.tables.now) c.args.self.now c.args.from.now c.args.to.now} _ _ c.tells.ensures (λ step told d e reads.
    first_told (rows_of c.args.tables.now) d e _ _ _ _ c.in-Some.row step c.in-Some.is (c.in_ok-row.ensures d c.args.self.now.caller.now reads.reads.shown.asked) told)

pub returns-then-is_none : goal.returns-then-is_none
returns-then-is_none c = if_ok {Q = Integrates (rows_of c.args.tables.now) c.args.self.now c.args.from.now c.args.to.now} _ _ c.tells-then-is_none.ensures (λ step told d e reads.
    let caller = c.args.self.now.caller.now in
    let rows = rows_of c.args.tables.now in
    let read = reads.reads.shown in
    let none : not (is_some (shown d caller Head c.args.to.now)) ≡ true =
    ap (λ (o : Option (List ℕ)). not (is_some o)) (sym (c.in_ok-place.ensures d read.sound read.has_rev (read.has_rev, tt) read.asked.view))
    ∙ ap not (c.is_none.ensures ∙ ap not c.if-is_none.true) in
    passed_first rows d e _ _ _ _ step c.in_default.not-Some (c.in_ok-row.ensures d caller read.asked)
    (holding_told rows d e _ _ _ _ c.in_ok-row-2.row step none c.in_ok-row-2.ensures told))

pub returns-then-branch : goal.returns-then-branch
returns-then-branch c = if_ok {Q = Integrates (rows_of c.args.tables.now) c.args.self.now c.args.from.now c.args.to.now} _ _ c.tells-then-branch.ensures (λ step told d e reads.
    let caller = c.args.self.now.caller.now in
    let t = c.args.to.now in
    let rows = rows_of c.args.tables.now in
    let read = reads.reads.shown in
    let shows : not (is_some (shown d caller Head t)) ≡ false =
    ap (λ (o : Option (List ℕ)). not (is_some o)) (sym (c.in_ok-place.ensures d read.sound read.has_rev (read.has_rev, tt) read.asked.view))
    ∙ ap not (c.is_none.ensures ∙ ap not c.if-is_none.false) in
    let open_ : is_some (opened e caller.client t) ≡ true = sym (c.in_ok-is_opened.ensures d e reads.reads.working reads.is_own) ∙ c.if-branch.true in
    passed_first rows d e _ _ _ _ step c.in_default.not-Some (c.in_ok-row.ensures d caller read.asked)
    (passed_if rows d e _ _ _ _ step shows
    (holding_told rows d e _ _ _ _ c.in_ok-row-3.row step open_ c.in_ok-row-3.ensures told)))

pub returns : goal.returns
returns c = if_ok {Q = Integrates (rows_of c.args.tables.now) c.args.self.now c.args.from.now c.args.to.now} _ _ c.integrate_closed.ensures (λ step made d e reads.
    let own = c.args.self.now in
    let caller = own.caller.now in
    let s = c.args.from.now in
    let t = c.args.to.now in
    let rows = rows_of c.args.tables.now in
    let read = reads.reads.shown in
    let revs = uncredited d caller own.from.now.spec.wanted s t in
    let shows : not (is_some (shown d caller Head t)) ≡ false =
    ap (λ (o : Option (List ℕ)). not (is_some o)) (sym (c.in_ok-place.ensures d read.sound read.has_rev (read.has_rev, tt) read.asked.view))
    ∙ ap not (c.is_none.ensures ∙ ap not c.if-is_none.false) in
    let shut : is_some (opened e caller.client t) ≡ false = sym (c.in_ok-is_opened.ensures d e reads.reads.working reads.is_own) ∙ c.if-branch.false in
    passed_first rows d e _ _ _ _ step c.in_default.not-Some (c.in_ok-row.ensures d caller read.asked)
    (passed_if rows d e _ _ _ _ step shows
    (passed_if rows d e _ _ _ _ step shut
    (subst (λ (r : Option Refusal). IsMade rows d e (unless (r ∷ []) (integrate_revs d caller own.change s t revs)) step)
    (sym (exclusive_still caller.client t (new_type d s t (unwrap_or (last_or None revs) 0)) d e reads.is_own.came)) (made d e reads.reads)))))
