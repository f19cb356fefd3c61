use Rattle.std.proofs.Common.{◌≡◌, ℕ, List, Option, Some, None, sym, subst, ◌∙◌}
use Rattle.depot_rows.specs.db_records.declared.table.TableId.TheVariants as table_ids
use Rattle.depot_rows.specs.table_changes.Changed.{AllRows, rows_of}
use Rattle.depot_rows.specs.depot_model.Deeds.{Deed}
use Rattle.depot_rows.specs.depot_model.Revisions.{is_live_at, is_live_head}
use Rattle.depot_rows.specs.depot_model.Rules.{IsSound}
use Rattle.depot_rows.specs.Standing.{HasRows}
use Rattle.reply_rows.specs.Made.{IsMade}
use Rattle.reply_rows.specs.declared.step.Step.{Step}
use Rattle.command_parts.proofs.Refused.{if_ok, none_found}
use Rattle.integ_records.specs.Ways.{by_ends, by_way, way_in}
use Rattle.integ_records.specs.declared.crediting.Span.{Span}
use Rattle.integ_records.specs.declared.opened_targets.Pair.{Pair}
use Rattle.integ_records.specs.declared.opened_targets.Way.{Way}
use Rattle.integ_records.proofs.opened_targets.integrate_ends.Goals as goal

abbrev Integrates : AllRows → Pair → Option Span → List ℕ → Step → Type 0
Integrates rows pair ends type step =
    (d e : List Deed) → IsSound d → HasRows rows d table_ids.Rev → IsMade rows d e (by_ends d pair.caller.now pair.change type pair.from.now pair.to.now ends) step

pub returns-in_default : goal.returns-in_default
returns-in_default c = if_ok {Q = Integrates (rows_of c.args.tables.now) c.args.pair.now c.args.ends c.args.file_type} _ _ c.none_left.ensures (λ step made d e sound has.
    let pair = c.args.pair.now in
    let rows = rows_of c.args.tables.now in
    subst (λ (o : Option Span). IsMade rows d e (by_ends d pair.caller.now pair.change c.args.file_type pair.from.now pair.to.now o) step)
    (sym (none_found _ c.in_default.not-Some)) (made rows d e))

pub returns-in-Some-way_of : goal.returns-in-Some-way_of
returns-in-Some-way_of c = if_ok {Q = Integrates (rows_of c.args.tables.now) c.args.pair.now c.args.ends c.args.file_type} _ _ c.integrate_by.ensures (λ step made d e sound has.
    let pair = c.args.pair.now in
    let ends = c.in-Some.ends in
    let rows = rows_of c.args.tables.now in
    let way_is : Some c.in-Some-way_of.way ≡ way_in (is_live_at d pair.from.now ends.last) (is_live_head d pair.to.now) =
    sym c.in-Some-way_of.is ∙ c.way_of.ensures ∙ (λ i. way_in (c.in_ok-source_live.ensures d has i) (c.in_ok-target_live.ensures d sound has i)) in
    subst (λ (o : Option Span). IsMade rows d e (by_ends d pair.caller.now pair.change c.args.file_type pair.from.now pair.to.now o) step) (sym c.in-Some.is)
    (subst (λ (w : Option Way). IsMade rows d e (by_way d pair.caller.now pair.change c.args.file_type pair.from.now pair.to.now ends w) step) way_is
    (made rows d e (c.in_ok-base.ensures d sound has))))

pub returns-in-None : goal.returns-in-None
returns-in-None c = if_ok {Q = Integrates (rows_of c.args.tables.now) c.args.pair.now c.args.ends c.args.file_type} _ _ c.none_left-in-None.ensures (λ step made d e sound has.
    let pair = c.args.pair.now in
    let ends = c.in-Some.ends in
    let rows = rows_of c.args.tables.now in
    let way_is : None ≡ way_in (is_live_at d pair.from.now ends.last) (is_live_head d pair.to.now) =
    sym c.in-None.is ∙ c.way_of.ensures ∙ (λ i. way_in (c.in_ok-source_live.ensures d has i) (c.in_ok-target_live.ensures d sound has i)) in
    subst (λ (o : Option Span). IsMade rows d e (by_ends d pair.caller.now pair.change c.args.file_type pair.from.now pair.to.now o) step) (sym c.in-Some.is)
    (subst (λ (w : Option Way). IsMade rows d e (by_way d pair.caller.now pair.change c.args.file_type pair.from.now pair.to.now ends w) step) way_is
    (made rows d e)))
