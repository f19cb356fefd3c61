use Rattle.std.proofs.Common.{◌≡◌, List, ℕ, true, false, sym, ap, subst, ◌∙◌}
use Rattle.std.specs.Prelude.{is_none, not, option_map}
use Rattle.depot_rows.specs.depot_path.declared.revision.Wanted.TheVariants.{Head}
use Rattle.depot_rows.specs.table_changes.Changed.{AllRows, rows_of}
use Rattle.depot_rows.specs.depot_model.Choice.{shown}
use Rattle.depot_rows.specs.depot_model.Deeds.{Deed}
use Rattle.depot_rows.specs.depot_model.Refusals.{refusal_row}
use Rattle.depot_rows.specs.depot_model.Revisions.{is_live_head}
use Rattle.depot_rows.specs.depot_model.Steps.Moving.{move_to}
use Rattle.depot_rows.specs.Deed.{opening_of}
use Rattle.depot_rows.specs.declared.deed.Opening.{Opening as Done}
use Rattle.reply_rows.specs.Made.{IsMade}
use Rattle.reply_rows.specs.declared.step.Step.{Step}
use Rattle.opening_reads.specs.OwnOpenings.{IsOwn}
use Rattle.command_parts.proofs.Refused.{first_told, holding_told, if_ok, passed_first, passed_if}
use Rattle.opening_reads.proofs.OwnDeeds.{exclusive_still}
use Rattle.opened_files.specs.Adds.{new_refusal}
use Rattle.opened_files.specs.Moves.{ReadsOwn}
use Rattle.opened_files.specs.declared.moving.Moving.{Moving}
use Rattle.opened_files.proofs.Adds.{new_passed, new_told}
use Rattle.opened_files.proofs.Later.{asked_later, live_later, shown_later}
use Rattle.opened_files.proofs.moving.Moving.move_to.Goals as goal

abbrev Moves : AllRows → Moving → Done → List ℕ → Step → Type 0
Moves rows own opening target step =
    (d e : List Deed) → ReadsOwn own.caller.now own.asker.now own.from.now own.own rows d e → opening.client ≡ own.caller.now.client
    → IsMade rows d e (move_to e own.caller.now own.change (opening_of opening) target) step

pub returns-in-Some : goal.returns-in-Some
returns-in-Some c = if_ok {Q = Moves (rows_of c.args.tables.now) c.args.self.now c.args.opening.now c.args.target.now} _ _ c.tells.ensures (λ step told d e reads is.
    let own = c.args.self.now in
    let caller = own.caller.now in
    first_told (rows_of c.args.tables.now) d e _ _ _ _ c.in-Some.row step c.in-Some.is
    (c.in_ok-row.ensures e caller (asked_later caller.client d e reads.own_now.came caller own.asker.now reads.reads.asked)) told)

pub returns-in-Some-2 : goal.returns-in-Some-2
returns-in-Some-2 c = if_ok {Q = Moves (rows_of c.args.tables.now) c.args.self.now c.args.opening.now c.args.target.now} _ _ c.tells-in-Some-2.ensures (λ step told d e reads is.
    let own = c.args.self.now in
    let caller = own.caller.now in
    let rows = rows_of c.args.tables.now in
    passed_first rows d e _ _ _ _ step c.in_default.not-Some
    (c.in_ok-row.ensures e caller (asked_later caller.client d e reads.own_now.came caller own.asker.now reads.reads.asked))
    (first_told rows d e _ _ _ _ c.in-Some-2.row step c.in-Some-2.is c.in_ok-row-2.ensures told))

pub returns-then-is_none : goal.returns-then-is_none
returns-then-is_none c = if_ok {Q = Moves (rows_of c.args.tables.now) c.args.self.now c.args.opening.now c.args.target.now} _ _ c.tells-then-is_none.ensures (λ step told d e reads is.
    let own = c.args.self.now in
    let caller = own.caller.now in
    let rows = rows_of c.args.tables.now in
    let was = reads.reads in
    let came = reads.own_now.came in
    let none : is_none (shown e caller Head c.args.target.now) ≡ true =
    ap is_none (shown_later caller.client d e came caller c.args.target.now ∙ sym (c.in_ok-place.ensures d was.sound was.revisions (was.revisions, tt) was.asked.view))
    ∙ ap not (c.is_none.ensures ∙ ap not c.if-is_none.true) in
    passed_first rows d e _ _ _ _ step c.in_default.not-Some (c.in_ok-row.ensures e caller (asked_later caller.client d e came caller own.asker.now was.asked))
    (passed_first rows d e _ _ _ _ step c.in_default-2.not-Some c.in_ok-row-2.ensures
    (holding_told rows d e _ _ _ _ c.in_ok-row-3.row step none c.in_ok-row-3.ensures told)))

pub returns-in-Some-3 : goal.returns-in-Some-3
returns-in-Some-3 c = if_ok {Q = Moves (rows_of c.args.tables.now) c.args.self.now c.args.opening.now c.args.target.now} _ _ c.tells-in-Some-3.ensures (λ step told d e reads is.
    let own = c.args.self.now in
    let caller = own.caller.now in
    let t = c.args.target.now in
    let rows = rows_of c.args.tables.now in
    let was = reads.reads in
    let came = reads.own_now.came in
    let shows : is_none (shown e caller Head t) ≡ false =
    ap is_none (shown_later caller.client d e came caller t ∙ sym (c.in_ok-place.ensures d was.sound was.revisions (was.revisions, tt) was.asked.view))
    ∙ ap not (c.is_none.ensures ∙ ap not c.if-is_none.false) in
    passed_first rows d e _ _ _ _ step c.in_default.not-Some (c.in_ok-row.ensures e caller (asked_later caller.client d e came caller own.asker.now was.asked))
    (passed_first rows d e _ _ _ _ step c.in_default-2.not-Some c.in_ok-row-2.ensures
    (passed_if rows d e _ _ _ _ step shows
    (new_told rows d e t _ (is_live_head e t) _ _ _ step c.in-Some-3.row c.in-Some-3.is
    (c.in_ok-row-4.ensures d was.sound was.listed was.revisions
    ∙ (λ i. option_map refusal_row (new_refusal t (c.in_ok-open.ensures d e was.listed reads.own_now i) (sym (live_later caller.client d e came t) i)
    (sym (exclusive_still caller.client t c.args.opening.now.file_type d e came) i)))) told))))

pub returns : goal.returns
returns c = if_ok {Q = Moves (rows_of c.args.tables.now) c.args.self.now c.args.opening.now c.args.target.now} _ _ c.move_there.ensures (λ step made d e reads is.
    let own = c.args.self.now in
    let caller = own.caller.now in
    let t = c.args.target.now in
    let rows = rows_of c.args.tables.now in
    let was = reads.reads in
    let came = reads.own_now.came in
    let shows : is_none (shown e caller Head t) ≡ false =
    ap is_none (shown_later caller.client d e came caller t ∙ sym (c.in_ok-place.ensures d was.sound was.revisions (was.revisions, tt) was.asked.view))
    ∙ ap not (c.is_none.ensures ∙ ap not c.if-is_none.false) in
    passed_first rows d e _ _ _ _ step c.in_default.not-Some (c.in_ok-row.ensures e caller (asked_later caller.client d e came caller own.asker.now was.asked))
    (passed_first rows d e _ _ _ _ step c.in_default-2.not-Some c.in_ok-row-2.ensures
    (passed_if rows d e _ _ _ _ step shows
    (new_passed rows d e t _ (is_live_head e t) _ _ _ step c.in_default-3.not-Some
    (c.in_ok-row-4.ensures d was.sound was.listed was.revisions
    ∙ (λ i. option_map refusal_row (new_refusal t (c.in_ok-open.ensures d e was.listed reads.own_now i) (sym (live_later caller.client d e came t) i)
    (sym (exclusive_still caller.client t c.args.opening.now.file_type d e came) i))))
    (made d e was.sound was.listed was.revisions (subst (λ (name : List ℕ). IsOwn own.own name d e) (sym is) reads.own_now))))))
