use Rattle.std.proofs.Common.{◌≡◌, ℕ, List, [], Option, sym, subst, ◌∙◌}
use Rattle.depot_rows.specs.table_changes.Changed.{AllRows, rows_of}
use Rattle.depot_rows.specs.depot_path.declared.revision.Wanted.{Wanted}
use Rattle.depot_rows.specs.depot_model.Deeds.{Deed}
use Rattle.depot_rows.specs.depot_model.Steps.Moving.{move_opening}
use Rattle.depot_rows.specs.depot_model.Steps.Targets.{target_at, target_text}
use Rattle.depot_rows.specs.Deed.{opening_of}
use Rattle.depot_rows.specs.declared.deed.Opening.{Opening as Done}
use Rattle.reply_rows.specs.Made.{IsMade}
use Rattle.reply_rows.specs.declared.step.Step.{Step}
use Rattle.revision_reads.specs.Choice.{HaveRows, wanted_tables}
use Rattle.command_parts.proofs.Refused.{first_told, if_ok, passed_first}
use Rattle.opened_files.specs.Moves.{ReadsOwn}
use Rattle.opened_files.specs.declared.moving.Moving.{Moving}
use Rattle.opened_files.proofs.Later.{asked_later, head_wanted, target_at_later, target_text_later}
use Rattle.opened_files.proofs.Moves.{moves_permitted, moves_to}
use Rattle.opened_files.proofs.moving.Moving.move_opening.Goals as goal

abbrev Moves : AllRows → Moving → Done → Step → Type 0
Moves rows own opening step =
    (d e : List Deed) → ReadsOwn own.caller.now own.asker.now own.from.now own.own rows d e → opening.client ≡ own.caller.now.client
    → IsMade rows d e (move_opening e own.caller.now own.change own.from.now own.to.now (opening_of opening)) step

pub returns-in-Some : goal.returns-in-Some
returns-in-Some c = if_ok {Q = Moves (rows_of c.args.tables.now) c.args.self.now c.args.opening.now} _ _ c.tells.ensures (λ step told d e reads is.
    let own = c.args.self.now in
    let caller = own.caller.now in
    first_told (rows_of c.args.tables.now) d e _ [] _ _ c.in-Some.row step c.in-Some.is
    (c.in_ok-row.ensures e caller (asked_later caller.client d e reads.own_now.came caller own.asker.now reads.reads.asked)) told)

module _ (rows : AllRows) (own : Moving) (opening : Done) (d e : List Deed) (reads : ReadsOwn own.caller.now own.asker.now own.from.now own.own rows d e) where
  has_wanted : HaveRows rows d (wanted_tables own.from.now.spec.wanted)
  has_wanted = subst (λ (w : Wanted). HaveRows rows d (wanted_tables w)) (head_wanted own.from.now reads.reads.head) (reads.reads.revisions, tt)

  -- by the text that is found, and the file that it is found to be
  by_target : (text : List ℕ) (target : Option (List ℕ)) (step : Step) → text ≡ target_text d own.caller.now own.from.now own.to.now opening.path
      → target ≡ target_at d own.caller.now own.to.now text → IsMade rows d e (moves_to e own.caller.now own.change (opening_of opening) text target) step
      → IsMade rows d e (moves_permitted e own.caller.now own.change own.from.now own.to.now (opening_of opening)) step
  by_target text target step text_is target_is made =
      let caller = own.caller.now in
      let to = own.to.now in
      let o = opening_of opening in
      let came = reads.own_now.came in
      subst (λ (t : List ℕ). IsMade rows d e (moves_to e caller own.change o t (target_at e caller to t)) step)
      (text_is ∙ sym (target_text_later caller.client d e came caller own.from.now to o.path reads.reads.head))
      (subst (λ (t : Option (List ℕ)). IsMade rows d e (moves_to e caller own.change o text t) step) (target_is ∙ sym (target_at_later caller.client d e came caller to text)) made)

pub returns-in-Some-2 : goal.returns-in-Some-2
returns-in-Some-2 c = if_ok {Q = Moves (rows_of c.args.tables.now) c.args.self.now c.args.opening.now} _ _ c.move_to.ensures (λ step made d e reads is.
    let own = c.args.self.now in
    let caller = own.caller.now in
    let rows = rows_of c.args.tables.now in
    let was = reads.reads in
    passed_first rows d e _ [] _ _ step c.in_default.not-Some (c.in_ok-row.ensures e caller (asked_later caller.client d e reads.own_now.came caller own.asker.now was.asked))
    (by_target rows own c.args.opening.now d e reads c.in_ok-text.text _ step
    (c.in_ok-text.ensures d was.sound was.revisions (has_wanted rows own c.args.opening.now d e reads) was.asked.view)
    (sym c.in-Some-2.is ∙ c.in_ok-target.ensures d was.sound was.revisions was.asked.view) (made d e reads is)))

pub returns : goal.returns
returns c = if_ok {Q = Moves (rows_of c.args.tables.now) c.args.self.now c.args.opening.now} _ _ c.no_target.ensures (λ step made d e reads is.
    let own = c.args.self.now in
    let caller = own.caller.now in
    let rows = rows_of c.args.tables.now in
    let was = reads.reads in
    passed_first rows d e _ [] _ _ step c.in_default.not-Some (c.in_ok-row.ensures e caller (asked_later caller.client d e reads.own_now.came caller own.asker.now was.asked))
    (by_target rows own c.args.opening.now d e reads c.in_ok-text.text _ step
    (c.in_ok-text.ensures d was.sound was.revisions (has_wanted rows own c.args.opening.now d e reads) was.asked.view)
    (sym c.in-None.is ∙ c.in_ok-target.ensures d was.sound was.revisions was.asked.view) (made rows d e)))
