use Rattle.std.proofs.Common.{ap, sym, subst, ◌∙◌}
use Rattle.std.specs.Prelude.{IsSomeAnd, Option, Some}
use Rattle.depot_rows.specs.depot_model.Tables.{needs_of}
use Rattle.lock_machine.specs.Machine.{moved}
use Rattle.lock_core.specs.Parties.{IsShownAs, is_judged, is_judged_at}
use Rattle.lock_core.proofs.Turning.{gathered_as}
use Rattle.depot_rows.specs.table_changes.Changed.{rows_of}
use Rattle.lock_core.specs.Works.{IsRoomOf}
use Rattle.lock_core.specs.declared.work.Work.{Work}
use Rattle.lock_core.proofs.party.Party.turn.Goals as goal

pub returns-in_ok-outcome-in-Judged-clause-turn : goal.returns-in_ok-outcome-in-Judged-clause-turn
returns-in_ok-outcome-in-Judged-clause-turn c =
    let ready = c.in_ok-outcome-in-Judged in
    let made = ready.ensures.ok in
    let rows = rows_of c.args.tables.now in
    let HasRoom : Work → Type 0 = λ w. IsSomeAnd w.room (IsRoomOf rows ready.outcome.changes) in
    record {
      work = c.in-Some.work;
      room = made.0;
      before = c.in-Some.is;
      judged = c.in-Judged.is;
      after = ap (λ (w : Work). record c.args.self.now { work = Some w }) made.1;
      outcome_is = ready.ensures.outcome;
      room_is = subst HasRoom made.1 ready.ensures.room;
    }

pub returns-in-Gathering-clause-turn : goal.returns-in-Gathering-clause-turn
returns-in-Gathering-clause-turn c = (
  ap is_judged c.in-Some.is ∙ ap is_judged_at c.in-Gathering.is,
  λ order q h.
      let left = c.args.self.now.left.items in
      let P : Option Work → Type 0 = λ work. IsShownAs order left work q in
      let R : Work → Type 0 = λ w. IsShownAs order left (Some w) (moved needs_of order q.left q.work) in
      subst R (sym c.gather.ensures) (gathered_as order left c.in-Some.work c.in-Gathering.is q (subst P c.in-Some.is h)),
)
