use Rattle.std.proofs.Common.{◌≡◌, ◌∷◌, ◌++◌, [], List, Result, Ok, refl, sym, ap, subst, ◌∙◌}
use Rattle.std.specs.Prelude.{option_copied}
use Rattle.depot_rows.specs.depot_model.Commands.{step}
use Rattle.depot_rows.specs.depot_model.Places.{taken}
use Rattle.depot_rows.specs.depot_model.declared.order.Place.{Place}
use Rattle.depot_rows.specs.depot_model.declared.request.Request.{Request}
use Rattle.depot_rows.specs.table_changes.Changed.{AllRows, changed_by, rows_of}
use Rattle.disk_journal.specs.declared.journal.Journal.{Journal}
use Rattle.lock_core.specs.Core.{IsReady}
use Rattle.lock_machine.proofs.Places.{some_is}
use Rattle.run_parties.proofs.replica_turns.Masters.{place_master, texts_grow, unmoved_master}
use Rattle.run_parties.specs.command_core.declared.outcome.Outcome.{Outcome}
use Rattle.run_parties.specs.depot_commit.Growing.{HasGroups, grown}
use Rattle.run_parties.specs.depot_commit.Opening.{opens_generation}
use Rattle.session_turns.proofs.Committing.{counted_none, counted_one, counted_same, outcome_of}
use Rattle.session_loop.specs.Taking.{IsProper}
use Rattle.session_turns.specs.Taking.{IsPlaced}
use Rattle.session_turns.proofs.commits.place_commit.Goals as goal

ok_is : {T E : Type 0} {x y : T} (r : Result T E) → r ≡ Ok x → r ≡ Ok y → x ≡ y
ok_is r one other = cc

-- ---- with a place

pub returns-in-Ok-place_outcome-clause-placed : goal.returns-in-Ok-place_outcome-clause-placed
returns-in-Ok-place_outcome-clause-placed g c = λ since start places s request h due.
    let says = g.D.Disk.says in
    let core = c.args.core.now in
    let depot = c.args.depot.now in
    let new = c.place_outcome.new.self in
    let outcome = c.in-Ok.outcome in
    let answer = c.in-Ok-place_outcome.answer in
    let place = c.in-Ok-place_outcome.ensures in
    let same : due.found ≡ outcome = ok_is c.args.outcome due.is c.in-Ok.is in
    let asked : c.in-Some.request.now ≡ request = some_is (sym (ap option_copied c.in-Some.is) ∙ c.request.ensures start s request due.ready.commit) in
    let ready : IsReady start s core c.args.party c.in-Some.request.now outcome = subst (λ (r : Request). IsReady start s core c.args.party r outcome) (sym asked) (subst (IsReady start s core c.args.party request) same due.ready) in
    let is = outcome_of start s core c.args.party c.in-Some.request.now outcome depot ready due.rows due.end in
    let proper = subst IsProper (sym asked) due.proper in
    let changed = c.in-Ok-tables_with_room.ensures.rows start s c.in-Some.request.now outcome ready ∙ ap (λ (all : AllRows). changed_by all outcome.changes) due.rows in
    let rows = place.rows changed in
    let ran = place.ran since start places h proper is changed in
    let opens = opens_generation c.in-Some.request.now in
    subst (λ (o : Outcome). IsPlaced says since start places request o depot new answer) (sym same) (subst (λ (r : Request). IsPlaced says since start places r outcome depot new answer) asked (record {
      ran = ran;
      answers = place.answers since start places h is;
      rows = rows;
      grows = λ past all master. (
        grown opens answer.place.fault outcome.changes all,
        place_master says past start places depot new all master since h c.place_outcome.ensures.stored c.in-Some.request.now outcome (is (taken step start places) h.over.stand)
            answer.place.fault ran rows (place.grows (taken step start places) all h.over.stand proper is master.groups),
        texts_grow opens answer.place.fault outcome.changes all,
      );
    }))

pub returns-in-Ok-place_outcome-clause-behind : goal.returns-in-Ok-place_outcome-clause-behind
returns-in-Ok-place_outcome-clause-behind g c =
    let place : Place = c.in-Ok-place_outcome.answer.place in
    record { found = c.in-Ok.outcome; is = c.in-Ok.is; order = rw c.unwrap.ensures at c.push.ensures.items ∙ ap (λ (order : List Place). order ++ place ∷ []) c.tables_with_room.ensures.same }

pub returns-in-Ok-place_outcome-clause-counted : goal.returns-in-Ok-place_outcome-clause-counted
returns-in-Ok-place_outcome-clause-counted g c =
    counted_one c.in-Ok-place_outcome.answer.place (returns-in-Ok-place_outcome-clause-behind g c).order c.place_outcome.ensures.never_falls c.place_outcome.ensures.never_falls_contents c.in-Ok-place_outcome.ensures.caused

-- ---- without one

pub returns-in-Err-place_outcome-clause-unplaced : goal.returns-in-Err-place_outcome-clause-unplaced
returns-in-Err-place_outcome-clause-unplaced g c =
    let same = c.in-Err-place_outcome.ensures.unplaced in
    record {
      ran = same.ran;
      tables = same.tables;
      master = λ past start places all master. unmoved_master g.D.Disk.says past start places c.args.depot.now c.place_outcome.new.self all master c.place_outcome.ensures.stored (ap rows_of same.tables)
          (subst (λ (journal : Journal g.row.D.Denot). HasGroups g.D.Disk.says journal all) (sym same.journal) master.groups);
      order = c.tables_with_room.ensures.same;
    }

pub returns-in-Err-place_outcome-clause-counted : goal.returns-in-Err-place_outcome-clause-counted
returns-in-Err-place_outcome-clause-counted g c = counted_none c.tables_with_room.ensures.same c.in-Err-place_outcome.ensures.unplaced.stood

pub returns-in-Err-tables_with_room-clause-counted : goal.returns-in-Err-tables_with_room-clause-counted
returns-in-Err-tables_with_room-clause-counted g c = counted_same c.tables_with_room.ensures.same

pub returns-in_default-clause-counted : goal.returns-in_default-clause-counted
returns-in_default-clause-counted g c = counted_same refl

pub returns-in-Err-clause-counted : goal.returns-in-Err-clause-counted
returns-in-Err-clause-counted g c = counted_same refl
