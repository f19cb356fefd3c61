-- A command that was taken leaves a depot that replicas may follow.
use Rattle.std.proofs.Common.{◌≡◌, ℕ, List, Result, Ok, Err, sym, subst}
use Rattle.std.specs.Prelude.{IfOk, OnErr}
use Rattle.outside_api.specs.Says.{DiskSays}
use Rattle.depot_rows.specs.depot_model.Commands.{step}
use Rattle.depot_rows.specs.depot_model.Deeds.{Deed}
use Rattle.depot_rows.specs.depot_model.Places.{Placed, taken}
use Rattle.depot_rows.specs.depot_model.declared.order.Answer.{Answer}
use Rattle.depot_rows.specs.depot_model.declared.request.Request.{Request}
use Rattle.depot_rows.specs.table_changes.Changed.{rows_of}
use Rattle.disk_journal.specs.declared.journal.Journal.{Journal}
use Rattle.replica_turns.proofs.Masters.{place_master, unmoved_master}
use Rattle.replica_turns.specs.depot_commit.Growing.{HasGroups, KeepsStored, grown}
use Rattle.replica_turns.specs.depot_commit.Opening.{opens_generation}
use Rattle.replica_turns.specs.serial_depot.Running.{GrowsBy, HasRun}
use Rattle.replica_turns.specs.serial_depot.declared.depot.SerialDepot.{SerialDepot}
use Rattle.session_loop.specs.Taking.{with_place}
use Rattle.followed_depot.specs.Following.{HasRunFollowed}
use Rattle.followed_depot.specs.Masters.{Masters}

module _ {D E : Type 0} (disk_says : DiskSays D) (masters : Masters) (old new : SerialDepot D) (since : ℕ) (start : List Deed) (places : List Placed) (h : HasRunFollowed disk_says masters old since start places)
    (stored : KeepsStored disk_says old.archive new.archive) where
  pub taken_on : (request : Request) (r : Result Answer E) → IfOk r (λ answer. HasRun disk_says new since start (with_place places request answer)) → IfOk r (λ answer. GrowsBy disk_says request answer.place.fault old new)
      → IfOk r (λ answer. HasRunFollowed disk_says masters new since start (with_place places request answer))
  taken_on request (Err error) ran grows = tt
  taken_on request (Ok answer) ran grows =
      let current = taken step start places in
      let stand = h.ran.over.stand in
      record {
        ran = ran;
        followed = λ past c began.
            let was = h.followed past c began in (
              grown (opens_generation request) answer.place.fault grows.outcome.changes was.0,
              place_master disk_says past start places old new was.0 was.1 since h.ran stored request grows.outcome (grows.is current stand) answer.place.fault ran grows.rows
                  (grows.groups current was.0 stand was.1.groups),
            );
      }

  -- none was taken
  pub none_on : (r : Result Answer E) → OnErr r (HasRun disk_says new since start places) → OnErr r ((new.tables ≡ old.tables) × (new.journal ≡ old.journal)) → OnErr r (HasRunFollowed disk_says masters new since start places)
  none_on (Ok answer) ran same = tt
  none_on (Err error) ran same = record {
    ran = ran;
    followed = λ past c began.
        let was = h.followed past c began in (
          was.0,
          unmoved_master disk_says past start places old new was.0 was.1 stored (λ i. rows_of (same.0 i)) (subst (λ (journal : Journal D). HasGroups disk_says journal was.0) (sym same.1) was.1.groups),
        );
  }
