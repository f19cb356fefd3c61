-- What a replica on a thread of its own is answered, beside the sessions. This project's own choice.
use Rattle.std.specs.Prelude.{◌≡◌, ◌≤◌, ℕ, Bool, true, List, [], length, map, None, Result}
use Rattle.archive_file.specs.declared.archive.Archive.{Archive}
use Rattle.depot_model.specs.Deeds.{Deed}
use Rattle.locked_tables.specs.Known.{PartyKnown}
use Rattle.locked_tables.specs.Taken.{of_party, placed_of}
use Rattle.locked_tables.specs.declared.taken.Taken.{Taken}
use Rattle.outside_api.specs.Count.{HasRisen}
use Rattle.outside_api.specs.Disk.{Files}
use Rattle.outside_api.specs.Says.{DiskSays, SinkSays}
use Rattle.party_marks.specs.Known.{PassKnown}
use Rattle.run_parties.specs.Giving.{Got}
use Rattle.run_parties.specs.Served.{IsEnd}
use Rattle.run_parties.specs.depot_commit.Growing.{Chronicle}
use Rattle.run_parties.specs.replica_turns.Along.{IsToldOutput}
use Rattle.run_parties.specs.replica_turns.Going.{IsFresh, IsReplicaOutput, reply_text}
use Rattle.run_parties.specs.replica_turns.Master.{Past}
use Rattle.run_parties.specs.replica_turns.declared.party.Answered.{Answered}
use Rattle.run_parties.specs.replica_turns.declared.party.ReplicaParty.{ReplicaParty}
use Rattle.session_loop.specs.Asking.{AreWellFormed}
use Rattle.session_loop.specs.declared.reading.ReplicaScript.{ReplicaScript}
use Rattle.session_loop.specs.declared.session.SessionRun.{SessionRun}
use Rattle.shared_depot.specs.Common.{HasAllStored, Masters}
use Rattle.shared_depot.specs.Replicas.{IsReplicaTurn}

module _ {D K : Type 0} (disk_says : DiskSays D) (archive_end : ℕ) (images : Files → Type 0) (begins : ℕ → List Deed → Type 0) (masters : Masters) (sink_says : SinkSays K) where
  -- A replica answered its next command, which has this number, and its sink got the reply.
  pub record IsStep (number : ℕ) (old new : PartyKnown) (old_marks new_marks : PassKnown) (p q : ReplicaParty) (before now : K) (failed : Bool) : Type 0 where
    pub result : Result Answered (Unit {0})
    pub turn : IsReplicaTurn disk_says archive_end images begins masters old new old_marks new_marks p q result
    pub got : Got failed (reply_text result number) (sink_says.given before) (sink_says.given now)
    pub counts : sink_says.faults before ≤ sink_says.faults now
    pub cause : failed ≡ true → HasRisen (sink_says.faults before) (sink_says.faults now)

  -- A replica that had answered nothing answered its commands over such depots, so many of them with a failed disk, and its sink got the replies. None of the entries is of its party. Where no
  -- archive was asked, it is any in which the contents of the entries were stored. Where replicas follow the depot on from which the run began, each reply but
  -- those to `pull` is that of the depot after so many changes as the last `pull` told, cut to its filter, and each `pull` that tells a position took of the
  -- journal as it was then.
  pub record IsReplicaServed (may_give : ℕ → Type 0) (party : ℕ) (p : ReplicaParty) (run : SessionRun) (lost : ℕ) (old new : K) (entries : List Taken) : Type 0 where
    pub gave : (archive : Archive D) → HasAllStored disk_says archive_end images begins entries archive → (since : ℕ) (start : List Deed) (script : ReplicaScript) → begins since start → IsFresh may_give party script p → AreWellFormed script.session.commands
        → IsReplicaOutput disk_says since start (map placed_of entries) may_give party script None run.commands run.failed lost (sink_says.given old) (sink_says.given new)
    pub told : (archive : Archive D) → HasAllStored disk_says archive_end images begins entries archive → (since : ℕ) (past : Past) (start : List Deed) (c : Chronicle) (script : ReplicaScript) → begins since start → masters past start c
        → IsFresh may_give party script p → AreWellFormed script.session.commands
        → IsToldOutput past start (map placed_of entries) may_give party script None run.commands run.failed (sink_says.given old) (sink_says.given new)
    pub end : IsEnd sink_says (length p.left.items) run old new
    pub none : of_party party entries ≡ []
