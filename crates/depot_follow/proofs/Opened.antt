-- How opening and making files lead to what is said of them.
use Rattle.std.proofs.Common.{◌≡◌, ◌≢◌, ◌≤◌, [], length, Result, Ok, Err, refl, subst, arith}
use Rattle.std.specs.Prelude.{IfOk}
use Rattle.std.specs.Result.{IfErr}
use Rattle.outside_api.specs.Disk.{Files}
use Rattle.outside_api.specs.Moments.{then, weaker}
use Rattle.outside_api.specs.Says.{DiskSays}
use Rattle.depot_rows.specs.table_changes.Changed.{AllRows, rows_of}
use Rattle.disk_journal.specs.Images.{HasCommitted}
use Rattle.disk_journal.specs.Made.{made}
use Rattle.recovery.specs.Contents.{HoldWhole}
use Rattle.recovery.specs.Damage.{IsDamage}
use Rattle.recovery.specs.Faults.{SaysNothing, Tells}
use Rattle.recovery.specs.Holding.{Hold}
use Rattle.recovery.specs.Looking.{AreCauses, OnlyReads}
use Rattle.recovery.specs.Opening.{HasSynced, LooksOnly}
use Rattle.recovery.specs.Standing.{StandFor}
use Rattle.recovery.specs.declared.fault.OpenFault.{OpenFault}
use Rattle.recovery.specs.declared.fault.OpenFault.TheVariants.{Unmade, Damaged, DiskFault, Memory}
use Rattle.recovery.proofs.Whole.{hold_of}
use Rattle.replica_chain.specs.Chronicle.{Chronicle}
use Rattle.replica_chain.specs.Node.{IsNode, files_of}
use Rattle.replica_chain.specs.Opening.{AreWritten, IsDiskFault, IsFresh, IsUnmade, OpensOrSaysNothing, archive_disk, journal_disk}
use Rattle.replica_chain.specs.declared.node.Node.{Node}
use Rattle.replica_chain.specs.declared.node.Pair.{Pair}
use Rattle.replica_chain.specs.declared.opening.NotNode.{NotNode}
use Rattle.depot_follow.specs.Opening.{IsBare, IsNotOpened, IsNotOpenedOrMade, IsOpenedFrom, IsOpenedOrMade, IsThere, NeverFalls, PairRose, left_by, no_changes}
use Rattle.depot_follow.proofs.Followed.{falls_on, rose_on}
use Rattle.depot_follow.proofs.Made.{made_written}

-- what opening says of the files of two disks
pub record Opens {D : Type 0} (disk_says : DiskSays D) (journal archive : D) (r : Result (Node D) (NotNode D)) : Type 0 where
  pub node : (c : Chronicle) (files contents : Files) → disk_says.seen journal files → disk_says.seen archive contents → AreWritten c files → IfOk r (λ node. IsNode disk_says node c)
  pub fresh : IfOk r (IsFresh disk_says)
  pub holds : (files : Files) → disk_says.seen journal files → IfOk r (λ node. Hold files (rows_of node.tables))
  pub opens : (files contents : Files) (rows : AllRows) → disk_says.seen journal files → disk_says.seen archive contents → HoldWhole files contents rows → OpensOrSaysNothing r
  pub damaged : (files contents : Files) → disk_says.seen journal files → disk_says.seen archive contents → IfErr r (λ found. Tells (IsDamage files contents) found.fault)
  pub unmade : (files : Files) → disk_says.seen journal files → IsUnmade r → length (files 0) ≡ 0
  pub unopened : IfErr r (λ found. found.fault ≢ DiskFault → HasSynced disk_says journal found.journal × HasSynced disk_says archive found.archive)
  pub journal_synced : IfOk r (λ node. HasSynced disk_says journal (journal_disk r))
  pub archive_synced : IfOk r (λ node. HasSynced disk_says archive (archive_disk r))
  pub journal_looks : LooksOnly disk_says journal (journal_disk r)
  pub archive_looks : LooksOnly disk_says archive (archive_disk r)
  pub cause : AreCauses (disk_says.faults journal) (disk_says.faults (journal_disk r)) (disk_says.faults archive) (disk_says.faults (archive_disk r)) (IsDiskFault r)

module _ {D : Type 0} (disk_says : DiskSays D) where
  pub opened_of : (journal archive : D) (r : Result (Node D) (NotNode D)) → Opens disk_says journal archive r → IfOk r (IsOpenedFrom disk_says (record { journal = journal; archive = archive }))
  opened_of journal archive (Err found) says = tt
  opened_of journal archive (Ok node) says = record {
    holds = says.holds;
    synced = record { journal = says.journal_synced; archive = says.archive_synced };
    looked = record { journal = says.journal_looks; archive = says.archive_looks };
    never_falls = record { journal = says.cause.journal_never_falls; archive = says.cause.archive_never_falls };
    has = λ c written. says.node c written.0 written.1 written.2 written.3 written.4;
    fresh = says.fresh;
  }

  pub unopened_of : (journal archive : D) (r : Result (Node D) (NotNode D)) → Opens disk_says journal archive r → IfErr r (λ found. IsNotOpened disk_says (record { journal = journal; archive = archive }) found.fault (left_by found))
  unopened_of journal archive (Ok node) says = tt
  unopened_of journal archive (Err found) says = record {
    damage = says.damaged;
    unmade = says.unmade;
    whole = says.opens;
    synced = λ other. let both = says.unopened other in record { journal = both.0; archive = both.1 };
    looked = record { journal = says.journal_looks; archive = says.archive_looks };
    risen = says.cause.risen;
  }

  -- opening the same archive
  pub opens_alike : (journal archive other : D) (r : Result (Node D) (NotNode D)) → other ≡ archive → Opens disk_says journal other r → Opens disk_says journal archive r
  opens_alike journal archive other r same says = subst (λ (disk : D). Opens disk_says journal disk r) same says

  -- ---- where a disk was only read before

  synced_behind : (old mid new : D) → OnlyReads disk_says old mid → HasSynced disk_says mid new → HasSynced disk_says old new
  synced_behind old mid new reads synced = record {
    same = record { kept = λ f read. synced.same.kept f (reads.same.kept f read); no_more = λ f read. reads.same.no_more f (synced.same.no_more f read) };
    durable = synced.durable;
  }

  looked_behind : (old mid new : D) → OnlyReads disk_says old mid → LooksOnly disk_says mid new → LooksOnly disk_says old new
  looked_behind old mid new reads looks = record {
    no_more = λ f left. reads.no_more f (looks.no_more f left);
    any_moment = then disk_says old mid new (disk_says.may_leave old) reads.any_moment (weaker disk_says mid new (disk_says.may_leave mid) (disk_says.may_leave old) reads.no_more looks.any_moment);
  }

  module _ (old mid archive : D) (reads : OnlyReads disk_says old mid) (falls : disk_says.faults old ≤ disk_says.faults mid) where
    abbrev before : Pair D
    before = record { journal = old; archive = archive }

    abbrev between : Pair D
    between = record { journal = mid; archive = archive }

    never_fell : NeverFalls disk_says before between
    never_fell = record { journal = falls; archive = omega arith }

    opened_behind : (node : Node D) → IsOpenedFrom disk_says between node → IsOpenedFrom disk_says before node
    opened_behind node opened = record {
      holds = λ j j_reads. opened.holds j (reads.same.kept j j_reads);
      synced = record { journal = synced_behind old mid _ reads opened.synced.journal; archive = opened.synced.archive };
      looked = record { journal = looked_behind old mid _ reads opened.looked.journal; archive = opened.looked.archive };
      never_falls = falls_on disk_says before between (files_of node) never_fell opened.never_falls;
      has = λ c written. opened.has c (written.0, written.1, reads.same.kept written.0 written.2, written.3, written.4);
      fresh = opened.fresh;
    }

    unopened_behind : (fault : OpenFault) (left : Pair D) → IsNotOpened disk_says between fault left → IsNotOpened disk_says before fault left
    unopened_behind fault left unopened = record {
      damage = λ j a j_reads a_reads. unopened.damage j a (reads.same.kept j j_reads) a_reads;
      unmade = λ j j_reads is. unopened.unmade j (reads.same.kept j j_reads) is;
      whole = λ j a rows j_reads a_reads whole. unopened.whole j a rows (reads.same.kept j j_reads) a_reads whole;
      synced = λ other. let both = unopened.synced other in record { journal = synced_behind old mid left.journal reads both.journal; archive = both.archive };
      looked = record { journal = looked_behind old mid left.journal reads unopened.looked.journal; archive = unopened.looked.archive };
      risen = λ is. rose_on disk_says before between left never_fell (unopened.risen is);
    }

    -- files that are there
    module _ (there : (files : Files) → disk_says.seen old files → length (files 0) ≢ 0) where
      not_bare : IsBare disk_says before → ⊥
      not_bare bare = there bare.0 bare.1 bare.2

      pub there_opened : (r : Result (Node D) (NotNode D)) → Opens disk_says mid archive r → IfOk r (IsOpenedOrMade disk_says before)
      there_opened (Err found) says = tt
      there_opened (Ok node) says =
          let opened = opened_behind node (opened_of mid archive (Ok node) says) in
          record { there = λ there. opened; bare = λ bare tells. absurd (not_bare bare); fresh = opened.fresh; never_falls = opened.never_falls }

      pub there_unopened : (r : Result (Node D) (NotNode D)) → Opens disk_says mid archive r → IfErr r (λ found. IsNotOpenedOrMade disk_says before found.fault (left_by found))
      there_unopened (Ok node) says = tt
      there_unopened (Err found) says =
          let unopened = unopened_behind found.fault (left_by found) (unopened_of mid archive (Err found) says) in
          record { there = λ there other. unopened; bare = λ bare tells. absurd (not_bare bare); risen = unopened.risen }

  -- ---- files that were made

  nothing_or : (fault : OpenFault) → (fault ≢ DiskFault → SaysNothing fault) → SaysNothing fault
  nothing_or Unmade says = says (λ (e : Unmade ≡ DiskFault). absurd cc)
  nothing_or (Damaged disk file place) says = says (λ (e : Damaged disk file place ≡ DiskFault). absurd cc)
  nothing_or DiskFault says = tt
  nothing_or Memory says = tt

  module _ (image_of : (disk : D) (c : Files) → disk_says.seen disk c → disk_says.may_leave disk c) (old new : Pair D) (falls : NeverFalls disk_says old new)
      (was_bare : (files : Files) → disk_says.seen old.journal files → length (files 0) ≡ 0)
      (committed : (image : Files) → disk_says.may_leave new.journal image → HasCommitted made image)
      (stands : (image contents : Files) → disk_says.may_leave new.journal image → StandFor [] image contents) where
    not_there : IsThere disk_says old → ⊥
    not_there there = there.2 (was_bare there.0 there.1)

    pub made_opened : (r : Result (Node D) (NotNode D)) → Opens disk_says new.journal new.archive r → IfOk r (IsOpenedOrMade disk_says old)
    made_opened (Err found) says = tt
    made_opened (Ok node) says = record {
      there = λ there. absurd (not_there there);
      bare = λ bare tells.
          let j_reads = says.journal_synced.same.no_more tells.0.0 tells.0.1 in
          says.node no_changes tells.0.0 tells.1.0 j_reads (says.archive_synced.same.no_more tells.1.0 tells.1.1) (made_written tells.0.0 (committed tells.0.0 (image_of new.journal tells.0.0 j_reads)));
      fresh = says.fresh;
      never_falls = falls_on disk_says old new (files_of node) falls (record { journal = says.cause.journal_never_falls; archive = says.cause.archive_never_falls });
    }

    pub made_unopened : (r : Result (Node D) (NotNode D)) → Opens disk_says new.journal new.archive r → IfErr r (λ found. IsNotOpenedOrMade disk_says old found.fault (left_by found))
    made_unopened (Ok node) says = tt
    made_unopened (Err found) says = record {
      there = λ there other. absurd (not_there there);
      bare = λ bare tells. nothing_or found.fault (λ other.
          let both = says.unopened other in
          let j_reads = both.0.same.no_more tells.0.0 tells.0.1 in
          let stand = stands tells.0.0 tells.1.0 (image_of new.journal tells.0.0 j_reads) in
          says.opens tells.0.0 tells.1.0 stand.rows j_reads (both.1.same.no_more tells.1.0 tells.1.1) (hold_of [] tells.0.0 tells.1.0 stand));
      risen = λ is. rose_on disk_says old new (left_by found) falls (says.cause.risen is);
    }

  -- ---- making failed

  pub unmade_unopened : (old new : Pair D) → PairRose disk_says old new → IsNotOpenedOrMade disk_says old DiskFault new
  unmade_unopened old new rose = record { there = λ there other. absurd (other refl); bare = λ bare tells. tt; risen = λ is. rose }
