-- A depot is unmoved whose journal was read, or whose archive was.
use Rattle.std.proofs.Common.{◌≡◌, ◌≤◌, ◌++◌, ◌∷◌, ℕ, List, [], length, refl, ap, ◌∙◌, append-nil, arith}
use Rattle.std.proofs.lemmas.List.{length-append, length-take}
use Rattle.outside_api.specs.Reaching.{Reaches, holds}
use Rattle.outside_api.specs.Says.{DiskSays}
use Rattle.archive_file.specs.Archive as archives
use Rattle.archive_file.specs.Contents.{IsFront, IsLooked, IsTold}
use Rattle.archive_file.specs.declared.archive.Archive.{Archive}
use Rattle.disk_journal.specs.Stands.{disk_of}
use Rattle.disk_journal.specs.declared.journal.Journal.{Journal}
use Rattle.depot_commit.specs.Fetching.{IsFetched, IsRead}
use Rattle.serial_depot.specs.declared.depot.SerialDepot.{SerialDepot}
use Rattle.serial_depot.proofs.Parts.{read_can, read_run}
use Rattle.depot_commit.proofs.Growing.{stored_read, stored_same}
use Rattle.depot_commit.proofs.Moved.{over_fetched, read_none}
use Rattle.replica_turns.specs.Turning.{IsUnmoved}

module _ {D : Type 0} (disk_says : DiskSays D) (depot : SerialDepot D) where
  pub unmoved_fetched : (journal : Journal D) → IsFetched disk_says depot.journal journal → disk_says.faults (disk_of depot.journal) ≤ disk_says.faults (disk_of journal)
      → IsUnmoved disk_says depot (record { tables = depot.tables; journal = journal; archive = depot.archive })
  unmoved_fetched journal fetched le = record {
    can = λ can. record { was = can.was; doubt = can.doubt; stands = fetched.stands can.was can.doubt can.stands; end = can.end; room = can.room };
    ran = λ since start places h. record {
      tells = h.tells;
      over = over_fetched disk_says (disk_says.may_leave (archives.disk_of depot.archive)) (archives.used_of depot.archive) depot.tables depot.journal since start places h.over journal fetched;
    };
    tables = refl;
    groups = fetched.groups;
    stored = stored_same disk_says depot.archive;
    never_falls = le;
    never_falls_contents = omega arith;
  }

  pub unmoved_read : (archive : Archive D) → IsRead disk_says depot.archive archive → disk_says.faults (archives.disk_of depot.archive) ≤ disk_says.faults (archives.disk_of archive)
      → IsUnmoved disk_says depot (record { tables = depot.tables; journal = depot.journal; archive = archive })
  unmoved_read archive read le = record {
    can = read_can disk_says depot archive read.used read.same read.crash;
    ran = read_run disk_says depot archive read.used read.same read.crash;
    tables = refl;
    groups = λ c groups. groups;
    stored = stored_read disk_says depot.archive archive read.used read.crash;
    never_falls = omega arith;
    never_falls_contents = le;
  }

-- an archive that was looked at was read
pub looked_read : {D : Type 0} (disk_says : DiskSays D) (old new : Archive D) → Reaches (IsLooked disk_says) old new → IsRead disk_says old new
looked_read disk_says old new run = holds (IsRead disk_says old) (read_none disk_says old) step run
  where
    step : (mid next : Archive _) → IsRead disk_says old mid → IsLooked disk_says mid next → IsRead disk_says old next
    step mid next read look = record {
      same = record { kept = λ files here. look.same.kept files (read.same.kept files here); no_more = λ files here. read.same.no_more files (look.same.no_more files here) };
      crash = λ files left. read.crash files (look.crash files left);
      used = look.used ∙ read.used;
    }

-- what it tells then is what it told
pub told_still : {D : Type 0} (disk_says : DiskSays D) (old new : Archive D) → Reaches (IsLooked disk_says) old new → (bytes now : List ℕ) → IsTold disk_says old bytes → IsTold disk_says new now → IsFront bytes now
    → now ≡ bytes
told_still disk_says old new run bytes now was is front =
    let used = (looked_read disk_says old new run).used in
    let here = was.within in
    let there = is.within in
    let short = ap length was.are ∙ length-take (archives.used_of old) (was.files 0) in
    let long = ap length is.are ∙ length-take (archives.used_of new) (is.files 0) in
    let longer = ap length front.is ∙ length-append bytes front.more in
    front.is ∙ (ap (λ (l : List ℕ). bytes ++ l) (empty front.more (omega (arith, used, here, there, short, long, longer))) ∙ append-nil bytes)
  where
    empty : (l : List ℕ) → length l ≡ 0 → l ≡ []
    empty [] none = refl
    empty (x ∷ l) none = absurd (omega (arith, none))
