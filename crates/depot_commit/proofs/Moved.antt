-- A run whose journal was settled or read, or whose archive was read or stored in.
use Rattle.std.proofs.Common.{ℕ, ◌≤◌, List, length, inl, refl, ⊎_elim, arith}
use Rattle.archive_file.specs.declared.archive.Archive.{Archive}
use Rattle.outside_api.specs.Disk.{Files, NoMore}
use Rattle.outside_api.specs.Moments.{LeavesOnly, weaker}
use Rattle.outside_api.specs.Says.{DiskSays}
use Rattle.disk_journal.specs.Images.{Committed}
use Rattle.disk_journal.specs.Stands.{Doubtful, nothing, group, opening, HasWithOrWithout, Stands, disk_of}
use Rattle.disk_journal.specs.declared.journal.Journal.{Journal}
use Rattle.depot_rows.specs.table_changes.Changed.{AllRows, changed_by, rows_of}
use Rattle.depot_rows.specs.table_store.declared.tables.Tables.{Tables}
use Rattle.depot_rows.specs.depot_model.Commands.{step}
use Rattle.depot_rows.specs.depot_model.Deeds.{Deed}
use Rattle.depot_rows.specs.depot_model.Places.{Placed, taken}
use Rattle.depot_commit.specs.Holding.{StandsWith, IsKeptSometime}
use Rattle.depot_commit.specs.Running.{IsOfFault, IsDoubtOf, HasRunOver}
use Rattle.depot_commit.specs.Fetching.{IsFetched, IsRead}
use Rattle.depot_commit.specs.Storing.{KeepsBelow}
use Rattle.depot_commit.proofs.Kept.{kept_leads, kept_now}
use Rattle.depot_commit.proofs.Places.{kept_whole}
use Rattle.depot_commit.proofs.Stored.{contents_kept, keeps_more}

-- ---- other images of the archive's disk, which keep what ends below what is used

module _ (old new : Files → Type 0) (used used' : ℕ) (le : used ≤ used') (keeps : KeepsBelow old new used) where
  stands_moved : (image : Files) (d : List Deed) → StandsWith old used image d → StandsWith new used' image d
  stands_moved image d s = record {
    was = s.was;
    committed = s.committed;
    rows = s.rows;
    has = s.has;
    stand = s.stand;
    generation = s.generation;
    kept = contents_kept old new used used' s.rows d le keeps s.stand s.kept;
  }

  fault_moved : (rows : AllRows) (was : Committed) (doubt : Doubtful) (start : List Deed) (places : List Placed) → IsOfFault old used rows was doubt start places → IsOfFault new used' rows was doubt start places
  fault_moved rows was doubt start places f = record {
    before = f.before;
    request = f.request;
    later = f.later;
    parts = f.parts;
    quiet = f.quiet;
    stand = f.stand;
    same_contents = f.same_contents;
    writes = f.writes;
    kept = contents_kept old new used used' (changed_by rows f.writes.changes) _ le keeps (f.writes.made.stand (taken step start f.before) f.stand) f.kept;
  }

  doubt_moved : (rows : AllRows) (was : Committed) (start : List Deed) (places : List Placed) (doubt : Doubtful) → IsDoubtOf old used rows was start places doubt → IsDoubtOf new used' rows was start places doubt
  doubt_moved rows was start places nothing none = tt
  doubt_moved rows was start places (group text) f = fault_moved rows was (group text) start places f
  doubt_moved rows was start places (opening checkpoint) f = fault_moved rows was (opening checkpoint) start places f

  sometime_moved : (start : List Deed) (places : List Placed) (image : Files) → IsKeptSometime old used start places image → IsKeptSometime new used' start places image
  sometime_moved start places image (k, within, kept) = (k, within, kept_leads (StandsWith old used image) (StandsWith new used' image) (stands_moved image) start places k kept)

module _ {D : Type 0} (disk_says : DiskSays D) (images : Files → Type 0) (used : ℕ) (tables : Tables) (journal : Journal D) (since : ℕ) (start : List Deed) (places : List Placed)
    (h : HasRunOver disk_says images used tables journal since start places) where
  -- the archive may leave other images
  pub over_moved : (new : Files → Type 0) (used' : ℕ) → used ≤ used' → KeepsBelow images new used → HasRunOver disk_says new used' tables journal since start places
  over_moved new used' le keeps = record {
    was = h.was;
    doubt = h.doubt;
    stands = h.stands;
    has = h.has;
    stand = h.stand;
    generation = h.generation;
    kept = contents_kept images new used used' (rows_of tables) (taken step start places) le keeps h.stand h.kept;
    in_doubt = doubt_moved images new used used' le keeps (rows_of tables) h.was start places h.doubt h.in_doubt;
    later = h.later;
    any_moment = λ image left. sometime_moved images new used used' le keeps start places image (h.any_moment image left);
  }

  -- it leaves no others
  pub over_fewer : (new : Files → Type 0) → NoMore images new → HasRunOver disk_says new used tables journal since start places
  over_fewer new more = over_moved new used (omega arith) (keeps_more images new used more)

  still : (journal' : Journal D) (now : Doubtful) → Stands disk_says journal' h.was now → IsDoubtOf images used (rows_of tables) h.was start places now
      → LeavesOnly disk_says journal.disk journal'.disk (HasWithOrWithout h.was h.doubt) → HasRunOver disk_says images used tables journal' since start places
  still journal' now stands doubt leaves = record {
    was = h.was;
    doubt = now;
    stands = stands;
    has = h.has;
    stand = h.stand;
    generation = h.generation;
    kept = h.kept;
    in_doubt = doubt;
    later = let was = h.later in let more = leaves.later in omega (arith, was, more);
    any_moment = λ image left.
        ⊎_elim
        (λ was_left. h.any_moment image was_left)
        (λ fresh. (
          length places,
          omega arith,
          kept_whole (StandsWith images used image) start places
              (kept_now images used h.was (rows_of tables) start places h.has h.stand h.generation h.kept h.doubt h.in_doubt image fresh),
        ))
        (leaves.before since image h.later left);
  }

  -- what was in doubt was settled
  pub over_settled : (journal' : Journal D) → Stands disk_says journal' h.was nothing → LeavesOnly disk_says journal.disk journal'.disk (HasWithOrWithout h.was h.doubt)
      → HasRunOver disk_says images used tables journal' since start places
  over_settled journal' stands leaves = still journal' nothing stands tt leaves

  -- or a disk failed at that, or the journal was read
  pub over_unsettled : (journal' : Journal D) → Stands disk_says journal' h.was h.doubt → LeavesOnly disk_says journal.disk journal'.disk (HasWithOrWithout h.was h.doubt)
      → HasRunOver disk_says images used tables journal' since start places
  over_unsettled journal' stands leaves = still journal' h.doubt stands h.in_doubt leaves

-- bytes of the journal were read
pub over_fetched : {D : Type 0} (disk_says : DiskSays D) (images : Files → Type 0) (used : ℕ) (tables : Tables) (journal : Journal D) (since : ℕ) (start : List Deed) (places : List Placed)
    → HasRunOver disk_says images used tables journal since start places → (journal' : Journal D) → IsFetched disk_says journal journal'
    → HasRunOver disk_says images used tables journal' since start places
over_fetched disk_says images used tables journal since start places h journal' fetched =
    over_unsettled disk_says images used tables journal since start places h journal' (fetched.stands h.was h.doubt h.stands)
    (weaker disk_says (disk_of journal) (disk_of journal') (disk_says.may_leave (disk_of journal)) (HasWithOrWithout h.was h.doubt) h.stands.holds fetched.any_moment)

-- none were
pub fetched_none : {D : Type 0} (disk_says : DiskSays D) → ((disk : D) (files : Files) → disk_says.left_since disk (disk_says.moment disk) files → disk_says.may_leave disk files)
    → (journal : Journal D) → IsFetched disk_says journal journal
fetched_none disk_says only_now journal = record {
  stands = λ was doubt stands. stands;
  any_moment = record { later = omega arith; each = only_now (disk_of journal); before = λ t files le left. inl left };
  groups = λ all has. has;
}

-- nor were contents of the archive
pub read_none : {D : Type 0} (disk_says : DiskSays D) (archive : Archive D) → IsRead disk_says archive archive
read_none disk_says archive = record { same = record { kept = λ files here. here; no_more = λ files here. here }; crash = λ files left. left; used = refl }
