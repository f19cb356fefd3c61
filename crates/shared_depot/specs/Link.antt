-- What a link to the journal of a depot at work tells, and what its party learns. How a replica follows is this project's own choice.
use Rattle.std.specs.Prelude.{◌≡◌, ℕ, List, map}
use mathlib.Core.List.{IsPrefix}
use Rattle.archive_file.specs.declared.archive.Archive.{Archive}
use Rattle.depot_commit.specs.Growing.{Chronicle}
use Rattle.depot_rows.specs.depot_model.Deeds.{Deed}
use Rattle.locked_tables.specs.Known.{PartyKnown}
use Rattle.locked_tables.specs.Taken.{of_party, placed_of}
use Rattle.locked_tables.specs.declared.taken.Taken.{Taken}
use Rattle.outside_api.specs.Disk.{Files}
use Rattle.outside_api.specs.Says.{DiskSays}
use Rattle.replica_turns.specs.Master.{AllFit, AreGroupsOf, IsJournalAfter, Past, texts_in}
use Rattle.shared_depot.specs.Common.{HasAllStored, Masters, chronicle_after}

-- A party has learnt places, which are others'.
pub record HasHeardPlaces (old new : PartyKnown) : Type 0 where
  pub party : new.party ≡ old.party
  pub later : IsPrefix old.list new.list
  pub own : of_party old.party new.list ≡ of_party old.party old.list

module _ {D : Type 0} (disk_says : DiskSays D) (end : ℕ) (images : Files → Type 0) (begins : ℕ → List Deed → Type 0) (masters : Masters) (order : List Taken) where
  -- These are the texts of the journal after the places of an order, for a moment and a depot from which the run began and that replicas follow: those of the
  -- groups that it had, and of those that were written at the places. They fit where those that it had did, and beside each archive in which the contents of
  -- the places were stored they make the depot after these.
  pub record TellsJournal (texts : List (List ℕ)) : Type 0 where
    pub since : ℕ
    pub past : Past
    pub start : List Deed
    pub first : Chronicle
    pub begun : begins since start
    pub followed : masters past start first
    pub are : texts ≡ texts_in (chronicle_after first order)
    pub are_groups : AreGroupsOf (chronicle_after first order)
    pub fit : AllFit past.journal → AllFit (chronicle_after first order)
    pub changes : (archive : Archive D) → HasAllStored disk_says end images begins order archive → IsJournalAfter past start (map placed_of order) (chronicle_after first order)

  -- they are told for each such moment and depot
  abbrev pub TellsAll : Type 0
  TellsAll = (since : ℕ) (past : Past) (start : List Deed) (c : Chronicle) → begins since start → masters past start c → TellsJournal (texts_in (chronicle_after c order))
