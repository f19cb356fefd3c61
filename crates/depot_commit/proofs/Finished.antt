-- A command whose contents were read, and one whose contents were stored and whose group or generation was written, or at which a disk failed.
use Rattle.std.proofs.Common.{◌≡◌, ◌≢◌, ℕ, ◌+◌, Bool, true, false, List, [], ◌∷◌, ◌++◌, length, refl, sym, subst, ◌∙◌, arith}
use Rattle.outside_api.specs.Disk.{Files}
use Rattle.outside_api.specs.Moments.{LeavesOnly}
use Rattle.outside_api.specs.Says.{DiskSays}
use Rattle.command_core.specs.Outcomes.{IsOutcome}
use Rattle.command_core.specs.declared.outcome.Outcome.{Outcome}
use Rattle.depot_rows.specs.db_records.declared.change.Change.{Change}
use Rattle.disk_journal.specs.Images.{Committed}
use Rattle.disk_journal.specs.Stands.{Doubtful, HasWithOrWithout, Stands, generation_of_journal, next_number, nothing}
use Rattle.disk_journal.specs.declared.journal.Journal.{Journal}
use Rattle.depot_rows.specs.table_changes.Changed.{AllRows, changed_by, rows_of}
use Rattle.depot_rows.specs.table_store.declared.tables.Tables.{Tables}
use Rattle.depot_rows.specs.depot_model.Commands.{step}
use Rattle.depot_rows.specs.depot_model.Deeds.{Deed}
use Rattle.depot_rows.specs.depot_model.Places.{Placed, taken}
use Rattle.depot_rows.specs.depot_model.Step.{after}
use Rattle.depot_rows.specs.depot_model.declared.request.Request.{Request}
use Rattle.reply_rows.specs.Made.{ComeFrom, contents_of}
use Rattle.reply_rows.specs.declared.content.RowContent.{RowContent}
use Rattle.session_loop.specs.Taking.{placed_by}
use Rattle.stored_contents.specs.Placed.{StandAfter}
use Rattle.depot_commit.specs.Committing.{AreChangesOf}
use Rattle.depot_commit.specs.Growing.{HasWritten, IsWritten}
use Rattle.depot_commit.specs.Holding.{HasItsContents, KeepContents}
use Rattle.depot_commit.specs.Opening.{opens_generation}
use Rattle.depot_commit.specs.Writing.{IsWritingOf, StandsBy, with_doubtful}
use Rattle.depot_commit.specs.Running.{CanCommit, HasRunOver, IsWrittenFor}
use Rattle.depot_commit.specs.Storing.{AreAt, HasStored, stores_end}
use Rattle.depot_commit.proofs.Moved.{over_moved, over_settled, over_unsettled}
use Rattle.depot_commit.proofs.Steps.{over_done, over_failed, over_faulted}
use Rattle.depot_commit.proofs.Contents.{contents_at}
use Rattle.depot_commit.proofs.Writings.{no_doubt, same_generation}
use Rattle.depot_commit.proofs.Stored.{contents_follow, contents_kept, grows, stored_all, stored_keeps, stored_reach}

-- the journal stands, whether the writing failed or not
pub standing : {D : Type 0} {disk_says : DiskSays D} {was : Committed} {written : Doubtful} {failed : Bool} {old new : Journal D} → HasWritten disk_says was written failed old new → CanCommit disk_says new
standing {D} {disk_says} {was} {written} {failed} {old} {new} wrote = go failed wrote.stands
  where
    go : (failed : Bool) → StandsBy disk_says new was written failed → CanCommit disk_says new
    go false stands = (with_doubtful was written, (nothing, stands))
    go true stands = (was, (stands.0, stands.2))

-- what was read are the contents that the reply waits for
pub contents_are : (rows : AllRows) (d : List Deed) (request : Request) (from : ℕ) (outcome : Outcome) (files : Files) → HasItsContents rows d files → IsOutcome rows from d request outcome
    → (texts : List (List ℕ)) → ((contents : List (List ℕ)) → AreAt (files 0) outcome.reads contents → texts ≡ contents) → texts ≡ contents_of (step d request).rows
contents_are rows d request from outcome files has is texts read =
    read (contents_of (step d request).rows) (contents_at (files 0) rows d has.contents (contents_of (step d request).rows) outcome.reads is.reads)

module _ {D : Type 0} {disk_says : DiskSays D} {images : Files → Type 0} {used : ℕ} {tables : Tables} {journal settled : Journal D} {since : ℕ} {start : List Deed} {places : List Placed}
    (h : HasRunOver disk_says images used tables journal since start places) (leaves : LeavesOnly disk_says journal.disk settled.disk (HasWithOrWithout h.was h.doubt)) (request : Request) where
  -- what is in doubt couldn't be settled
  pub over_unwritten : Stands disk_says settled h.was h.doubt → HasRunOver disk_says images used tables settled since start (places ++ placed_by request true ∷ [])
  over_unwritten stands =
      over_faulted disk_says images used tables settled since start places request
      (over_unsettled disk_says images used tables journal since start places h settled stands leaves)

  module _ (still : Stands disk_says settled h.was nothing) where
    run : HasRunOver disk_says images used tables settled since start places
    run = over_settled disk_says images used tables journal since start places h settled still leaves

    -- it was settled, and a content couldn't be stored
    pub over_unstored : HasRunOver disk_says images used tables settled since start (places ++ placed_by request true ∷ [])
    over_unstored = over_faulted disk_says images used tables settled since start places request run

    -- contents were stored, and then changes written, or their writing failed
    module _ (stores : List (List ℕ)) {now : AllRows} {written : Doubtful} (changes : List Change) (some : changes ≢ [])
        (is : IsWritingOf (rows_of tables) now (next_number journal) (generation_of_journal journal) (opens_generation request) written changes)
        (is_written : IsWritten (next_number journal) (opens_generation request) written changes) (made : AreChangesOf (rows_of tables) request changes)
        (placed : StandAfter (rows_of tables) used (taken step start places) (after (taken step start places) (step (taken step start places) request).deeds) stores changes) (number : next_number settled ≡ next_number journal) where
      abbrev more : Files → Type 0
      more = HasStored images used stores

      abbrev end : ℕ
      end = stores_end stores used

      -- the run beside them
      beside : HasRunOver disk_says more end tables settled since start places
      beside = over_moved disk_says images used tables settled since start places run more end (grows stores used) (stored_keeps images used stores)

      stands_still : Stands disk_says settled beside.was nothing
      stands_still = subst (Stands disk_says settled beside.was) (no_doubt disk_says settled h.was beside.was beside.doubt still beside.stands) beside.stands

      -- the contents after the command
      contents : KeepContents more end (changed_by (rows_of tables) changes) (after (taken step start places) (step (taken step start places) request).deeds)
      contents =
          contents_follow more used end used (rows_of tables) (taken step start places) (after (taken step start places) (step (taken step start places) request).deeds) stores changes placed (made.stand (taken step start places) run.stand).sound (grows stores used)
          (contents_kept images more used used (rows_of tables) (taken step start places) (omega arith) (stored_keeps images used stores) run.stand run.kept)
          (stored_all images used stores) (omega arith) (stored_reach images used stores)

      abbrev writes : IsWrittenFor (rows_of tables) beside.was request written
      writes =
          let count = beside.stands.count in
          let there : next_number journal ≡ length beside.was.groups + 1 = sym number ∙ omega arith in
          let generation = sym (same_generation disk_says journal settled h.was h.doubt nothing h.stands still) ∙ beside.stands.generation in
          record {
            changes = changes;
            some = some;
            made = made;
            is = subst (λ (n : ℕ). IsWritten n (opens_generation request) written changes) there is_written;
            has = is.has beside.was there generation beside.has;
          }

      pub over_written : {failed : Bool} {tables' : Tables} {journal' : Journal D} → ((was : Committed) → Stands disk_says settled was nothing → HasWritten disk_says was written failed settled journal')
          → (failed ≡ false → rows_of tables' ≡ now) → (failed ≡ true → rows_of tables' ≡ rows_of tables) → HasRunOver disk_says more end tables' journal' since start (places ++ placed_by request failed ∷ [])
      over_written {failed} {tables'} {journal'} wrote done kept = let w = wrote beside.was stands_still in ended failed w.stands w.any_moment done kept
        where
          ended : (failed : Bool) → StandsBy disk_says journal' beside.was written failed → LeavesOnly disk_says settled.disk journal'.disk (HasWithOrWithout beside.was written)
              → (failed ≡ false → rows_of tables' ≡ now) → (failed ≡ true → rows_of tables' ≡ rows_of tables) → HasRunOver disk_says more end tables' journal' since start (places ++ placed_by request failed ∷ [])
          ended false stands left done kept =
              over_done disk_says more end tables settled since start places request beside tables' journal' written writes contents left stands (done refl ∙ is.rows_are)
          ended true stands left done kept =
              over_failed disk_says more end tables settled since start places request beside tables' journal' written writes contents left stands.0 stands.1 stands.2 (kept refl)

-- where no content is waited for no row has one
pub none_waits : (rows : AllRows) (d : List Deed) (contents : List (List ℕ)) (reads : List RowContent) → ComeFrom rows d contents reads → reads ≡ [] → contents ≡ []
none_waits rows d [] reads from none = refl
none_waits rows d (content ∷ contents) reads from none = absurd (subst (ComeFrom rows d (content ∷ contents)) none from)
