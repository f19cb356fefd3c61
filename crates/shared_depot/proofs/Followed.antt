-- A journal has the groups that were written, and replicas go on following a depot, when it runs more of an order.
use Rattle.std.proofs.Common.{◌≡◌, ℕ, Bool, true, false, List, [], ◌∷◌, ◌++◌, map, refl, sym, ap, subst, ◌∙◌, arith}
use Rattle.std.specs.Prelude.{if◌then◌else◌}
use mathlib.Core.List.{map-append}
use Rattle.archive_file.specs.declared.archive.Archive.{Archive}
use Rattle.depot_rows.specs.Standing.{Stand}
use Rattle.depot_rows.specs.db_records.declared.change.Change.{Change}
use Rattle.depot_rows.specs.depot_model.Commands.{step}
use Rattle.depot_rows.specs.depot_model.Deeds.{Deed}
use Rattle.depot_rows.specs.depot_model.Places.{Placed, taken}
use Rattle.depot_rows.specs.depot_model.declared.request.Request.{Request}
use Rattle.depot_rows.specs.table_changes.Changed.{AllRows, rows_of}
use Rattle.depot_rows.specs.table_store.declared.tables.Tables.{Tables}
use Rattle.disk_journal.specs.declared.journal.Journal.{Journal}
use Rattle.locked_tables.specs.Taken.{placed_of, rows_after}
use Rattle.locked_tables.specs.declared.taken.Taken.{Taken}
use Rattle.outside_api.specs.Disk.{Files}
use Rattle.outside_api.specs.Says.{DiskSays}
use Rattle.depot_commit.proofs.Growing.{grown_fault}
use Rattle.depot_commit.specs.Committing.{AreRowsAfter, IsOutcomeOf}
use Rattle.depot_commit.specs.Growing.{Chronicle, HasGroups, grown}
use Rattle.depot_commit.specs.Opening.{opens_generation}
use Rattle.depot_commit.specs.Placing.{HasRunBeside}
use Rattle.depot_commit.specs.command_core.declared.outcome.Outcome.{Outcome}
use Rattle.replica_turns.proofs.Masters.{nth_longer, place_master}
use Rattle.replica_turns.specs.Master.{AreChanges, IsMaster, Past}
use Rattle.serial_depot.specs.declared.depot.SerialDepot.{SerialDepot}
use Rattle.session_loop.specs.Taking.{placed_by}
use Rattle.shared_depot.proofs.Fronts.{stored_front}
use Rattle.shared_depot.proofs.Order.{all_rows, beside_ran, depot_ran}
use Rattle.shared_depot.proofs.Quietly.{chronicle_append}
use Rattle.shared_depot.proofs.Written.{written_placed}
use Rattle.shared_depot.specs.Common.{GoesOnQuietly, HasAllStored, HasRunOrder, IsFollowed, HasFitGroups, Masters, chronicle_after}
use Rattle.shared_depot.specs.Stored.{stores_of}

-- behind places of which none is a change
master_idle : {D : Type 0} (disk_says : DiskSays D) (past : Past) (start : List Deed) (places more : List Placed) (depot : SerialDepot D) (c : Chronicle) → IsMaster disk_says past start places depot c
    → ((n : ℕ) → AreChanges n start places → AreChanges n start (places ++ more)) → IsMaster disk_says past start (places ++ more) depot c
master_idle disk_says past start places more depot c master idle = record {
  groups = master.groups;
  rows = master.rows;
  changes = master.changes;
  count = master.count;
  are_changes = idle master.changes master.are_changes;
  each = λ n within.
      let was = master.each n within in
      record { depot = was.depot; is = nth_longer past start places more n was.depot was.is; stand = was.stand; kept = was.kept };
  ends = master.ends;
  fit = master.fit;
}

-- what grew by a place is what it changed, and nothing where a disk failed
grown_own : (opens fault : Bool) (changes : List Change) (c : Chronicle) → grown opens fault (if fault then [] else changes) c ≡ grown opens fault changes c
grown_own opens true changes c = grown_fault opens changes c
grown_own opens false changes c = refl

module _ {D : Type 0} (disk_says : DiskSays D) (rows : AllRows) (end : ℕ) (images : Files → Type 0) (begins : ℕ → List Deed → Type 0) (masters : Masters) where
  abbrev Ran : List Taken → Tables → Journal D → Type 0
  Ran order tables journal = HasRunOrder disk_says rows end images begins masters order tables journal

  abbrev Followed : List Taken → Tables → Journal D → Type 0
  Followed order tables journal =
      (archive : Archive D) → HasAllStored disk_says end images begins order archive → IsFollowed disk_says begins masters order (record { tables = tables; journal = journal; archive = archive })

  -- nothing was written
  pub followed_on : (known order : List Taken) → GoesOnQuietly disk_says rows end images begins known order → (tables : Tables) (journal : Journal D) → Ran known tables journal → Followed order tables journal
  followed_on known order on tables journal was archive all since past start c at begun =
      let depot : SerialDepot D = record { tables = tables; journal = journal; archive = archive } in
      let rest = on.begins_it.0 in
      let places : map placed_of known ++ map placed_of rest ≡ map placed_of order = sym (map-append placed_of known rest) ∙ ap (map placed_of) on.begins_it.1 in
      let master = was.followed archive (stored_front disk_says end images begins known order archive on.begins_it all) since past start c at begun in
      let stand : Stand (rows_after rows known) (taken step start (map placed_of known)) =
      subst (λ (r : AllRows). Stand r (taken step start (map placed_of known))) (all_rows disk_says rows end images begins masters known tables journal was) (was.ran since start at).stand in
      let longer = master_idle disk_says past start (map placed_of known) (map placed_of rest) depot (chronicle_after c known) master
      (λ n are. subst (AreChanges n start) (sym places) (on.idle n since start at stand are)) in
      subst (IsMaster disk_says past start (map placed_of order) depot) (sym (on.chronicle c))
      (subst (λ (ps : List Placed). IsMaster disk_says past start ps depot (chronicle_after c known)) places longer)

  -- a command was committed behind the order, with its contents
  module _ (order : List Taken) (tables : Tables) (journal : Journal D) (was : Ran order tables journal) (tables' : Tables) (journal' : Journal D) (request : Request) (outcome : Outcome) (fault : Bool) (entry : Taken) (stored : List (List ℕ))
      (asks : entry.request ≡ request) (faulty : entry.fault ≡ fault) (own : entry.changes ≡ (if entry.fault then [] else outcome.changes)) (rows_now : AreRowsAfter (rows_of tables) outcome.changes fault (rows_of tables'))
      (stores_are : stores_of (order ++ entry ∷ []) ≡ stores_of order ++ stored)
      (stands : (since : ℕ) (start : List Deed) → begins since start → IsOutcomeOf (rows_of tables) tables.archive_end request outcome)
      (ran : (since : ℕ) (start : List Deed) → begins since start → HasRunBeside disk_says images end (stores_of order ++ stored) tables' journal' since start (map placed_of order ++ placed_by request fault ∷ []))
      (grows : (since : ℕ) (start : List Deed) → begins since start → (c : Chronicle) → HasGroups disk_says journal c → HasGroups disk_says journal' (grown (opens_generation request) fault outcome.changes c)) where
    -- the groups with that of the entry
    grown_is : (c : Chronicle) → grown (opens_generation request) fault outcome.changes (chronicle_after c order) ≡ chronicle_after c (order ++ entry ∷ [])
    grown_is c =
        let before = chronicle_after c order in
        sym (grown_own (opens_generation request) fault outcome.changes before)
        ∙ (ap (λ (b : Bool). grown (opens_generation request) b (if b then [] else outcome.changes) before) (sym faulty)
        ∙ (ap (λ (changes : List Change). grown (opens_generation request) entry.fault changes before) (sym own)
        ∙ (ap (λ (r : Request). grown (opens_generation r) entry.fault entry.changes before) (sym asks)
        ∙ sym (chronicle_append c order (entry ∷ [])))))

    pub written_more : (since : ℕ) (past : Past) (start : List Deed) (c : Chronicle) → begins since start → masters past start c → HasFitGroups disk_says past tables' journal' (chronicle_after c (order ++ entry ∷ []))
    written_more since past start c at begun =
        let before = was.written since past start c at begun in
        let h = was.ran since start at in
        subst (HasFitGroups disk_says past tables' journal') (grown_is c)
        (written_placed disk_says past tables tables' journal journal' (chronicle_after c order) before _ _ since start (map placed_of order) h request outcome
        (stands since start at (taken step start (map placed_of order)) h.stand) fault rows_now (grows since start at (chronicle_after c order) before.groups))

    pub followed_more : Followed (order ++ entry ∷ []) tables' journal'
    followed_more archive all since past start c at begun =
        let old : SerialDepot D = record { tables = tables; journal = journal; archive = archive } in
        let new : SerialDepot D = record { tables = tables'; journal = journal'; archive = archive } in
        let before = stored_front disk_says end images begins order (order ++ entry ∷ []) archive (entry ∷ [], refl) all in
        let master = was.followed archive before since past start c at begun in
        let h = depot_ran disk_says rows end images begins masters order tables journal was archive before since start at in
        let Beside : List (List ℕ) → Type 0 = λ stores. HasRunBeside disk_says images end stores tables' journal' since start (map placed_of order ++ placed_by request fault ∷ []) in
        let h' = beside_ran disk_says end images begins (order ++ entry ∷ []) tables' journal' archive all since start at (map placed_of order ++ placed_by request fault ∷ []) (subst Beside (sym stores_are) (ran since start at)) in
        let now = place_master disk_says past start (map placed_of order) old new (chronicle_after c order) master since h (record { below = λ spot bytes le has. has; more = omega arith }) request outcome
        (stands since start at (taken step start (map placed_of order)) h.over.stand) fault h' rows_now (grows since start at (chronicle_after c order) master.groups) in
        let placed : map placed_of order ++ placed_by request fault ∷ [] ≡ map placed_of (order ++ entry ∷ []) =
        (λ i. map placed_of order ++ placed_by (sym asks i) (sym faulty i) ∷ []) ∙ sym (map-append placed_of order (entry ∷ [])) in
        subst (IsMaster disk_says past start (map placed_of (order ++ entry ∷ [])) new) (grown_is c)
        (subst (λ (ps : List Placed). IsMaster disk_says past start ps new (grown (opens_generation request) fault outcome.changes (chronicle_after c order))) placed now)
