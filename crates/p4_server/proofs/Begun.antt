-- What a checkpoint leaves of files that were written from the first change on.
use Rattle.std.proofs.Common.{◌≡◌, ◌<◌, ◌+◌, ℕ, suc, true, List, [], ◌∷◌, ◌++◌, length, Option, Some, None, inl, inr, refl, sym, ap, subst, ◌∙◌, arith}
use Rattle.std.specs.Prelude.{IfSome, map}
use Rattle.outside_api.specs.Disk.{Files}
use Rattle.outside_api.specs.Says.{DiskSays}
use Rattle.archive_file.specs.Archive as archives
use Rattle.checkpoint_file.specs.Generations.{of_generation}
use Rattle.depot_checkpoint.specs.Taking.{CanBegin, HasBegun, IsNextOf, MayBeNext, MayHaveBegun, StandsBeforeOrAfter, checkpointed}
use Rattle.depot_checkpoint.proofs.Checkpoints.{is_begun}
use Rattle.depot_rows.specs.depot_model.Deeds.{Deed}
use Rattle.depot_rows.specs.depot_model.Steps.Checkpoint.{checkpoint}
use Rattle.depot_rows.specs.table_changes.Changed.{AllRows, changed_by, rows_of}
use Rattle.disk_journal.specs.Images.{Committed, HasCommitted, with_generation}
use Rattle.disk_journal.specs.Older.{AreOlder}
use Rattle.disk_journal.specs.Stands.{Doubtful, HasWithOrWithout, IsImage, disk_of, group, nothing, opening}
use Rattle.disk_journal.specs.declared.journal.Journal.{Journal}
use Rattle.recovery.specs.Holding.{group_texts}
use Rattle.recovery.specs.Opening.{IsOpen}
use Rattle.recovery.specs.Standing.{StandFor}
use Rattle.recovery.specs.declared.open.Opened.{Opened}
use Rattle.recovery.proofs.Held.{last_generation}
use Rattle.replica_turns.specs.Master.{IsMaster, Past}
use Rattle.replica_turns.specs.Written.{IsWrittenAfter, Leave}
use Rattle.replica_turns.proofs.Exits.{all_written, generation_is, journal_as, journal_with, newest_is, older_in_doubt, one_more_written}
use Rattle.replica_turns.proofs.OneMore.{IsOneMore, one_told, rows_now}
use Rattle.party_threads.specs.depot_commit.Growing.{Chronicle, with_changes}
use Rattle.party_threads.specs.serial_depot.Running.{HasRun}
use Rattle.p4_server.specs.Checkpoint.{BeginsOrNot, one_if}
use Rattle.p4_server.proofs.Scheduled.{depot_of}
use Rattle.step_limits.specs.Limits.{generation_in}

module _ {D : Type 0} (disk_says : DiskSays D) (reads : (disk : D) (files : Files) → disk_says.seen disk files → disk_says.may_leave disk files) (opened : Opened D) (was : Committed) (is : IsOpen disk_says was opened) (d : List Deed) (since : ℕ)
    (h : HasRun disk_says (depot_of disk_says opened) since d []) (past : Past) (c : Chronicle) (master : IsMaster disk_says past d [] (depot_of disk_says opened) c) where
  abbrev rows : AllRows
  rows = rows_of opened.tables

  abbrev older : List (List (List ℕ))
  older = map (group_texts 1) c.closed

  told : generation_in d ≡ was.generation
  told = h.over.generation ∙ (sym h.over.stands.generation ∙ is.stands.generation)

  -- the journal is one that can begin the next generation
  pub can_begin : CanBegin disk_says opened.journal was rows d older
  can_begin = record { stands = is.stands; has = is.rows; stand = h.over.stand; generation = told; keeps = master.groups.keeps }

  closed_count : was.generation ≡ length c.closed
  closed_count = generation_is disk_says opened.journal c master.groups was nothing is.stands

  newest : was.groups ≡ group_texts 1 c.newest
  newest =
      let tells = master.groups.keeps.tells in
      newest_is disk_says opened.journal c master.groups was nothing is.stands tells.0 (reads (disk_of opened.journal) tells.0 tells.1) rows is.rows

  one : (text : List ℕ) (n : IsNextOf was rows d text) → was.generation < 4095 → IsOneMore c (with_changes true n.changes c) rows (changed_by rows n.changes)
  one text n below =
      let number : was.generation + 1 ≡ suc (length c.closed) = (let count = closed_count in omega (arith, count)) in
      one_told rows d (checkpoint d).deeds n.changes c (is_begun d was.generation told below ∙ ap (λ (k : ℕ). of_generation k d) number) h.over.stand n.differences n.some

  -- ---- a pair

  module _ (archive : Files) (archive_left : disk_says.may_leave (archives.disk_of opened.archive) archive) (journal : Files) (e : List Deed) (stands : StandFor e journal archive) where
    unbegun : HasCommitted was journal → AreOlder older journal → IsWrittenAfter past d [] 0 e journal archive
    unbegun committed all =
        all_written disk_says past d [] since (depot_of disk_says opened) h c master archive archive_left journal (journal_as c master.groups.are_groups was closed_count newest journal all committed rows is.rows master.rows) e stands

    begun : (text : List ℕ) → IsNextOf was rows d text → HasCommitted (with_generation was text) journal → AreOlder (older ++ was.groups ∷ []) journal → IsWrittenAfter past d [] 1 e journal archive
    begun text n committed all =
        let now = with_changes true n.changes c in
        let after_it = changed_by rows n.changes in
        let last = last_generation (was.generation + 1) (journal 0) committed.rest.root in
        let more = one text n (omega (arith, last)) in
        one_more_written disk_says past d [] since (depot_of disk_says opened) h c master archive archive_left now after_it more journal
        (journal_with c master.groups.are_groups was closed_count newest journal (opening text) true n.changes (text, refl) all committed after_it n.has (rows_now c now rows after_it master.rows more)) e stands

  -- ---- what is left

  abbrev Left : D → (Files → Files → Type 0) → Type 0
  Left journal IsSo = Leave disk_says journal (archives.disk_of opened.archive) IsSo

  -- nothing was done
  pub opened_leaves : (e : List Deed) → ((j a : Files) → disk_says.may_leave (disk_of opened.journal) j → disk_says.may_leave (archives.disk_of opened.archive) a → StandFor e j a) → Left (disk_of opened.journal) (IsWrittenAfter past d [] 0 e)
  opened_leaves e stands = record {
    journal_tells = master.groups.keeps.tells;
    archive_tells = h.tells;
    pairs = λ j a j_left a_left. unbegun a a_left j e (stands j a j_left a_left) (is.stands.holds j j_left) (master.groups.keeps.each j j_left);
  }

  module _ (left : Journal D) where
    -- the checkpoint was taken
    pub taken_leaves : (number : Option ℕ) → (number ≡ None → left ≡ opened.journal) → IfSome number (λ n. HasBegun disk_says left was rows d older)
        → ((j a : Files) → disk_says.may_leave (disk_of left) j → disk_says.may_leave (archives.disk_of opened.archive) a → StandFor (checkpointed d) j a) → Left (disk_of left) (IsWrittenAfter past d [] (one_if number) (checkpointed d))
    taken_leaves None none begins stands =
        let same = none refl in
        let Stands : Journal D → Type 0 = λ journal. (j a : Files) → disk_says.may_leave (disk_of journal) j → disk_says.may_leave (archives.disk_of opened.archive) a → StandFor (checkpointed d) j a in
        subst (λ (journal : Journal D). Left (disk_of journal) (IsWrittenAfter past d [] 0 (checkpointed d))) (sym same) (opened_leaves (checkpointed d) (subst Stands same stands))
    taken_leaves (Some n) none begins stands = record {
      journal_tells = begins.keeps.tells;
      archive_tells = h.tells;
      pairs = λ j a j_left a_left. begun a a_left j (checkpointed d) (stands j a j_left a_left) begins.text begins.next (begins.stands.holds j j_left) (begins.keeps.each j j_left);
    }

    -- a disk failed meanwhile
    pub doubt_leaves : MayHaveBegun disk_says left was rows d older → ((j a : Files) → HasCommitted was j → disk_says.may_leave (archives.disk_of opened.archive) a → StandFor d j a)
        → ((j a : Files) → disk_says.may_leave (disk_of left) j → disk_says.may_leave (archives.disk_of opened.archive) a → StandsBeforeOrAfter d a j) → Left (disk_of left) (BeginsOrNot past d)
    doubt_leaves may before either = record {
      journal_tells = may.keeps.tells;
      archive_tells = h.tells;
      pairs = λ j a j_left a_left. go may.doubt may.next j a (may.stands.each j j_left) (may.stands.holds j j_left) (may.keeps.each j j_left) a_left (either j a j_left a_left);
    }
      where
        -- of the next generation it stands for the depot after the checkpoint alone
        only_after : (text : List ℕ) (j a : Files) → HasCommitted (with_generation was text) j → StandsBeforeOrAfter d a j → StandFor (checkpointed d) j a
        only_after text j a committed (inr after) = after
        only_after text j a committed (inl same) =
            let tells = told in
            let its = same.generation in
            let root = same.committed.root in
            let next = committed.root in
            absurd (omega (arith, tells, its, root, next))

        go : (doubt : Doubtful) → MayBeNext was rows d doubt → (j a : Files) → IsImage was doubt j → HasWithOrWithout was doubt j → AreOlder older j → disk_says.may_leave (archives.disk_of opened.archive) a → StandsBeforeOrAfter d a j → BeginsOrNot past d j a
        go nothing next j a image committed all a_left stands = inl (unbegun a a_left j d (before j a committed a_left) committed all)
        go (group text) next j a image committed all a_left stands = absurd next
        go (opening text) next j a image (inl committed) all a_left stands = inl (unbegun a a_left j d (before j a committed a_left) committed all)
        go (opening text) next j a image (inr committed) all a_left stands =
            inr (begun a a_left j (checkpointed d) (only_after text j a committed stands) text next committed (older_in_doubt c master.groups.are_groups was closed_count newest j is.stands.are_groups all (opening text) image))
