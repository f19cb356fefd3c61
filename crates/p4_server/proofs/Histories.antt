-- Runs that follow one another.
use Rattle.std.proofs.Common.{◌≡◌, ℕ, List, [], Some, None, sym, subst, ◌∙◌, inl, inr, arith}
use Rattle.std.specs.Prelude.{map}
use Rattle.std.proofs.Math.Path.{fun_ext}
use Rattle.outside_api.specs.Disk.{Files}
use Rattle.outside_api.specs.Says.{DiskSays, SinkSays}
use Rattle.depot_rows.specs.depot_model.Deeds.{Deed}
use Rattle.depot_rows.specs.depot_model.Places.{Placed}
use Rattle.depot_runs.specs.Run.{placed}
use Rattle.end_lines.specs.declared.cause.Cause.TheVariants as causes
use Rattle.program_words.specs.Words.{Job, asked, checkpoint, dump, init, load, schedule, serve}
use Rattle.replica_turns.specs.Master.{AllFit, Past}
use Rattle.replica_turns.specs.Written.{IsWrittenAfter, Leave, PairGoesOn, WasWritten, nothing_done}
use Rattle.p4_server.specs.Checkpoint.{BeginsOrNot, Checkpoints}
use Rattle.p4_server.specs.Dump.{Dumps}
use Rattle.p4_server.specs.Files.{BothOnlyRead}
use Rattle.p4_server.specs.Headline.{Ordering}
use Rattle.p4_server.specs.Histories.{AreNext, AreOfHistories, AreOfHistory, IsOfHistory, Tells}
use Rattle.p4_server.specs.Init.{HasOnlyMade, Inits}
use Rattle.p4_server.specs.Load.{Loads, LoadsFiles}
use Rattle.p4_server.specs.Opening.{IsUnopened}
use Rattle.p4_server.specs.Outside.{After, Before, Outside}
use Rattle.p4_server.specs.Promise.{KeepsPromise, Keeps}
use Rattle.p4_server.specs.Runs.{RunsParties}

-- ---- two disks

module _ {D : Type 0} (disk_says : DiskSays D) where
  -- such a pair is one of a history
  after_history : (past : Past) (start : List Deed) (places : List Placed) (more : ℕ) (d : List Deed) → AllFit past.journal → (j a : Files) → IsWrittenAfter past start places more d j a → IsOfHistory j a
  after_history past start places more d fit j a after = record { past = after.now; depot = d; fit = after.goes_on.fit fit; written = after.written; stands = after.stands }

  pair_history : (past : Past) (start : List Deed) (places : List Placed) → AllFit past.journal → (j a : Files) → PairGoesOn past start places j a → IsOfHistory j a
  pair_history past start places fit j a (inl after) = after_history past start places 0 _ fit j a after
  pair_history past start places fit j a (inr doubt) = after_history past start places 1 _ fit j a doubt.stands

  begins_history : (past : Past) (d : List Deed) → AllFit past.journal → (j a : Files) → BeginsOrNot past d j a → IsOfHistory j a
  begins_history past d fit j a (inl before) = after_history past d [] 0 d fit j a before
  begins_history past d fit j a (inr begun) = after_history past d [] 1 _ fit j a begun

  leave_all : (journal archive : D) (IsSo : Files → Files → Type 0) → Leave disk_says journal archive IsSo → ((j a : Files) → IsSo j a → IsOfHistory j a) → AreOfHistories disk_says journal archive
  leave_all journal archive IsSo left leads = record {
    journal_tells = left.journal_tells;
    archive_tells = left.archive_tells;
    pairs = λ j a j_left a_left. leads j a (left.pairs j a j_left a_left);
  }

  -- disks that leave no more
  pub next_of : (journal archive next_journal next_archive : D) → AreOfHistories disk_says journal archive → AreNext disk_says journal archive next_journal next_archive → AreOfHistories disk_says next_journal next_archive
  next_of journal archive next_journal next_archive w next = record {
    journal_tells = next.journal_tells;
    archive_tells = next.archive_tells;
    pairs = λ j a j_left a_left. w.pairs j a (next.journal_images j j_left) (next.archive_images a a_left);
  }

  -- disks that were only read
  only_read : (journal archive new_journal new_archive : D) → AreOfHistories disk_says journal archive → BothOnlyRead disk_says journal new_journal archive new_archive → AreOfHistories disk_says new_journal new_archive
  only_read journal archive new_journal new_archive w both = next_of journal archive new_journal new_archive w (record {
    journal_tells = (w.journal_tells.0, both.journal.same.kept w.journal_tells.0 w.journal_tells.1);
    archive_tells = (w.archive_tells.0, both.archive.same.kept w.archive_tells.0 w.archive_tells.1);
    journal_images = both.journal.no_more;
    archive_images = both.archive.no_more;
  })

  module _ (reads : (disk : D) (files : Files) → disk_says.seen disk files → disk_says.may_leave disk files) (one : (disk : D) (first second : Files) → disk_says.seen disk first → disk_says.seen disk second → (file : ℕ) → first file ≡ second file) where
    -- a run begins with one of the pairs
    pub begins_with : (journal archive : D) → AreOfHistories disk_says journal archive → AreOfHistory disk_says journal archive
    begins_with journal archive w =
        let files = w.journal_tells.0 in
        let contents = w.archive_tells.0 in
        let pair = w.pairs files contents (reads journal files w.journal_tells.1) (reads archive contents w.archive_tells.1) in
        record {
          past = pair.past;
          depot = pair.depot;
          fit = pair.fit;
          start = record { journal_files = files; archive_files = contents; journal_reads = w.journal_tells.1; archive_reads = w.archive_tells.1; stand = pair.stands };
          written = λ j a j_reads a_reads.
              subst (λ (f : Files). WasWritten pair.past f a) (fun_ext (one journal files j w.journal_tells.1 j_reads))
              (subst (WasWritten pair.past files) (fun_ext (one archive contents a w.archive_tells.1 a_reads)) pair.written);
        }

    -- of files that are there a making touches nothing
    making_leaves : (journal archive new_journal new_archive : D) (failed : Type 0) → AreOfHistories disk_says journal archive → HasOnlyMade disk_says journal new_journal archive new_archive failed
        → AreOfHistories disk_says new_journal new_archive
    making_leaves journal archive new_journal new_archive failed w made =
        let start = (begins_with journal archive w).start in
        let long = start.stand.committed.rest.root.long in
        only_read journal archive new_journal new_archive w (made.kept start.journal_files start.journal_reads (λ none. omega (arith, long, none)))

-- ---- runs

abbrev Begins : {D K : Type 0} → DiskSays D → Before D K → Type 0
Begins disk_says before = AreOfHistories disk_says before.journal before.archive

abbrev Leaves : {D S K : Type 0} → DiskSays D → After D S K → Type 0
Leaves disk_says after = AreOfHistories disk_says after.ended.journal after.ended.archive

module _ {D S K : Type 0} (disk_says : DiskSays D) (sink_says : SinkSays K) (before : Before D K) (after : After D S K) where
  -- files that were made
  pub inits_begin : Inits disk_says sink_says before after → after.ended.cause ≡ causes.Done → Tells disk_says before.journal → Tells disk_says before.archive → Leaves disk_says after
  inits_begin inits done tells archive_tells = elim inits.ends [
    | inl inited ↦ record {
      journal_tells = inits.disks.journal_told tells.0 tells.1;
      archive_tells = inits.disks.archive_told archive_tells.0 archive_tells.1;
      pairs = λ j a j_left a_left. record { past = nothing_done; depot = []; fit = (tt, tt); written = inited.written j a j_left a_left; stands = inited.empty j a j_left a_left };
    }
    | inr other ↦ elim other [
      | inl there ↦ let clash : causes.Made ≡ causes.Done = sym there.cause_is ∙ done in absurd cc
      | inr failed ↦ let clash : causes.Fault ≡ causes.Done = sym failed.cause_is ∙ done in absurd cc
    ]
  ]

  unopened_leaves : IsUnopened disk_says sink_says before after → Begins disk_says before → Leaves disk_says after
  unopened_leaves unopened w = next_of disk_says before.journal before.archive after.ended.journal after.ended.archive w (record {
    journal_tells = unopened.journal_told w.journal_tells.0 w.journal_tells.1;
    archive_tells = unopened.archive_told w.archive_tells.0 w.archive_tells.1;
    journal_images = unopened.journal_images;
    archive_images = unopened.archive_images;
  })

  dumps_leave : ((disk : D) (files : Files) → disk_says.seen disk files → disk_says.may_leave disk files) → Dumps disk_says sink_says before after → Begins disk_says before → Leaves disk_says after
  dumps_leave reads dumps w = elim dumps.ends [
    | inl unopened ↦ unopened_leaves unopened w
    | inr dumped ↦ next_of disk_says before.journal before.archive after.ended.journal after.ended.archive w (record {
      journal_tells = (w.journal_tells.0, dumped.synced.journal.same.kept w.journal_tells.0 w.journal_tells.1);
      archive_tells = (w.archive_tells.0, dumped.synced.archive.same.kept w.archive_tells.0 w.archive_tells.1);
      journal_images = λ j left. reads before.journal j (dumped.journal_images j left);
      archive_images = λ a left. reads before.archive a (dumped.archive_images a left);
    })
  ]

-- the disks that a run begins with are of one history
module _ {D S K : Type 0} (disk_says : DiskSays D) (sink_says : SinkSays K) (may_give : ℕ → Type 0) (before : Before D K) (after : After D S K) (w : Begins disk_says before) (h : AreOfHistory disk_says before.journal before.archive) where
  checkpoints_leave : Checkpoints disk_says sink_says may_give before after → Leaves disk_says after
  checkpoints_leave checkpoints = elim checkpoints.ends [
    | inl unopened ↦ unopened_leaves disk_says sink_says before after unopened w
    | inr opened ↦ elim opened [
      | inl untaken ↦ leave_all disk_says after.ended.journal after.ended.archive _ (untaken.goes_on h.depot h.start h.past h.written) (after_history disk_says h.past h.depot [] 0 h.depot h.fit)
      | inr rest ↦ elim rest [
        | inl taken ↦ leave_all disk_says after.ended.journal after.ended.archive _ (taken.goes_on h.depot h.start h.past h.written) (after_history disk_says h.past h.depot [] _ _ h.fit)
        | inr doubt ↦ leave_all disk_says after.ended.journal after.ended.archive _ (doubt.goes_on h.depot h.start h.past h.written) (begins_history disk_says h.past h.depot h.fit)
      ]
    ]
  ]

  files_leave : (seed count : ℕ) → LoadsFiles disk_says sink_says may_give before after seed count → Leaves disk_says after
  files_leave seed count loads = elim loads.ends [
    | inl unopened ↦ unopened_leaves disk_says sink_says before after unopened w
    | inr opened ↦ elim opened [
      | inl unloaded ↦ leave_all disk_says after.ended.journal after.ended.archive _ (unloaded.goes_on h.depot h.start h.past h.written) (pair_history disk_says h.past h.depot [] h.fit)
      | inr run ↦ leave_all disk_says after.ended.journal after.ended.archive _ ((run.run h.depot h.start).goes_on h.past h.written) (pair_history disk_says h.past h.depot _ h.fit)
    ]
  ]

module _ {D S K H : Type 0} (outside : Outside D S K H) (reads : (disk : D) (files : Files) → outside.disk.seen disk files → outside.disk.may_leave disk files)
    (one : (disk : D) (first second : Files) → outside.disk.seen disk first → outside.disk.seen disk second → (file : ℕ) → first file ≡ second file) (old_doors new_doors : H) (before : Before D K) (after : After D S K) where
  runs_leave : (IsOrdered : Ordering) (names : List (List ℕ)) → RunsParties outside old_doors new_doors before after IsOrdered names → Begins outside.disk before → Leaves outside.disk after
  runs_leave IsOrdered names runs w =
      let h = begins_with outside.disk reads one before.journal before.archive w in
      elim runs.ends [
        | inl closed ↦ unopened_leaves outside.disk outside.sink before after closed.unopened w
        | inr other ↦ elim other [
          | inl shut ↦ leave_all outside.disk after.ended.journal after.ended.archive _ (shut.goes_on h.depot h.start h.past h.written) (pair_history outside.disk h.past h.depot [] h.fit)
          | inr run ↦
              let ran = run.run h.depot h.start in
              leave_all outside.disk after.ended.journal after.ended.archive _ (ran.goes_on h.past h.written) (pair_history outside.disk h.past h.depot (map (placed ran.headline.sessions) after.ended.order) h.fit)
        ]
      ]

  loads_leave : (seed count : ℕ) → Loads outside.disk outside.sink outside.may_give before after seed count → Begins outside.disk before → Leaves outside.disk after
  loads_leave seed count loads w = elim loads.ends [
    | inl unbegun ↦ making_leaves outside.disk reads one before.journal before.archive after.ended.journal after.ended.archive _ w unbegun.disks
    | inr begun ↦
        let made : AreOfHistories outside.disk begun.made_journal begun.made_archive = elim begun.files [
          | inl there ↦ only_read outside.disk before.journal before.archive begun.made_journal begun.made_archive w there.untouched
          | inr made ↦ record {
            journal_tells = made.journal_told w.journal_tells.0 w.journal_tells.1;
            archive_tells = made.archive_told w.archive_tells.0 w.archive_tells.1;
            pairs = λ j a j_left a_left. record { past = nothing_done; depot = []; fit = (tt, tt); written = made.written j a j_left a_left; stands = made.empty j a j_left a_left };
          }
        ] in
        files_leave outside.disk outside.sink outside.may_give (record { journal = begun.made_journal; archive = begun.made_archive; out = before.out }) after made
        (begins_with outside.disk reads one begun.made_journal begun.made_archive made) seed count begun.loads
  ]

  keeps_leave : (words : List (List ℕ)) (job : Job) → Keeps outside old_doors new_doors words before after job → Begins outside.disk before → Leaves outside.disk after
  keeps_leave words init keeps w = making_leaves outside.disk reads one before.journal before.archive after.ended.journal after.ended.archive _ w keeps.0.disks
  keeps_leave words dump keeps w = dumps_leave outside.disk outside.sink before after reads keeps.0 w
  keeps_leave words checkpoint keeps w = checkpoints_leave outside.disk outside.sink outside.may_give before after w (begins_with outside.disk reads one before.journal before.archive w) keeps.0
  keeps_leave words (load seed count) keeps w = loads_leave seed count keeps.0 w
  keeps_leave words (schedule seed names) keeps w = runs_leave _ names keeps w
  keeps_leave words (serve names) keeps w = runs_leave _ names keeps w

  same_job : {one other : Job} → Some one ≡ Some other → one ≡ other
  same_job e = cc

  pub promise_leaves : (words : List (List ℕ)) → KeepsPromise outside old_doors new_doors words before after → Begins outside.disk before → Leaves outside.disk after
  promise_leaves words promise w = elim promise.kept [
    | inl found ↦ keeps_leave words found.job found.keeps w
    | inr other ↦ elim other [
      | inl unasked ↦ rw (unasked.refused.journal_is, unasked.refused.archive_is) w
      | inr refused ↦ rw (refused.journal_is, refused.archive_is) w
    ]
  ]

  pub promise_begins : (words : List (List ℕ)) → asked words ≡ Some init → KeepsPromise outside old_doors new_doors words before after → after.ended.cause ≡ causes.Done → Tells outside.disk before.journal → Tells outside.disk before.archive → Leaves outside.disk after
  promise_begins words asks promise done tells archive_tells = elim promise.kept [
    | inl found ↦
        let keeps : Keeps outside old_doors new_doors words before after init = subst (Keeps outside old_doors new_doors words before after) (same_job (sym found.asks ∙ asks)) found.keeps in
        inits_begin outside.disk outside.sink before after keeps.0 done tells archive_tells
    | inr other ↦ elim other [
      | inl unasked ↦ let clash : None ≡ Some init = sym unasked.asks ∙ asks in absurd cc
      | inr refused ↦ let clash : causes.Memory ≡ causes.Done = sym refused.cause_is ∙ done in absurd cc
    ]
  ]
