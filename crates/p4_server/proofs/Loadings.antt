-- What the end of a load gives to its promise.
use Rattle.std.proofs.Common.{◌≡◌, ◌≢◌, ◌⊎◌, ◌≤◌, ℕ, Bool, true, false, eqb, cond, List, [], ◌∷◌, length, map, Option, Some, None, refl, sym, subst, ◌∙◌, inl, inr, arith}
use Rattle.std.proofs.lemmas.Bool.Decides.{Decides-eqb}
use Rattle.outside_api.specs.Count.{HasRisen}
use Rattle.outside_api.specs.Says.{DiskSays, SinkSays}
use Rattle.archive_file.specs.Archive as archives
use Rattle.depot_rows.specs.depot_model.Deeds.{Deed}
use Rattle.depot_rows.specs.depot_model.Places.{Placed}
use Rattle.depot_rows.specs.depot_model.declared.order.Place.{Place}
use Rattle.depot_rows.specs.depot_model.declared.request.Session.{Session}
use Rattle.depot_runs.specs.Run.{placed}
use Rattle.disk_journal.specs.Stands.{disk_of}
use Rattle.load_script.specs.Script.{script_of}
use Rattle.load_script.specs.declared.lines.LoadFigures.{LoadFigures}
use Rattle.load_session.specs.Loading.{IsAskedBy, IsLoaded, load_session, numbers_from}
use Rattle.load_session.proofs.Whole.{load_scripts_whole}
use Rattle.followed_depot.specs.Following.{HasRunFollowed}
use Rattle.followed_depot.specs.Masters.{Masters}
use Rattle.party_threads.specs.depot_commit.Growing.{Chronicle}
use Rattle.party_threads.specs.serial_depot.Running.{HasRun}
use Rattle.replica_turns.specs.Master.{CanBeFollowed, Past}
use Rattle.replica_turns.specs.Written.{AreWritten, Leave, PairGoesOn}
use Rattle.party_threads.specs.serial_depot.declared.depot.SerialDepot.{SerialDepot}
use Rattle.session_loop.specs.Served.{AreCaused}
use Rattle.depot_rows.specs.table_changes.Changed.{AllRows, rows_of}
use Rattle.depot_rows.specs.Standing.{Stand}
use Rattle.wire_text.specs.declared.script.ScriptEnd.{ScriptEnd}
use Rattle.wire_text.specs.declared.script.ScriptEnd.TheVariants.{Whole, Fault, ReadFault}
use Rattle.end_lines.specs.Lines.{cause_line}
use Rattle.end_lines.specs.Telling.{OutGot}
use Rattle.end_lines.specs.declared.cause.Cause.{Cause}
use Rattle.end_lines.specs.declared.cause.Cause.TheVariants as causes
use Rattle.p4_server.specs.Ends.{has_fault_place}
use Rattle.p4_server.specs.Files.{IsStart, DiskOrOutRose, DiskRose, DisksStand, HasOpened}
use Rattle.p4_server.specs.Opening.{IsUnopened}
use Rattle.p4_server.specs.Load.{AreKept, IsBegun, IsLoadRun, IsUnbegun, IsLoadTold, IsUnloaded, Loads, LoadsFiles, WereMade, WereThere, depot_after, end_cause, figures_in, load_cause, load_commands}
use Rattle.p4_server.specs.Outside.{After, Before}
use Rattle.p4_server.specs.Telling.{IsToldAlone}
use Rattle.p4_server.proofs.Openings.{fault_of_unopened, complete_of_unopened}
use Rattle.p4_server.proofs.FaultPlaces.{caused_since, place_rose, rose_since}
use Rattle.p4_server.proofs.Scheduled.{kept_at, kept_since, leaves_of}

-- ---- what is told

-- the line of another cause than that all is done
pub told_other : (before now : Option (List ℕ)) (faults_before faults_now : ℕ) (are : LoadFigures → Type 0) (cause led : Cause) → (led ≡ causes.Done → ⊥) → cause ≡ led → OutGot before now faults_before faults_now (cause_line led)
    → IsLoadTold before now faults_before faults_now are cause led
told_other before now faults_before faults_now are cause causes.Done other is got = absurd (other refl)
told_other before now faults_before faults_now are cause causes.Usage other is got = (is, got)
told_other before now faults_before faults_now are cause causes.Made other is got = (is, got)
told_other before now faults_before faults_now are cause causes.Unmade other is got = (is, got)
told_other before now faults_before faults_now are cause (causes.Damaged disk file place) other is got = (is, got)
told_other before now faults_before faults_now are cause causes.Script other is got = (is, got)
told_other before now faults_before faults_now are cause causes.Fault other is got = (is, got)
told_other before now faults_before faults_now are cause causes.Memory other is got = (is, got)

-- figures of which more is known
pub told_more : (before now : Option (List ℕ)) (faults_before faults_now : ℕ) (are more : LoadFigures → Type 0) → ((figures : LoadFigures) → are figures → more figures) → (cause led : Cause)
    → IsLoadTold before now faults_before faults_now are cause led → IsLoadTold before now faults_before faults_now more cause led
told_more before now faults_before faults_now are more leads cause causes.Done (inl given) = inl (given.0, leads given.0 given.1, given.2)
told_more before now faults_before faults_now are more leads cause causes.Done (inr memory) = inr memory
told_more before now faults_before faults_now are more leads cause causes.Usage told = told
told_more before now faults_before faults_now are more leads cause causes.Made told = told
told_more before now faults_before faults_now are more leads cause causes.Unmade told = told
told_more before now faults_before faults_now are more leads cause (causes.Damaged disk file place) told = told
told_more before now faults_before faults_now are more leads cause causes.Script told = told
told_more before now faults_before faults_now are more leads cause causes.Fault told = told
told_more before now faults_before faults_now are more leads cause causes.Memory told = told

-- ---- causes

module _ (before now : Option (List ℕ)) (faults_before faults_now : ℕ) (are : LoadFigures → Type 0) (cause : Cause) where
  abbrev Told : Bool → Bool → ScriptEnd → Type 0
  Told each fault end = IsLoadTold before now faults_before faults_now are cause (cond each (cond fault causes.Fault (end_cause end)) causes.Memory)

  -- a fault comes from a place or from `out`
  blamed : (each fault : Bool) (end : ScriptEnd) → (end ≡ ReadFault → ⊥) → Told each fault end → cause ≡ causes.Fault → (fault ≡ true) ⊎ HasRisen faults_before faults_now
  blamed false fault end read told is = let clash : causes.Memory ≡ causes.Fault = sym told.0 ∙ is in absurd cc
  blamed true true end read told is = inl refl
  blamed true false Whole read (inl (figures, known, inl done)) is = let clash : causes.Done ≡ causes.Fault = sym done.0 ∙ is in absurd cc
  blamed true false Whole read (inl (figures, known, inr failed)) is = inr failed.1
  blamed true false Whole read (inr memory) is = let clash : causes.Memory ≡ causes.Fault = sym memory ∙ is in absurd cc
  blamed true false (Fault fault) read told is = let clash : causes.Script ≡ causes.Fault = sym told.0 ∙ is in absurd cc
  blamed true false ReadFault read told is = absurd (read refl)

  -- where all is done no place is a fault
  none_failed : (each fault : Bool) (end : ScriptEnd) → Told each fault end → cause ≡ causes.Done → fault ≡ false
  none_failed false fault end told is = let clash : causes.Memory ≡ causes.Done = sym told.0 ∙ is in absurd cc
  none_failed true true end told is = let clash : causes.Fault ≡ causes.Done = sym told.0 ∙ is in absurd cc
  none_failed true false end told is = refl

  completed : (each fault : Bool) (end : ScriptEnd) → end ≡ Whole → Told each fault end → ¬ (fault ≡ true) → ¬ HasRisen faults_before faults_now → (cause ≡ causes.Done) ⊎ (cause ≡ causes.Memory)
  completed false fault end whole told place out = inr told.0
  completed true true end whole told place out = absurd (place refl)
  completed true false Whole whole (inl (figures, known, inl done)) place out = inl done.0
  completed true false Whole whole (inl (figures, known, inr failed)) place out = absurd (out failed.1)
  completed true false Whole whole (inr memory) place out = inr memory
  completed true false (Fault fault) whole told place out = absurd cc
  completed true false ReadFault whole told place out = absurd cc

  not_usage : (each fault : Bool) (end : ScriptEnd) → Told each fault end → cause ≢ causes.Usage
  not_usage false fault end told is = let clash : causes.Memory ≡ causes.Usage = sym told.0 ∙ is in absurd cc
  not_usage true true end told is = let clash : causes.Fault ≡ causes.Usage = sym told.0 ∙ is in absurd cc
  not_usage true false Whole (inl (figures, known, inl done)) is = let clash : causes.Done ≡ causes.Usage = sym done.0 ∙ is in absurd cc
  not_usage true false Whole (inl (figures, known, inr failed)) is = let clash : causes.Fault ≡ causes.Usage = sym failed.0 ∙ is in absurd cc
  not_usage true false Whole (inr memory) is = let clash : causes.Memory ≡ causes.Usage = sym memory ∙ is in absurd cc
  not_usage true false (Fault fault) told is = let clash : causes.Script ≡ causes.Usage = sym told.0 ∙ is in absurd cc
  not_usage true false ReadFault told is = let clash : causes.Fault ≡ causes.Usage = sym told.0 ∙ is in absurd cc

  -- each command has a place, unless there was no memory
  all_placed : (each fault : Bool) (end : ScriptEnd) → Told each fault end → cause ≢ causes.Memory → each ≡ true
  all_placed true fault end told other = refl
  all_placed false fault end told other = absurd (other told.0)

-- bytes that can't fail end whole, or by the fault that they have
no_read_fault : (bytes : List ℕ) (session : Option Session) (end : ScriptEnd) → IsAskedBy bytes session end → end ≡ ReadFault → ⊥
no_read_fault bytes session Whole asked e = cc
no_read_fault bytes session (Fault fault) asked e = cc
no_read_fault bytes session ReadFault asked e = asked

whole_again : (bytes : List ℕ) (session : Option Session) (end : ScriptEnd) → IsAskedBy bytes session end → IsAskedBy bytes session Whole → end ≡ Whole
whole_again bytes session Whole asked whole = refl
whole_again bytes session (Fault fault) asked whole =
    let clash : None ≡ Some fault = sym whole.1 ∙ asked.1 in absurd cc
whole_again bytes session ReadFault asked whole = absurd asked

-- ---- the promise

module _ {D S K : Type 0} (disk_says : DiskSays D) (sink_says : SinkSays K) (may_give : ℕ → Type 0) (before : Before D K) (after : After D S K) (seed count : ℕ) where
  abbrev pub Promised : Type 0
  Promised = LoadsFiles disk_says sink_says may_give before after seed count

  abbrev pub Ran : Type 0
  Ran = IsLoadRun disk_says sink_says may_give before after seed count

  pub unopened_usage : IsUnopened disk_says sink_says before after → after.ended.cause ≢ causes.Usage
  unopened_usage unopened is = elim unopened.why [
    | inl unmade ↦ let clash : causes.Unmade ≡ causes.Usage = sym unmade.cause_is ∙ is in absurd cc
    | inr other ↦ elim other [
      | inl damaged ↦ let clash : causes.Damaged damaged.disk damaged.file damaged.place ≡ causes.Usage = sym damaged.cause_is ∙ is in absurd cc
      | inr last ↦ elim last [
        | inl unread ↦ let clash : causes.Fault ≡ causes.Usage = sym unread.cause_is ∙ is in absurd cc
        | inr memory ↦ let clash : causes.Memory ≡ causes.Usage = sym memory ∙ is in absurd cc
      ]
    ]
  ]

  pub loads_unopened : IsUnopened disk_says sink_says before after → Promised
  loads_unopened unopened = record {
    ends = inl unopened;
    no_parties = (unopened.told.unrun.parties_are, unopened.told.unrun.sources_are);
    no_usage = unopened_usage unopened;
    fault = λ is. inl (fault_of_unopened disk_says sink_says before after unopened.why is);
    stand = λ is. unopened.stand (λ failed. let clash : causes.Done ≡ causes.Fault = sym is ∙ failed in cc);
    complete = λ d start few quiet. inr (complete_of_unopened disk_says sink_says before after unopened.why d start (λ rose. quiet (inl rose)));
  }

  pub loads_unloaded : IsUnloaded disk_says sink_says may_give before after seed count → Promised
  loads_unloaded unloaded = record {
    ends = inr (inl unloaded);
    no_parties = (unloaded.told.unrun.parties_are, unloaded.told.unrun.sources_are);
    no_usage = λ is. let clash : causes.Memory ≡ causes.Usage = sym unloaded.cause_is ∙ is in absurd cc;
    fault = λ is. let clash : causes.Memory ≡ causes.Fault = sym unloaded.cause_is ∙ is in absurd cc;
    stand = λ is. let clash : causes.Memory ≡ causes.Done = sym unloaded.cause_is ∙ is in absurd cc;
    complete = λ d start few quiet. inr unloaded.cause_is;
  }

  rose : Ran → has_fault_place after.ended.order ≡ true → DiskRose disk_says before after
  rose run place = place_rose after.ended.order (disk_says.faults before.journal) (disk_says.faults after.ended.journal) (disk_says.faults before.archive) (disk_says.faults after.ended.archive) run.fault_places place

  pub loads_run : Ran → (after.ended.parties ≡ []) × (after.ended.sources ≡ []) → (has_fault_place after.ended.order ≡ false → DisksStand disk_says before after) → Promised
  loads_run run no_parties stands =
      let each = eqb (length after.ended.order) (load_commands seed count) in
      let fault = has_fault_place after.ended.order in
      record {
        ends = inr (inr run);
        no_parties = no_parties;
        no_usage = not_usage (sink_says.given before.out) (sink_says.given after.out) (sink_says.faults before.out) (sink_says.faults after.out) _ after.ended.cause each fault run.end run.told;
        fault = λ is. elim (blamed (sink_says.given before.out) (sink_says.given after.out) (sink_says.faults before.out) (sink_says.faults after.out) _ after.ended.cause each fault run.end (no_read_fault (script_of seed count) (load_session seed count) run.end run.read) run.told is) [
          | inl place ↦ inl (rose run place)
          | inr risen ↦ inr risen
        ];
        stand = λ is. stands (none_failed (sink_says.given before.out) (sink_says.given after.out) (sink_says.faults before.out) (sink_says.faults after.out) _ after.ended.cause each fault run.end run.told is);
        complete = λ d start few quiet. completed (sink_says.given before.out) (sink_says.given after.out) (sink_says.faults before.out) (sink_says.faults after.out) _ after.ended.cause each fault run.end
            (whole_again (script_of seed count) (load_session seed count) run.end run.read (load_scripts_whole seed count few).0) run.told (λ place. quiet (inl (rose run place))) (λ risen. quiet (inr risen));
      }

  -- each command has its place
  pub each_placed : (end : ScriptEnd) (order : List Place) (are : LoadFigures → Type 0) → (length order ≡ load_commands seed count → map (λ (place : Place). place.number) order ≡ numbers_from 1 (load_commands seed count))
      → IsLoadTold (sink_says.given before.out) (sink_says.given after.out) (sink_says.faults before.out) (sink_says.faults after.out) are after.ended.cause (load_cause (load_commands seed count) end order) → after.ended.cause ≢ causes.Memory
      → map (λ (place : Place). place.number) order ≡ numbers_from 1 (load_commands seed count)
  each_placed end order are each told other =
      each ((Decides-eqb (length order) (load_commands seed count)).0 (all_placed (sink_says.given before.out) (sink_says.given after.out) (sink_says.faults before.out) (sink_says.faults after.out) are after.ended.cause (eqb (length order) (load_commands seed count)) (has_fault_place order) end told other))

  abbrev Kept : D → List Deed → List Placed → Type 0
  Kept opened d places = AreKept disk_says sink_says may_give before after seed count opened d places

  -- what a depot that has run leaves, once it is closed
  pub load_kept : (depot : SerialDepot D) (opened : D) → after.ended.journal ≡ disk_of depot.journal → after.ended.archive ≡ archives.disk_of depot.archive → (d : List Deed) (places : List Placed) → HasRun disk_says depot (disk_says.moment opened) d places → Kept opened d places
  load_kept depot opened is archive_is d places ran = record {
    exit = λ j a j_left a_left. kept_at disk_says depot (disk_says.moment opened) d places ran j a (rw is at j_left) (rw archive_is at a_left);
    any_moment = λ j a j_left a_left. kept_since disk_says depot (disk_says.moment opened) d places ran j a (rw is at j_left) (rw archive_is at a_left);
  }

  -- nothing was run over the depot
  pub unloaded_of : (depot : SerialDepot D) (opened : D) → after.ended.journal ≡ disk_of depot.journal → after.ended.archive ≡ archives.disk_of depot.archive → HasOpened disk_says before.journal before.archive opened
      → IsToldAlone sink_says before.out after.out after.ended → after.ended.cause ≡ causes.Memory → ((d : List Deed) → IsStart disk_says before.journal before.archive d → HasRun disk_says depot (disk_says.moment opened) d [])
      → ((d : List Deed) → IsStart disk_says before.journal before.archive d → HasRun disk_says depot (disk_says.moment opened) d [] → (past : Past) → AreWritten disk_says before.journal before.archive past → CanBeFollowed disk_says past d [] depot)
      → IsUnloaded disk_says sink_says may_give before after seed count
  unloaded_of depot opened is archive_is opens told cause_is runs follows = record {
    told = told;
    cause_is = cause_is;
    opened = opened;
    is_opened = opens;
    kept = λ d start. load_kept depot opened is archive_is d [] (runs d start);
    goes_on = λ d start past w. leaves_of disk_says after.ended.journal after.ended.archive depot (disk_says.moment opened) is archive_is d [] (runs d start) past (follows d start (runs d start) past w);
  }

  -- the script was run over the depot
  pub load_of : (masters : Masters) (depot : SerialDepot D) (opened : D) (opened_faults opened_contents : ℕ) (rows : AllRows) (order : List Place) (commands : ℕ) (end : ScriptEnd)
      → after.ended.journal ≡ disk_of depot.journal → after.ended.archive ≡ archives.disk_of depot.archive → rows ≡ rows_of depot.tables → after.ended.order ≡ order → commands ≡ load_commands seed count
      → IsAskedBy (script_of seed count) (load_session seed count) end
      → HasOpened disk_says before.journal before.archive opened
      → ((d : List Deed) → IsStart disk_says before.journal before.archive d → IsLoaded may_give (HasRunFollowed disk_says masters depot (disk_says.moment opened)) d (load_session seed count) order)
      → ((d : List Deed) → IsStart disk_says before.journal before.archive d → (past : Past) → AreWritten disk_says before.journal before.archive past → (c : Chronicle) × masters past d c)
      → disk_says.faults before.journal ≤ opened_faults → disk_says.faults before.archive ≤ opened_contents
      → AreCaused opened_faults (disk_says.faults (disk_of depot.journal)) opened_contents (disk_says.faults (archives.disk_of depot.archive)) [] order
      → IsLoadTold (sink_says.given before.out) (sink_says.given after.out) (sink_says.faults before.out) (sink_says.faults after.out) (λ figures. (d : List Deed) → Stand rows d → figures ≡ figures_in commands d) after.ended.cause (load_cause commands end order)
      → Ran
  load_of masters depot opened opened_faults opened_contents rows order commands end journal_is archive_is rows_are order_is commands_are read opens loaded began no_fewer contents_no_fewer counts told =
      let Of : ℕ → Type 0 = λ n. IsLoadTold (sink_says.given before.out) (sink_says.given after.out) (sink_says.faults before.out) (sink_says.faults after.out) (λ figures. (d : List Deed) → Stand rows d → figures ≡ figures_in n d) after.ended.cause (load_cause n end order) in
      let here : Of (load_commands seed count) = subst Of commands_are told in
      record {
        end = end;
        read = read;
        opened = opened;
        is_opened = opens;
        run = λ d start.
            let ran = loaded d start in
            record {
              places = rw order_is ran.places;
              each = λ other. rw order_is (each_placed end order _ ran.each here other);
              kept = subst (λ (o : List Place). Kept opened d (map (placed (load_session seed count ∷ [])) o)) (sym order_is)
                  (load_kept depot opened journal_is archive_is d (map (placed (load_session seed count ∷ [])) order) ran.ran.ran);
              goes_on = λ past w.
                  let first = began d start past w in
                  subst (λ (o : List Place). Leave disk_says after.ended.journal after.ended.archive (PairGoesOn past d (map (placed (load_session seed count ∷ [])) o))) (sym order_is)
                  (leaves_of disk_says after.ended.journal after.ended.archive depot (disk_says.moment opened) journal_is archive_is d (map (placed (load_session seed count ∷ [])) order) ran.ran.ran past
                  (ran.ran.followed past first.0 first.1));
            };
        fault_places = rw (journal_is, archive_is, order_is)
            (caused_since (disk_says.faults before.journal) opened_faults (disk_says.faults (disk_of depot.journal)) (disk_says.faults before.archive) opened_contents (disk_says.faults (archives.disk_of depot.archive)) order no_fewer contents_no_fewer counts);
        told = rw order_is (told_more (sink_says.given before.out) (sink_says.given after.out) (sink_says.faults before.out) (sink_says.faults after.out) _ _
            (λ figures known. λ d start. known (depot_after seed count d order) (rw rows_are (loaded d start).ran.ran.over.stand)) after.ended.cause (load_cause (load_commands seed count) end order) here);
      }

module _ {D S K : Type 0} (disk_says : DiskSays D) (sink_says : SinkSays K) (may_give : ℕ → Type 0) (before : Before D K) (after : After D S K) (seed count : ℕ) where
  abbrev Load : Type 0
  Load = Loads disk_says sink_says may_give before after seed count

  abbrev RoseSince : D → D → Type 0
  RoseSince from from_archive = DiskOrOutRose disk_says sink_says (record { journal = from; archive = from_archive; out = before.out }) after

  -- files that a depot stands in are opened as they are
  begun_there : (begun : IsBegun disk_says sink_says may_give before after seed count)
      → WereThere disk_says before.journal before.archive begun.made_journal begun.made_archive ⊎ WereMade disk_says before.journal before.archive begun.made_journal begun.made_archive
      → (d : List Deed) → IsStart disk_says before.journal before.archive d → IsStart disk_says begun.made_journal begun.made_archive d
  begun_there begun (inl there) d start = record {
    journal_files = start.journal_files;
    archive_files = start.archive_files;
    journal_reads = there.untouched.journal.same.kept start.journal_files start.journal_reads;
    archive_reads = there.untouched.archive.same.kept start.archive_files start.archive_reads;
    stand = start.stand;
  }
  begun_there begun (inr made) d start =
      let long = start.stand.committed.rest.root.long in
      let short = made.was_empty start.journal_files start.journal_reads in
      absurd (omega (arith, long, short))

  since_begun : (begun : IsBegun disk_says sink_says may_give before after seed count) → RoseSince begun.made_journal begun.made_archive → RoseSince before.journal before.archive
  since_begun begun (inl rose) = inl (rose_since (disk_says.faults before.journal) (disk_says.faults begun.made_journal) (disk_says.faults after.ended.journal) (disk_says.faults before.archive) (disk_says.faults begun.made_archive) (disk_says.faults after.ended.archive) begun.counts.0 begun.counts.1 rose)
  since_begun begun (inr risen) = inr risen

  pub loads_begun : (begun : IsBegun disk_says sink_says may_give before after seed count)
      → (disk_says.faults begun.made_journal ≡ disk_says.faults before.journal) × (disk_says.faults begun.made_archive ≡ disk_says.faults before.archive) → Load
  loads_begun begun making = record {
    ends = inr begun;
    no_usage = begun.loads.no_usage;
    fault = λ is. since_begun begun (begun.loads.fault is);
    stand = λ is. let stood = begun.loads.stand is in record { journal = stood.journal ∙ making.0; archive = stood.archive ∙ making.1 };
    complete = λ d start few quiet. begun.loads.complete d (begun_there begun begun.files d start) few (λ rose. quiet (since_begun begun rose));
  }

  pub loads_unbegun : IsUnbegun disk_says sink_says may_give before after seed count → Load
  loads_unbegun unbegun = record {
    ends = inl unbegun;
    no_usage = λ is. let clash : causes.Fault ≡ causes.Usage = sym unbegun.cause_is ∙ is in absurd cc;
    fault = λ is. inl unbegun.risen;
    stand = λ is. let clash : causes.Fault ≡ causes.Done = sym unbegun.cause_is ∙ is in absurd cc;
    complete = λ d start few quiet. absurd (quiet (inl unbegun.risen));
  }
