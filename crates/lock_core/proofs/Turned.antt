-- What a turn of a party is to all parties.
use Rattle.std.proofs.Common.{◌≡◌, ◌<◌, ℕ, true, false, cond, List, [], ◌∷◌, ◌++◌, length, map, set, Option, Some, None, OnErr, Result, Ok, Err, Vec, Global, refl, sym, ap, subst, ◌∙◌, append-nil}
use Rattle.std.specs.Prelude.{IfOk, slice_get}
use Rattle.std.proofs.lemmas.Option.{slice_get_within}
use Rattle.depot_rows.specs.table_changes.Changed.{AllRows, rows_of}
use Rattle.depot_rows.specs.depot_model.Deeds.{Deed}
use Rattle.depot_rows.specs.depot_model.Tables.{needs_of}
use Rattle.depot_rows.specs.depot_model.WellFormed.{asks_rightly, is_command}
use Rattle.depot_rows.specs.depot_model.declared.command.Command.{Command}
use Rattle.depot_rows.specs.depot_model.declared.request.Request.{Request}
use Rattle.depot_rows.specs.depot_model.declared.request.WordFault.{WordFault}
use Rattle.depot_rows.specs.Standing.{Stand}
use Rattle.command_core.specs.Outcomes.{HasNeeded, IsFormed, IsFormedBy, IsOutcome}
use Rattle.command_core.specs.declared.outcome.Outcome.{Outcome}
use Rattle.lock_machine.specs.Machine.{Commit, State, Finish, may_go, may_party, is_enabled, added, added_at, moved, acted, acts, event}
use Rattle.lock_machine.specs.Machine as model
use Rattle.lock_machine.specs.Proper.{IsServed}
use Rattle.lock_machine.specs.Runs.{depot_after, idle, IsServedBy, TellsBy, TellsAt, IsRun}
use Rattle.lock_machine.specs.declared.stage.Stage.{Stage}
use Rattle.lock_machine.specs.declared.stage.Stage.TheVariants.{Gathering, Judged, Committed}
use Rattle.lock_machine.proofs.Places.{set_here}
use Rattle.lock_machine.proofs.Runs.{run_event, served_at}
use Rattle.lock_core.specs.Core.{all_items, wait_in, wait_at, may_wait, AreShown, Shows, IsCommit, IsReady, IsTurn, IsAsBefore}
use Rattle.lock_core.specs.Parties.{IsShownBy, IsShown, IsReadyBy, IsTurnOf, is_judged, is_judged_at}
use Rattle.lock_core.specs.Works.{IsRoomOf}
use Rattle.lock_core.specs.declared.machine.LockCore.{LockCore}
use Rattle.lock_core.specs.declared.party.Party.{Party}
use Rattle.lock_core.specs.declared.turn.Turn.{Turn}
use Rattle.lock_core.specs.declared.turn.Turn.TheVariants.{Idle, Moved, Ready}
use Rattle.lock_core.specs.declared.work.Work.{Work}
use Rattle.lock_core.proofs.Counterparts.{shown_at, set_shown, set_left}

-- ---- what evaluating a request needs

-- the tables that it needs have the rows of the depot
has_needed : (rows : AllRows) (d : List Deed) (request : Request) → Stand rows d → HasNeeded rows d request
has_needed rows d request stand = go request.command refl
  where
    go : (command : Result Command WordFault) → request.command ≡ command → HasNeeded rows d request
    go (Ok command) is = rw is (λ table touched. stand.each table)
    go (Err fault) is = rw is tt

-- its command keeps what its words promise
is_formed : (request : Request) → IsServed request → IsFormedBy request
is_formed request served = go request.command served.proper.asked.formed served.proper.rightly
  where
    go : (asked : Result Command WordFault) → IfOk asked (λ command. is_command command ≡ true) → IfOk asked (λ command. asks_rightly command ≡ true) → IfOk asked IsFormed
    go (Ok command) form heads = (form, heads)
    go (Err fault) form heads = tt

-- ---- a commit at hand

-- the party of the machine has one where that of the code has
commit_of : (start : List Deed) (s : State) (core : LockCore) (i : ℕ) (p : Party) (q : model.Party) (w : Work) → Shows start core s → is_enabled s i ≡ true → slice_get s.parties i ≡ Some q
    → IsShownBy s.order (Some w) q.work → w.stage ≡ Judged → IsCommit start s core i w.request
commit_of start s core i p q w shows enabled there shown judged = go q.work refl shown
  where
    go : (work : Option model.Work) → q.work ≡ work → IsShownBy s.order (Some w) work → IsCommit start s core i w.request
    go None has shown = absurd shown
    go (Some v) has shown = record {
      enabled = enabled;
      at = record { party = q; work = v; there = there; has = has; judged = sym shown.stage ∙ judged; asks = sym shown.request };
      shows = shows;
    }

pub commit_at : (start : List Deed) (s : State) (core : LockCore) (i : ℕ) (p : Party) → Shows start core s → slice_get core.parties.items i ≡ Some p → is_enabled s i ≡ true → is_judged p.work ≡ true
    → (request : Request) × IsCommit start s core i request
commit_at start s core i p shows at_i enabled judges = go p.work found.2.work_is judges
  where
    found : (q : model.Party) × (slice_get s.parties i ≡ Some q) × IsShown s.order p q
    found = shown_at s.order core.parties.items s.parties i p shows.parties at_i

    at_stage : (w : Work) (stage : Stage) → w.stage ≡ stage → is_judged_at stage ≡ true → w.stage ≡ Judged
    at_stage w Gathering is judges = absurd cc
    at_stage w Judged is judges = is
    at_stage w Committed is judges = absurd cc

    go : (work : Option Work) → IsShownBy s.order work found.0.work → is_judged work ≡ true → (request : Request) × IsCommit start s core i request
    go None shown judges = absurd cc
    go (Some w) shown judges = (w.request, commit_of start s core i p found.0 w shows enabled found.1 shown (at_stage w w.stage refl judges))

-- ---- a turn

module _ (start : List Deed) (s : State) (old new : LockCore) (i : ℕ) (p p' : Party) (shows : Shows start old s) (at_i : slice_get old.parties.items i ≡ Some p)
    (enabled : is_enabled s i ≡ true) (tables : new.tables ≡ old.tables) (parties : new.parties.items ≡ set old.parties.items i p') where
  stand_new : Stand (rows_of new.tables) (depot_after start s.order)
  stand_new = let P : _ → Type 0 = λ t. Stand (rows_of t) (depot_after start s.order) in subst P (sym tables) shows.stand

  module _ (q : model.Party) (there : slice_get s.parties i ≡ Some q) (its : IsShown s.order p q) where
    may : may_go s.parties q.left q.work ≡ true
    may = sym (ap (may_party s.parties) there) ∙ enabled

    event_is : (how : Finish) → event needs_of s i how ≡ acted needs_of s i q how
    event_is how = ap (acts needs_of s i how) there ∙ ap (λ b. cond b (acted needs_of s i q how) s) may

    -- ---- no commit

    not_judged : is_judged p.work ≡ false → (v : model.Work) → q.work ≡ Some v → v.stage ≡ Judged → ⊥
    not_judged none v has stage = go p.work none (let P : Option model.Work → Type 0 = IsShownBy s.order p.work in subst P has its.work_is)
      where
        go : (work : Option Work) → is_judged work ≡ false → IsShownBy s.order work (Some v) → ⊥
        go None none shown = shown
        go (Some w) none shown = let both : true ≡ false = sym (ap is_judged_at (shown.stage ∙ stage)) ∙ none in cc

    tells : (how : Finish) → is_judged p.work ≡ false → TellsAt (depot_after start s.order) (slice_get s.parties i) how
    tells how none = let P : Option model.Party → Type 0 = λ found. TellsAt (depot_after start s.order) found how in subst P (sym there) (go q.work refl)
      where
        go : (work : Option model.Work) → q.work ≡ work → TellsBy (depot_after start s.order) work how
        go None has = tt
        go (Some v) has = λ stage. absurd (not_judged none v has stage)

    added_none : (how : Finish) → is_judged p.work ≡ false → added q.work how ≡ []
    added_none how none = go q.work refl
      where
        at_stage : (v : model.Work) → q.work ≡ Some v → (stage : Stage) → v.stage ≡ stage → added_at v.request stage how ≡ []
        at_stage v has Gathering is = refl
        at_stage v has Judged is = absurd (not_judged none v has is)
        at_stage v has Committed is = refl

        go : (work : Option model.Work) → q.work ≡ work → added work how ≡ []
        go None has = refl
        go (Some v) has = at_stage v has v.stage refl

    moved_shows : is_judged p.work ≡ false → ((order : List Commit) (q : model.Party) → IsShown order p q → IsShown order p' (moved needs_of order q.left q.work)) → (how : Finish)
        → Shows start new (event needs_of s i how)
    moved_shows none becomes how =
        let run = run_event start s shows.run how i (tells how none) in
        let after : State = record { parties = set s.parties i (moved needs_of s.order q.left q.work); order = s.order } in
        let is : event needs_of s i how ≡ after =
        event_is how ∙ ap (λ (o : List Commit). record { parties = set s.parties i (moved needs_of s.order q.left q.work); order = o }) (ap (λ (more : List Commit). s.order ++ more) (added_none how none) ∙ append-nil s.order) in
        let Run : State → Type 0 = IsRun start in
        let All : State → Type 0 = Shows start new in
        let Parts : List Party → Type 0 = λ ps. AreShown s.order ps (set s.parties i (moved needs_of s.order q.left q.work)) in
        subst All (sym is) (record {
          run = subst Run is run;
          stand = stand_new;
          parties = subst Parts (sym parties) (set_shown s.order old.parties.items s.parties i p' (moved needs_of s.order q.left q.work) shows.parties (becomes s.order q its));
        })

    -- ---- a commit at hand

    module _ (outcome : Outcome) (ready : IsReadyBy (rows_of old.tables) old.tables.archive_end p p' outcome) where
      with_room : Work
      with_room = record ready.work { room = Some ready.room }

      roomy : (work : Option model.Work) → IsShownBy s.order (Some ready.work) work → IsShownBy s.order (Some (record ready.work { room = Some ready.room })) work
      roomy None shown = shown
      roomy (Some v) h = record { request = h.request; stage = h.stage; second = h.second; set = h.set; seen = h.seen; rest = h.rest; stale = h.stale }

      its_work : IsShownBy s.order (Some (record ready.work { room = Some ready.room })) q.work
      its_work = roomy q.work (let P : Option Work → Type 0 = λ work. IsShownBy s.order work q.work in subst P ready.before its.work_is)

      its_after : IsShown s.order p' q
      its_after = let Of : Party → Type 0 = λ x. IsShown s.order x q in subst Of (sym ready.after) (record { fresh = its.fresh; left_is = its.left_is; work_is = its_work })

      shows_new : Shows start new s
      shows_new = let Parts : List Party → Type 0 = λ ps. AreShown s.order ps s.parties in record {
        run = shows.run;
        stand = stand_new;
        parties = subst Parts (sym parties) (set_left s.order old.parties.items s.parties i p' q shows.parties there its_after);
      }

      request_served : IsServed ready.work.request
      request_served = go q.work its_work (served_at s.parties i q there shows.run.served).1
        where
          go : (work : Option model.Work) → IsShownBy s.order (Some (record ready.work { room = Some ready.room })) work → IsServedBy work → IsServed ready.work.request
          go None shown served = absurd shown
          go (Some v) shown served = let P : Request → Type 0 = IsServed in subst P (sym shown.request) served

      ready_at : IsReady start s new i ready.work.request outcome
      ready_at =
          let Its : _ → Type 0 = λ t. (d : List Deed) → Stand (rows_of t) d → IsOutcome (rows_of t) t.archive_end d ready.work.request outcome in
          let For : _ → Type 0 = λ t. IsRoomOf (rows_of t) outcome.changes ready.room in
          record {
            commit = commit_of start s new i p' q (record ready.work { room = Some ready.room }) shows_new enabled there its_work ready.judged;
            outcome_is =
                subst Its (sym tables) (λ d stand. ready.outcome_is d stand.sound (is_formed ready.work.request request_served) (has_needed (rows_of old.tables) d ready.work.request stand));
            room = record {
              party = p';
              work = record ready.work { room = Some ready.room };
              room = ready.room;
              there = ap (λ (ps : List Party). slice_get ps i) parties ∙ set_here old.parties.items i p p' at_i;
              has = ap (λ (x : Party). x.work) ready.after;
              with_room = refl;
              is = subst For (sym tables) ready.room_is;
            };
          }

  -- what the turn of the party at a place is to all
  pub turned : (turn : Turn) → IsTurnOf (rows_of old.tables) old.tables.archive_end p p' turn → IsTurn start s old new i turn
  turned Idle none = absurd none
  turned Moved did =
      let at = shown_at s.order old.parties.items s.parties i p shows.parties at_i in
      (enabled, moved_shows at.0 at.1 at.2 did.0 did.1, tables)
  turned (Ready outcome) ready =
      let at = shown_at s.order old.parties.items s.parties i p shows.parties at_i in
      ((ready.work.request, ready_at at.0 at.1 at.2 outcome ready), tables)

-- a party that may go on is there
pub is_there : (parties : List Party) (i : ℕ) → may_wait parties (wait_at parties i) ≡ true → i < length parties
is_there parties i may = go (slice_get parties i) refl may
  where
    go : (found : Option Party) → slice_get parties i ≡ found → may_wait parties (wait_in found) ≡ true → i < length parties
    go None at_i may = absurd cc
    go (Some p) at_i may = slice_get_within parties i p at_i

-- ---- where nothing is changed

pub on_err : {T E Q : Type 0} (r : Result T E) → Q → OnErr r Q
on_err (Ok x) q = tt
on_err (Err e) q = q

pub shows_as_before : (start : List Deed) (s : State) (old new : LockCore) → IsAsBefore old new → Shows start old s → Shows start new s
shows_as_before start s old new same shows =
    let P : _ → Type 0 = λ t. Stand (rows_of t) (depot_after start s.order) in
    let Q : List Party → Type 0 = λ ps. AreShown s.order ps s.parties in
    record { run = shows.run; stand = subst P (sym same.0) shows.stand; parties = subst Q (sym same.1) shows.parties }

-- ---- one more party

pub shown_push : (order : List Commit) (ps : List Party) (qs : List model.Party) (p : Party) (q : model.Party) → AreShown order ps qs → IsShown order p q → AreShown order (ps ++ p ∷ []) (qs ++ q ∷ [])
shown_push order [] [] p q all one = (one, tt)
shown_push order [] (y ∷ qs) p q all one = absurd all
shown_push order (x ∷ ps) [] p q all one = absurd all
shown_push order (x ∷ ps) (y ∷ qs) p q all one = (all.0, shown_push order ps qs p q all.1 one)

pub idle_more : (yielded : List (Vec Request Global)) (v : Vec Request Global) → map idle (all_items (yielded ++ v ∷ [])) ≡ map idle (all_items yielded) ++ idle v.items ∷ []
idle_more [] v = refl
idle_more (x ∷ yielded) v = ap (λ (ps : List model.Party). idle x.items ∷ ps) (idle_more yielded v)
