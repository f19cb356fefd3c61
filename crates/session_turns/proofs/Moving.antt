-- A turn of one of the parties that is no commit.
use Rattle.std.proofs.Common.{◌≡◌, ℕ, true, false, List, [], Option, Result, Ok, Err, refl, sym, ap, subst, ◌∙◌, inl, append-nil}
use Rattle.std.specs.Option.{IsSomeAnd}
use Rattle.outside_api.specs.Says.{DiskSays, SinkSays}
use Rattle.lock_core.specs.Core.{IsTurn, Shows}
use Rattle.lock_core.specs.declared.machine.LockCore.{LockCore}
use Rattle.lock_core.specs.declared.turn.Turn.TheVariants.{Idle, Moved}
use Rattle.lock_machine.specs.Machine.{NoMemory, State, is_enabled}
use Rattle.session_loop.specs.declared.session.SessionRun.{SessionRun}
use Rattle.session_turns.proofs.Drawing.{found_at}
use Rattle.session_turns.proofs.Events.{never_judged}
use Rattle.session_turns.proofs.Turning.{quiet_more}
use Rattle.session_turns.specs.Running.{Scene}
use Rattle.session_turns.specs.Taking.{IsAtHand, IsRunning, TakesTurn}
use Rattle.session_turns.specs.declared.turns.Turns.{Turns}
use Rattle.depot_rows.specs.depot_model.Deeds.{Deed}
use Rattle.depot_rows.specs.table_changes.Changed.{rows_of}
use Rattle.run_parties.specs.command_core.declared.outcome.Outcome.{Outcome}
use Rattle.depot_rows.specs.table_store.declared.tables.Tables.{Tables}

-- a turn of the core after which a commit is at hand
pub record IsReached {E : Type 0} (start : List Deed) (s : State) (old new : LockCore) (i : ℕ) (outcome : Result Outcome E) : Type 0 where
  pub hand : IsAtHand start s new i outcome
  pub tables : new.tables ≡ old.tables

hand_shows : {E : Type 0} {start : List Deed} {s : State} {core : LockCore} (i : ℕ) (outcome : Result Outcome E) → IsAtHand start s core i outcome → Shows start core s
hand_shows i (Ok outcome) hand = hand.1.commit.shows
hand_shows i (Err error) hand = hand.1.shows

module _ {D K : Type 0} (disk_says : DiskSays D) (sink_says : SinkSays K) (may_give : ℕ → Type 0) (scene : Scene) (s : State) (old : Turns D K)
    (r : IsRunning disk_says sink_says may_give scene s old) (new : LockCore) where
  -- a commit is at hand: the same machine, as another core shows it
  pub reached : {i : ℕ} {E : Type 0} {outcome : Result Outcome E} → IsReached scene.start s old.core new i outcome → IsRunning disk_says sink_says may_give scene s (record old { core = new })
  reached {i} {E} {outcome} reaches = record {
    formed = r.formed;
    under_way = r.under_way;
    totals = r.totals;
    shows = hand_shows i outcome reaches.hand;
    rows = ap rows_of reaches.tables ∙ r.rows;
    end = ap (λ (t : Tables). t.archive_end) reaches.tables ∙ r.end;
    ran = r.ran;
  }

  pub moved_turn : (i : ℕ) → is_enabled s i ≡ true → IsTurn scene.start s old.core new i Moved → TakesTurn disk_says sink_says may_give scene s i old (record old { core = new })
  moved_turn i enabled did =
      let p = found_at s i enabled in
      let none = never_judged scene.start s i p.0 p.1 enabled (λ how. (did.1 how).run.told) in
      record {
        how = NoMemory;
        stops = false;
        running = record {
          formed = r.formed;
          under_way = quiet_more may_give scene s old.runs.items _ old.order.items r.under_way i p.0 p.1 enabled none NoMemory;
          totals = r.totals;
          shows = did.1 NoMemory;
          rows = ap rows_of did.2 ∙ r.rows;
          end = ap (λ (t : Tables). t.archive_end) did.2 ∙ r.end;
          ran = r.ran;
        };
        failed = λ is. absurd (cc);
        stay = λ j run at is. let P : Option SessionRun → Type 0 = λ found. IsSomeAnd found (λ (x : SessionRun). x.failed ≡ true) in subst P (sym at) is;
        others = λ j script at_script. (refl, refl);
        grown = ([], sym (append-nil old.order.items));
        grows = λ past c master. (c, master, inl refl);
      }

  -- a turn that the other core took
  pub turn_from : (i : ℕ) (next : Turns D K) → TakesTurn disk_says sink_says may_give scene s i (record old { core = new }) next → TakesTurn disk_says sink_says may_give scene s i old next
  turn_from i next t = record {
    how = t.how;
    stops = t.stops;
    running = t.running;
    failed = t.failed;
    stay = t.stay;
    others = t.others;
    grown = t.grown;
    grows = t.grows;
  }

  pub idle_turn : {A : Type 0} (i : ℕ) → is_enabled s i ≡ true → IsTurn scene.start s old.core new i Idle → A
  idle_turn i enabled did = absurd (let both : true ≡ false = sym enabled ∙ did.0 in cc)
