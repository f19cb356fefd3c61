-- The turns so far.
use Rattle.std.proofs.Common.{◌≡◌, ℕ, ◌+◌, ◌≤◌, ◌<◌, ◌^◌, true, List, [], ◌∷◌, ◌++◌, get_or, length, Option, Some, None, refl, sym, subst, ◌∙◌, arith}
use Rattle.std.specs.Prelude.{All, slice_get}
use Rattle.std.specs.Option.{IsSomeAnd}
use Rattle.std.proofs.lemmas.List.Elements.{All-push}
use Rattle.outside_api.specs.Says.{DiskSays, SinkSays}
use Rattle.depot_rows.specs.depot_model.Deeds.{Deed}
use Rattle.lock_core.specs.Core.{Shows}
use Rattle.lock_core.specs.Drawing.{going_parties}
use Rattle.lock_machine.specs.Draws.{chosen}
use Rattle.lock_machine.specs.Machine.{State}
use Rattle.run_parties.specs.replica_turns.Master.{Past}
use Rattle.seeded_numbers.specs.Numbers.{next_number, value_of}
use Rattle.session_loop.specs.declared.session.SessionRun.{SessionRun}
use Rattle.session_turns.proofs.Drawing.{advanced_less, chosen_going, drawn_more}
use Rattle.session_turns.specs.Drawn.{AreDrawn, Progress, StopsFailed, Turn, advanced, going}
use Rattle.session_turns.specs.Answering.{StayFailed}
use Rattle.session_turns.specs.Along.{AreAlong}
use Rattle.session_turns.specs.Going.{Advances, AreGoing, TakesTurns, all_left}
use Rattle.session_turns.specs.Running.{Scene}
use Rattle.session_turns.specs.declared.turns.Turns.{Turns}

pub all_stay : (runs runs' : List SessionRun) (turns : List Turn) → StayFailed runs runs' → All (StopsFailed runs) turns → All (StopsFailed runs') turns
all_stay runs runs' turns stay all = λ k d lt is. go k d (slice_get runs (get_or turns k d).party) refl (all k d lt is)
  where
    go : (k : ℕ) (d : Turn) (found : Option SessionRun) → slice_get runs (get_or turns k d).party ≡ found → IsSomeAnd found (λ (run : SessionRun). run.failed ≡ true)
        → IsSomeAnd (slice_get runs' (get_or turns k d).party) (λ (run : SessionRun). run.failed ≡ true)
    go k d None at has = absurd has
    go k d (Some run) at has = stay (get_or turns k d).party run at has

module _ {D K : Type 0} (disk_says : DiskSays D) (sink_says : SinkSays K) (may_give : ℕ → Type 0) (scene : Scene) (x : ℕ) (p : Progress) (first : Turns D K) where
  -- the turns that were drawn so far, up to a number, after which at most so many are left
  pub record AreSoFar (now : Turns D K) (last fuel : ℕ) : Type 0 where
    pub turns : List Turn
    pub progress : Progress
    pub drawn : AreDrawn x p turns last progress
    pub going : AreGoing disk_says sink_says may_give scene progress now
    pub stops : All (StopsFailed now.runs.items) turns
    pub along : (past : Past) → AreAlong disk_says sink_says may_give past scene p.turn_counts first → AreAlong disk_says sink_says may_give past scene progress.turn_counts now
    pub fuel_is : all_left progress ≤ fuel

  pub none_so_far : (last fuel : ℕ) → x ≡ last → AreGoing disk_says sink_says may_give scene p first → all_left p ≤ fuel → AreSoFar first last fuel
  none_so_far last fuel same is few = record {
    turns = [];
    progress = p;
    drawn = (same, refl);
    going = is;
    stops = λ k d lt. absurd (omega (arith, lt));
    along = λ past h. h;
    fuel_is = few;
  }

  module _ (now : Turns D K) (last fuel : ℕ) (so_far : AreSoFar now last fuel) where
    -- whom the next number draws
    pub drawn_is : length scene.sessions < 2 ^ 32 → (drawn : Option ℕ) (others : List ℕ) (value : ℕ) → ((start : List Deed) (s : State) → Shows start now.core s → length s.parties < 2 ^ 32 → drawn ≡ chosen (going_parties s others) value)
        → others ≡ now.replicas.others.items → value ≡ value_of (next_number last) → drawn ≡ chosen (going so_far.progress) (value_of (next_number last))
    drawn_is few drawn others value is others_are value_is =
        let count = so_far.going.running.under_way.count in
        let same = others_are ∙ sym so_far.going.others in
        is scene.start so_far.progress.machine so_far.going.running.shows (omega (arith, count, few)) ∙ (λ k. chosen (going_parties so_far.progress.machine (same k)) (value_is k))

    pub one_more : (new : Turns D K) (left next i : ℕ) → next ≡ next_number last → Some i ≡ chosen (going so_far.progress) (value_of (next_number last)) → fuel ≡ left + 1
        → Advances disk_says sink_says may_give scene so_far.progress i now new → AreSoFar new next left
    one_more new left next i next_is chose count takes =
        let turn : Turn = record { party = i; how = takes.how; stops = takes.stops } in
        let P : ℕ → Type 0 = λ n. AreDrawn x p (so_far.turns ++ turn ∷ []) n (advanced so_far.progress turn) in
        record {
          turns = so_far.turns ++ turn ∷ [];
          progress = advanced so_far.progress turn;
          drawn = subst P (sym next_is) (drawn_more x p so_far.turns last so_far.progress turn so_far.drawn (sym chose));
          going = takes.going;
          stops = All-push (StopsFailed new.runs.items) so_far.turns turn (all_stay now.runs.items new.runs.items so_far.turns takes.stay so_far.stops) takes.failed;
          along = λ past h. takes.along past (so_far.along past h);
          fuel_is =
              let less = advanced_less so_far.progress turn (chosen_going so_far.progress (value_of (next_number last)) i (sym chose)) in
              let most = so_far.fuel_is in
              omega (arith, less, most, count);
        }

    pub all_done : going so_far.progress ≡ [] → TakesTurns disk_says sink_says may_give scene x p first now
    all_done none = record {
      turns = so_far.turns;
      last = last;
      end = so_far.progress;
      drawn = so_far.drawn;
      done = none;
      going = so_far.going;
      stops = so_far.stops;
      along = so_far.along;
    }
