-- What the laws of the machine say.
use Rattle.std.proofs.Common.{◌≡◌, ℕ, ◌<◌, true, false, List, Option, Some, None, refl, sym, subst, ◌∙◌}
use Rattle.std.specs.Prelude.{slice_get, IsSome}
use Rattle.depot_model.specs.Deeds.{Deed}
use Rattle.depot_model.specs.Rules.{IsSound}
use Rattle.depot_model.specs.Tables.{needs_of}
use Rattle.depot_model.specs.declared.request.Request.{Request}
use Rattle.lock_machine.specs.Machine.{Work, Party, State, Finish, may_party, is_enabled, acts, event}
use Rattle.lock_machine.specs.Orderly.{AtHand}
use Rattle.lock_machine.specs.Runs.{Event, events, AllTell, AllServedIn, beginning, IsRun, SawAllBy}
use Rattle.lock_machine.specs.Turns.{turns_left}
use Rattle.lock_machine.proofs.Ends.{acted_less}
use Rattle.lock_machine.proofs.Progress.{some_goes, enabled_at}
use Rattle.lock_machine.proofs.Rising.{sets_rise}
use Rattle.lock_machine.proofs.Runs.{run_begins, run_events, saw_all}

pub serves : (start : List Deed) (requests : List (List Request)) (es : List Event) → IsSound start → AllServedIn requests → AllTell start (beginning requests) es
    → IsRun start (events (beginning requests) es)
serves start requests es sound served tell = run_events start (beginning requests) es (run_begins start requests sound served) tell

pub saw : (start : List Deed) (s : State) (i : ℕ) (p : Party) → IsRun start s → slice_get s.parties i ≡ Some p → SawAllBy start s.order p.work
saw start s i p run at_i = go p.work (run.orderly.each i p at_i)
  where
    go : (work : Option Work) → AtHand needs_of s.order work → SawAllBy start s.order work
    go None hand = tt
    go (Some w) hand = λ is. saw_all start s.order w run.told hand is

pub works_on : (start : List Deed) (s : State) (i : ℕ) (p : Party) → IsRun start s → slice_get s.parties i ≡ Some p → IsSome p.work
    → (j : ℕ) × (q : Party) × (slice_get s.parties j ≡ Some q) × IsSome q.work × (is_enabled s j ≡ true)
works_on start s i p run at_i some = go p.work refl some
  where
    go : (work : Option Work) → p.work ≡ work → IsSome work → (j : ℕ) × (q : Party) × (slice_get s.parties j ≡ Some q) × IsSome q.work × (is_enabled s j ≡ true)
    go None has some = absurd (let both : false ≡ true = some in cc)
    go (Some w) has some =
        let g = some_goes needs_of sets_rise s run.orderly i p w at_i has in
        let P : Option Work → Type 0 = IsSome in
        (g.place, g.party, g.stands, subst P (sym g.has) refl, enabled_at needs_of sets_rise s run.orderly g.place g.party g.stands ∙ g.may)

pub fewer : (s : State) (i : ℕ) (how : Finish) → is_enabled s i ≡ true → turns_left needs_of (event needs_of s i how) < turns_left needs_of s
fewer s i how enabled = go (slice_get s.parties i) refl enabled
  where
    go : (found : Option Party) → slice_get s.parties i ≡ found → may_party s.parties found ≡ true → turns_left needs_of (acts needs_of s i how found) < turns_left needs_of s
    go None at_i may = absurd cc
    go (Some p) at_i may = rw may (acted_less needs_of s i p how at_i may)
