-- A party that gives up the commands that it hasn't begun leaves the machine a run.
use Rattle.std.proofs.Common.{◌≡◌, ℕ, List, [], set, Option, Some, None, refl, sym, ap, subst, ◌∙◌, inl, inr}
use Rattle.std.specs.Prelude.{slice_get}
use Rattle.depot_model.specs.Deeds.{Deed}
use Rattle.depot_model.specs.Tables.{needs_of}
use Rattle.lock_machine.specs.Machine.{Work, Party, State, owns_by, stops, stopped}
use Rattle.lock_machine.specs.Orderly.{AtHand}
use Rattle.lock_machine.specs.Runs.{IsRun}
use Rattle.lock_machine.proofs.Places.{set_here, set_there, one_or_apart, some_is}
use Rattle.lock_machine.proofs.Runs.{served_at, served_set}

-- each party has the command at hand that it had
same_work : (parties : List Party) (i : ℕ) (p : Party) → slice_get parties i ≡ Some p → (j : ℕ) (q : Party) → slice_get (set parties i (record p { left = [] })) j ≡ Some q
    → (r : Party) × (slice_get parties j ≡ Some r) × (r.work ≡ q.work)
same_work parties i p at_i j q at_j = elim (one_or_apart i j) [
  | inl e ↦
      let here : slice_get (set parties i (record p { left = [] })) j ≡ Some (record p { left = [] }) = sym (ap (slice_get (set parties i (record p { left = [] }))) e) ∙ set_here parties i p (record p { left = [] }) at_i in
      (p, sym (ap (slice_get parties) e) ∙ at_i, ap (λ (x : Party). x.work) (some_is (sym here ∙ at_j)))
  | inr apart ↦ (q, sym (set_there parties i j (record p { left = [] }) apart) ∙ at_j, refl)
]

module _ (start : List Deed) (s : State) (run : IsRun start s) (i : ℕ) where
  run_stops : (found : Option Party) → slice_get s.parties i ≡ found → IsRun start (stops s i found)
  run_stops None at_i = run
  run_stops (Some p) at_i = record {
    orderly = record {
      each = λ j q at_j.
          let was = same_work s.parties i p at_i j q at_j in
          let P : Option Work → Type 0 = AtHand needs_of s.order in
          subst P was.2 (run.orderly.each j was.0 was.1);
      alone = λ lock j k q r at_j at_k owns other.
          let one = same_work s.parties i p at_i j q at_j in
          let two = same_work s.parties i p at_i k r at_k in
          run.orderly.alone lock j k one.0 two.0 one.1 two.1 (ap (owns_by lock) one.2 ∙ owns) (ap (owns_by lock) two.2 ∙ other);
    };
    told = run.told;
    sound = run.sound;
    served = let served = served_at s.parties i p at_i run.served in served_set s.parties i (record p { left = [] }) run.served (tt, served.1);
  }

  pub run_stopped : IsRun start (stopped s i)
  run_stopped = run_stops (slice_get s.parties i) refl
