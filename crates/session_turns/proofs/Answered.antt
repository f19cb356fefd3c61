-- The replicas of a run behind its last turn: nothing is left to them.
use Rattle.std.proofs.Common.{◌≡◌, ℕ, zero, suc, ◌+◌, ◌<◌, Bool, true, false, cond, List, [], ◌∷◌, length, map, Option, Some, None, refl, sym, ap, ◌∙◌, arith}
use Rattle.std.specs.Prelude.{All, filter, nat_lt, slice_get, option_map}
use Rattle.std.specs.List.{range_with_len}
use Rattle.std.proofs.lemmas.Bool.{ltb-false, or_parts}
use Rattle.std.proofs.lemmas.List.Elements.{recursion_from_All}
use Rattle.std.proofs.lemmas.List.FromFn.{get_or-range_with_len, length-range_with_len}
use Rattle.std.proofs.lemmas.Option.{get_or_from_slice_get, slice_get-get_or, slice_get-map, slice_get_within}
use Rattle.outside_api.specs.Says.{DiskSays, SinkSays}
use Rattle.archive_file.specs.Archive.{disk_of as archive_disk_of}
use Rattle.disk_journal.specs.Stands.{disk_of}
use Rattle.lock_core.specs.Drawing.{has_other, may_go_on}
use Rattle.lock_machine.specs.Machine.{is_enabled}
use Rattle.lock_machine.proofs.Places.{some_is}
use Rattle.run_parties.proofs.Slots.{all_at}
use Rattle.run_parties.specs.Replicas.{AreReplicasServed, AreReplicasTold}
use Rattle.run_parties.specs.replica_turns.Master.{Past}
use Rattle.session_loop.specs.Asking.{AreWellFormed, replica_commands}
use Rattle.session_loop.specs.Served.{HaveRisenBy}
use Rattle.session_loop.specs.declared.reading.ReplicaScript.{ReplicaScript}
use Rattle.session_loop.specs.declared.session.SessionRun.{SessionRun}
use Rattle.session_turns.specs.Along.{AreAlong}
use Rattle.session_turns.specs.Answering.{IsDoneAt, IsSameAt}
use Rattle.session_turns.specs.Drawn.{Progress, going}
use Rattle.session_turns.specs.Going.{AreGoing, IsLeft}
use Rattle.session_turns.specs.Running.{Scene}
use Rattle.session_turns.specs.declared.turns.Turns.{Turns}

none_passes : (f : ℕ → Bool) (xs : List ℕ) → filter f xs ≡ [] → (k i : ℕ) → slice_get xs k ≡ Some i → f i ≡ false
none_passes f [] none k i at = absurd cc
none_passes f (x ∷ xs) none k i at = go (f x) refl none k at (λ rest j at_j. none_passes f xs rest j i at_j)
  where
    go : (b : Bool) → f x ≡ b → cond b (x ∷ filter f xs) (filter f xs) ≡ [] → (k : ℕ) → slice_get (x ∷ xs) k ≡ Some i
        → (filter f xs ≡ [] → (j : ℕ) → slice_get xs j ≡ Some i → f i ≡ false) → f i ≡ false
    go true is none k at later = absurd cc
    go false is none zero at later = ap f (sym (some_is at)) ∙ is
    go false is none (suc k) at later = later none k at

-- one of the first doesn't pass where none does
none_of_first : (f : ℕ → Bool) (n i : ℕ) → filter f (range_with_len 0 n) ≡ [] → i < n → f i ≡ false
none_of_first f n i none low =
    let within : i < length (range_with_len 0 n) = (let long = length-range_with_len 0 n in omega (arith, low, long)) in
    let first : 0 + i ≡ i = omega arith in
    let there : slice_get (range_with_len 0 n) i ≡ Some i = slice_get-get_or (range_with_len 0 n) i 0 within ∙ ap (λ (k : ℕ). Some k) (get_or-range_with_len 0 n i 0 low ∙ first) in
    none_passes f (range_with_len 0 n) none i i there

module _ {D K : Type 0} (disk_says : DiskSays D) (sink_says : SinkSays K) (may_give : ℕ → Type 0) (scene : Scene) (p : Progress) (turns : Turns D K)
    (r : AreGoing disk_says sink_says may_give scene p turns) (none : going p ≡ []) (formed : All (λ (script : Option ReplicaScript). AreWellFormed (replica_commands script)) scene.scripts)
    (runs : List SessionRun) (sinks : List K) (same : (i : ℕ) → IsDoneAt turns.runs.items turns.totals.items i → IsSameAt i turns.runs.items runs turns.sinks.items sinks) where
  -- all commands of a replica are answered, unless its sink failed
  replicas_done : (i : ℕ) (script : ReplicaScript) → slice_get scene.scripts i ≡ Some (Some script) → IsDoneAt turns.runs.items turns.totals.items i
  replicas_done i script at_script run total at_run at_total whole =
      let left = r.following.left i script run at_script at_run in
      let within = slice_get_within scene.scripts i (Some script) at_script in
      let count = r.running.under_way.count in
      let as_many = r.running.under_way.as_many in
      let rests = none_of_first (may_go_on p.machine p.others) (length p.machine.parties) i none (omega (arith, within, count, as_many)) in
      let no_other : has_other p.others i ≡ false = (or_parts (is_enabled p.machine i) (has_other p.others i) rests).1 in
      let none_here : nat_lt 0 left.other ≡ false =
      ap (λ (n : ℕ). nat_lt 0 n) (sym (get_or_from_slice_get turns.replicas.others.items i left.other 0 left.at_other)) ∙ (ap (λ (os : List ℕ). has_other os i) (sym r.others) ∙ no_other) in
      let low = ltb-false 0 left.other none_here in
      let all = left.total whole in
      let bound : length (replica_commands (Some script)) ≡ total = some_is (sym (r.running.totals i None (Some script) (r.running.under_way.apart i script at_script) at_script) ∙ at_total) in
      omega (arith, low, all, bound)

  -- a replica got nothing any more
  record IsSettled (i : ℕ) (script : ReplicaScript) (run : SessionRun) (got : Option (List ℕ)) : Type 0 where
    at_run : slice_get turns.runs.items i ≡ Some run
    at_got : slice_get (map sink_says.given turns.sinks.items) i ≡ Some got
    left : IsLeft script turns.replicas i run
    well : AreWellFormed (replica_commands (Some script))

  settled : (i : ℕ) (script : ReplicaScript) (run : SessionRun) (got : Option (List ℕ)) → slice_get scene.scripts i ≡ Some (Some script) → slice_get runs i ≡ Some run → slice_get (map sink_says.given sinks) i ≡ Some got → IsSettled i script run got
  settled i script run got at_script at_run at_got =
      let stays = same i (replicas_done i script at_script) in
      let at_old = sym stays.0 ∙ at_run in
      let Formed : Option ReplicaScript → Type 0 = λ s. AreWellFormed (replica_commands s) in
      record {
        at_run = at_old;
        at_got = slice_get-map sink_says.given turns.sinks.items i ∙ (ap (option_map sink_says.given) (sym stays.1) ∙ (sym (slice_get-map sink_says.given sinks i) ∙ at_got));
        left = r.following.left i script run at_script at_old;
        well = all_at Formed scene.scripts i (Some script) (recursion_from_All Formed scene.scripts formed) at_script;
      }

  -- they got what replicas answer, also where what is left is answered then
  pub replicas_served : AreReplicasServed disk_says may_give scene.sessions scene.scripts scene.since scene.start turns.order.items (λ i. Some (p.turn_counts i)) runs turns.replicas.lost
      (λ failures. HaveRisenBy failures scene.faults (disk_says.faults (disk_of turns.depot.journal)) scene.content_faults (disk_says.faults (archive_disk_of turns.depot.archive))) scene.before (map sink_says.given sinks)
  replicas_served = record {
    losses = r.losses;
    told = r.following.told;
    failures = r.failures;
    each = λ i script run had got at_script at_run at_had at_got.
        let is = settled i script run got at_script at_run at_got in
        let g = r.following.gave i script run is.left.p had got at_script is.at_run is.left.at_party at_had is.at_got is.well in
        record { replica = is.left.p; texts = g.texts; count = g.count; counts = p.turn_counts i; counted = refl; going = g.going; got = g.got };
  }

  -- and they told it along the depot that they followed
  pub replicas_told : (past : Past) → AreAlong disk_says sink_says may_give past scene p.turn_counts turns
      → AreReplicasTold past scene.start scene.sessions scene.scripts may_give turns.order.items (λ i. Some (p.turn_counts i)) runs scene.before (map sink_says.given sinks)
  replicas_told past along = λ i script run had got at_script at_run at_had at_got.
      let is = settled i script run got at_script at_run at_got in
      let t = along.told i script run is.left.p had got at_script is.at_run is.left.at_party at_had is.at_got is.well in
      record { replica = is.left.p; journal = along.all; texts = t.texts; count = t.count; counts = p.turn_counts i; counted = refl; along = t.along; got = t.got }
