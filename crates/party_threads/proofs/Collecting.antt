-- What the parties leave is what each was answered by itself, over one order.
use Rattle.std.proofs.Common.{◌≡◌, ◌≤◌, ◌+◌, ◌⊎◌, ℕ, zero, suc, Bool, List, [], ◌∷◌, ◌++◌, length, map, Option, Some, None, Vec, Global, refl, sym, ap, subst, ◌∙◌, arith, inl, inr}
use Rattle.std.specs.Prelude.{◌||◌, All, get_or, slice_get, option_map}
use Rattle.std.specs.List.{AllByRecursion, list_any}
use Rattle.std.proofs.Math.Bool.{or-false}
use Rattle.std.proofs.lemmas.List.{length-map, length_push, map-append}
use Rattle.std.proofs.lemmas.List.Elements.{All-from_recursion, recursion_from_All}
use Rattle.std.proofs.lemmas.List.Folds.{list_any-append}
use Rattle.std.proofs.lemmas.Option.{same_Some, slice_get-map}
use mathlib.Core.List.{IsPrefix}
use Rattle.depot_model.specs.Deeds.{Deed}
use Rattle.depot_model.specs.declared.request.Request.{Request}
use Rattle.locked_tables.specs.Known.{PartyKnown}
use Rattle.locked_tables.specs.Taken.{IsParty, of_party}
use Rattle.locked_tables.specs.declared.taken.Taken.{Taken}
use Rattle.order_words.specs.Seats.{Run, lane_count}
use Rattle.outside_api.specs.Disk.{Files}
use Rattle.outside_api.specs.Says.{DiskSays, SinkSays}
use Rattle.party_marks.specs.Known.{PassKnown}
use Rattle.party_marks.specs.Marks.{marks_of}
use Rattle.run_parties.proofs.Slots.{all_at, also_at}
use Rattle.run_parties.specs.Asking.{left_in}
use Rattle.run_parties.specs.replica_turns.declared.party.ReplicaParty.{ReplicaParty}
use Rattle.session_loop.specs.declared.session.SessionRun.{SessionRun}
use Rattle.shared_depot.proofs.Fronts.{stored_front}
use Rattle.shared_depot.specs.Common.{Masters, OpenedKnown}
use Rattle.shared_depot.specs.Sharing.{fresh_marks, fresh_passes}
use Rattle.party_threads.proofs.Answering.{output_wider, told_wider}
use Rattle.party_threads.proofs.Entries.{all_push, heard}
use Rattle.party_threads.specs.Parties.{AreAllServed, AreAsked, AreCollected, AreFreshParties, HaveRun, IsAmong, IsAsked, IsHeard, IsPartyServed, IsReady, is_marked, loss_count}
use Rattle.party_threads.specs.declared.party.ThreadParty.{ThreadParty}

-- ---- places of lists

pub from_map : {X Y : Type 0} (f : X → Y) (xs : List X) (i : ℕ) (y : Y) → slice_get (map f xs) i ≡ Some y → (x : X) × (slice_get xs i ≡ Some x) × (f x ≡ y)
from_map f [] i y at = absurd cc
from_map f (x ∷ xs) zero y at = (x, refl, same_Some _ _ at)
from_map f (x ∷ xs) (suc i) y at = from_map f xs i y at

-- what is made of what stands at a place stands there, where all that is made is known
pub at_map : {X Y : Type 0} (f : X → Y) (xs : List X) (ys : List Y) (i : ℕ) (x : X) → map f xs ≡ ys → slice_get xs i ≡ Some x → slice_get ys i ≡ Some (f x)
at_map f xs ys i x are at = ap (λ (zs : List _). slice_get zs i) (sym are) ∙ (slice_get-map f xs i ∙ ap (option_map f) at)

pub at_push : {X : Type 0} (xs : List X) (y : X) (i : ℕ) (z : X) → slice_get (xs ++ y ∷ []) i ≡ Some z → (slice_get xs i ≡ Some z) ⊎ ((i ≡ length xs) × (z ≡ y))
at_push [] y zero z at = inr (refl, sym (same_Some _ _ at))
at_push [] y (suc i) z at = absurd cc
at_push (x ∷ xs) y zero z at = inl at
at_push (x ∷ xs) y (suc i) z at = elim (at_push xs y i z at) [ inl before ↦ inl before | inr last ↦ inr (ap suc last.0, last.1) ]

pub each_at : {X : Type 0} (P : X → Type 0) (xs : List X) → ((i : ℕ) (x : X) → slice_get xs i ≡ Some x → P x) → AllByRecursion P xs
each_at P [] each = tt
each_at P (x ∷ xs) each = (each 0 x refl, each_at P xs (λ i y at. each (suc i) y at))

pub count_at : {X : Type 0} (count : X → ℕ) (xs : List X) (i : ℕ) (x : X) → slice_get xs i ≡ Some x → get_or (map count xs) i 0 ≡ count x
count_at count [] i x at = absurd cc
count_at count (y ∷ xs) zero x at = ap count (same_Some _ _ at)
count_at count (y ∷ xs) (suc i) x at = count_at count xs i x at

any_push : {X : Type 0} (flag : X → Bool) (xs : List X) (x : X) → list_any flag (xs ++ x ∷ []) ≡ list_any flag xs || flag x
any_push flag xs x = list_any-append flag xs (x ∷ []) ∙ ap (λ (b : Bool). list_any flag xs || b) (or-false (flag x))

-- one more party leaves what it has
pub collected_more : {K N : Type 0} (known : OpenedKnown) (done : List (ThreadParty K N)) (party : ThreadParty K N) (runs new_runs : List SessionRun) (sinks new_sinks : List K) (lost told now : Bool) → AreCollected known done runs sinks lost → IsHeard known.order party.pass
    → new_runs ≡ runs ++ party.run ∷ [] → new_sinks ≡ sinks ++ party.sink ∷ [] → told ≡ is_marked party → marks_of party.marks.party known.marks ≡ marks_of party.marks.party party.marks.list → now ≡ lost || told → AreCollected known (done ++ party ∷ []) new_runs new_sinks now
collected_more {K} {N} known done party runs new_runs sinks new_sinks lost told now c hears by_run by_sink told_is own now_is = record {
  heard = all_push (λ (p : ThreadParty K N). IsHeard known.order p.pass) done party c.heard hears;
  runs_are = by_run ∙ (ap (λ (l : List SessionRun). l ++ party.run ∷ []) c.runs_are ∙ sym (map-append (λ (p : ThreadParty K N). p.run) done (party ∷ [])));
  sinks_are = by_sink ∙ (ap (λ (l : List K). l ++ party.sink ∷ []) c.sinks_are ∙ sym (map-append (λ (p : ThreadParty K N). p.sink) done (party ∷ [])));
  told = now_is ∙ ((λ i. c.told i || told_is i) ∙ sym (any_push (λ (p : ThreadParty K N). is_marked p) done party));
  marked = all_push (λ (p : ThreadParty K N). marks_of p.marks.party known.marks ≡ marks_of p.marks.party p.marks.list) done party c.marked own;
}

-- ---- passes

module _ {P : Type 0} (make : ℕ → P) (passes : ℕ → List P) (none : passes 0 ≡ []) (more : (n : ℕ) → passes (suc n) ≡ passes n ++ make (suc n) ∷ []) where
  pub made_count : (n : ℕ) → length (passes n) ≡ n
  made_count zero = ap (length {A = P}) none
  made_count (suc n) = let next = ap (length {A = P}) (more n) in let longer = length_push (passes n) (make (suc n)) in let rest = made_count n in omega (arith, next, longer, rest)

  pub made_at : (n i : ℕ) (pass : P) → slice_get (passes n) i ≡ Some pass → pass ≡ make (i + 1)
  made_at zero i pass at = none_at (ap (λ (l : List P). slice_get l i) (sym none) ∙ at)
    where
      none_at : slice_get [] i ≡ Some pass → pass ≡ make (i + 1)
      none_at e = absurd cc
  made_at (suc n) i pass at =
      elim (at_push (passes n) (make (suc n)) i pass (ap (λ (l : List P). slice_get l i) (sym (more n)) ∙ at)) [
        | inl before ↦ made_at n i pass before
        | inr last ↦
            let number : suc n ≡ i + 1 = (let is = last.0 in let long = made_count n in omega (arith, is, long)) in
            last.1 ∙ ap make number
      ]

abbrev pass_of : ℕ → PartyKnown
pass_of party = record { party = party; list = [] }

abbrev marks_of_party : ℕ → PassKnown
marks_of_party party = record { party = party; list = [] }

pub length_fresh : (n : ℕ) → length (fresh_passes n) ≡ n
length_fresh = made_count pass_of fresh_passes refl (λ n. refl)

pub length_fresh_marks : (n : ℕ) → length (fresh_marks n) ≡ n
length_fresh_marks = made_count marks_of_party fresh_marks refl (λ n. refl)

-- a party without a lane has no entry
pub among_of : (run : Run) (n : ℕ) → lane_count run ≡ 13 + n → (order : List Taken) → AllByRecursion (λ (entry : Taken). IsParty run entry.request.party) order → AllByRecursion (IsAmong n) order
among_of run n lanes [] parties = tt
among_of run n lanes (entry ∷ order) parties =
    let low = parties.0.low in
    let lane = parties.0.lane in
    ((low, omega (arith, lane, lanes)), among_of run n lanes order parties.1)

module _ {D K : Type 0} (disk_says : DiskSays D) (end : ℕ) (images : Files → Type 0) (may_give : ℕ → Type 0) (sink_says : SinkSays K) (begins : ℕ → List Deed → Type 0) (masters : Masters) where
  abbrev Served : ℕ → List Request → Option ReplicaParty → SessionRun → ℕ → K → K → List Taken → Type 0
  Served = IsPartyServed disk_says end images may_give sink_says begins masters

  -- what a party was answered is the same over all of an order that its entries begin, if it has no more entries of its own
  served_heard : (party : ℕ) (requests : List Request) (replica : Option ReplicaParty) (run : SessionRun) (lost : ℕ) (old new : K) (known order : List Taken) → IsPrefix known order → of_party party order ≡ of_party party known
      → Served party requests replica run lost old new known → Served party requests replica run lost old new order
  served_heard party requests None run lost old new known order first own s = (record { taken = heard may_give begins party requests run (sink_says.given old) (sink_says.given new) known order s.0.taken first own; end = s.0.end }, s.1)
  served_heard party requests (Some p) run lost old new known order first own s = record {
    gave = λ archive all since start script begun fresh well.
        let before = stored_front disk_says end images begins known order archive first all in
        output_wider disk_says since start may_give party script known order first run.commands run.failed lost (sink_says.given old) (sink_says.given new) (s.gave archive before since start script begun fresh well);
    told = λ archive all since past start c script begun follows fresh well.
        let before = stored_front disk_says end images begins known order archive first all in
        told_wider may_give party script past start known order first run.commands run.failed (sink_says.given old) (sink_says.given new) (s.told archive before since past start c script begun follows fresh well);
    end = s.end;
    none = own ∙ s.none;
  }

  module _ {N : Type 0} (requests : List (Vec Request Global)) (replicas : List (Option ReplicaParty)) (sinks : List K) (olds : List (ThreadParty K N))
      (fresh : AreFreshParties requests replicas (fresh_passes (length requests)) (fresh_marks (length requests)) sinks olds) where
    abbrev items_of : Vec Request Global → List Request
    items_of own = own.items

    pass_at : (i : ℕ) (p : ThreadParty K N) → slice_get olds i ≡ Some p → p.pass ≡ pass_of (i + 1)
    pass_at i p at = made_at pass_of fresh_passes refl (λ n. refl) (length requests) i p.pass (at_map (λ (q : ThreadParty K N). q.pass) olds (fresh_passes (length requests)) i p fresh.knows at)

    marks_at : (i : ℕ) (p : ThreadParty K N) → slice_get olds i ≡ Some p → p.marks ≡ marks_of_party (i + 1)
    marks_at i p at = made_at marks_of_party fresh_marks refl (λ n. refl) (length requests) i p.marks (at_map (λ (q : ThreadParty K N). q.marks) olds (fresh_marks (length requests)) i p fresh.marks_are at)

    -- before the first thread
    pub ready : AreAsked begins (map items_of requests) → All (λ (r : Option ReplicaParty). length (left_in r) ≤ 67108864) replicas → All (IsReady begins) olds
    ready asked few = All-from_recursion (IsReady begins) olds (each_at (IsReady begins) olds (λ i p at.
        let pass = pass_at i p at in
        let own = at_map (λ (q : ThreadParty K N). q.requests) olds requests i p fresh.asks at in
        let replica = at_map (λ (q : ThreadParty K N). q.replica) olds replicas i p fresh.follows at in
        let Asked : ℕ → Type 0 = λ party. IsAsked begins party p.requests.items in
        let Few : Option ReplicaParty → Type 0 = λ r. length (left_in r) ≤ 67108864 in
        record {
          none = ap (λ (k : PartyKnown). k.list) pass;
          unmarked = ap (λ (k : PassKnown). k.list) (marks_at i p at);
          asked = subst Asked (sym (ap (λ (k : PartyKnown). k.party) pass)) (asked i p.requests.items (slice_get-map items_of requests i ∙ ap (option_map items_of) own));
          few = all_at Few replicas i p.replica (recursion_from_All Few replicas few) replica;
        }))

    pub as_many : length olds ≡ length requests
    as_many = sym (length-map olds (λ (q : ThreadParty K N). q.requests)) ∙ ap (length {A = Vec Request Global}) fresh.asks

    -- behind the last
    module _ (news : List (ThreadParty K N)) (run : HaveRun disk_says end images may_give sink_says begins masters olds news) (known : OpenedKnown) (runs : List SessionRun) (left : List K) (lost : Bool) (collected : AreCollected known news runs left lost) where
      one_served : (p q : ThreadParty K N) (i : ℕ) → slice_get olds i ≡ Some p → slice_get news i ≡ Some q → Served (i + 1) p.requests.items p.replica q.run (loss_count q) p.sink q.sink known.order
      one_served p q i at_p at_q =
          let one = run i p q at_p at_q in
          let hears = all_at (λ (r : ThreadParty K N). IsHeard known.order r.pass) news i q collected.heard at_q in
          let own : of_party p.pass.party known.order ≡ of_party p.pass.party q.pass.list = subst (λ (party : ℕ). of_party party known.order ≡ of_party party q.pass.list) one.same hears.own in
          let party = ap (λ (k : PartyKnown). k.party) (pass_at i p at_p) in
          let Whole : ℕ → Type 0 = λ k. Served k p.requests.items p.replica q.run (loss_count q) p.sink q.sink known.order in
          subst Whole party (served_heard p.pass.party p.requests.items p.replica q.run (loss_count q) p.sink q.sink q.pass.list known.order hears.begins own one.served)

      -- each has the marks of its number
      pub numbered : (i : ℕ) (q : ThreadParty K N) → slice_get news i ≡ Some q → length news ≡ length olds → q.marks.party ≡ i + 1
      numbered i q at_q as_long =
          let p = also_at news olds i q as_long at_q in
          (run i p.0 q p.1 at_q).same_marks ∙ ap (λ (k : PassKnown). k.party) (marks_at i p.0 p.1)

      pub served_all : AreAllServed disk_says end images may_give sink_says begins masters (map items_of requests) replicas runs (map (λ (r : ThreadParty K N). loss_count r) news) sinks left known.order
      served_all i own replica ran old new at_own at_replica at_run at_old at_new =
          let asks = from_map items_of requests i own at_own in
          let p = from_map (λ (r : ThreadParty K N). r.requests) olds i asks.0 (ap (λ (rs : List (Vec Request Global)). slice_get rs i) fresh.asks ∙ asks.1) in
          let q = from_map (λ (r : ThreadParty K N). r.run) news i ran (ap (λ (rs : List SessionRun). slice_get rs i) (sym collected.runs_are) ∙ at_run) in
          let own_is : p.0.requests.items ≡ own = ap items_of p.2 ∙ asks.2 in
          let replica_is : p.0.replica ≡ replica = same_Some _ _ (sym (at_map (λ (r : ThreadParty K N). r.replica) olds replicas i p.0 fresh.follows p.1) ∙ at_replica) in
          let old_is : p.0.sink ≡ old = same_Some _ _ (sym (at_map (λ (r : ThreadParty K N). r.sink) olds sinks i p.0 fresh.gives p.1) ∙ at_old) in
          let new_is : q.0.sink ≡ new = same_Some _ _ (sym (at_map (λ (r : ThreadParty K N). r.sink) news left i q.0 (sym collected.sinks_are) q.1) ∙ at_new) in
          let count = sym (count_at (λ (r : ThreadParty K N). loss_count r) news i q.0 q.1) in
          let Alone : List Request → Option ReplicaParty → SessionRun → ℕ → K → K → Type 0 = λ rs o r l x y. Served (i + 1) rs o r l x y known.order in
          let one = one_served p.0 q.0 i p.1 q.1 in
          let by_own = subst (λ (rs : List Request). Alone rs p.0.replica q.0.run (loss_count q.0) p.0.sink q.0.sink) own_is one in
          let by_replica = subst (λ (o : Option ReplicaParty). Alone own o q.0.run (loss_count q.0) p.0.sink q.0.sink) replica_is by_own in
          let by_run = subst (λ (r : SessionRun). Alone own replica r (loss_count q.0) p.0.sink q.0.sink) q.2 by_replica in
          let by_count = subst (λ (l : ℕ). Alone own replica ran l p.0.sink q.0.sink) count by_run in
          let lost = get_or (map (λ (r : ThreadParty K N). loss_count r) news) i 0 in
          subst (λ (y : K). Alone own replica ran lost old y) new_is (subst (λ (x : K). Alone own replica ran lost x q.0.sink) old_is by_count)
