-- The entries of a party, which are those that touch its lane.
use Rattle.std.proofs.Common.{◌≡◌, ◌==◌, ℕ, Bool, true, false, List, [], ◌∷◌, ◌++◌, if◌then◌else◌, refl, sym, ap, ◌∙◌, subst, arith}
use Rattle.std.specs.List.{AllByRecursion}
use Rattle.std.proofs.lemmas.Bool.{eq-eqb}
use Rattle.std.proofs.lemmas.List.{append-nil}
use Rattle.order_words.specs.Lanes.{has_lane, is_among, last_touch}
use Rattle.order_words.specs.Seats.{Run}
use Rattle.locked_tables.specs.Known.{KnowsLane}
use Rattle.locked_tables.specs.Taken.{IsOwn, IsParty, TouchesItsParty, lanes_of, of_party, party_lane}
use Rattle.locked_tables.specs.declared.taken.Taken.{Taken}
use Rattle.locked_tables.specs.Placing.{AreOfTables}
use Rattle.locked_tables.proofs.Lanes.{IsBetween, lane_of_party, past_between}
use Rattle.locked_tables.proofs.Rows.{none_behind, past_known}

-- those behind some are among all
all_behind : {X : Type 0} (P : X → Type 0) (xs ys : List X) → AllByRecursion P (xs ++ ys) → AllByRecursion P ys
all_behind P [] ys all = all
all_behind P (x ∷ xs) ys all = all_behind P xs ys all.1

-- ---- those of one party

module _ (party : ℕ) where
  party_head : (b : Bool) (x : Taken) (xs ys zs : List Taken) → zs ≡ xs ++ ys → (if b then x ∷ zs else zs) ≡ (if b then x ∷ xs else xs) ++ ys
  party_head true x xs ys zs e = ap (λ (l : List Taken). x ∷ l) e
  party_head false x xs ys zs e = e

  pub party_append : (xs ys : List Taken) → of_party party (xs ++ ys) ≡ of_party party xs ++ of_party party ys
  party_append [] ys = refl
  party_append (x ∷ xs) ys = party_head (x.request.party == party) x (of_party party xs) (of_party party ys) (of_party party (xs ++ ys)) (party_append xs ys)

  party_one : (taken : Taken) → taken.request.party ≡ party → of_party party (taken ∷ []) ≡ taken ∷ []
  party_one taken is = ap (λ (b : Bool). if b then taken ∷ [] else []) (eq-eqb taken.request.party party is)

module _ (run : Run) (party : ℕ) (is : IsParty run party) where
  -- none is of the party where none touches its lane
  party_none : (order : List Taken) → AllByRecursion (TouchesItsParty run) order → last_touch lanes_of (party_lane party) order ≡ 0 → of_party party order ≡ []
  party_none [] all e = refl
  party_none (taken ∷ order) all e =
      let h = none_behind (has_lane taken.lanes (party_lane party)) (last_touch lanes_of (party_lane party) order) e in
      ap (λ (b : Bool). if b then taken ∷ of_party party order else of_party party order) (sym (all.0.lanes party is.low is.high) ∙ h.0) ∙ party_none order all.1 h.1

  -- who knows the party's lane knows all of its places
  pub party_kept : (known order : List Taken) → AllByRecursion (TouchesItsParty run) order → KnowsLane (party_lane party) known order → of_party party order ≡ of_party party known
  party_kept known order all knows =
      let rest = knows.begins.0 in
      let behind = all_behind (TouchesItsParty run) known rest (subst (AllByRecursion (TouchesItsParty run)) (sym knows.begins.1) all) in
      ap (of_party party) (sym knows.begins.1)
      ∙ (party_append party known rest
      ∙ (ap (λ (l : List Taken). of_party party known ++ l) (party_none rest behind (past_known (party_lane party) known order knows))
      ∙ append-nil (of_party party known)))

  -- with one more place of its own it has that besides
  pub is_own : (known before after : List Taken) (taken : Taken) → AllByRecursion (TouchesItsParty run) before → KnowsLane (party_lane party) known before
      → after ≡ before ++ taken ∷ [] → taken.request.party ≡ party → IsOwn party known before after
  is_own known before after taken all knows last asks = record {
    taken = taken;
    last = last;
    begins = knows.begins;
    earlier = party_kept known before all knows;
    own = ap (of_party party) last ∙ party_append party before (taken ∷ []) ∙ (λ i. party_kept known before all knows i ++ party_one party taken asks i);
  }

-- ---- the parties' lanes of an entry

module _ (run : Run) (entry : Taken) (party : ℕ) (is : IsParty run party) (asks : entry.request.party ≡ party) (tables : List ℕ) (below : AreOfTables tables) where
  asked_by : (other : ℕ) → is_among (party_lane other) (party_lane party ∷ tables) ≡ (entry.request.party == other)
  asked_by other = lane_of_party other party tables (below (party_lane other) (omega arith)) ∙ ap (λ (p : ℕ). p == other) (sym asks)

  -- its own party's alone, where it touches that, lanes before those of the parties, and lanes of tables
  pub touches_party : (front : List ℕ) → AllByRecursion IsBetween front → ((i : ℕ) → has_lane entry.lanes i ≡ is_among i (front ++ party_lane party ∷ tables)) → TouchesItsParty run entry
  touches_party front between are = record {
    party = subst (IsParty run) (sym asks) is;
    lanes = λ other low high. are (party_lane other) ∙ (past_between front (party_lane party ∷ tables) other between low ∙ asked_by other);
  }

-- each entry is of a party of the run
pub parties_of : (run : Run) (order : List Taken) → AllByRecursion (TouchesItsParty run) order → AllByRecursion (λ (taken : Taken). IsParty run taken.request.party) order
parties_of run [] all = tt
parties_of run (taken ∷ order) all = (all.0.party, parties_of run order all.1)
