-- One more command of one of the parties.
use Rattle.std.proofs.Common.{◌≡◌, ◌≢◌, ℕ, ◌+◌, ◌-◌, ◌≤◌, ◌<◌, Bool, true, false, eqb, List, [], ◌∷◌, ◌++◌, length, set, get_or, Option, Some, None, refl, sym, ap, subst, ◌∙◌, arith, inl, inr}
use Rattle.std.specs.Prelude.{All, slice_get}
use Rattle.std.specs.Option.{IsSomeAnd}
use Rattle.std.proofs.Math.Bool.{and-false}
use Rattle.std.proofs.lemmas.Bool.{ne_eqb, eq-eqb}
use Rattle.std.proofs.lemmas.List.{length-set}
use Rattle.std.proofs.lemmas.List.Elements.{All-push, recursion_from_All}
use Rattle.std.proofs.lemmas.List.Quantifiers.{all_pairs_push}
use Rattle.depot_rows.specs.depot_model.Deeds.{Deed}
use Rattle.depot_rows.specs.depot_model.Order.{IsOrder, IsPlaceOf, Rises}
use Rattle.depot_rows.specs.depot_model.Printed.{printed}
use Rattle.depot_rows.specs.depot_model.Rows.{memory_row}
use Rattle.depot_rows.specs.depot_model.declared.order.Place.{Place}
use Rattle.depot_rows.specs.depot_model.declared.reply.Row.{Row}
use Rattle.depot_rows.specs.depot_model.declared.request.Session.{Session}
use Rattle.depot_runs.specs.Run.{is_place_of, output_of, outputs, rows_at, run}
use Rattle.lock_machine.proofs.Places.{one_or_apart, set_here}
use Rattle.run_parties.proofs.Counts.{counts_set}
use Rattle.run_parties.proofs.Outputs.{output_more, output_stays}
use Rattle.run_parties.proofs.Slots.{at_set, bound_at, risen_at}
use Rattle.run_parties.specs.Giving.{Got}
use Rattle.run_parties.specs.Served.{AreServed, session_counts}
use Rattle.session_loop.proofs.Orders.{IsUnplaced, outputs-other, reply_to-last, reply_to-other, reply_to-unplaced}
use Rattle.session_loop.specs.Served.{IsOutput}
use Rattle.session_loop.specs.declared.reading.ReplicaScript.{ReplicaScript}
use Rattle.session_loop.specs.declared.session.SessionRun.{SessionRun}

module _ (may_give : ℕ → Type 0) (sessions : List (Option Session)) (start : List Deed) (counts : List ℕ) (i n : ℕ) (order : List Place) where
  -- The order after one more command of the party at a place of the list, which is answered a text: the party's earlier replies and those of all others
  -- are the same.
  pub record IsNext (order' : List Place) (text : List ℕ) : Type 0 where
    pub places : IsOrder may_give (set counts i (n + 1)) order'
    pub others : (j k : ℕ) → i ≢ j → output_of sessions start order' (j + 1) k ≡ output_of sessions start order (j + 1) k
    pub own : outputs sessions start order' (i + 1) n ≡ outputs sessions start order (i + 1) n
    pub told : output_of sessions start order' (i + 1) (n + 1) ≡ text

  module _ (here : slice_get counts i ≡ Some n) (h : IsOrder may_give counts order) where
    -- a place of the party is below the next number
    below : (k : ℕ) (d : Place) → k < length order → (get_or order k d).party ≡ i + 1 → (get_or order k d).number ≤ n
    below k d lt party_is =
        let place = h.places k d lt in
        bound_at counts i ((get_or order k d).party - 1) (get_or order k d).number n here (omega (arith, party_is)) place.command

    other_number : (party number : ℕ) (place : Place) → (place.number ≡ number → ⊥) → is_place_of party number place ≡ false
    other_number party number place ne = rw (ne_eqb place.number number ne) (and-false (eqb place.party party))

    other_party : (party number : ℕ) (place : Place) → (place.party ≡ party → ⊥) → is_place_of party number place ≡ false
    other_party party number place ne = rw (ne_eqb place.party party ne) refl

    this_place : (party number : ℕ) (place : Place) → place.party ≡ party → place.number ≡ number → is_place_of party number place ≡ true
    this_place party number place p m = rw (p, m, eq-eqb party party refl, eq-eqb number number refl) refl

    pub unplaced : IsUnplaced (i + 1) (n + 1) order
    unplaced = recursion_from_All (λ (place : Place). is_place_of (i + 1) (n + 1) place ≡ false) order (λ k d lt.
        elim (one_or_apart (get_or order k d).party (i + 1)) [
          | inl same ↦ other_number (i + 1) (n + 1) (get_or order k d) (λ e. let low = below k d lt same in absurd (omega arith))
          | inr apart ↦ other_party (i + 1) (n + 1) (get_or order k d) apart
        ])

    old_places : All (IsPlaceOf may_give (set counts i (n + 1))) order
    old_places = λ k d lt.
        let place = h.places k d lt in
        record {
          party = place.party;
          number = place.number;
          command = risen_at counts i ((get_or order k d).party - 1) (get_or order k d).number n here place.command;
          moment = place.moment;
        }

    -- it got a place
    pub next_placed : (place : Place) → place.party ≡ i + 1 → place.number ≡ n + 1 → may_give place.moment
        → IsNext (order ++ place ∷ []) (printed (rows_at sessions (run sessions start order) place) (n + 1))
    next_placed place party_is number_is given = record {
      places = record {
        places = All-push (IsPlaceOf may_give (set counts i (n + 1))) order place old_places (record {
          party = omega (arith, party_is);
          number = omega (arith, number_is);
          command =
              let at : place.party - 1 ≡ i = omega (arith, party_is) in
              let P : Option ℕ → Type 0 = λ found. IsSomeAnd found (λ (count : ℕ). place.number ≤ count) in
              subst (λ (k : ℕ). P (slice_get (set counts i (n + 1)) k)) (sym at) (subst P (sym (set_here counts i n (n + 1) here)) (omega (arith, number_is)));
          moment = given;
        });
        rising = all_pairs_push Rises order place h.rising (λ k d lt same. let low = below k d lt (same ∙ party_is) in omega (arith, low, number_is));
      };
      others = λ j k apart. ap (λ (rows : List Row). printed rows k) (reply_to-other sessions start order place (j + 1) k (other_party (j + 1) k place (λ e. apart (omega (arith, e, party_is)))));
      own = outputs-other sessions start order place (i + 1) n (λ k le. other_number (i + 1) k place (λ e. omega (arith, e, number_is)));
      told = ap (λ (rows : List Row). printed rows (n + 1)) (reply_to-last sessions start order place (i + 1) (n + 1) unplaced (this_place (i + 1) (n + 1) place party_is number_is));
    }

    -- it found no memory
    pub next_unplaced : IsNext order (printed (memory_row ∷ []) (n + 1))
    next_unplaced = record {
      places = record { places = old_places; rising = h.rising };
      others = λ j k apart. refl;
      own = refl;
      told = ap (λ (rows : List Row). printed rows (n + 1)) (reply_to-unplaced sessions start order (i + 1) (n + 1) unplaced);
    }

  -- the party's sink got the answer, and no other sink got anything
  pub served_more : (scripts : List (Option ReplicaScript)) (runs : List SessionRun) → counts ≡ session_counts scripts runs → slice_get scripts i ≡ Some None
      → (run : SessionRun) → slice_get runs i ≡ Some run → run.commands ≡ n → run.failed ≡ false → (before now : List (Option (List ℕ))) → AreServed may_give sessions scripts start runs before now order
      → (order' : List Place) (text : List ℕ) → IsNext order' text → (failed : Bool) (got new : Option (List ℕ)) → slice_get now i ≡ Some got → Got failed text got new
      → AreServed may_give sessions scripts start (set runs i (record { commands = n + 1; failed = failed })) before (set now i new) order'
  served_more scripts runs counts_are here_script run at count whole before now h order' text next failed got new at_got gives =
      let run' : SessionRun = record { commands = n + 1; failed = failed } in
      record {
        count = length-set runs i run' ∙ h.count;
        places = subst (λ (cs : List ℕ). IsOrder may_give cs order') (ap (λ (cs : List ℕ). set cs i (n + 1)) counts_are ∙ sym (counts_set scripts runs i run' here_script)) next.places;
        each = λ j r given has at_script at_r at_given at_has.
            elim (at_set runs i j run' r at_r) [
              | inl here ↦ own j r given has here.0 here.1 at_given at_has
              | inr there ↦ elim (at_set now i j new has at_has) [
                | inl wrong ↦ absurd (there.0 wrong.0)
                | inr same ↦ output_stays sessions start order order' (j + 1) (λ k. next.others j k there.0) r.commands r.failed given has (h.each j r given has at_script there.1 at_given same.1)
              ]
            ];
      }
    where
      own : (j : ℕ) (r : SessionRun) (given has : Option (List ℕ)) → i ≡ j → r ≡ record { commands = n + 1; failed = failed } → slice_get before j ≡ Some given → slice_get (set now i new) j ≡ Some has
          → IsOutput sessions start order' (j + 1) r.commands r.failed given has
      own j r given has same is at_given at_has =
          let is_new : new ≡ has = cc_some (sym (set_here now i got new at_got) ∙ (ap (slice_get (set now i new)) same ∙ at_has)) in
          let P : ℕ → Bool → Type 0 = λ m f. IsOutput sessions start order (i + 1) m f given got in
          let was : IsOutput sessions start order (i + 1) n false given got =
          subst (λ (m : ℕ). P m false) count (subst (λ (f : Bool). P run.commands f) whole (h.each i run given got here_script at (ap (slice_get before) same ∙ at_given) at_got)) in
          let Q : ℕ → SessionRun → Option (List ℕ) → Type 0 = λ k x o. IsOutput sessions start order' (k + 1) x.commands x.failed given o in
          subst (λ (k : ℕ). Q k r has) same (subst (λ (x : SessionRun). Q i x has) (sym is) (subst (λ (o : Option (List ℕ)). Q i (record { commands = n + 1; failed = failed }) o) is_new
          (output_more sessions start order order' (i + 1) n text next.own next.told failed given got new was gives)))
        where
          cc_some : {A : Type 0} {x y : A} → Some x ≡ Some y → x ≡ y
          cc_some e = cc
