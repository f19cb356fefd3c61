-- One more command of a party.
use Rattle.std.proofs.Common.{◌≡◌, ◌⊎◌, ℕ, ◌+◌, ◌-◌, Bool, true, false, eqb, ◌&&◌, List, [], ◌∷◌, ◌++◌, map, get_or, Option, Some, Result, Ok, Err, refl, sym, ap, subst, ◌∙◌, arith, inl, inr, add-one}
use Rattle.std.specs.Prelude.{All, AllPairs, slice_get}
use Rattle.std.specs.Prelude.{option_map}
use Rattle.std.specs.Option.{option_flatten}
use Rattle.std.proofs.lemmas.Bool.{ne_eqb, eq-eqb}
use Rattle.std.proofs.lemmas.List.{map_push}
use Rattle.std.proofs.lemmas.List.Elements.{All-push, recursion_from_All}
use Rattle.std.proofs.lemmas.List.Quantifiers.{all_pairs_push}
use Rattle.outside_api.specs.Told.{extended}
use Rattle.depot_model.specs.Deeds.{Deed}
use Rattle.depot_model.specs.declared.reply.Row.{Row}
use Rattle.depot_model.specs.declared.order.Answer.{Answer}
use Rattle.depot_model.specs.declared.order.Place.{Place}
use Rattle.depot_model.specs.declared.request.Asked.{Asked}
use Rattle.depot_model.specs.declared.request.Caller.{Caller}
use Rattle.depot_model.specs.Places.{Placed, taken, told_at}
use Rattle.depot_model.specs.Printed.{printed}
use Rattle.depot_model.specs.declared.request.Request.{Request}
use Rattle.depot_model.specs.declared.request.Session.{Session}
use Rattle.depot_model.specs.Order.{Rises}
use Rattle.depot_model.specs.Commands.{step}
use Rattle.depot_runs.specs.Run.{request_of, request_at, request_by, placed, is_place_of, reply_to, output_of, outputs}
use Rattle.session_loop.proofs.Orders.{IsUnplaced, reply_to-unplaced, reply_to-last, outputs-other}
use Rattle.wire_text.proofs.Pieces.{both, extended-nil, extended-extended}
use Rattle.session_loop.specs.Served.{IsTaken, IsUntaken, IsAnswered, IsTurn, IsServed}
use Rattle.session_loop.specs.Taking.{Answers, placed_by, with_place}

-- a party's first n commands were taken, each at its place
pub record HasRun (may_give : ℕ → Type 0) (has_run : List Deed → List Placed → Type 0) (sessions : List (Option Session)) (start : List Deed) (party n : ℕ) (order : List Place) : Type 0 where
  pub ran : has_run start (map (placed sessions) order)
  pub places : All (IsTurn may_give party n) order
  pub rising : AllPairs Rises order

pub run_none : (may_give : ℕ → Type 0) (has_run : List Deed → List Placed → Type 0) (sessions : List (Option Session)) (start : List Deed) (party : ℕ) → has_run start [] → HasRun may_give has_run sessions start party 0 []
run_none may_give has_run sessions start party ran = record { ran = ran; places = λ k d lt. absurd (omega arith); rising = λ i j d lt1 lt2. absurd (omega arith) }

abbrev placed_with : Option Request → Bool → Placed
placed_with request fault = record { request = request; fault = fault }

and_false : (b : Bool) → (b && false) ≡ false
and_false true = refl
and_false false = refl

-- a place of another number is no place of this command
other_place : (party number : ℕ) (place : Place) → (place.number ≡ number → ⊥) → is_place_of party number place ≡ false
other_place party number place ne = rw (ne_eqb place.number number ne) (and_false (eqb place.party party))

this_place : (party number : ℕ) (place : Place) → place.party ≡ party → place.number ≡ number → is_place_of party number place ≡ true
this_place party number place p n = rw (p, n, eq-eqb party party refl, eq-eqb number number refl) refl

module _ (may_give : ℕ → Type 0) (was_run has_run : List Deed → List Placed → Type 0) (sessions : List (Option Session)) (start : List Deed) (party n : ℕ) (session : Session) (asked : Asked) (order order' : List Place) (text : List ℕ) where
  unplaced : HasRun may_give was_run sessions start party n order → IsUnplaced party (n + 1) order
  unplaced h = recursion_from_All (λ place. is_place_of party (n + 1) place ≡ false) order (λ k d lt. other_place party (n + 1) (get_or order k d) (λ e. let last = (h.places k d lt).last in absurd (omega arith)))

  -- what its place names
  named : slice_get sessions (party - 1) ≡ Some (Some session) → slice_get session.commands n ≡ Some asked → (place : Place) → place.party ≡ party → place.number ≡ n + 1
      → request_at sessions place ≡ Some (request_of place session.caller asked)
  named has is place party_is number_is =
      let number : place.number - 1 ≡ n = omega arith in
      ap (λ (x : ℕ). request_by place (option_flatten (slice_get sessions (x - 1)))) party_is
      ∙ (ap (λ (s : Option (Option Session)). request_by place (option_flatten s)) has
      ∙ (ap (λ (x : ℕ). option_map (request_of place session.caller) (slice_get session.commands x)) number
      ∙ ap (option_map (request_of place session.caller)) is))

  -- the run, the earlier replies and the new one, where the command got a place
  pub run_taken : slice_get sessions (party - 1) ≡ Some (Some session) → slice_get session.commands n ≡ Some asked → HasRun may_give was_run sessions start party n order → IsTaken may_give has_run party (n + 1) session.caller asked start (map (placed sessions) order) order order' text
      → HasRun may_give has_run sessions start party (n + 1) order'
      × (outputs sessions start order' party n ≡ outputs sessions start order party n)
      × (output_of sessions start order' party (n + 1) ≡ text)
  run_taken has is h t =
      let names = named has is t.place t.party_is t.number_is in
      let asks : Request = request_of t.place session.caller asked in
      let at : Placed = placed_by asks t.place.fault in
      let at_is : placed sessions t.place ≡ at = ap (λ (r : Option Request). placed_with r t.place.fault) names in
      let behind : map (placed sessions) order' ≡ map (placed sessions) order ++ at ∷ [] =
      ap (map (placed sessions)) t.order ∙ (map_push (placed sessions) order t.place ∙ ap (λ (p : Placed). map (placed sessions) order ++ p ∷ []) at_is) in (
        record {
          ran = let P : List Placed → Type 0 = has_run start in subst P (sym behind) t.ran;
          places = rw t.order (All-push (IsTurn may_give party (n + 1)) order t.place
              (λ k d lt. let turn = h.places k d lt in record { party_is = turn.party_is; first = turn.first; last = omega arith; moment = turn.moment })
              (record { party_is = t.party_is; first = omega arith; last = omega arith; moment = t.moment }));
          rising = rw t.order (all_pairs_push Rises order t.place h.rising (λ k d lt same. let turn = h.places k d lt in omega arith));
        },
        rw t.order (outputs-other sessions start order t.place party n (λ k le. other_place party k t.place (λ e. omega arith))),
        ap (λ (r : List Row). printed r (n + 1))
            (ap (λ (o : List Place). reply_to sessions start o party (n + 1)) t.order
            ∙ (reply_to-last sessions start order t.place party (n + 1) (unplaced h) (this_place party (n + 1) t.place t.party_is t.number_is)
            ∙ ap (λ (p : Placed). told_at step (taken step start (map (placed sessions) order)) p) at_is))
            ∙ sym t.reply,
      )

  -- the same where it found no memory
  pub run_untaken : HasRun may_give was_run sessions start party n order → IsUntaken has_run (n + 1) start (map (placed sessions) order) order order' text
      → HasRun may_give has_run sessions start party (n + 1) order'
      × (outputs sessions start order' party n ≡ outputs sessions start order party n)
      × (output_of sessions start order' party (n + 1) ≡ text)
  run_untaken h t = (
    record {
      ran = let P : List Place → Type 0 = λ o. has_run start (map (placed sessions) o) in subst P (sym t.order) t.ran;
      places = rw t.order (λ k d lt. let turn = h.places k d lt in record { party_is = turn.party_is; first = turn.first; last = omega arith; moment = turn.moment });
      rising = rw t.order h.rising;
    },
    rw t.order refl,
    ap (λ (r : List Row). printed r (n + 1)) (ap (λ (o : List Place). reply_to sessions start o party (n + 1)) t.order ∙ reply_to-unplaced sessions start order party (n + 1) (unplaced h))
        ∙ sym t.reply,
  )

-- a party's first n commands were taken, and the sink got the replies
pub record HasServed (may_give : ℕ → Type 0) (has_run : List Deed → List Placed → Type 0) (sessions : List (Option Session)) (start : List Deed) (party n : ℕ) (before now : Option (List ℕ)) (order : List Place) : Type 0 where
  pub ran : HasRun may_give has_run sessions start party n order
  pub output : now ≡ extended before (outputs sessions start order party n)

pub served_none : (may_give : ℕ → Type 0) (has_run : List Deed → List Placed → Type 0) (sessions : List (Option Session)) (start : List Deed) (party : ℕ) (given : Option (List ℕ)) → has_run start [] → HasServed may_give has_run sessions start party 0 given given []
served_none may_give has_run sessions start party given ran = record { ran = run_none may_give has_run sessions start party ran; output = sym (extended-nil given) }

module _ {E : Type 0} (may_give : ℕ → Type 0) (was_run has_run : List Deed → List Placed → Type 0) (sessions : List (Option Session)) (start : List Deed) (party n : ℕ) (session : Session) (asked : Asked) (order order' : List Place) (first before now : Option (List ℕ)) where
  run_more : slice_get sessions (party - 1) ≡ Some (Some session) → slice_get session.commands n ≡ Some asked → HasServed may_give was_run sessions start party n first before order → (result : Result (Unit {0}) E) → (a : IsAnswered may_give has_run party (n + 1) session.caller asked start (map (placed sessions) order) order order' before now result)
      → HasRun may_give has_run sessions start party (n + 1) order'
      × (outputs sessions start order' party n ≡ outputs sessions start order party n)
      × (output_of sessions start order' party (n + 1) ≡ a.text)
  run_more has is h result a =
      elim a.taken [
        | inl t ↦ run_taken may_give was_run has_run sessions start party n session asked order order' a.text has is h.ran t
        | inr t ↦ run_untaken may_give was_run has_run sessions start party n session asked order order' a.text h.ran t
      ]

  pub served_more : slice_get sessions (party - 1) ≡ Some (Some session) → slice_get session.commands n ≡ Some asked → HasServed may_give was_run sessions start party n first before order → (x : Unit {0}) → IsAnswered {E = E} may_give has_run party (n + 1) session.caller asked start (map (placed sessions) order) order order' before now (Ok x)
      → HasServed may_give has_run sessions start party (n + 1) first now order'
  served_more has is h x a =
      let answer : Result (Unit {0}) E = Ok x in
      let more = run_more has is h answer a in
      record {
        ran = more.0;
        output = both first before now (outputs sessions start order party n) a.text h.output a.given.whole
            ∙ ap (extended first) (ap (λ (o : List ℕ). o ++ a.text) (sym more.1) ∙ (ap (λ (o : List ℕ). outputs sessions start order' party n ++ o) (sym more.2) ∙ rw add-one refl));
      }

  pub served_last : slice_get sessions (party - 1) ≡ Some (Some session) → slice_get session.commands n ≡ Some asked → HasServed may_give was_run sessions start party n first before order → (x : E) → IsAnswered may_give has_run party (n + 1) session.caller asked start (map (placed sessions) order) order order' before now (Err x)
      → IsServed may_give sessions start party (n + 1) true first now order' × has_run start (map (placed sessions) order')
  served_last has is h x a =
      let more = run_more has is h (Err x) a in
      let got = a.given.front in (
        record {
          places = more.0.places;
          rising = more.0.rising;
          output = (
            n,
            add-one n,
            got.0,
            rw more.2 got.1,
            got.2 ∙ (ap (λ (o : Option (List ℕ)). extended o got.0) h.output
                ∙ (extended-extended first (outputs sessions start order party n) got.0 ∙ ap (λ (o : List ℕ). extended first (o ++ got.0)) (sym more.1))),
          );
        },
        more.0.ran,
      )

-- what was answered at the place of a request was taken there
pub taken_at : (has_run : List Deed → List Placed → Type 0) (place : Place) (caller : Caller) (asked : Asked) (start : List Deed) (places : List Placed) (old_order new_order : List Place) (answer : Answer)
    → Answers start places (request_of place caller asked) answer → has_run start (with_place places (request_of place caller asked) answer) → new_order ≡ old_order ++ answer.place ∷ []
    → IsTaken (λ (m : ℕ). m ≡ place.moment) has_run place.party place.number caller asked start places old_order new_order answer.reply
taken_at has_run place caller asked start places old_order new_order answer a ran order =
    let request : Request = request_of place caller asked in
    let fault = answer.place.fault in
    let same : request ≡ request_of answer.place caller asked = sym (ap (λ (p : Place). request_of p caller asked) a.place) in
    let Ran : Request → Type 0 = λ r. has_run start (places ++ placed_by r fault ∷ []) in
    let Told : Request → Type 0 = λ r. answer.reply ≡ printed (told_at step (taken step start places) (placed_by r fault)) place.number in
    record {
      place = answer.place;
      party_is = ap (λ (p : Place). p.party) a.place;
      number_is = ap (λ (p : Place). p.number) a.place;
      moment = ap (λ (p : Place). p.moment) a.place;
      order = order;
      ran = subst Ran same ran;
      reply = subst Told same a.reply;
    }

-- what was answered at a moment that may be given was answered at one that may be given
pub answered_given : {E : Type 0} (may_give : ℕ → Type 0) (has_run : List Deed → List Placed → Type 0) (party number moment : ℕ) (caller : Caller) (asked : Asked) (start : List Deed) (places : List Placed) (old_order new_order : List Place) (before now : Option (List ℕ)) (result : Result (Unit {0}) E)
    → may_give moment → IsAnswered (λ (m : ℕ). m ≡ moment) has_run party number caller asked start places old_order new_order before now result
    → IsAnswered may_give has_run party number caller asked start places old_order new_order before now result
answered_given may_give has_run party number moment caller asked start places old_order new_order before now result given a = record { text = a.text; taken = go a.taken; given = a.given }
  where
    go : IsTaken (λ (m : ℕ). m ≡ moment) has_run party number caller asked start places old_order new_order a.text ⊎ IsUntaken has_run number start places old_order new_order a.text
        → IsTaken may_give has_run party number caller asked start places old_order new_order a.text ⊎ IsUntaken has_run number start places old_order new_order a.text
    go (inl t) = inl (record { place = t.place; party_is = t.party_is; number_is = t.number_is; moment = subst may_give (sym t.moment) given; order = t.order; ran = t.ran; reply = t.reply })
    go (inr u) = inr u
