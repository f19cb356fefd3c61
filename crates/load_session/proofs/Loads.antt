-- What the reading of a load's script and the serving of its session give.
use Rattle.std.proofs.Common.{◌≡◌, ℕ, Bool, true, false, List, [], ◌∷◌, length, map, get_or, Option, None, refl, sym, subst, arith}
use Rattle.std.specs.Prelude.{All}
use Rattle.outside_api.specs.Count.{HasRisen}
use Rattle.depot_model.specs.Deeds.{Deed}
use Rattle.depot_model.specs.Order.{IsPlaceOf}
use Rattle.depot_model.specs.Places.{Placed}
use Rattle.depot_model.specs.declared.order.Place.{Place}
use Rattle.depot_model.specs.declared.request.Session.{Session}
use Rattle.depot_runs.specs.Run.{placed}
use Rattle.session_loop.specs.Asking.{asking_of, commands_of}
use Rattle.session_loop.specs.Served.{IsServed, IsTurn}
use Rattle.wire_text.specs.declared.script.ScriptEnd.{ScriptEnd}
use Rattle.wire_text.specs.declared.script.ScriptEnd.TheVariants.{Whole, Fault, ReadFault}
use Rattle.load_session.specs.Loading.{IsAskedBy, IsLoaded}
use Rattle.load_session.proofs.Turns.{each_has_its_own}

-- a count that stays 0 hasn't risen
not_risen : HasRisen 0 0 → ⊥
not_risen risen = omega (arith, risen)

-- the session that is read is that of the bytes
pub session_is : (bytes : List ℕ) (session : Option Session) (end : ScriptEnd) → IsAskedBy bytes session end → session ≡ (asking_of bytes).session
session_is bytes session Whole asked = sym asked.0
session_is bytes session (Fault fault) asked = sym asked.0
session_is bytes session ReadFault asked = absurd asked

-- where the sink can't fail all commands are taken
pub all_taken : (failed : Bool) (n m : ℕ) → (failed ≡ false → n ≡ m) → (failed ≡ true → HasRisen 0 0) → n ≡ m
all_taken false n m all cause = all refl
all_taken true n m all cause = absurd (not_risen (cause refl))

place_of : (may_give : ℕ → Type 0) (n : ℕ) (place : Place) → IsTurn may_give 1 n place → IsPlaceOf may_give (n ∷ []) place
place_of may_give n place turn = record {
  party = omega (arith, turn.party_is);
  number = turn.first;
  command = rw turn.party_is turn.last;
  moment = turn.moment;
}

pub loaded_of : (may_give : ℕ → Type 0) (has_run : List Deed → List Placed → Type 0) (start : List Deed) (session : Option Session) (n : ℕ) (failed : Bool) (before now : Option (List ℕ)) (order : List Place)
    → n ≡ length (commands_of session) → IsServed may_give (session ∷ []) start 1 n failed before now order → has_run start (map (placed (session ∷ [])) order) → IsLoaded may_give has_run start session order
loaded_of may_give has_run start session n failed before now order many served ran =
    let turns : All (IsTurn may_give 1 (length (commands_of session))) order = subst (λ m. All (IsTurn may_give 1 m) order) many served.places in
    record {
      places = record { places = λ k d lt. place_of may_give (length (commands_of session)) (get_or order k d) (turns k d lt); rising = served.rising };
      each = λ same. each_has_its_own may_give (length (commands_of session)) order turns served.rising same;
      ran = ran;
    }

-- where there is no session there are no places
pub loaded_none : (may_give : ℕ → Type 0) (has_run : List Deed → List Placed → Type 0) (start : List Deed) (session : Option Session) (order : List Place) → session ≡ None → order ≡ [] → has_run start [] → IsLoaded may_give has_run start session order
loaded_none may_give has_run start session order none empty ran = rw (none, empty) (record {
  places = record { places = λ k d lt. absurd (omega arith); rising = λ i j d lt within. absurd (omega arith) };
  each = λ same. refl;
  ran = ran;
})
