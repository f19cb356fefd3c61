-- What holds of the deeds of a submit: of none, where it is refused, and of those of the change that lands.
use Rattle.std.proofs.Common.{◌≡◌, ℕ, Bool, true, false, List, [], ◌∷◌, ◌++◌, length, refl, ap, ◌∙◌}
use Rattle.std.specs.Prelude.{◌==◌, ◌||◌, flat_map, nat_lt, if◌then◌else◌}
use Rattle.std.specs.Option.{option_map_or}
use Rattle.depot_model.specs.Deeds.{Deed, Landing, Opening, Pending, SpecKind, Drop, Got, Land, Shut}
use Rattle.depot_model.specs.Latest.{spec}
use Rattle.depot_model.specs.Numbers.{pending}
use Rattle.depot_model.specs.Step.{after, refuse_if}
use Rattle.depot_model.specs.Steps.Opening.{change_refusal}
use Rattle.depot_model.specs.Steps.Submitting.{submit, submit_change, dropped, got_and_shut, landed, landing_number, new_have, openings_of, file_refusals}
use Rattle.depot_model.specs.declared.refusal.Limit.TheVariants.{Text, Change, Files}
use Rattle.depot_model.specs.declared.refusal.Refusal.TheVariants.{EmptyChange, OverLimit}
use Rattle.depot_model.specs.declared.request.Request.{Request}
use Rattle.depot_facts.proofs.Steps.{after_joined}
use Rattle.step_forms.proofs.Combining.{unless_holds}

module _ (d : List Deed) (request : Request) (n : ℕ) (Holds : List Deed → Type 0) (nothing : Holds [])
    (lands : (text : List ℕ) (openings : List Opening) → Holds (landed d request n text openings).deeds) where
  pub of_submit : (text : List ℕ) → Holds (submit d request n text).deeds
  of_submit text =
      let openings = openings_of d request.caller n in
      unless_holds Holds nothing (
      refuse_if (length openings == 0) (EmptyChange n) ∷ refuse_if (nat_lt 65536 (length text)) (OverLimit Text) ∷ flat_map (file_refusals d request) openings
      ++ refuse_if (nat_lt 2147483647 (landing_number d n)) (OverLimit Change) ∷ refuse_if (nat_lt 10000 (length openings)) (OverLimit Files) ∷ []
      ) (landed d request n text openings) (lands text openings)

  pub of_submit_change : Holds (submit_change d request n).deeds
  of_submit_change =
      let text = option_map_or (λ (p : Pending). p.text) (pending d n) [] in
      unless_holds Holds nothing (change_refusal d request.caller n ∷ []) (submit d request n text) (of_submit text)

-- ---- the deeds of a change that lands, before those of its fixes, save no form

module _ (d : List Deed) (kind : SpecKind) (name : List ℕ) where
  got_stays : (openings : List Opening) (e : List Deed) → spec (after e (flat_map (got_and_shut d) openings)) kind name ≡ spec e kind name
  got_stays [] e = refl
  got_stays (o ∷ openings) e =
      got_stays openings (Shut (record { client = o.client; path = o.path }) ∷ Got (record { client = o.client; path = o.path }) (new_have d o) ∷ e)

  dropped_stays : (n : ℕ) (e : List Deed) → spec (after e (dropped d n)) kind name ≡ spec e kind name
  dropped_stays n e = go ((n == 0) || (n == landing_number d n))
    where
      go : (b : Bool) → spec (after e (if b then [] else Drop n ∷ [])) kind name ≡ spec e kind name
      go true = refl
      go false = refl

  pub unsaved : (l : Landing) (n : ℕ) (openings : List Opening)
      → spec (after (Land l ∷ d) (dropped d n ++ flat_map (got_and_shut d) openings)) kind name ≡ spec d kind name
  unsaved l n openings =
      ap (λ (x : List Deed). spec x kind name) (after_joined (Land l ∷ d) (dropped d n) (flat_map (got_and_shut d) openings))
      ∙ got_stays openings (after (Land l ∷ d) (dropped d n)) ∙ dropped_stays n (Land l ∷ d)
