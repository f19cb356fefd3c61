-- The steps on changes, submits among them, stay in the tables that they write.
use Rattle.std.proofs.Common.{ℕ, Bool, true, false, List, [], ◌∷◌, ◌++◌, Option, Some, None, refl}
use Rattle.std.specs.Prelude.{◌&&◌, ◌||◌, ◌==◌, ◌+◌, not, codes, length, is_none, filter_map, flat_map, option_map, unwrap_or, if◌then◌else◌}
use Rattle.std.specs.Option.{option_map_or}
use Rattle.std.specs.List.{cons_option}
use Rattle.depot_model.specs.db_records.declared.table.TableId.{TableId}
use Rattle.depot_model.specs.db_records.declared.table.TableId.TheVariants as ids
use Rattle.depot_model.specs.spec_form.Form.{FormValue}
use Rattle.depot_model.specs.spec_form.Reading.{form_of}
use Rattle.depot_model.specs.spec_form.declared.shape.Shape.TheVariants as shapes
use Rattle.depot_model.specs.Deeds.{Deed, Opening, Pending, Open, Drop, Spec, JobForm}
use Rattle.depot_model.specs.Fixes.{job, closed, closes, closing, renumbers_where, fixes_of, fixed_job}
use Rattle.depot_model.specs.Numbers.{pending, landing, top}
use Rattle.depot_model.specs.Opened.{opened}
use Rattle.depot_model.specs.Step.{refuse_if}
use Rattle.depot_model.specs.Steps.Changing.{change_save, change_form, moved_to, listed_paths, form_number, has_number, change_delete}
use Rattle.depot_model.specs.Steps.Opening.{change_refusal}
use Rattle.depot_model.specs.spec_form.Places.{field_place}
use Rattle.depot_model.specs.declared.refusal.Refusal.TheVariants.{BadForm, NoSuchChange, EmptyChange}
use Rattle.depot_model.specs.Steps.Submitting.{submit, submit_default, submit_change, landed, dropped, got_and_shut, landing_number, openings_of}
use Rattle.depot_model.specs.declared.request.Caller.{Caller}
use Rattle.depot_model.specs.declared.request.Request.{Request}
use Rattle.step_tables.proofs.Combining.{StayIn, Stays, joined, only_tells, done, stays_refused, stays_read}

-- the deeds that a list gives, each some or none
gathered : {A : Type 0} (tables : List TableId) (deeds : A → List Deed) → ((x : A) → StayIn tables (deeds x)) → (xs : List A) → StayIn tables (flat_map deeds xs)
gathered tables deeds h [] = refl
gathered tables deeds h (x ∷ xs) = joined tables (deeds x) (flat_map deeds xs) (h x) (gathered tables deeds h xs)

module _ (d : List Deed) where
  -- ---- pending changes

  module _ (n : ℕ) (caller : Caller) where
    moved_stay : (paths : List (List ℕ)) → StayIn (ids.Counter ∷ ids.Working ∷ ids.Change ∷ []) (filter_map (moved_to n d caller) paths)
    moved_stay [] = refl
    moved_stay (path ∷ paths) = go (opened d caller.client path) (moved_stay paths)
      where
        go : (o : Option Opening) → StayIn (ids.Counter ∷ ids.Working ∷ ids.Change ∷ []) (filter_map (moved_to n d caller) paths)
            → StayIn (ids.Counter ∷ ids.Working ∷ ids.Change ∷ []) (cons_option (option_map (λ (o : Opening). Open (record o { change = n })) o) (filter_map (moved_to n d caller) paths))
        go None later = later
        go (Some o) later = later

  change_form_stays : (request : Request) (input : List ℕ) (form : FormValue) → Stays (ids.Counter ∷ ids.Working ∷ ids.Change ∷ []) (change_form d request input form)
  change_form_stays request input form =
      let n = unwrap_or (form_number form) (top d + 1) in
      stays_refused (refuse_if (not (has_number form)) (BadForm (field_place input (codes "Change")))) _ _ (done _ _ (moved_stay n request.caller (listed_paths form)))

  pub change_save_stays : (request : Request) (input : List ℕ) → Stays (ids.Counter ∷ ids.Working ∷ ids.Change ∷ []) (change_save d request input)
  change_save_stays request input =
      stays_read (change_form d request input) (change_form_stays request input) _ (λ fault. only_tells _) (form_of shapes.Change input)

  pub change_delete_stays : (caller : Caller) (n : ℕ) → Stays (ids.Change ∷ []) (change_delete d caller n)
  change_delete_stays caller n = stays_refused (refuse_if (is_none (pending d n) && is_none (landing d n)) (NoSuchChange n)) _ _ (done _ _ refl)

  -- ---- submits

  abbrev written : List TableId
  written = ids.Counter ∷ ids.Domain ∷ ids.Have ∷ ids.Integed ∷ ids.Resolve ∷ ids.Working ∷ ids.Change ∷ ids.Rev ∷ []

  dropped_stay : (n : ℕ) → StayIn written (dropped d n)
  dropped_stay n = go ((n == 0) || (n == landing_number d n))
    where
      go : (b : Bool) → StayIn written (if b then [] else Drop n ∷ [])
      go true = refl
      go false = refl

  closes_stay : (name : List ℕ) → StayIn written (closes d name)
  closes_stay name = go (job d name)
    where
      go : (o : Option FormValue) → StayIn written (elim o as (λ _. List Deed) [ None ↦ [] | Some form ↦ Spec JobForm name (closed form) ∷ [] ])
      go None = refl
      go (Some form) = refl

  renumbers_stay : (b : Bool) (n m : ℕ) (form : FormValue) → StayIn written (renumbers_where b n m form)
  renumbers_stay true n m form = refl
  renumbers_stay false n m form = refl

  closing_stays : (n : ℕ) (form : FormValue) → StayIn written (closing d n (landing_number d n) form)
  closing_stays n form = joined written (renumbers_where (n == landing_number d n) n (landing_number d n) form) (closes d (fixed_job form))
      (renumbers_stay (n == landing_number d n) n (landing_number d n) form) (closes_stay (fixed_job form))

  landed_stays : (request : Request) (n : ℕ) (text : List ℕ) (openings : List Opening) → Stays written (landed d request n text openings)
  landed_stays request n text openings = record {
    each = joined written (dropped d n ++ flat_map (got_and_shut d) openings) (flat_map (closing d n (landing_number d n)) (fixes_of d n))
        (joined written (dropped d n) (flat_map (got_and_shut d) openings) (dropped_stay n) (gathered written (got_and_shut d) (λ o. refl) openings))
        (gathered written (closing d n (landing_number d n)) (closing_stays n) (fixes_of d n));
  }

  submit_stays : (request : Request) (n : ℕ) (text : List ℕ) → Stays written (submit d request n text)
  submit_stays request n text = stays_refused (refuse_if (length (openings_of d request.caller n) == 0) (EmptyChange n)) _ _
      (landed_stays request n text (openings_of d request.caller n))

  pub submit_default_stays : (request : Request) (text : List ℕ) → Stays written (submit_default d request text)
  submit_default_stays request text = submit_stays request 0 text

  pub submit_change_stays : (request : Request) (n : ℕ) → Stays written (submit_change d request n)
  submit_change_stays request n = stays_refused (change_refusal d request.caller n) _ _ (submit_stays request n (option_map_or (λ (p : Pending). p.text) (pending d n) []))
