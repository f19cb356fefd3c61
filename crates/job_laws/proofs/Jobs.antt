-- A job after the places of an order.
use Rattle.std.proofs.Common.{◌≡◌, ℕ, Bool, true, false, List, [], ◌∷◌, Option, Some, None, Ok, inl, inr, refl, sym, ap, ◌∙◌}
use Rattle.std.specs.Prelude.{◌&&◌, ◌||◌, decimal, filter_map, is_some}
use Rattle.std.specs.List.{list_any}
use Rattle.depot_model.specs.depot_path.Bytes.{same}
use Rattle.depot_model.specs.spec_form.Form.{FormValue}
use Rattle.depot_model.specs.Commands.{step}
use Rattle.depot_model.specs.Deeds.{Deed, Opening, JobForm, FixForm}
use Rattle.depot_model.specs.Fixes.{fix_name, fixed_job, fixes_of, fixes_on, has_fix, is_on, job}
use Rattle.depot_model.specs.Latest.{keys_of, spec, spec_name}
use Rattle.depot_model.specs.Numbers.{landing}
use Rattle.depot_model.specs.Places.{Placed, done_at, taken}
use Rattle.depot_model.specs.Rules.{IsSound}
use Rattle.depot_model.specs.Shelves.{is_of_change}
use Rattle.depot_model.specs.Step.{after}
use Rattle.depot_model.specs.Steps.Submitting.{landed}
use Rattle.depot_model.specs.declared.command.Command.{Command}
use Rattle.depot_model.specs.declared.command.Command.TheVariants.{JobSave, Fix, SubmitChange, SubmitDefault}
use Rattle.depot_model.specs.declared.request.Request.{Request}
use Rattle.depot_rows.proofs.Entries.{In}
use Rattle.depot_rows.proofs.Keys.{same-is, same-self}
use Rattle.depot_runs.specs.Folds.{command_of, closed_where, closes_by_submit, job_next, job_from, job_state}
use Rattle.depot_facts.proofs.Decimals.{decimal_digits, parts_is}
use Rattle.depot_facts.proofs.Fixes.{fix_in}
use Rattle.depot_facts.proofs.Listed.{in_filter, any_of}
use Rattle.step_forms.proofs.Placing.{at_place}
use Rattle.step_forms.proofs.Staying.{form_stays, spec_after}
use Rattle.step_forms.proofs.Whole.{from_own, step_saves}
use Rattle.step_forms.specs.SavedForms.{saved_kinds}
use Rattle.job_laws.proofs.Closing.{either, is_fix, landed_closes, still}
use Rattle.job_laws.proofs.Named.{AreNamed, place_named, saved_fix, sound_named}
use Rattle.job_laws.proofs.Putting.{fix_closes}
use Rattle.job_laws.proofs.Submits.{of_submit, of_submit_change}

-- ---- a change has a fix of a job

any_out : {A : Type 0} (test : A → Bool) (xs : List A) → list_any test xs ≡ true → (x : A) × (In xs x × (test x ≡ true))
any_out test [] e = absurd cc
any_out test (y ∷ ys) e = go (test y) refl e (any_out test ys)
  where
    go : (b : Bool) → test y ≡ b → (b || list_any test ys) ≡ true → (list_any test ys ≡ true → (x : _) × (In ys x × (test x ≡ true)))
        → (x : _) × (In (y ∷ ys) x × (test x ≡ true))
    go true h f later = (y, (inl refl, h))
    go false h f later = let found = later f in (found.0, (inr found.1.0, found.1.1))

module _ (d : List Deed) (named : AreNamed d) (n : ℕ) (name : List ℕ) where
  there : has_fix d n name ≡ true → list_any (is_fix d name) (fixes_of d n) ≡ true
  there = go (spec d FixForm (fix_name name n)) refl
    where
      go : (o : Option FormValue) → spec d FixForm (fix_name name n) ≡ o → (elim o as (λ _. Bool) [ None ↦ false | Some form ↦ is_on form ]) ≡ true
          → list_any (is_fix d name) (fixes_of d n) ≡ true
      go None e h = absurd cc
      go (Some form) e h =
          let is = named (fix_name name n) form e in
          let parts = parts_is name (fixed_job form) (decimal n) (decimal is.number) (decimal_digits n) (decimal_digits is.number) is.named in
          let of_change : is_of_change n form ≡ true =
          ap (λ (t : List ℕ). same t (decimal n)) (is.of_change ∙ sym parts.1) ∙ same-self (decimal n) in
          let mine : is_fix d name form ≡ true = ap (λ (t : List ℕ). same t name) (sym parts.0) ∙ same-self name in
          any_of (is_fix d name) (fixes_of d n) form (fix_in d n (fix_name name n) form e h of_change) mine

  back : list_any (is_fix d name) (fixes_of d n) ≡ true → has_fix d n name ≡ true
  back h =
      let found = any_out (is_fix d name) (fixes_of d n) h in
      let of_change = in_filter (is_of_change n) (fixes_on d) found.0 found.1.0 in
      let on = in_filter is_on (filter_map (spec d FixForm) (keys_of (spec_name FixForm) d)) found.0 of_change.0 in
      let saved = ap (λ (x : List ℕ). spec d FixForm (fix_name x n)) (sym (same-is (fixed_job found.0) name found.1.1)) ∙ saved_fix d named n found.0 found.1.0 in
      ap (λ (o : Option FormValue). elim o as (λ _. Bool) [ None ↦ false | Some f ↦ is_on f ]) saved ∙ on.1

  pub fixed_alike : list_any (is_fix d name) (fixes_of d n) ≡ has_fix d n name
  fixed_alike = either (list_any (is_fix d name) (fixes_of d n)) (has_fix d n name) back there

  abbrev Submits : List Deed → Type 0
  Submits deeds = job (after d deeds) name ≡ closed_where (closes_by_submit d name n deeds) (job d name)

  landed_submits : (request : Request) (text : List ℕ) (openings : List Opening) → Submits (landed d request n text openings).deeds
  landed_submits request text openings =
      still d name (after d (landed d request n text openings).deeds) (list_any (is_fix d name) (fixes_of d n)) (has_fix d n name) fixed_alike
      (landed_closes d name request n text openings)

-- ---- places

module _ (name : List ℕ) where
  module _ (d : List Deed) (named : AreNamed d) where
    abbrev Next : Option Command → List Deed → Type 0
    Next command deeds = job (after d deeds) name ≡ job_next command d name deeds (job d name)

    no_fix : (n : ℕ) → job d name ≡ job_next (Some (Fix n [])) d name [] (job d name)
    no_fix n = go (is_some (landing d n))
      where
        go : (b : Bool) → job d name ≡ closed_where (b && false) (job d name)
        go true = refl
        go false = refl

    nothing_done : (command : Option Command) → Next command []
    nothing_done None = refl
    nothing_done (Some JobSave) = refl
    nothing_done (Some (SubmitChange n)) = refl
    nothing_done (Some (SubmitDefault text)) = refl
    nothing_done (Some (Fix n names)) = no_fix n
    nothing_done (Some command) = refl

    step_done : (request : Request) (command : Command) → request.command ≡ Ok command → Next (Some command) (step d request).deeds
    step_done request JobSave is = spec_after JobForm name d (step d request).deeds
    step_done request (SubmitChange n) is =
        from_own d request (Submits d named n name) refl (SubmitChange n) is
        (of_submit_change d request n (Submits d named n name) refl (landed_submits d named n name request))
    step_done request (SubmitDefault text) is =
        from_own d request (Submits d named 0 name) refl (SubmitDefault text) is
        (of_submit d request 0 (Submits d named 0 name) refl (landed_submits d named 0 name request) text)
    step_done request (Fix n names) is =
        from_own d request (λ deeds. Next (Some (Fix n names)) deeds) (no_fix n) (Fix n names) is (fix_closes d request.caller n name names)
    step_done request command is =
        form_stays (saved_kinds command) JobForm refl name d (step d request).deeds (step_saves d request command is).all

  all_places : (places : List Placed) (d : List Deed) → AreNamed d → (before : Option FormValue) → job d name ≡ before
      → job (taken step d places) name ≡ job_from step d places name before
  all_places [] d named before e = e
  all_places (p ∷ places) d named before e =
      all_places places (after d (done_at step d p)) (place_named d named p) (job_next (command_of p) d name (done_at step d p) before)
      (at_place d (Next d named) (nothing_done d named) (step_done d named) p ∙ ap (job_next (command_of p) d name (done_at step d p)) e)

pub folded_jobs : (d : List Deed) → IsSound d → (places : List Placed) (name : List ℕ) → job (taken step d places) name ≡ job_state step d places name
folded_jobs d sound places name = all_places name places d (sound_named d sound) (job d name) refl
