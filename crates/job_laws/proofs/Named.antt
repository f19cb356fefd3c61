-- Fixes have the names that their forms tell, in every sound depot and after every place.
use Rattle.std.proofs.Common.{◌≡◌, ◌≢◌, ◌/◌, ◌%◌, ℕ, zero, suc, Bool, true, false, List, [], ◌∷◌, ◌++◌, Option, Some, None, Ok, refl, sym, ap, ◌∙◌}
use Rattle.std.specs.Prelude.{◌||◌, ◌==◌, codes, decimal, filter_map, flat_map, is_some, map, nat_lt, not, if◌then◌else◌}
use Rattle.std.specs.Fmt.{digits, digits_onto, digit_glyph}
use Rattle.std.specs.List.{list_all}
use Rattle.std.specs.Option.{option_or}
use Rattle.std.proofs.lemmas.Option.{same_Some}
use Rattle.std.proofs.lemmas.Bool.{and_parts}
use Rattle.depot_model.specs.depot_path.Bytes.{same}
use Rattle.depot_model.specs.depot_path.Digits.{number_of}
use Rattle.depot_model.specs.spec_form.Form.{FormValue, with_field}
use Rattle.depot_model.specs.Commands.{step}
use Rattle.depot_model.specs.Deeds.{Deed, Opening, Drop, Spec, ClientForm, LabelForm, ShelfForm, JobForm, FixForm}
use Rattle.depot_model.specs.Fixes.{closed, closes, closing, fix_name, fixed_job, fixes_of, fixes_on, has_fix, is_on, job, renumbers_where}
use Rattle.depot_model.specs.Latest.{latest, when, keys_of, spec, spec_name, spec_said}
use Rattle.depot_model.specs.Numbers.{landing}
use Rattle.depot_model.specs.Places.{Placed, done_at}
use Rattle.depot_model.specs.Rules.{IsSound}
use Rattle.depot_model.specs.Shelves.{is_of_change}
use Rattle.depot_model.specs.Step.{Step, nothing, after, all_of, refuse_if}
use Rattle.depot_model.specs.Steps.Jobs.{fix, fix_job, fix_delete, unfix, unfix_job, closes_where, distinct, fixes_then, is_change, no_job}
use Rattle.depot_model.specs.Steps.Submitting.{dropped, got_and_shut, landed, landing_number}
use Rattle.depot_model.specs.Values.{value_of}
use Rattle.depot_model.specs.declared.command.Command.{Command}
use Rattle.depot_model.specs.declared.command.Command.TheVariants.{Fix, FixDelete, SubmitChange, SubmitDefault}
use Rattle.depot_model.specs.declared.refusal.Limit.TheVariants.{Fixes}
use Rattle.depot_model.specs.declared.refusal.Refusal.TheVariants.{NoSuchChange, OverLimit}
use Rattle.depot_model.specs.declared.request.Caller.{Caller}
use Rattle.depot_model.specs.declared.request.Request.{Request}
use Rattle.depot_rows.proofs.Keys.{same-is}
use Rattle.depot_facts.proofs.Steps.{AllOf, joined, passed}
use Rattle.depot_facts.proofs.Fields.{value_back, other_value, own_value, has_valued}
use Rattle.depot_facts.proofs.Decimals.{numeral_is}
use Rattle.depot_facts.proofs.Fixes.{fix_tells}
use Rattle.depot_facts.proofs.Listed.{in_filter, in_filter_map}
use Rattle.depot_rows.proofs.Entries.{In}
use Rattle.step_forms.proofs.Combining.{unless_holds}
use Rattle.step_forms.proofs.Placing.{at_place}
use Rattle.step_forms.proofs.Staying.{form_stays}
use Rattle.step_forms.proofs.Whole.{from_own, step_saves}
use Rattle.step_forms.specs.SavedForms.{saved_kinds}
use Rattle.job_laws.proofs.Submits.{of_submit, of_submit_change}

-- a number has a digit
more_digits : (k n x : ℕ) (acc : List ℕ) → digits_onto k 10 false n (x ∷ acc) ≢ []
more_digits zero n x acc = λ e. cc
more_digits (suc k) n x acc = go (n / 10 == 0) (more_digits k (n / 10) (digit_glyph false (n % 10)) (x ∷ acc))
  where
    go : (b : Bool) → digits_onto k 10 false (n / 10) (digit_glyph false (n % 10) ∷ x ∷ acc) ≢ [] → (if b then digit_glyph false (n % 10) ∷ x ∷ acc else digits_onto k 10 false (n / 10) (digit_glyph false (n % 10) ∷ x ∷ acc)) ≢ []
    go true later e = cc
    go false later e = later e

some_digit : (n : ℕ) → decimal n ≢ []
unfolding digits
some_digit n = go (n / 10 == 0)
  where
    go : (b : Bool) → (if b then digit_glyph false (n % 10) ∷ [] else digits_onto 63 10 false (n / 10) (digit_glyph false (n % 10) ∷ [])) ≢ []
    go true e = cc
    go false e = more_digits 63 (n / 10) (digit_glyph false (n % 10)) [] e

-- ---- a fix has the name of its job and its change

pub record IsNamed (key : List ℕ) (form : FormValue) : Type 0 where
  pub number : ℕ
  pub named : key ≡ fix_name (fixed_job form) number
  pub of_change : value_of form (codes "Change") ≡ decimal number

abbrev pub AreNamed : List Deed → Type 0
AreNamed d = (key : List ℕ) (form : FormValue) → spec d FixForm key ≡ Some form → IsNamed key form

abbrev Named : Deed → Type 0
Named (Spec FixForm key form) = IsNamed key form
Named _ = Unit {0}

pub sound_named : (d : List Deed) → IsSound d → AreNamed d
sound_named d sound key form e =
    let tells = fix_tells d sound key form e in
    let change = numeral_is (value_of form (codes "Change")) tells.numeral in
    record { number = number_of (value_of form (codes "Change")); named = tells.named ∙ ap (λ (t : List ℕ). fixed_job form ++ 0x20 ∷ t) change; of_change = change }

-- a fix of a change is saved under its job's name and the change's number
pub saved_fix : (d : List Deed) → AreNamed d → (n : ℕ) (form : FormValue) → In (fixes_of d n) form → spec d FixForm (fix_name (fixed_job form) n) ≡ Some form
saved_fix d named n form h =
    let of_change = in_filter (is_of_change n) (fixes_on d) form h in
    let on = in_filter is_on (filter_map (spec d FixForm) (keys_of (spec_name FixForm) d)) form of_change.0 in
    let saved = in_filter_map (spec d FixForm) (keys_of (spec_name FixForm) d) form on.0 in
    let is = named saved.0 form saved.1.1 in
    let number : decimal is.number ≡ decimal n = sym is.of_change ∙ same-is (value_of form (codes "Change")) (decimal n) of_change.1 in
    ap (spec d FixForm) (sym (is.named ∙ ap (λ (t : List ℕ). fixed_job form ++ 0x20 ∷ t) number)) ∙ saved.1.1

one_named : (d : List Deed) → AreNamed d → (deed : Deed) → Named deed → AreNamed (deed ∷ d)
one_named d named (Spec FixForm m f) is key form e = go (same m key) refl e
  where
    go : (b : Bool) → same m key ≡ b → option_or (when b f) (latest (spec_said FixForm key) d) ≡ Some form → IsNamed key form
    go true s h =
        let one : f ≡ form = same_Some _ _ h in
        record {
          number = is.number;
          named = sym (same-is m key s) ∙ is.named ∙ ap (λ (x : FormValue). fix_name (fixed_job x) is.number) one;
          of_change = ap (λ (x : FormValue). value_of x (codes "Change")) (sym one) ∙ is.of_change;
        }
    go false s h = named key form h
one_named d named (Spec ClientForm m f) is key form e = named key form e
one_named d named (Spec LabelForm m f) is key form e = named key form e
one_named d named (Spec ShelfForm m f) is key form e = named key form e
one_named d named (Spec JobForm m f) is key form e = named key form e
one_named d named deed is key form e = named key form e

after_named : (deeds d : List Deed) → AreNamed d → AllOf Named deeds → AreNamed (after d deeds)
after_named [] d named all = named
after_named (deed ∷ deeds) d named all = after_named deeds (deed ∷ d) (one_named d named deed all.0) all.1

-- ---- the forms that are saved

off_named : (key : List ℕ) (form : FormValue) → IsNamed key form → IsNamed key (with_field (codes "State") (codes "off") form)
off_named key form is = record {
  number = is.number;
  named = is.named ∙ ap (λ (x : List ℕ). fix_name x is.number) (sym (other_value (codes "State") (codes "off") form (codes "Job") refl));
  of_change = other_value (codes "State") (codes "off") form (codes "Change") refl ∙ is.of_change;
}

each_named : {A : Type 0} (act : A → Step) → ((x : A) → AllOf Named (act x).deeds) → (xs : List A) → AllOf Named (all_of act xs).deeds
each_named act h [] = tt
each_named act h (x ∷ xs) = joined Named (act x).deeds (all_of act xs).deeds (h x) (each_named act h xs)

module _ (d : List Deed) where
  closes_named : (name : List ℕ) → AllOf Named (closes d name)
  closes_named name = go (job d name)
    where
      go : (o : Option FormValue) → AllOf Named (elim o as (λ _. List Deed) [ None ↦ [] | Some form ↦ Spec JobForm name (closed form) ∷ [] ])
      go None = tt
      go (Some form) = (tt, tt)

  closed_named : (b : Bool) (name : List ℕ) → AllOf Named (closes_where d b name)
  closed_named true name = closes_named name
  closed_named false name = tt

  fix_job_named : (caller : Caller) (n : ℕ) (name : List ℕ) → AllOf Named (fix_job d caller n name).deeds
  fix_job_named caller n name = (
    record { number = n; named = ap (λ (x : List ℕ). fix_name x n) (sym (value_back name)); of_change = value_back (decimal n) },
    closed_named (is_some (landing d n)) name,
  )

  fix_named : (caller : Caller) (n : ℕ) (names : List (List ℕ)) → AllOf Named (fix d caller n names).deeds
  fix_named caller n names =
      unless_holds (AllOf Named) tt (
      refuse_if (not (is_change d n)) (NoSuchChange n) ∷ map (no_job d) names ++ refuse_if (nat_lt 100 (fixes_then d n names)) (OverLimit Fixes) ∷ []
      ) (all_of (fix_job d caller n) (distinct names)) (each_named (fix_job d caller n) (fix_job_named caller n) (distinct names))

  unfix_named : AreNamed d → (n : ℕ) (name : List ℕ) → AllOf Named (unfix_job d n name).deeds
  unfix_named named n name = go (spec d FixForm (fix_name name n)) refl (has_fix d n name)
    where
      go : (o : Option FormValue) → spec d FixForm (fix_name name n) ≡ o → (b : Bool)
          → AllOf Named (elim o as (λ _. Step) [ None ↦ nothing | Some form ↦ if b then unfix n name form else nothing ]).deeds
      go None e b = tt
      go (Some form) e true = (off_named (fix_name name n) form (named (fix_name name n) form e), tt)
      go (Some form) e false = tt

  fix_delete_named : AreNamed d → (n : ℕ) (names : List (List ℕ)) → AllOf Named (fix_delete d n names).deeds
  fix_delete_named named n names =
      unless_holds (AllOf Named) tt (refuse_if (not (is_change d n)) (NoSuchChange n) ∷ map (no_job d) names) (all_of (unfix_job d n) (distinct names))
      (each_named (unfix_job d n) (unfix_named named n) (distinct names))

  -- ---- submits

  module _ (n m : ℕ) where
    renumbers_named : (form : FormValue) → value_of form (codes "Change") ≡ decimal n → (b : Bool) → AllOf Named (renumbers_where b n m form)
    renumbers_named form of_change true = tt
    renumbers_named form of_change false = (
      off_named (fix_name (fixed_job form) n) form (record { number = n; named = refl; of_change = of_change }),
      (
        record {
          number = m;
          named = ap (λ (x : List ℕ). fix_name x m) (sym (other_value (codes "Change") (decimal m) form (codes "Job") refl));
          of_change =
              own_value (codes "Change") (decimal m) form (has_valued (codes "Change") form.fields (λ none. some_digit n (sym of_change ∙ none)));
        },
        tt,
      ),
    )

    closing_named : (form : FormValue) → is_of_change n form ≡ true → AllOf Named (closing d n m form)
    closing_named form is =
        joined Named (renumbers_where (n == m) n m form) (closes d (fixed_job form))
        (renumbers_named form (same-is (value_of form (codes "Change")) (decimal n) is) (n == m)) (closes_named (fixed_job form))

    closings_named : (forms : List FormValue) → list_all (is_of_change n) forms ≡ true → AllOf Named (flat_map (closing d n m) forms)
    closings_named [] all = tt
    closings_named (form ∷ forms) all =
        joined Named (closing d n m form) (flat_map (closing d n m) forms)
        (closing_named form (and_parts (is_of_change n form) (list_all (is_of_change n) forms) all).0)
        (closings_named forms (and_parts (is_of_change n form) (list_all (is_of_change n) forms) all).1)

  got_named : (openings : List Opening) → AllOf Named (flat_map (got_and_shut d) openings)
  got_named [] = tt
  got_named (o ∷ openings) = (tt, (tt, got_named openings))

  dropped_named : (n : ℕ) → AllOf Named (dropped d n)
  dropped_named n = go ((n == 0) || (n == landing_number d n))
    where
      go : (b : Bool) → AllOf Named (if b then [] else Drop n ∷ [])
      go true = tt
      go false = (tt, tt)

  landed_named : (request : Request) (n : ℕ) (text : List ℕ) (openings : List Opening) → AllOf Named (landed d request n text openings).deeds
  landed_named request n text openings = (
    tt,
    joined Named (dropped d n ++ flat_map (got_and_shut d) openings) (flat_map (closing d n (landing_number d n)) (fixes_of d n))
        (joined Named (dropped d n) (flat_map (got_and_shut d) openings) (dropped_named n) (got_named openings))
        (closings_named n (landing_number d n) (fixes_of d n) (passed (is_of_change n) (fixes_on d))),
  )

-- ---- places

module _ (d : List Deed) (named : AreNamed d) where
  by_deeds : (request : Request) (command : Command) → request.command ≡ Ok command → AllOf Named (step d request).deeds → AreNamed (after d (step d request).deeds)
  by_deeds request command is all = after_named (step d request).deeds d named all

  step_named : (request : Request) (command : Command) → request.command ≡ Ok command → AreNamed (after d (step d request).deeds)
  step_named request (Fix n names) is =
      by_deeds request (Fix n names) is (from_own d request (AllOf Named) tt (Fix n names) is (fix_named d request.caller n names))
  step_named request (FixDelete n names) is =
      by_deeds request (FixDelete n names) is (from_own d request (AllOf Named) tt (FixDelete n names) is (fix_delete_named d named n names))
  step_named request (SubmitChange n) is =
      by_deeds request (SubmitChange n) is (from_own d request (AllOf Named) tt (SubmitChange n) is
      (of_submit_change d request n (AllOf Named) tt (landed_named d request n)))
  step_named request (SubmitDefault text) is =
      by_deeds request (SubmitDefault text) is (from_own d request (AllOf Named) tt (SubmitDefault text) is
      (of_submit d request 0 (AllOf Named) tt (landed_named d request 0) text))
  step_named request command is = λ key form e.
      named key form (sym (form_stays (saved_kinds command) FixForm refl key d (step d request).deeds (step_saves d request command is).all) ∙ e)

  pub place_named : (p : Placed) → AreNamed (after d (done_at step d p))
  place_named p = at_place d (λ command deeds. AreNamed (after d deeds)) (λ command. named) step_named p
