-- The fixes of a change, and what a saved fix of a sound depot says.
use Rattle.std.proofs.Common.{◌≡◌, ◌≤◌, ℕ, Bool, true, false, List, [], ◌∷◌, ◌++◌, Option, Some, None, refl, sym, ap, subst, ◌∙◌, arith}
use Rattle.std.specs.Prelude.{◌==◌, nat_le, IsSome, is_some, option_map, flat_map, codes, decimal}
use Rattle.std.specs.List.{filter_map}
use Rattle.std.proofs.lemmas.Bool.{and_parts}
use Rattle.depot_rows.specs.depot_path.Digits.{number_of}
use Rattle.depot_rows.specs.db_records.declared.record.Record.TheVariants as records
use Rattle.depot_rows.specs.spec_form.Form.{FormValue}
use Rattle.depot_rows.specs.spec_form.Printing.{printed_form}
use Rattle.depot_rows.specs.spec_form.declared.shape.Shape.TheVariants.{Fix as FixShape}
use Rattle.depot_rows.specs.depot_model.Deeds.{Deed, Spec, JobForm, FixForm}
use Rattle.depot_rows.specs.depot_model.Fixes.{job, is_on, fixes_on, fixes_of, fix_name, fixed_job, has_fix, closed, closes, closing, renumbers_where}
use Rattle.depot_rows.specs.depot_model.Latest.{keys_of, spec, spec_said, spec_name}
use Rattle.depot_rows.specs.depot_model.Numbers.{top}
use Rattle.depot_rows.specs.depot_model.Numerals.{is_numeral}
use Rattle.depot_rows.specs.depot_model.Records.{record_of}
use Rattle.depot_rows.specs.depot_model.Rules.{IsSound, IsFix, IsOneOf, value_in, top_in}
use Rattle.depot_rows.specs.depot_model.Shelves.{is_of_change}
use Rattle.depot_rows.specs.depot_model.Values.{value_of}
use Rattle.depot_rows.proofs.ChangeCounter.{top_value}
use Rattle.depot_rows.proofs.Entries.{In}
use Rattle.depot_rows.proofs.Keys.{same-is}
use Rattle.depot_facts.specs.Fields.{number_of_field}
use Rattle.depot_facts.proofs.Found.{saved_fix, spec_names, spec_value}
use Rattle.depot_facts.proofs.Listed.{filter_in, filter_map_in, in_filter, in_filter_map}
use Rattle.depot_facts.proofs.Members.{key_in}
use Rattle.depot_facts.proofs.Tests.{le_true}

pub fix_in : (d : List Deed) (n : ℕ) (name : List ℕ) (form : FormValue) → spec d FixForm name ≡ Some form → is_on form ≡ true → is_of_change n form ≡ true → In (fixes_of d n) form
fix_in d n name form e on of_change =
    filter_in (is_of_change n) (fixes_on d) form
    (filter_in is_on (filter_map (spec d FixForm) (keys_of (spec_name FixForm) d)) form
    (filter_map_in (spec d FixForm) (keys_of (spec_name FixForm) d) name form (key_in (spec_said FixForm name) (spec_name FixForm) name form (spec_names FixForm name form) d e) e) on) of_change

-- ---- a fix of a sound depot

module _ (d : List Deed) (sound : IsSound d) where
  -- a fix as its form tells it
  pub record FixTells (name : List ℕ) (form : FormValue) : Type 0 where
    pub named : name ≡ value_of form (codes "Job") ++ 0x20 ∷ value_of form (codes "Change")
    pub job_there : IsSome (job d (value_of form (codes "Job")))
    pub numeral : is_numeral (value_of form (codes "Change")) ≡ true
    pub fits : number_of_field form (codes "Change") ≤ top d
    pub state : IsOneOf (codes "on" ∷ codes "off" ∷ []) (value_of form (codes "State"))

  pub fix_tells : (name : List ℕ) (form : FormValue) → spec d FixForm name ≡ Some form → FixTells name form
  fix_tells name form e = record {
    named = rule.named ∙ (λ i. v (codes "Job") i ++ 0x20 ∷ v (codes "Change") i);
    job_there = subst (λ (x : List ℕ). IsSome (job d x)) (v (codes "Job")) (saved (spec d JobForm (value_in FixShape (codes "Job") (printed_form form))) rule.job);
    numeral = ap is_numeral (sym (v (codes "Change"))) ∙ (and_parts (is_numeral change) (nat_le (number_of change) (top_in (record_of d))) rule.change).0;
    fits = fits;
    state = subst (λ (x : List ℕ). IsOneOf (codes "on" ∷ codes "off" ∷ []) x) (v (codes "State")) rule.state;
  }
    where
      rule : IsFix (record_of d) name (printed_form form)
      rule = saved_fix d sound name form e

      v : (field : List ℕ) → value_in FixShape field (printed_form form) ≡ value_of form field
      v = spec_value d sound FixForm name form e

      change : List ℕ
      change = value_in FixShape (codes "Change") (printed_form form)

      saved : (o : Option FormValue) → is_some (option_map (λ (t : List ℕ). records.Domain (record { kind = codes "job"; name = value_in FixShape (codes "Job") (printed_form form); form = t })) (option_map printed_form o)) ≡ true
          → is_some o ≡ true
      saved None h = h
      saved (Some x) h = refl

      fits : number_of_field form (codes "Change") ≤ top d
      fits =
          let low = le_true (number_of change) (top_in (record_of d)) (and_parts (is_numeral change) (nat_le (number_of change) (top_in (record_of d))) rule.change).1 in
          let value : top_in (record_of d) ≡ top d = top_value d in
          let one : number_of change ≡ number_of_field form (codes "Change") = ap number_of (v (codes "Change")) in
          omega (arith, low, value, one)

  -- a fix of the change
  pub record IsFixOf (n : ℕ) (form : FormValue) : Type 0 where
    pub name : List ℕ
    pub saved : spec d FixForm name ≡ Some form
    pub on : is_on form ≡ true
    pub of_change : value_of form (codes "Change") ≡ decimal n

  pub fix_of : (n : ℕ) (form : FormValue) → In (fixes_of d n) form → IsFixOf n form
  fix_of n form h =
      let a = in_filter (is_of_change n) (fixes_on d) form h in
      let b = in_filter is_on (filter_map (spec d FixForm) (keys_of (spec_name FixForm) d)) form a.0 in
      let c = in_filter_map (spec d FixForm) (keys_of (spec_name FixForm) d) form b.0 in
      record { name = c.0; saved = c.1.1; on = b.1; of_change = same-is (value_of form (codes "Change")) (decimal n) a.1 }

  pub name_of : (n : ℕ) (form : FormValue) (f : IsFixOf n form) → f.name ≡ fix_name (fixed_job form) n
  name_of n form f = (fix_tells f.name form f.saved).named ∙ ap (λ (t : List ℕ). fixed_job form ++ 0x20 ∷ t) f.of_change

  pub fixed : (n : ℕ) (form : FormValue) → In (fixes_of d n) form → has_fix d n (fixed_job form) ≡ true
  fixed n form h =
      let f = fix_of n form h in
      ap (λ (x : List ℕ). elim (spec d FixForm x) as (λ _. Bool) [ None ↦ false | Some g ↦ is_on g ]) (sym (name_of n form f))
      ∙ ap (λ (o : Option FormValue). elim o as (λ _. Bool) [ None ↦ false | Some g ↦ is_on g ]) f.saved ∙ f.on

-- ---- the deeds by which the fixes of a change follow it save forms of fixes and jobs alone

abbrev pub AllForms : List Deed → Type 0
AllForms [] = Unit {0}
AllForms (Spec JobForm name form ∷ deeds) = AllForms deeds
AllForms (Spec FixForm name form ∷ deeds) = AllForms deeds
AllForms (_ ∷ deeds) = ⊥

both_forms : (xs ys : List Deed) → AllForms xs → AllForms ys → AllForms (xs ++ ys)
both_forms [] ys a b = b
both_forms (Spec JobForm name form ∷ xs) ys a b = both_forms xs ys a b
both_forms (Spec FixForm name form ∷ xs) ys a b = both_forms xs ys a b
both_forms (_ ∷ xs) ys a b = absurd a

one_forms : (d : List Deed) (n m : ℕ) (f : FormValue) → AllForms (closing d n m f)
one_forms d n m f = both_forms (renumbers_where (n == m) n m f) (closes d (fixed_job f)) (two (n == m)) (one (job d (fixed_job f)))
  where
    two : (b : Bool) → AllForms (renumbers_where b n m f)
    two true = tt
    two false = tt

    one : (o : Option FormValue) → AllForms (elim o as (λ _. List Deed) [ None ↦ [] | Some h ↦ Spec JobForm (fixed_job f) (closed h) ∷ [] ])
    one None = tt
    one (Some h) = tt

pub all_forms : (d : List Deed) (n m : ℕ) (fs : List FormValue) → AllForms (flat_map (closing d n m) fs)
all_forms d n m [] = tt
all_forms d n m (f ∷ fs) = both_forms (closing d n m f) (flat_map (closing d n m) fs) (one_forms d n m f) (all_forms d n m fs)
