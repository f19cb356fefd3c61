-- The step that takes fixes off.
use Rattle.std.proofs.Common.{◌≡◌, ◌≤◌, ℕ, Bool, true, false, List, [], ◌∷◌, ◌++◌, Option, Some, None, refl, sym, ap, subst, ◌∙◌}
use Rattle.std.specs.Prelude.{◌&&◌, not, codes, map, IsSome, if◌then◌else◌}
use Rattle.std.specs.List.{list_all}
use Rattle.std.specs.Option.{option_or}
use Rattle.std.proofs.lemmas.Bool.{and_parts}
use Rattle.depot_rows.specs.depot_path.Bytes.{same}
use Rattle.depot_rows.specs.depot_path.Digits.{number_of}
use Rattle.depot_rows.specs.spec_form.Form.{FormValue, with_field, has_field}
use Rattle.depot_rows.specs.depot_model.Deeds.{Deed, Spec, FixForm}
use Rattle.depot_rows.specs.depot_model.Fixes.{job, fix_name, has_fix, is_on}
use Rattle.depot_rows.specs.depot_model.Latest.{spec, spec_said, latest, when}
use Rattle.depot_rows.specs.depot_model.Numbers.{top}
use Rattle.depot_rows.specs.depot_model.Numerals.{is_numeral}
use Rattle.depot_rows.specs.depot_model.Rules.{IsSound, IsOneOf, IsSpelled}
use Rattle.depot_rows.specs.depot_model.Step.{Step, nothing, after, all_of}
use Rattle.depot_rows.specs.depot_model.Steps.Jobs.{unfix, unfix_job, fix_delete, distinct, is_change, no_job}
use Rattle.depot_rows.specs.depot_model.declared.refusal.Refusal.TheVariants.{NoSuchChange}
use Rattle.depot_rows.specs.depot_model.Step.{refuse_if}
use Rattle.sound_deeds.specs.Keeping.{FixKeeps, FixesFit}
use Rattle.sound_deeds.proofs.Whole.{one_sound}
use Rattle.depot_facts.proofs.Fields.{other_value, own_value, has_valued, state_spelled}
use Rattle.depot_facts.proofs.Found.{spelled}
use Rattle.depot_facts.proofs.Steps.{AllOf, joined, unless_all}
use Rattle.depot_facts.proofs.Fixes.{FixTells, fix_tells}
use Rattle.sound_deeds.proofs.Ties.{fixes_fit}

-- fixes that are off
pub record IsOff (d : List Deed) (deed : Deed) : Type 0 where
  pub name : List ℕ
  pub form : FormValue
  pub is : deed ≡ Spec FixForm name form
  pub spelled : IsSpelled FixForm form
  pub keeps : FixKeeps d name form
  pub off : is_on form ≡ false

module _ (d : List Deed) (name : List ℕ) (form : FormValue) where
  -- a fix that is on is so before one is off
  on_before : is_on form ≡ false → (n : ℕ) (job : List ℕ) → has_fix (Spec FixForm name form ∷ d) n job ≡ true → has_fix d n job ≡ true
  on_before off n job h = go (same name (fix_name job n)) h
    where
      go : (b : Bool) → (elim (option_or (when b form) (latest (spec_said FixForm (fix_name job n)) d)) as (λ _. Bool) [ None ↦ false | Some f ↦ is_on f ]) ≡ true
          → has_fix d n job ≡ true
      go true k = absurd (let clash : true ≡ false = sym k ∙ off in cc)
      go false k = k

  all_before : is_on form ≡ false → (n : ℕ) (jobs : List (List ℕ)) → list_all (has_fix (Spec FixForm name form ∷ d) n) jobs ≡ true → list_all (has_fix d n) jobs ≡ true
  all_before off n [] e = refl
  all_before off n (job ∷ jobs) e =
      (λ i. on_before off n job (and_parts (has_fix (Spec FixForm name form ∷ d) n job) (list_all (has_fix (Spec FixForm name form ∷ d) n) jobs) e).0 i && list_all (has_fix d n) jobs)
      ∙ all_before off n jobs (and_parts (has_fix (Spec FixForm name form ∷ d) n job) (list_all (has_fix (Spec FixForm name form ∷ d) n) jobs) e).1

  still_fit : is_on form ≡ false → FixesFit d → FixesFit (Spec FixForm name form ∷ d)
  still_fit off fit n jobs apart all = fit n jobs apart (all_before off n jobs all)

  off_sound : IsSound d → IsSpelled FixForm form → FixKeeps d name form → is_on form ≡ false → IsSound (Spec FixForm name form ∷ d)
  off_sound sound is keeps off = one_sound d (Spec FixForm name form) sound refl (is, keeps)
      ((λ on. absurd (let clash : true ≡ false = sym on ∙ off in cc)), still_fit off (fixes_fit d sound))

  still_off : (deeds : List Deed) → AllOf (IsOff d) deeds → AllOf (IsOff (Spec FixForm name form ∷ d)) deeds
  still_off [] m = tt
  still_off (deed ∷ deeds) m = (
    record {
      name = (m.0).name;
      form = (m.0).form;
      is = (m.0).is;
      spelled = (m.0).spelled;
      keeps = record {
        named = ((m.0).keeps).named;
        job = ((m.0).keeps).job;
        change_is = ((m.0).keeps).change_is;
        change_fits = ((m.0).keeps).change_fits;
        state = ((m.0).keeps).state;
      };
      off = (m.0).off;
    },
    still_off deeds m.1,
  )

pub offs_sound : (d deeds : List Deed) → IsSound d → AllOf (IsOff d) deeds → IsSound (after d deeds)
offs_sound d [] sound m = sound
offs_sound d (deed ∷ deeds) sound m =
    let first : Deed = Spec FixForm (m.0).name (m.0).form in
    let here : IsSound (first ∷ d) = off_sound d (m.0).name (m.0).form sound (m.0).spelled (m.0).keeps (m.0).off in
    subst (λ (x : Deed). IsSound (after (x ∷ d) deeds)) (sym (m.0).is) (offs_sound (first ∷ d) deeds here (still_off d (m.0).name (m.0).form deeds m.1))

-- ---- fix -d

module _ (d : List Deed) (sound : IsSound d) (n : ℕ) (name : List ℕ) (form : FormValue) (saved : spec d FixForm (fix_name name n) ≡ Some form) (on : is_on form ≡ true) where
  fix : FixTells d sound (fix_name name n) form
  fix = fix_tells d sound (fix_name name n) form saved

  is_form : IsSpelled FixForm form
  is_form = spelled d sound FixForm (fix_name name n) form saved

  abbrev off_form : FormValue
  off_form = with_field (codes "State") (codes "off") form

  has_state : has_field (codes "State") form.fields ≡ true
  has_state = has_valued (codes "State") form.fields (λ none. absurd (let e : same [] (codes "on") ≡ true = ap (λ (w : List ℕ). same w (codes "on")) (sym none) ∙ on in cc))

  off_meets : IsOff d (Spec FixForm (fix_name name n) off_form)
  off_meets =
      let jobs = other_value (codes "State") (codes "off") form (codes "Job") refl in
      let changes = other_value (codes "State") (codes "off") form (codes "Change") refl in
      let states = own_value (codes "State") (codes "off") form has_state in
      record {
        name = fix_name name n;
        form = off_form;
        is = refl;
        spelled = state_spelled form (codes "off") is_form has_state refl;
        keeps = record {
          named = fix.named ∙ (λ i. sym jobs i ++ 0x20 ∷ sym changes i);
          job = subst (λ (w : List ℕ). IsSome (job d w)) (sym jobs) fix.job_there;
          change_is = ap is_numeral changes ∙ fix.numeral;
          change_fits = subst (λ (m : ℕ). m ≤ top d) (ap number_of (sym changes)) fix.fits;
          state = subst (λ (w : List ℕ). IsOneOf (codes "on" ∷ codes "off" ∷ []) w) (sym states) refl;
        };
        off = ap (λ (w : List ℕ). same w (codes "on")) states;
      }

module _ (d : List Deed) (sound : IsSound d) (n : ℕ) where
  job_off : (name : List ℕ) → AllOf (IsOff d) (unfix_job d n name).deeds
  job_off name = go (spec d FixForm (fix_name name n)) refl
    where
      go : (o : Option FormValue) → spec d FixForm (fix_name name n) ≡ o
          → AllOf (IsOff d) (elim o as (λ _. Step) [
            | None ↦ nothing
            | Some form ↦ if (elim o as (λ _. Bool) [ None ↦ false | Some f ↦ is_on f ]) then unfix n name form else nothing
          ]).deeds
      go None e = tt
      go (Some form) e = test (is_on form) refl
        where
          test : (b : Bool) → is_on form ≡ b → AllOf (IsOff d) (if b then unfix n name form else nothing).deeds
          test true on = (off_meets d sound n name form e on, tt)
          test false on = tt

  pub fix_delete_sound : (names : List (List ℕ)) → IsSound (after d (fix_delete d n names).deeds)
  fix_delete_sound names = offs_sound d (fix_delete d n names).deeds sound
      (unless_all (IsOff d) (refuse_if (not (is_change d n)) (NoSuchChange n) ∷ map (no_job d) names) (all_of (unfix_job d n) (distinct names))
      (λ none. each (distinct names)))
    where
      each : (xs : List (List ℕ)) → AllOf (IsOff d) (all_of (unfix_job d n) xs).deeds
      each [] = tt
      each (x ∷ xs) = joined (IsOff d) (unfix_job d n x).deeds (all_of (unfix_job d n) xs).deeds (job_off x) (each xs)
