-- The step that saves a job.
use Rattle.std.proofs.Common.{◌≡◌, ◌≢◌, ◌≤◌, ◌<◌, ◌+◌, ◌^◌, ℕ, Bool, true, false, List, [], ◌∷◌, ◌++◌, length, drop, Option, Some, None, Result, Ok, Err, refl, sym, ap, ◌∙◌, arith}
use Rattle.std.specs.Prelude.{◌&&◌, ◌==◌, not, codes, decimal, nat_le, nat_lt, is_none, if◌then◌else◌}
use Rattle.std.specs.List.{list_all}
use Rattle.std.proofs.lemmas.Bool.Decides.{nat_tests}
use Rattle.std.proofs.lemmas.Fmt.{length-decimal-le}
use Rattle.std.proofs.lemmas.Bool.{and_from, and_parts}
use Rattle.depot_rows.specs.depot_path.Bytes.{same, is_digit, begins_with}
use Rattle.depot_rows.specs.depot_path.Digits.{number_of}
use Rattle.depot_rows.specs.depot_path.Utf8.{is_utf8}
use Rattle.depot_rows.proofs.spec_form.Utf8.{ascii-cons}
use Rattle.depot_rows.specs.spec_form.Form.{FormValue, with_field, has_field, is_value}
use Rattle.depot_rows.specs.spec_form.Places.{field_place}
use Rattle.depot_rows.specs.spec_form.Printing.{printed_form}
use Rattle.depot_rows.specs.spec_form.Reading.{form_of}
use Rattle.depot_rows.specs.spec_form.declared.fault.FormFault.{FormFault}
use Rattle.depot_rows.specs.spec_form.declared.shape.Shape.TheVariants.{Job as JobShape}
use Rattle.depot_rows.specs.depot_model.Deeds.{Deed, Spec, JobForm}
use Rattle.depot_rows.specs.depot_model.Fixes.{job, job_name, last_job}
use Rattle.depot_rows.specs.depot_model.Rules.{IsSound, is_job_name}
use Rattle.depot_rows.specs.depot_model.Step.{Step, refuses, after, refuse_if}
use Rattle.depot_rows.specs.depot_model.Steps.Jobs.{is_new, is_status, saved_name, saved, save_form, job_save}
use Rattle.depot_rows.specs.depot_model.Values.{value_of}
use Rattle.depot_rows.specs.depot_model.declared.refusal.Refusal.TheVariants.{BadForm, NoSuchJob, OverLimit}
use Rattle.depot_rows.specs.depot_model.declared.refusal.Limit.TheVariants.{Text, Jobs}
use Rattle.depot_rows.proofs.Keys.{same-is, same-self}
use Rattle.sound_deeds.proofs.Whole.{one_sound}
use Rattle.depot_facts.proofs.Fields.{other_value, own_value, has_valued, job_spelled}
use Rattle.depot_facts.proofs.Found.{saved_job}
use Rattle.depot_facts.proofs.Decimals.{Writes, written, digits_without, digits_utf8}
use Rattle.depot_facts.proofs.Spelled.{spelled_is}
use Rattle.depot_facts.proofs.Steps.{not_refused, unless_sound}
use Rattle.depot_facts.proofs.Tests.{not_false}

-- ---- names of jobs

pub named_job : (rest : List ℕ) → list_all is_digit rest ≡ true → is_value (106 ∷ 111 ∷ 98 ∷ rest) ≡ true
named_job rest all =
    and_from _ _
    (and_from (is_utf8 (106 ∷ 111 ∷ 98 ∷ rest)) _
    (ascii-cons 106 (111 ∷ 98 ∷ rest) (omega arith) ∙ ascii-cons 111 (98 ∷ rest) (omega arith) ∙ ascii-cons 98 rest (omega arith) ∙ digits_utf8 rest all)
    (ap not (digits_without 0x0A refl rest all)))
    (same-self (106 ∷ 111 ∷ 98 ∷ rest))

pub record IsJobName (name : List ℕ) : Type 0 where
  pub rest : List ℕ
  pub is : name ≡ 106 ∷ 111 ∷ 98 ∷ rest
  pub digits : list_all is_digit rest ≡ true

job_parts : (name : List ℕ) → is_job_name name ≡ true → (begins_with name (codes "job") ≡ true) × (list_all is_digit (drop 3 name) ≡ true)
job_parts name e =
    let three = (and_parts (begins_with name (codes "job") && (length name == 9) && list_all is_digit (drop 3 name)) (nat_le 1 (number_of (drop 3 name))) e).0 in
    let two = (and_parts (begins_with name (codes "job") && (length name == 9)) (list_all is_digit (drop 3 name)) three).0 in
    ((and_parts (begins_with name (codes "job")) (length name == 9) two).0, (and_parts (begins_with name (codes "job") && (length name == 9)) (list_all is_digit (drop 3 name)) three).1)

begun : (name : List ℕ) → begins_with name (codes "job") ≡ true → list_all is_digit (drop 3 name) ≡ true → IsJobName name
begun [] e all = absurd (let f : codes "job" ≡ [] = same-is (codes "job") [] e in cc)
begun (a ∷ []) e all = absurd (let f : codes "job" ≡ a ∷ [] = same-is (codes "job") (a ∷ []) e in cc)
begun (a ∷ b ∷ []) e all = absurd (let f : codes "job" ≡ a ∷ b ∷ [] = same-is (codes "job") (a ∷ b ∷ []) e in cc)
begun (a ∷ b ∷ c ∷ rest) e all =
    let f : codes "job" ≡ a ∷ b ∷ c ∷ [] = same-is (codes "job") (a ∷ b ∷ c ∷ []) e in
    let one : a ≡ 106 = cc in
    let two : b ≡ 111 = cc in
    let three : c ≡ 98 = cc in
    record { rest = rest; is = (λ i. one i ∷ two i ∷ three i ∷ rest); digits = all }

pub job_shape : (name : List ℕ) → is_job_name name ≡ true → IsJobName name
job_shape name e = let parts = job_parts name e in begun name parts.0 parts.1

above : (m : ℕ) → 1 ≤ m → nat_le 1 m ≡ true
above m h = grind (arith, nat_tests)

padded : (n : ℕ) (ds : List ℕ) → Writes n ds → length ds ≤ 6 → 1 ≤ n → is_job_name (codes "job" ++ drop (length ds) (codes "000000") ++ ds) ≡ true
padded n [] w short low = absurd (let f = w.some in cc)
padded n (a ∷ []) w short low = and_from _ _ (and_from _ _ refl w.digits) (ap (nat_le 1) w.number ∙ above n low)
padded n (a ∷ b ∷ []) w short low = and_from _ _ (and_from _ _ refl w.digits) (ap (nat_le 1) w.number ∙ above n low)
padded n (a ∷ b ∷ c ∷ []) w short low = and_from _ _ (and_from _ _ refl w.digits) (ap (nat_le 1) w.number ∙ above n low)
padded n (a ∷ b ∷ c ∷ d ∷ []) w short low = and_from _ _ (and_from _ _ refl w.digits) (ap (nat_le 1) w.number ∙ above n low)
padded n (a ∷ b ∷ c ∷ d ∷ e ∷ []) w short low = and_from _ _ (and_from _ _ refl w.digits) (ap (nat_le 1) w.number ∙ above n low)
padded n (a ∷ b ∷ c ∷ d ∷ e ∷ f ∷ []) w short low = and_from _ _ (and_from _ _ refl w.digits) (ap (nat_le 1) w.number ∙ above n low)
padded n (a ∷ b ∷ c ∷ d ∷ e ∷ f ∷ g ∷ more) w short low = absurd (omega arith)

job_named : (n : ℕ) → 1 ≤ n → n ≤ 999999 → is_job_name (job_name n) ≡ true
job_named n low high = padded n (decimal n) (written n small) (length-decimal-le 6 n (omega arith) six small) low
  where
    small : n < 2 ^ 64
    small = omega arith

    six : n < 10 ^ 6
    six = omega arith

-- a word that isn't empty
not_nothing : (w other : List ℕ) → w ≡ other → same [] other ≡ false → w ≢ []
not_nothing w other e f none = absurd (let clash : same [] [] ≡ false = ap (same []) (sym none ∙ e) ∙ f in cc)

-- ---- job -i

module _ (d : List Deed) (sound : IsSound d) (input : List ℕ) (form : FormValue) (read : form_of JobShape input ≡ Ok form) where
  abbrev word : List ℕ
  word = value_of form (codes "Job")

  saved_sound : (name : List ℕ) → is_job_name name ≡ true → word ≢ [] → is_status (value_of form (codes "Status")) ≡ true → IsSound (after d (saved name form).deeds)
  saved_sound name named some status =
      one_sound d (Spec JobForm name (with_field (codes "Job") name form)) sound refl (
        job_spelled form name (spelled_is JobForm input form read) has valued,
        record {
          named = sym (own_value (codes "Job") name form has);
          digits = named;
          status = ap is_status (other_value (codes "Job") name form (codes "Status") refl) ∙ status;
        },
      ) tt
    where
      has : has_field (codes "Job") form.fields ≡ true
      has = has_valued (codes "Job") form.fields some

      valued : is_value name ≡ true
      valued = let shape = job_shape name named in ap is_value shape.is ∙ named_job shape.rest shape.digits

  new_or_old : (b : Bool) → is_new word ≡ b → (not b && is_none (job d word)) ≡ false → (b && nat_le 999999 (last_job d)) ≡ false
      → is_status (value_of form (codes "Status")) ≡ true → IsSound (after d (saved (if b then job_name (last_job d + 1) else word) form).deeds)
  new_or_old true e there room status =
      saved_sound (job_name (last_job d + 1)) (job_named (last_job d + 1) (omega arith) (under (last_job d) room))
      (not_nothing word (codes "new") (same-is word (codes "new") e) refl) status
    where
      under : (m : ℕ) → nat_le 999999 m ≡ false → m + 1 ≤ 999999
      under m h = grind (arith, nat_tests)
  new_or_old false e there room status = go (job d word) refl there
    where
      go : (o : Option FormValue) → job d word ≡ o → is_none o ≡ false → IsSound (after d (saved word form).deeds)
      go None h k = absurd cc
      go (Some old) h k =
          let named : is_job_name word ≡ true = (saved_job d sound word old h).digits in
          let shape = job_shape word named in
          saved_sound word named (not_nothing word (106 ∷ 111 ∷ 98 ∷ shape.rest) shape.is refl) status

  form_sound : IsSound (after d (save_form d input form).deeds)
  form_sound = unless_sound d sound
      (refuse_if (not (is_status (value_of form (codes "Status")))) (BadForm (field_place input (codes "Status")))
      ∷ refuse_if (not (is_new word) && is_none (job d word)) (NoSuchJob word)
      ∷ refuse_if (nat_lt 65536 (length (printed_form form))) (OverLimit Text)
      ∷ refuse_if (is_new word && nat_le 999999 (last_job d)) (OverLimit Jobs) ∷ [])
      (saved (saved_name d word) form) (λ none.
      new_or_old (is_new word) refl
      (not_refused (not (is_new word) && is_none (job d word)) (NoSuchJob word) none.1.0)
      (not_refused (is_new word && nat_le 999999 (last_job d)) (OverLimit Jobs) none.1.1.1.0)
      (not_false (is_status (value_of form (codes "Status")))
      (not_refused (not (is_status (value_of form (codes "Status")))) (BadForm (field_place input (codes "Status"))) none.0)))

pub job_save_sound : (d : List Deed) → IsSound d → (input : List ℕ) → IsSound (after d (job_save d input).deeds)
job_save_sound d sound input = go (form_of JobShape input) refl
  where
    go : (r : Result FormValue FormFault) → form_of JobShape input ≡ r
        → IsSound (after d (elim r as (λ _. Step) [ Err fault ↦ refuses (BadForm fault.line) | Ok form ↦ save_form d input form ]).deeds)
    go (Err fault) e = sound
    go (Ok form) e = form_sound d sound input form e
