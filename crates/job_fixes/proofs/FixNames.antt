-- The fixes of a job stand together by their names, and those by a change end with its digits.
use Rattle.std.proofs.Common.{◌≡◌, ℕ, suc, Bool, true, false, List, [], ◌∷◌, ◌++◌, drop, filter, length, Option, Some, None, refl, sym, ap, ◌∙◌}
use Rattle.std.specs.Prelude.{◌&&◌, ◌==◌, IsSome, codes, if◌then◌else◌, nat_le}
use Rattle.std.specs.List.{cons_option, filter_map, list_all}
use Rattle.std.specs.Option.{option_map_or}
use Rattle.std.proofs.lemmas.Bool.{false≢true, true≢false, and_parts}
use Rattle.std.proofs.lemmas.Bool.Decides.{Decides-eqb}
use Rattle.depot_rows.specs.depot_path.Bytes.{begins_with, is_digit, same}
use Rattle.depot_rows.specs.depot_path.Digits.{number_of}
use Rattle.depot_rows.specs.spec_form.Form.{FormValue}
use Rattle.depot_rows.specs.spec_form.declared.shape.Shape.TheVariants.{Fix as FixShape}
use Rattle.depot_rows.specs.depot_model.Deeds.{Deed, FixForm, JobForm}
use Rattle.depot_rows.specs.depot_model.Fixes as model
use Rattle.depot_rows.specs.depot_model.Fixes.{is_on}
use Rattle.depot_rows.specs.depot_model.Latest.{keys_of, spec, spec_name}
use Rattle.depot_rows.specs.depot_model.Rules.{IsSound, is_job_name, value_in}
use Rattle.depot_rows.specs.depot_model.Values.{value_of}
use Rattle.depot_rows.proofs.Keys.{same-is}
use Rattle.depot_facts.proofs.Found.{saved_fix, saved_job, spec_value}
use Rattle.depot_facts.proofs.Fixes.{fix_tells}
use Rattle.named_forms.proofs.Texts.{begins_front}
use Rattle.job_fixes.specs.Fixes.{fixes_among, is_asked, names_asked}
use Rattle.depot_rows.specs.spec_form.Printing.{printed_form}

-- names whose forms fail a test may be left out
module _ (f : List ℕ → Option FormValue) (test : FormValue → Bool) (begins : List ℕ → Bool)
    (all : (name : List ℕ) (form : FormValue) → f name ≡ Some form → test form ≡ true → begins name ≡ true) where
  kept_same : (names : List (List ℕ)) → filter test (filter_map f (filter begins names)) ≡ filter test (filter_map f names)
  kept_same [] = refl
  kept_same (name ∷ names) = go (begins name) refl (f name) refl (kept_same names)
    where
      go : (b : Bool) → begins name ≡ b → (o : Option FormValue) → f name ≡ o → filter test (filter_map f (filter begins names)) ≡ filter test (filter_map f names)
          → filter test (filter_map f (if b then name ∷ filter begins names else filter begins names)) ≡ filter test (cons_option o (filter_map f names))
      go true e None k more = ap (λ (o : Option FormValue). filter test (cons_option o (filter_map f (filter begins names)))) k ∙ more
      go true e (Some form) k more =
          ap (λ (o : Option FormValue). filter test (cons_option o (filter_map f (filter begins names)))) k
          ∙ ap (λ (forms : List FormValue). if test form then form ∷ forms else forms) more
      go false e None k more = more
      go false e (Some form) k more = by (test form) refl
        where
          by : (t : Bool) → test form ≡ t → filter test (filter_map f (filter begins names)) ≡ (if t then form ∷ filter test (filter_map f names) else filter test (filter_map f names))
          by true l = absurd (true≢false (sym (all name form k l) ∙ e))
          by false l = more

module _ (d : List Deed) (sound : IsSound d) (digits : Option (List ℕ)) (job : List ℕ) where
  asked_begins : (name : List ℕ) (form : FormValue) → spec d FixForm name ≡ Some form → is_asked digits (Some job) form ≡ true → begins_with name (job ++ 0x20 ∷ []) ≡ true
  asked_begins name form e h =
      let value : (field : List ℕ) → value_in FixShape field (printed_form form) ≡ value_of form field = spec_value d sound FixForm name form e in
      let both = (and_parts (is_on form) (option_map_or (same (value_of form (codes "Change"))) digits true && same (value_of form (codes "Job")) job) h).1 in
      let of : value_of form (codes "Job") ≡ job =
      same-is (value_of form (codes "Job")) job (and_parts (option_map_or (same (value_of form (codes "Change"))) digits true) (same (value_of form (codes "Job")) job) both).1 in
      let fix = saved_fix d sound name form e in
      let named : name ≡ job ++ 0x20 ∷ value_of form (codes "Change") =
      fix.named ∙ (λ i. value (codes "Job") i ++ 0x20 ∷ value (codes "Change") i) ∙ (λ i. of i ++ 0x20 ∷ value_of form (codes "Change")) in
      ap (λ (text : List ℕ). begins_with text (job ++ 0x20 ∷ [])) named ∙ begins_front job (value_of form (codes "Change"))

-- ---- the fixes by a change

behind : (job digits : List ℕ) → length job ≡ 9 → drop 10 (job ++ 0x20 ∷ digits) ≡ digits
behind job digits e = ap (λ (n : ℕ). drop (suc n) (job ++ 0x20 ∷ digits)) (sym e) ∙ past job
  where
    past : (front : List ℕ) → drop (suc (length front)) (front ++ 0x20 ∷ digits) ≡ digits
    past [] = refl
    past (b ∷ front) = past front

nine : (name : List ℕ) → is_job_name name ≡ true → length name ≡ 9
nine name is =
    let front = (and_parts (begins_with name (codes "job") && (length name == 9) && list_all is_digit (drop 3 name)) (nat_le 1 (number_of (drop 3 name))) is).0 in
    let long = (and_parts (begins_with name (codes "job") && (length name == 9)) (list_all is_digit (drop 3 name)) front).0 in
    (Decides-eqb (length name) 9).0 (and_parts (begins_with name (codes "job")) (length name == 9) long).1

module _ (d : List Deed) (sound : IsSound d) (digits : List ℕ) (job : Option (List ℕ)) where
  saved_job_name : (name : List ℕ) → IsSome (model.job d name) → is_job_name name ≡ true
  saved_job_name name some = go (spec d JobForm name) refl some
    where
      go : (o : Option FormValue) → spec d JobForm name ≡ o → IsSome o → is_job_name name ≡ true
      go None e h = absurd (false≢true h)
      go (Some form) e h = (saved_job d sound name form e).digits

  asked_ends : (name : List ℕ) (form : FormValue) → spec d FixForm name ≡ Some form → is_asked (Some digits) job form ≡ true → same (drop 10 name) digits ≡ true
  asked_ends name form e h =
      let tells = fix_tells d sound name form e in
      let both = (and_parts (is_on form) (same (value_of form (codes "Change")) digits && option_map_or (same (value_of form (codes "Job"))) job true) h).1 in
      let of : same (value_of form (codes "Change")) digits ≡ true = (and_parts (same (value_of form (codes "Change")) digits) (option_map_or (same (value_of form (codes "Job"))) job true) both).0 in
      let long = nine (value_of form (codes "Job")) (saved_job_name (value_of form (codes "Job")) tells.job_there) in
      ap (λ (text : List ℕ). same (drop 10 text) digits) tells.named ∙ ap (λ (text : List ℕ). same text digits) (behind (value_of form (codes "Job")) (value_of form (codes "Change")) long) ∙ of

-- those among the names that are asked for are those among all
pub among_asked : (d : List Deed) → IsSound d → (digits job : Option (List ℕ))
    → fixes_among d digits job (names_asked d digits job) ≡ fixes_among d digits job (keys_of (spec_name FixForm) d)
among_asked d sound (Some digits) job =
    kept_same (spec d FixForm) (is_asked (Some digits) job) (λ name. same (drop 10 name) digits) (asked_ends d sound digits job) (keys_of (spec_name FixForm) d)
among_asked d sound None (Some job) =
    kept_same (spec d FixForm) (is_asked None (Some job)) (λ name. begins_with name (job ++ 0x20 ∷ [])) (asked_begins d sound None job) (keys_of (spec_name FixForm) d)
among_asked d sound None None = refl
