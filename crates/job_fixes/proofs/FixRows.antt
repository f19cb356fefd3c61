-- The fixes that are asked for among all, and forms with another value.
use Rattle.std.proofs.Common.{◌≡◌, ℕ, Bool, true, false, List, [], ◌∷◌, ◌++◌, filter, Option, Some, None, Ok, inl, inr, refl, sym, ap, ◌∙◌, append-nil}
use Rattle.std.specs.Prelude.{◌&&◌, if◌then◌else◌, codes, decimal, option_map}
use Rattle.std.specs.List.{cons_option, filter_map}
use Rattle.std.specs.Option.{option_map_or}
use Rattle.depot_rows.specs.depot_path.Answers.{Answers}
use Rattle.depot_rows.specs.depot_path.Bytes.{same}
use Rattle.depot_rows.specs.spec_form.Form.{FormValue, changed_if, has_single, is_value, with_field, with_line}
use Rattle.depot_rows.specs.spec_form.declared.fault.ValueFault.TheVariants.{Memory}
use Rattle.depot_rows.specs.depot_model.Deeds.{Deed, FixForm}
use Rattle.depot_rows.specs.depot_model.Fixes.{fixes_of, fixes_on, is_on}
use Rattle.depot_rows.specs.depot_model.Latest.{keys_of, spec, spec_name}
use Rattle.depot_rows.specs.depot_model.Shelves.{is_of_change}
use Rattle.depot_rows.specs.depot_model.Steps.Jobs.{is_wanted}
use Rattle.depot_rows.specs.depot_model.Values.{value_of}
use Rattle.job_fixes.specs.Fixes.{fixes_among}

filtered_twice : {A : Type 0} (f g : A → Bool) (xs : List A) → filter (λ x. f x && g x) xs ≡ filter g (filter f xs)
filtered_twice f g [] = refl
filtered_twice f g (x ∷ xs) = go (f x) (filtered_twice f g xs)
  where
    go : (b : Bool) → filter (λ y. f y && g y) xs ≡ filter g (filter f xs)
        → (if b && g x then x ∷ filter (λ y. f y && g y) xs else filter (λ y. f y && g y) xs) ≡ filter g (if b then x ∷ filter f xs else filter f xs)
    go true more = ap (λ (l : List _). if g x then x ∷ l else l) more
    go false more = more

abbrev agree : Option (List ℕ) → Option (List ℕ) → FormValue → Bool
agree digits job form = option_map_or (same (value_of form (codes "Change"))) digits true && option_map_or (same (value_of form (codes "Job"))) job true

agree_is : (n : Option ℕ) (job : Option (List ℕ)) (form : FormValue) → agree (option_map decimal n) job form ≡ is_wanted n job form
agree_is None job form = refl
agree_is (Some m) job form = refl

pub fixes_are : (d : List Deed) (n : Option ℕ) (job : Option (List ℕ)) → fixes_among d (option_map decimal n) job (keys_of (spec_name FixForm) d) ≡ filter (is_wanted n job) (fixes_on d)
fixes_are d n job =
    filtered_twice is_on (agree (option_map decimal n) job) (filter_map (spec d FixForm) (keys_of (spec_name FixForm) d))
    ∙ (λ i. filter (λ form. agree_is n job form i) (fixes_on d))

and_true : (b : Bool) → (b && true) ≡ b
and_true true = refl
and_true false = refl

-- those of a change alone
pub of_change_are : (d : List Deed) (n : ℕ) → filter (is_wanted (Some n) None) (fixes_on d) ≡ fixes_of d n
of_change_are d n = λ i. filter (λ form. and_true (is_of_change n form) i) (fixes_on d)

-- ---- a walk that keeps what passes a test

module _ {A B : Type 0} (f : A → Option B) (test : B → Bool) where
  -- what one item more gives
  pub one_more : (p : A) (ps : List A) → filter test (cons_option (f p) []) ++ filter test (filter_map f ps) ≡ filter test (filter_map f (p ∷ ps))
  one_more p ps = go (f p)
    where
      go : (o : Option B) → filter test (cons_option o []) ++ filter test (filter_map f ps) ≡ filter test (cons_option o (filter_map f ps))
      go None = refl
      go (Some x) = by (test x)
        where
          by : (b : Bool) → (if b then x ∷ [] else []) ++ filter test (filter_map f ps) ≡ (if b then x ∷ filter test (filter_map f ps) else filter test (filter_map f ps))
          by true = refl
          by false = refl

-- what fails a test is left out
pub left_out : {B : Type 0} (test : B → Bool) (x : B) (found : Option B) (before : List B) → Some x ≡ found → test x ≡ false
    → before ≡ before ++ filter test (cons_option found [])
left_out test x found before is other =
    sym (ap (λ (o : Option _). before ++ filter test (cons_option o [])) (sym is) ∙ ap (λ (b : Bool). before ++ (if b then x ∷ [] else [])) other ∙ append-nil before)

-- and what passes it is added
pub kept_in : {B : Type 0} (test : B → Bool) (x : B) (found : Option B) (before : List B) → Some x ≡ found → test x ≡ true
    → before ++ x ∷ [] ≡ before ++ filter test (cons_option found [])
kept_in test x found before is passes =
    sym (ap (λ (o : Option _). before ++ filter test (cons_option o [])) (sym is) ∙ ap (λ (b : Bool). before ++ (if b then x ∷ [] else [])) passes)

-- ---- forms

-- a form that could be changed is changed
changed_is : (single fits : Bool) (form more : FormValue) → changed_if single fits form ≡ Ok more → more ≡ form
changed_is false fits form more e = absurd cc
changed_is true false form more e = absurd cc
changed_is true true form more e = let one : form ≡ more = cc in sym one

pub with_told : (field value : List ℕ) (form more : FormValue) → Answers Memory (Ok more) (with_line field value form) → more ≡ with_field field value form
with_told field value form more h =
    changed_is (has_single field form) (is_value value) (with_field field value form) more (elim h.is [ inl e ↦ absurd cc | inr e ↦ sym e ])
