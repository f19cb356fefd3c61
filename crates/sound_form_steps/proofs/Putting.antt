-- The step that puts fixes on a change.
use Rattle.std.proofs.Common.{◌≡◌, ◌≤◌, ◌<◌, ◌+◌, ◌^◌, ◌⊎◌, ℕ, Bool, true, false, List, [], ◌∷◌, ◌++◌, length, Option, Some, None, inl, inr, refl, sym, ap, subst, ◌∙◌, arith}
use Rattle.std.specs.Prelude.{◌&&◌, ◌||◌, not, codes, decimal, map, filter, filter_map, nat_lt, IsSome, is_some, is_none, if◌then◌else◌}
use Rattle.std.specs.List.{list_all, list_any}
use Rattle.std.specs.Option.{option_or}
use Rattle.std.specs.Str.{bytes_eq}
use Rattle.std.proofs.lemmas.Bool.Decides.{nat_tests}
use Rattle.std.proofs.lemmas.Bool.{not-true, and_parts}
use Rattle.depot_rows.specs.depot_path.Bytes.{same, is_digit, is_among}
use Rattle.depot_rows.specs.depot_path.Digits.{number_of, is_digits}
use Rattle.depot_rows.specs.depot_path.Name.{is_name}
use Rattle.depot_rows.specs.depot_path.Utf8.{is_utf8}
use Rattle.depot_rows.proofs.spec_form.Good.{GoodValue}
use Rattle.depot_rows.proofs.spec_form.Printed.{good_reads_back}
use Rattle.depot_rows.specs.spec_form.Form.{FormValue, value_lines, is_value, has_field}
use Rattle.depot_rows.specs.spec_form.Printing.{printed_form}
use Rattle.depot_rows.specs.spec_form.Shapes.{fields_of}
use Rattle.depot_rows.specs.spec_form.Texts.{trimmed_start}
use Rattle.depot_rows.specs.spec_form.declared.shape.Shape.TheVariants.{Fix as FixShape, Job as JobShape}
use Rattle.depot_rows.specs.depot_model.Deeds.{Deed, Spec, JobForm, FixForm, Pending, Landing}
use Rattle.depot_rows.specs.depot_model.Fixes.{job, fix_name, fix_form, has_fix, is_on, fixes_on, fixes_of, fixed_job, closed}
use Rattle.depot_rows.specs.depot_model.Latest.{spec, spec_said, spec_name, latest, when, keys_of}
use Rattle.depot_rows.specs.depot_model.Numbers.{pending, landing, top}
use Rattle.depot_rows.specs.depot_model.Numerals.{is_numeral}
use Rattle.depot_rows.specs.depot_model.Records.{record_of}
use Rattle.depot_rows.specs.depot_model.Rules.{IsSound, IsJob, IsOneOf, IsSpelled, is_job_name, top_in}
use Rattle.depot_rows.specs.depot_model.Shelves.{is_of_change}
use Rattle.depot_rows.specs.depot_model.Step.{after, all_of, refuse_if}
use Rattle.depot_rows.specs.depot_model.Steps.Jobs.{is_change, no_job, distinct, distinct_after, closes_where, fix_job, fixes_then, fix}
use Rattle.depot_rows.specs.depot_model.Values.{value_of, valued}
use Rattle.depot_rows.specs.depot_model.declared.refusal.Refusal.{Refusal}
use Rattle.depot_rows.specs.depot_model.declared.refusal.Refusal.TheVariants.{NoSuchChange, NoSuchJob, OverLimit}
use Rattle.depot_rows.specs.depot_model.declared.refusal.Limit.TheVariants.{Fixes}
use Rattle.depot_rows.specs.depot_model.declared.request.Caller.{Caller}
use Rattle.depot_rows.proofs.ChangeCounter.{change_of, top_value}
use Rattle.depot_rows.proofs.Keys.{same-is, same-self}
use Rattle.depot_facts.specs.Fields.{number_of_field}
use Rattle.sound_deeds.specs.Keeping.{FixKeeps, JobKeeps, FixesFit, IsChange}
use Rattle.depot_facts.proofs.Read.{spelled_reads, value_is}
use Rattle.sound_deeds.proofs.Whole.{one_sound}
use Rattle.sound_form_steps.proofs.ChangeForms.{none_front, none_back}
use Rattle.sound_form_steps.proofs.Counting.{AllIn, no_more, parted, distinct_kept}
use Rattle.depot_facts.proofs.Fields.{value_back, other_value, own_value, has_valued, status_spelled}
use Rattle.depot_facts.proofs.Found.{saved_fix, saved_job, spelled, spec_names}
use Rattle.sound_form_steps.proofs.Jobs.{job_shape, named_job}
use Rattle.depot_facts.proofs.Listed.{filter_in, filter_map_in, map_in}
use Rattle.depot_facts.proofs.Members.{key_in}
use Rattle.depot_rows.proofs.Entries.{In}
use Rattle.depot_facts.proofs.Decimals.{decimal_digits, numeral_decimal, number_decimal, parts_is}
use Rattle.depot_facts.proofs.Spelled.{good_name}
use Rattle.depot_facts.proofs.Steps.{NoneOf, not_refused, unless_sound, after_joined}
use Rattle.depot_facts.proofs.Values.{good_decimal}
use Rattle.sound_deeds.proofs.Ties.{fixes_fit}

-- ---- lists

all_in : (Q test : List ℕ → Bool) (xs ys : List (List ℕ)) → list_all Q xs ≡ true → ((x : List ℕ) → Q x ≡ true → test x ≡ true → In ys x) → AllIn (filter test xs) ys
all_in Q test [] ys e h = tt
all_in Q test (x ∷ xs) ys e h = go (test x) refl (all_in Q test xs ys (and_parts (Q x) (list_all Q xs) e).1 h)
  where
    go : (b : Bool) → test x ≡ b → AllIn (filter test xs) ys → AllIn (if b then x ∷ filter test xs else filter test xs) ys
    go true k later = (h x (and_parts (Q x) (list_all Q xs) e).0 k, later)
    go false k later = later

all_turn : (Q R : List ℕ → Bool) (xs : List (List ℕ)) → list_all Q xs ≡ true → ((x : List ℕ) → Q x ≡ true → R x ≡ true) → list_all R xs ≡ true
all_turn Q R [] e h = refl
all_turn Q R (x ∷ xs) e h = (λ i. h x (and_parts (Q x) (list_all Q xs) e).0 i && list_all R xs) ∙ all_turn Q R xs (and_parts (Q x) (list_all Q xs) e).1 h

-- ---- values

good_value : (value : List ℕ) → is_value value ≡ true → GoodValue (value_lines value)
good_value value e =
    let two = (and_parts (is_utf8 value && not (is_among value 0x0A)) (bytes_eq (trimmed_start value) value) e).0 in
    record {
      value = value;
      is = refl;
      clean = record {
        one = not-true (is_among value 0x0A) (and_parts (is_utf8 value) (not (is_among value 0x0A)) two).1;
        utf8 = (and_parts (is_utf8 value) (not (is_among value 0x0A)) two).0;
      };
      trimmed = same-is (trimmed_start value) value (and_parts (is_utf8 value && not (is_among value 0x0A)) (bytes_eq (trimmed_start value) value) e).1;
    }

on_spelled : (name : List ℕ) (n : ℕ) (user : List ℕ) → is_job_name name ≡ true → is_name user ≡ true → IsSpelled FixForm (fix_form name n user (codes "on"))
unfolding fields_of
on_spelled name n user named is_user =
    let shape = job_shape name named in (
      refl,
      good_reads_back FixShape (valued (codes "State") (codes "on") ∷ valued (codes "User") user ∷ valued (codes "Change") (decimal n) ∷ valued (codes "Job") name ∷ []) (
        good_name (codes "on") refl,
        refl,
        (
          good_name user is_user,
          refl,
          (
            good_decimal n,
            refl,
            (good_value name (ap is_value shape.is ∙ named_job shape.rest shape.digits), refl, tt),
          ),
        ),
      ) refl,
    )

module _ (d : List Deed) (sound : IsSound d) (n : ℕ) (all : List (List ℕ))
    (few : length (fixes_of d n) + length (filter (λ x. not (has_fix d n x)) all) ≤ 100) where
  -- a fix that is on stands among those of its change
  fix_among : (name : List ℕ) → has_fix d n name ≡ true → In (map fixed_job (fixes_of d n)) name
  fix_among name h = go (spec d FixForm (fix_name name n)) refl h
    where
      go : (o : Option FormValue) → spec d FixForm (fix_name name n) ≡ o → (elim o as (λ _. Bool) [ None ↦ false | Some form ↦ is_on form ]) ≡ true
          → In (map fixed_job (fixes_of d n)) name
      go None e k = absurd cc
      go (Some form) e on =
          let value = value_is FixShape form (spelled_reads FixForm form (spelled d sound FixForm (fix_name name n) form e)) in
          let fix = saved_fix d sound (fix_name name n) form e in
          let numeral : is_numeral (value_of form (codes "Change")) ≡ true = ap is_numeral (sym (value (codes "Change"))) ∙ (and_parts _ _ fix.change).0 in
          let digits : list_all is_digit (value_of form (codes "Change")) ≡ true =
          (and_parts _ (list_all is_digit (value_of form (codes "Change"))) (and_parts (is_digits (value_of form (codes "Change"))) _ numeral).0).1 in
          let names_same : name ++ 0x20 ∷ decimal n ≡ value_of form (codes "Job") ++ 0x20 ∷ value_of form (codes "Change") =
          fix.named ∙ (λ i. value (codes "Job") i ++ 0x20 ∷ value (codes "Change") i) in
          let parts = parts_is name (value_of form (codes "Job")) (decimal n) (value_of form (codes "Change")) (decimal_digits n) digits names_same in
          let of : is_of_change n form ≡ true = ap (λ (w : List ℕ). same w (decimal n)) (sym parts.1) ∙ same-self (decimal n) in
          let there : In (fixes_of d n) form =
          filter_in (is_of_change n) (fixes_on d) form (filter_in is_on (filter_map (spec d FixForm) (keys_of (spec_name FixForm) d)) form
          (filter_map_in (spec d FixForm) (keys_of (spec_name FixForm) d) (fix_name name n) form
          (key_in (spec_said FixForm (fix_name name n)) (spec_name FixForm) (fix_name name n) form (spec_names FixForm (fix_name name n) form) d e) e) on) of in
          subst (λ (w : List ℕ). In (map fixed_job (fixes_of d n)) w) (sym parts.0) (map_in fixed_job (fixes_of d n) form there)

  -- the fixes of a depot on the way are those of the first, and more of this change for these jobs
  abbrev Within : List Deed → Type 0
  Within e = (m : ℕ) (name : List ℕ) → has_fix e m name ≡ true → (has_fix d m name ≡ true) ⊎ ((decimal m ≡ decimal n) × In all name)

  fits_by : (e : List Deed) → Within e → FixesFit e
  fits_by e within m names apart on = go (same (decimal m) (decimal n)) refl
    where
      other : same (decimal m) (decimal n) ≡ false → (x : List ℕ) → has_fix e m x ≡ true → has_fix d m x ≡ true
      other differ x k = either (within m x k)
        where
          either : (has_fix d m x ≡ true) ⊎ ((decimal m ≡ decimal n) × In all x) → has_fix d m x ≡ true
          either (inl h) = h
          either (inr h) = absurd (let f : same (decimal m) (decimal n) ≡ true = ap (λ (w : List ℕ). same w (decimal n)) h.0 ∙ same-self (decimal n) in cc)

      go : (b : Bool) → same (decimal m) (decimal n) ≡ b → length names ≤ 100
      go false differ = fixes_fit d sound m names apart (all_turn (has_fix e m) (has_fix d m) names on (other differ))
      go true e_same =
          let numbers : decimal m ≡ decimal n = same-is (decimal m) (decimal n) e_same in
          let old = no_more (filter (has_fix d n) names) (map fixed_job (fixes_of d n)) (distinct_kept (has_fix d n) names apart)
          (all_in (has_fix e m) (has_fix d n) names (map fixed_job (fixes_of d n)) on (λ x k h. fix_among x h)) in
          let new = no_more (filter (λ x. not (has_fix d n x)) names) (filter (λ x. not (has_fix d n x)) all) (distinct_kept (λ x. not (has_fix d n x)) names apart)
          (all_in (has_fix e m) (λ x. not (has_fix d n x)) names (filter (λ x. not (has_fix d n x)) all) on (λ x k h. more numbers x k h)) in
          let counted = parted (has_fix d n) names in
          let mapped = same_length (fixes_of d n) in
          omega (arith, old, new, counted, mapped, few)
        where
          more : decimal m ≡ decimal n → (x : List ℕ) → has_fix e m x ≡ true → not (has_fix d n x) ≡ true → In (filter (λ y. not (has_fix d n y)) all) x
          more numbers x k h = either (within m x k)
            where
              either : (has_fix d m x ≡ true) ⊎ ((decimal m ≡ decimal n) × In all x) → In (filter (λ y. not (has_fix d n y)) all) x
              either (inl g) = absurd (
                  let f : has_fix d n x ≡ true = ap (λ (w : List ℕ). elim (spec d FixForm (x ++ 0x20 ∷ w)) as (λ _. Bool) [ None ↦ false | Some form ↦ is_on form ]) (sym numbers) ∙ g in
                  let no_fix : has_fix d n x ≡ false = not-true (has_fix d n x) h in
                  let clash : true ≡ false = sym f ∙ no_fix in
                  cc)
              either (inr g) = filter_in (λ y. not (has_fix d n y)) all x g.1 h

          same_length : (fs : List FormValue) → length (map fixed_job fs) ≡ length fs
          same_length [] = refl
          same_length (f ∷ fs) = let rest = same_length fs in omega (arith, rest)

-- ---- jobs one after another

module _ (d : List Deed) (sound : IsSound d) (caller : Caller) (user : is_name caller.user ≡ true) (n : ℕ) (changed : IsChange d n) (small : n < 2 ^ 64)
    (fits : n ≤ top d) (all : List (List ℕ)) (few : length (fixes_of d n) + length (filter (λ x. not (has_fix d n x)) all) ≤ 100) where
  -- a depot on the way
  record Goes (e : List Deed) : Type 0 where
    sound_there : IsSound e
    jobs : (x : List ℕ) → IsSome (job d x) → IsSome (job e x)
    tops : top e ≡ top d
    change : IsChange e n
    within : Within d sound n all few e

  abbrev on_form : List ℕ → FormValue
  on_form name = fix_form name n caller.user (codes "on")

  job_is : (name : List ℕ) (form : FormValue) → job d name ≡ Some form → IsJob name (printed_form form)
  job_is name form e = saved_job d sound name form e

  module _ (e : List Deed) (goes : Goes e) (name : List ℕ) (among : In all name) (form : FormValue) (there : job d name ≡ Some form) where
    abbrev first : Deed
    first = Spec FixForm (fix_name name n) (on_form name)

    first_within : Within d sound n all few (first ∷ e)
    first_within m x h = go (same (fix_name name n) (fix_name x m)) refl h
      where
        go : (b : Bool) → same (fix_name name n) (fix_name x m) ≡ b
            → (elim (option_or (when b (on_form name)) (latest (spec_said FixForm (fix_name x m)) e)) as (λ _. Bool) [ None ↦ false | Some f ↦ is_on f ]) ≡ true
            → (has_fix d m x ≡ true) ⊎ ((decimal m ≡ decimal n) × In all x)
        go true k on =
            let parts = parts_is name x (decimal n) (decimal m) (decimal_digits n) (decimal_digits m) (same-is (fix_name name n) (fix_name x m) k) in
            inr (sym parts.1, subst (λ (w : List ℕ). In all w) parts.0 among)
        go false k on = goes.within m x on

    number_is_n : number_of_field (on_form name) (codes "Change") ≡ n
    number_is_n = ap number_of (value_back (decimal n)) ∙ number_decimal n small

    first_keeps : FixKeeps e (fix_name name n) (on_form name)
    first_keeps = record {
      named = sym (λ i. value_back name i ++ 0x20 ∷ value_back (decimal n) i);
      job = subst (λ (w : List ℕ). IsSome (job e w)) (sym (value_back name)) (goes.jobs name (ap is_some there));
      change_is = ap is_numeral (value_back (decimal n)) ∙ numeral_decimal n small;
      change_fits = let tops = goes.tops in let number = number_is_n in omega (arith, tops, number, fits);
      state = refl;
    }

    first_sound : IsSound (first ∷ e)
    first_sound = one_sound e first goes.sound_there refl
        (on_spelled name n caller.user (job_is name form there).digits user, first_keeps)
        ((λ on. subst (λ (m : ℕ). IsChange e m) (sym number_is_n) goes.change), fits_by d sound n all few (first ∷ e) first_within)

    first_goes : Goes (first ∷ e)
    first_goes = record { sound_there = first_sound; jobs = goes.jobs; tops = goes.tops; change = goes.change; within = first_within }

    abbrev second : Deed
    second = Spec JobForm name (closed form)

    has_status : has_field (codes "Status") form.fields ≡ true
    has_status = has_valued (codes "Status") form.fields (λ none. absurd (
        let value = value_is JobShape form (spelled_reads JobForm form (spelled d sound JobForm name form there)) in
        let one : IsOneOf (codes "open" ∷ codes "suspended" ∷ codes "closed" ∷ []) [] =
        subst (λ (w : List ℕ). IsOneOf (codes "open" ∷ codes "suspended" ∷ codes "closed" ∷ []) w) (value (codes "Status") ∙ none) (job_is name form there).status in
        cc))

    closed_keeps : JobKeeps name (closed form)
    closed_keeps =
        let value = value_is JobShape form (spelled_reads JobForm form (spelled d sound JobForm name form there)) in
        record {
          named = (job_is name form there).named ∙ value (codes "Job") ∙ sym (other_value (codes "Status") (codes "closed") form (codes "Job") refl);
          digits = (job_is name form there).digits;
          status = subst (λ (w : List ℕ). IsOneOf (codes "open" ∷ codes "suspended" ∷ codes "closed" ∷ []) w) (sym (own_value (codes "Status") (codes "closed") form has_status)) refl;
        }

    second_sound : IsSound (second ∷ first ∷ e)
    second_sound = one_sound (first ∷ e) second first_sound refl
        (status_spelled form (codes "closed") (spelled d sound JobForm name form there) has_status refl, closed_keeps) tt

    second_goes : Goes (second ∷ first ∷ e)
    second_goes = record { sound_there = second_sound; jobs = still; tops = goes.tops; change = goes.change; within = first_within }
      where
        still : (x : List ℕ) → IsSome (job d x) → IsSome (job (second ∷ first ∷ e) x)
        still x h = go (same name x) (goes.jobs x h)
          where
            go : (b : Bool) → IsSome (job e x) → is_some (option_or (when b (closed form)) (latest (spec_said JobForm x) (first ∷ e))) ≡ true
            go true k = refl
            go false k = k

    both_go : (landed : Bool) → Goes (after (first ∷ e) (closes_where d landed name))
    both_go true = go (job d name) there
      where
        go : (o : Option FormValue) → o ≡ Some form → Goes (after (first ∷ e) (elim o as (λ _. List Deed) [ None ↦ [] | Some f ↦ Spec JobForm name (closed f) ∷ [] ]))
        go None k = absurd cc
        go (Some f) k = let one : form ≡ f = cc in subst (λ (g : FormValue). Goes (Spec JobForm name (closed g) ∷ first ∷ e)) one second_goes
    both_go false = first_goes

  abbrev AllThere : List (List ℕ) → Type 0
  AllThere [] = Unit {0}
  AllThere (x ∷ xs) = (In all x × IsSome (job d x)) × AllThere xs

  turns : (e : List Deed) → Goes e → (xs : List (List ℕ)) → AllThere xs → IsSound (after e (all_of (fix_job d caller n) xs).deeds)
  turns e goes [] there = goes.sound_there
  turns e goes (x ∷ xs) there = go (job d x) refl there.0.1 (λ f h. turns f h xs there.1)
    where
      go : (o : Option FormValue) → job d x ≡ o → is_some o ≡ true → ((f : List Deed) → Goes f → IsSound (after f (all_of (fix_job d caller n) xs).deeds))
          → IsSound (after e ((fix_job d caller n x).deeds ++ (all_of (fix_job d caller n) xs).deeds))
      go None k some later = absurd cc
      go (Some form) k some later =
          let mine : List Deed = (fix_job d caller n x).deeds in
          subst (λ (y : List Deed). IsSound y) (sym (after_joined e mine (all_of (fix_job d caller n) xs).deeds))
          (later (after e mine) (both_go e goes x there.0.0 form k (is_some (landing d n))))

-- ---- fix

-- names, each once, are among the names
distinct_in : (P : List ℕ → Type 0) (taken names : List (List ℕ)) → ((x : List ℕ) → In names x → P x) → (x : List ℕ) → In (distinct_after taken names) x → P x
distinct_in P taken [] h x k = absurd k
distinct_in P taken (name ∷ names) h x k = go (list_any (same name) taken) k (distinct_in P (name ∷ taken) names (λ y m. h y (inr m)) x)
  where
    go : (b : Bool) → In ((if b then [] else name ∷ []) ++ distinct_after (name ∷ taken) names) x → (In (distinct_after (name ∷ taken) names) x → P x) → P x
    go true m later = later m
    go false (inl is) later = h x (inl is)
    go false (inr m) later = later m

jobs_there : (d : List Deed) (names : List (List ℕ)) → NoneOf (map (no_job d) names) → (x : List ℕ) → In names x → IsSome (job d x)
jobs_there d [] none x h = absurd h
jobs_there d (name ∷ names) none x (inl is) = subst (λ (y : List ℕ). IsSome (job d y)) is (go (job d name) (not_refused (is_none (job d name)) (NoSuchJob name) none.0))
  where
    go : (o : Option FormValue) → is_none o ≡ false → is_some o ≡ true
    go None e = absurd cc
    go (Some f) e = refl
jobs_there d (name ∷ names) none x (inr later) = jobs_there d names none.1 x later

module _ (d : List Deed) (sound : IsSound d) (caller : Caller) (user : is_name caller.user ≡ true) (n : ℕ) (names : List (List ℕ)) where
  change_is : is_change d n ≡ true → IsChange d n
  change_is h = go (is_some (pending d n)) (is_some (landing d n)) h
    where
      go : (a b : Bool) → (a || b) ≡ true → (a ≡ true) ⊎ (b ≡ true)
      go true b e = inl refl
      go false b e = inr e

  change_low : IsChange d n → n ≤ top_in (record_of d)
  change_low is = (sound.rules).top_is n (go (pending d n) (landing d n) is)
    where
      go : (p : Option Pending) (l : Option Landing) → IsSome p ⊎ IsSome l → is_some (change_of p l) ≡ true
      go (Some p) l h = refl
      go None (Some l) h = refl
      go None None (inl h) = absurd cc
      go None None (inr h) = absurd cc

  pub fix_sound : IsSound (after d (fix d caller n names).deeds)
  fix_sound = unless_sound d sound ((refuse_if (not (is_change d n)) (NoSuchChange n) ∷ map (no_job d) names) ++ last_test) (all_of (fix_job d caller n) (distinct names)) (λ none.
      let front : NoneOf (refuse_if (not (is_change d n)) (NoSuchChange n) ∷ map (no_job d) names) =
      none_front (refuse_if (not (is_change d n)) (NoSuchChange n) ∷ map (no_job d) names) last_test none in
      let back : NoneOf last_test = none_back (refuse_if (not (is_change d n)) (NoSuchChange n) ∷ map (no_job d) names) last_test none in
      let changed = change_is (yes (is_change d n) (not_refused (not (is_change d n)) (NoSuchChange n) front.0)) in
      let low = change_low changed in
      let tops = top_value d in
      let most = (sound.rules).top_fits in
      let few : length (fixes_of d n) + length (filter (λ x. not (has_fix d n x)) (distinct names)) ≤ 100 = under (fixes_then d n names) (not_refused (nat_lt 100 (fixes_then d n names)) (OverLimit Fixes) back.0) in
      let small : n < 2 ^ 64 = omega (arith, low, most) in
      let fits : n ≤ top d = omega (arith, low, tops) in
      turns d sound caller user n changed small fits (distinct names) few d (record { sound_there = sound; jobs = λ x h. h; tops = refl; change = changed; within = λ m x h. inl h })
      (distinct names) (each changed small fits few (distinct names) (λ x h. (h, distinct_in (λ y. IsSome (job d y)) [] names (jobs_there d names front.1) x h))))
    where
      last_test : List (Option Refusal)
      last_test = refuse_if (nat_lt 100 (fixes_then d n names)) (OverLimit Fixes) ∷ []

      yes : (b : Bool) → not b ≡ false → b ≡ true
      yes true h = refl
      yes false h = absurd cc

      under : (m : ℕ) → nat_lt 100 m ≡ false → m ≤ 100
      under m h = grind (arith, nat_tests)

      each : (changed : IsChange d n) (small : n < 2 ^ 64) (fits : n ≤ top d)
          (few : length (fixes_of d n) + length (filter (λ x. not (has_fix d n x)) (distinct names)) ≤ 100) (xs : List (List ℕ))
          → ((x : List ℕ) → In xs x → In (distinct names) x × IsSome (job d x)) → AllThere d sound caller user n changed small fits (distinct names) few xs
      each changed small fits few [] h = tt
      each changed small fits few (x ∷ xs) h = (h x (inl refl), each changed small fits few xs (λ y k. h y (inr k)))
