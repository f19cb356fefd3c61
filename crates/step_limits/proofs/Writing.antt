-- The deeds of the steps that number changes are plain.
use Rattle.std.proofs.Common.{◌≡◌, ◌≤◌, ◌+◌, ℕ, Bool, true, false, List, [], ◌∷◌, ◌++◌, length, Option, Some, None, Result, Ok, Err, refl, arith}
use Rattle.std.specs.Prelude.{◌==◌, ◌&&◌, ◌||◌, not, nat_lt, map, filter_map, flat_map, option_map, option_and_then, unwrap_or, codes, if◌then◌else◌}
use Rattle.std.specs.List.{cons_option}
use Rattle.std.specs.Option.{option_map_or}
use Rattle.std.proofs.lemmas.Bool.Decides.{nat_tests}
use Rattle.depot_model.specs.spec_form.Form.{FormValue, lines_of}
use Rattle.depot_model.specs.spec_form.Places.{field_place}
use Rattle.depot_model.specs.spec_form.Reading.{form_of}
use Rattle.depot_model.specs.spec_form.declared.fault.FormFault.{FormFault}
use Rattle.depot_model.specs.spec_form.declared.shape.Shape.TheVariants.{Change as ChangeShape}
use Rattle.depot_model.specs.Deeds.{Deed, Opening, Pending, Open, Drop, Spec, JobForm}
use Rattle.depot_model.specs.Fixes.{closing, closed, closes, fixed_job, fixes_of, job, renumbers_where}
use Rattle.depot_model.specs.Numbers.{pending, top}
use Rattle.depot_model.specs.Opened.{opened}
use Rattle.depot_model.specs.Step.{Step, refuses, refuse_if, unless}
use Rattle.depot_model.specs.Steps.Changing as changing
use Rattle.depot_model.specs.Steps.Opening.{change_refusal}
use Rattle.depot_model.specs.Steps.Submitting as submitting
use Rattle.depot_model.specs.declared.refusal.Refusal.{Refusal}
use Rattle.depot_model.specs.declared.refusal.Refusal.TheVariants.{BadForm, OverLimit, EmptyChange}
use Rattle.depot_model.specs.declared.refusal.Limit.TheVariants.{Text, Change, Files}
use Rattle.depot_model.specs.declared.request.Caller.{Caller}
use Rattle.depot_model.specs.declared.request.Request.{Request}
use Rattle.step_limits.proofs.Plain.{ArePlain, joined}

-- no test refuses
abbrev NoneOf : List (Option Refusal) → Type 0
NoneOf [] = Unit {0}
NoneOf (test ∷ tests) = (test ≡ None) × NoneOf tests

module _ (least : ℕ) (small : least ≤ 1) where
  unless_plain : (tests : List (Option Refusal)) (step : Step) → (NoneOf tests → ArePlain least step.deeds) → ArePlain least (unless tests step).deeds
  unless_plain [] step h = h tt
  unless_plain (None ∷ tests) step h = unless_plain tests step (λ rest. h (refl, rest))
  unless_plain (Some why ∷ tests) step h = tt

  none_back : (xs ys : List (Option Refusal)) → NoneOf (xs ++ ys) → NoneOf ys
  none_back [] ys h = h
  none_back (x ∷ xs) ys h = none_back xs ys h.1

  none_front : (xs ys : List (Option Refusal)) → NoneOf (xs ++ ys) → NoneOf xs
  none_front [] ys h = tt
  none_front (x ∷ xs) ys h = (h.0, none_front xs ys h.1)

  each_plain : {A : Type 0} (made : A → List Deed) → ((x : A) → ArePlain least (made x)) → (xs : List A) → ArePlain least (flat_map made xs)
  each_plain made h [] = tt
  each_plain made h (x ∷ xs) = joined least (made x) (flat_map made xs) (h x) (each_plain made h xs)

  -- ---- submits

  module _ (d : List Deed) where
    number_positive : (n : ℕ) → least ≤ submitting.landing_number d n
    number_positive n = go (n == 0) (n == top d) refl
      where
        above : (n == 0) ≡ false → 1 ≤ n
        above other = grind (arith, nat_tests)

        go : (a b : Bool) → (n == 0) ≡ a → least ≤ (if not a && b then n else top d + 1)
        go true b is = omega (arith, small)
        go false true is = let some = above is in omega (arith, small, some)
        go false false is = omega (arith, small)

    dropped_plain : (n : ℕ) → ArePlain least (submitting.dropped d n)
    dropped_plain n = go ((n == 0) || (n == submitting.landing_number d n))
      where
        go : (b : Bool) → ArePlain least (if b then [] else Drop n ∷ [])
        go true = tt
        go false = (tt, tt)

    got_plain : (o : Opening) → ArePlain least (submitting.got_and_shut d o)
    got_plain o = (tt, (tt, tt))

    renumbers_plain : (b : Bool) (n m : ℕ) (form : FormValue) → ArePlain least (renumbers_where b n m form)
    renumbers_plain true n m form = tt
    renumbers_plain false n m form = (tt, (tt, tt))

    closes_plain : (name : List ℕ) → ArePlain least (closes d name)
    closes_plain name = go (job d name)
      where
        go : (o : Option FormValue) → ArePlain least (elim o as (λ _. List Deed) [ None ↦ [] | Some form ↦ Spec JobForm name (closed form) ∷ [] ])
        go None = tt
        go (Some form) = (tt, tt)

    closing_plain : (n m : ℕ) (form : FormValue) → ArePlain least (closing d n m form)
    closing_plain n m form = joined least (renumbers_where (n == m) n m form) (closes d (fixed_job form)) (renumbers_plain (n == m) n m form) (closes_plain (fixed_job form))

    module _ (request : Request) where
      landed_plain : (n : ℕ) (text : List ℕ) (openings : List Opening) → ArePlain least (submitting.landed d request n text openings).deeds
      landed_plain n text openings = (
        number_positive n,
        joined least (submitting.dropped d n ++ flat_map (submitting.got_and_shut d) openings) (flat_map (closing d n (submitting.landing_number d n)) (fixes_of d n))
            (joined least (submitting.dropped d n) (flat_map (submitting.got_and_shut d) openings) (dropped_plain n) (each_plain (submitting.got_and_shut d) got_plain openings))
            (each_plain (closing d n (submitting.landing_number d n)) (closing_plain n (submitting.landing_number d n)) (fixes_of d n)),
      )

      pub submit_plain : (n : ℕ) (text : List ℕ) → ArePlain least (submitting.submit d request n text).deeds
      submit_plain n text =
          let openings = submitting.openings_of d request.caller n in
          unless_plain (
          (refuse_if (length openings == 0) (EmptyChange n) ∷ refuse_if (nat_lt 65536 (length text)) (OverLimit Text) ∷ flat_map (submitting.file_refusals d request) openings)
          ++ (refuse_if (nat_lt 2147483647 (submitting.landing_number d n)) (OverLimit Change) ∷ refuse_if (nat_lt 10000 (length openings)) (OverLimit Files) ∷ [])
          ) (submitting.landed d request n text openings) (λ none. landed_plain n text openings)

      pub submit_change_plain : (n : ℕ) → ArePlain least (submitting.submit_change d request n).deeds
      submit_change_plain n =
          unless_plain (change_refusal d request.caller n ∷ []) (submitting.submit d request n (option_map_or (λ (p : Pending). p.text) (pending d n) []))
          (λ none. submit_plain n (option_map_or (λ (p : Pending). p.text) (pending d n) []))

    -- ---- change -i

    moved_plain : (n : ℕ) (caller : Caller) (paths : List (List ℕ)) → ArePlain least (filter_map (changing.moved_to n d caller) paths)
    moved_plain n caller [] = tt
    moved_plain n caller (path ∷ paths) = go (opened d caller.client path) (moved_plain n caller paths)
      where
        go : (o : Option Opening) → ArePlain least (filter_map (changing.moved_to n d caller) paths)
            → ArePlain least (cons_option (option_map (λ (o : Opening). Open (record o { change = n })) o) (filter_map (changing.moved_to n d caller) paths))
        go None rest = rest
        go (Some o) rest = (tt, rest)

    module _ (request : Request) (known : (n : ℕ) → change_refusal d request.caller n ≡ None → least ≤ n) where
      saved_plain : (form : FormValue) (n : ℕ) → least ≤ n → ArePlain least (changing.saved d request form n).deeds
      saved_plain form n h = (h, moved_plain n request.caller (changing.listed_paths form))

      number_known : (number : Option ℕ) → option_and_then (change_refusal d request.caller) number ≡ None → least ≤ unwrap_or number (top d + 1)
      number_known None none = omega (arith, small)
      number_known (Some n) none = known n none

      form_plain : (input : List ℕ) (form : FormValue) → ArePlain least (changing.change_form d request input form).deeds
      form_plain input form =
          unless_plain ((first_tests ++ middle_tests) ++ last_tests) (changing.saved d request form number) (λ none.
          let middle : NoneOf middle_tests = none_back first_tests middle_tests (none_front (first_tests ++ middle_tests) last_tests none) in
          saved_plain form number (number_known (changing.form_number form) middle.0))
        where
          number : ℕ
          number = unwrap_or (changing.form_number form) (top d + 1)

          last_tests : List (Option Refusal)
          last_tests =
              refuse_if (nat_lt 65536 (length (changing.form_text form))) (OverLimit Text)
              ∷ refuse_if (nat_lt 2147483647 number) (OverLimit Change)
              ∷ refuse_if (nat_lt 10000 (length (changing.listed_paths form))) (OverLimit Files)
              ∷ []

          middle_tests : List (Option Refusal)
          middle_tests = option_and_then (change_refusal d request.caller) (changing.form_number form) ∷ map (changing.not_open d request.caller) (changing.listed_paths form)

          first_tests : List (Option Refusal)
          first_tests =
              refuse_if (not (changing.has_number form)) (BadForm (field_place input (codes "Change"))) ∷ changing.bad_lines input 0 (lines_of form (codes "Files"))

      pub change_save_plain : (input : List ℕ) → ArePlain least (changing.change_save d request input).deeds
      change_save_plain input = go (form_of ChangeShape input)
        where
          go : (r : Result FormValue FormFault) → ArePlain least (elim r as (λ _. Step) [ Err fault ↦ refuses (BadForm fault.line) | Ok form ↦ changing.change_form d request input form ]).deeds
          go (Err fault) = tt
          go (Ok form) = form_plain input form
