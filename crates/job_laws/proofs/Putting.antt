-- The deeds of a `fix`: each of its jobs has the fix then, and is closed where the change is submitted.
use Rattle.std.proofs.Common.{◌≡◌, ℕ, Bool, true, false, List, [], ◌∷◌, ◌++◌, Option, Some, None, refl, sym, ap, ◌∙◌}
use Rattle.std.specs.Prelude.{◌&&◌, ◌||◌, codes, decimal, is_some, map, nat_lt, not}
use Rattle.std.specs.List.{list_any}
use Rattle.std.specs.Option.{option_or}
use Rattle.depot_model.specs.depot_path.Bytes.{same}
use Rattle.depot_model.specs.spec_form.Form.{FormValue}
use Rattle.depot_model.specs.Deeds.{Deed, Spec, JobForm, FixForm}
use Rattle.depot_model.specs.Fixes.{closed, fix_form, fix_name, job}
use Rattle.depot_model.specs.Latest.{when, spec}
use Rattle.depot_model.specs.Numbers.{landing}
use Rattle.depot_model.specs.Step.{after, all_of, refuse_if}
use Rattle.depot_model.specs.Steps.Jobs.{fix, fix_job, closes_where, distinct, fixes_then, is_change, no_job}
use Rattle.depot_model.specs.declared.refusal.Limit.TheVariants.{Fixes}
use Rattle.depot_model.specs.declared.refusal.Refusal.TheVariants.{NoSuchChange, OverLimit}
use Rattle.depot_model.specs.declared.request.Caller.{Caller}
use Rattle.depot_rows.proofs.Keys.{same-is, same-self}
use Rattle.depot_runs.specs.Folds.{closed_where, closes_by_fix}
use Rattle.depot_facts.proofs.Decimals.{decimal_digits, parts_is}
use Rattle.depot_facts.proofs.Steps.{after_joined}
use Rattle.step_forms.proofs.Combining.{unless_holds}
use Rattle.step_forms.proofs.Staying.{said_alone}
use Rattle.job_laws.proofs.Closing.{IsClosed, still, or_false, closes_one}

-- names of fixes of one change are the same where their jobs are
names_same : (x name : List ℕ) (n : ℕ) → same (fix_name x n) (fix_name name n) ≡ same x name
names_same x name n = go (same x name) refl (same (fix_name x n) (fix_name name n)) refl
  where
    go : (a : Bool) → same x name ≡ a → (b : Bool) → same (fix_name x n) (fix_name name n) ≡ b → b ≡ a
    go true e true f = refl
    go false e false f = refl
    go true e false f = sym f ∙ ap (λ (y : List ℕ). same (fix_name x n) (fix_name y n)) (sym (same-is x name e)) ∙ same-self (fix_name x n)
    go false e true f =
        let parts = parts_is x name (decimal n) (decimal n) (decimal_digits n) (decimal_digits n) (same-is (fix_name x n) (fix_name name n) f) in
        sym (same-self x) ∙ ap (same x) parts.0 ∙ e

and_or : (a b s t : Bool) → ((a || (b && s)) || (b && t)) ≡ (a || (b && (s || t)))
and_or true b s t = refl
and_or false true s t = refl
and_or false false s t = refl

and_false : (b : Bool) → (b && false) ≡ false
and_false true = refl
and_false false = refl

first_next : (a s t : Bool) → ((s || a) || t) ≡ (a || (s || t))
first_next true true t = refl
first_next true false t = refl
first_next false true t = refl
first_next false false t = refl

module _ (d : List Deed) (caller : Caller) (n : ℕ) (name : List ℕ) where
  abbrev is_job : List ℕ → Bool
  is_job x = same x name

  abbrev landed : Bool
  landed = is_some (landing d n)

  abbrev put : List ℕ → Deed
  put x = Spec FixForm (fix_name x n) (fix_form x n caller.user (codes "on"))

  -- ---- jobs

  closed_one : (e : List Deed) (c b : Bool) (x : List ℕ) → IsClosed d name e c → IsClosed d name (after e (closes_where d b x)) (c || (b && same x name))
  closed_one e c true x h = closes_one d name e c x h
  closed_one e c false x h = still d name e c (c || false) (sym (or_false c)) h

  closed_all : (xs : List (List ℕ)) (e : List Deed) (c : Bool) → IsClosed d name e c
      → IsClosed d name (after e (all_of (fix_job d caller n) xs).deeds) (c || (landed && list_any is_job xs))
  closed_all [] e c h = still d name e c (c || (landed && false)) (sym (or_false c) ∙ ap (λ (t : Bool). c || t) (sym (and_false landed))) h
  closed_all (x ∷ xs) e c h =
      let next = after (put x ∷ e) (closes_where d landed x) in
      ap (λ (y : List Deed). job y name) (after_joined (put x ∷ e) (closes_where d landed x) (all_of (fix_job d caller n) xs).deeds)
      ∙ still d name (after next (all_of (fix_job d caller n) xs).deeds) ((c || (landed && is_job x)) || (landed && list_any is_job xs))
      (c || (landed && (is_job x || list_any is_job xs))) (and_or c landed (is_job x) (list_any is_job xs))
      (closed_all xs next (c || (landed && is_job x)) (closed_one (put x ∷ e) c landed x h))

  -- ---- fixes

  abbrev fixed : List Deed → Option FormValue
  fixed e = spec e FixForm (fix_name name n)

  fixed_stays : (e : List Deed) (b : Bool) (x : List ℕ) → fixed (after e (closes_where d b x)) ≡ fixed e
  fixed_stays e false x = refl
  fixed_stays e true x = go (job d x)
    where
      go : (o : Option FormValue) → fixed (after e (elim o as (λ _. List Deed) [ None ↦ [] | Some form ↦ Spec JobForm x (closed form) ∷ [] ])) ≡ fixed e
      go None = refl
      go (Some form) = refl

  fixed_one : (e : List Deed) (x : List ℕ) → is_some (fixed (put x ∷ e)) ≡ (is_job x || is_some (fixed e))
  fixed_one e x =
      ap (λ (b : Bool). is_some (option_or (when b (fix_form x n caller.user (codes "on"))) (fixed e))) (names_same x name n) ∙ go (is_job x)
    where
      go : (b : Bool) → is_some (option_or (when b (fix_form x n caller.user (codes "on"))) (fixed e)) ≡ (b || is_some (fixed e))
      go true = refl
      go false = refl

  fixed_all : (xs : List (List ℕ)) (e : List Deed) → is_some (fixed (after e (all_of (fix_job d caller n) xs).deeds)) ≡ (is_some (fixed e) || list_any is_job xs)
  fixed_all [] e = sym (or_false (is_some (fixed e)))
  fixed_all (x ∷ xs) e =
      let next = after (put x ∷ e) (closes_where d landed x) in
      ap (λ (y : List Deed). is_some (fixed y)) (after_joined (put x ∷ e) (closes_where d landed x) (all_of (fix_job d caller n) xs).deeds)
      ∙ fixed_all xs next
      ∙ ap (λ (b : Bool). b || list_any is_job xs) (ap is_some (fixed_stays (put x ∷ e) landed x) ∙ fixed_one e x)
      ∙ first_next (is_some (fixed e)) (is_job x) (list_any is_job xs)

  -- ---- both

  abbrev Closes : List Deed → Type 0
  Closes deeds = IsClosed d name (after d deeds) (closes_by_fix d name n deeds)

  all_close : (xs : List (List ℕ)) → Closes (all_of (fix_job d caller n) xs).deeds
  all_close xs =
      let deeds = (all_of (fix_job d caller n) xs).deeds in
      still d name (after d deeds) (landed && list_any is_job xs) (closes_by_fix d name n deeds)
      (ap (λ (b : Bool). landed && b) (sym (ap is_some (said_alone FixForm (fix_name name n) deeds) ∙ fixed_all xs []))) (closed_all xs d false refl)

  none_close : Closes []
  none_close = ap (λ (b : Bool). closed_where b (job d name)) (sym (and_false landed))

  pub fix_closes : (names : List (List ℕ)) → Closes (fix d caller n names).deeds
  fix_closes names =
      unless_holds Closes none_close (
      refuse_if (not (is_change d n)) (NoSuchChange n) ∷ map (no_job d) names ++ refuse_if (nat_lt 100 (fixes_then d n names)) (OverLimit Fixes) ∷ []
      ) (all_of (fix_job d caller n) (distinct names)) (all_close (distinct names))
