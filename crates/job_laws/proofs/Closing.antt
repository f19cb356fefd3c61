-- The deeds that close jobs: of the fixes of a change that lands, and of the jobs that are put on a submitted change.
use Rattle.std.proofs.Common.{◌≡◌, ℕ, Bool, true, false, List, [], ◌∷◌, ◌++◌, Option, Some, None, refl, sym, ap, ◌∙◌}
use Rattle.std.specs.Prelude.{◌||◌, ◌==◌, flat_map}
use Rattle.std.specs.List.{list_any}
use Rattle.std.specs.Option.{option_or}
use Rattle.depot_model.specs.depot_path.Bytes.{same}
use Rattle.depot_model.specs.spec_form.Form.{FormValue}
use Rattle.depot_model.specs.Deeds.{Deed, Opening, Land, Spec, JobForm}
use Rattle.depot_model.specs.Fixes.{closed, closes, closing, fixed_job, fixes_of, job, renumbers_where}
use Rattle.depot_model.specs.Latest.{when}
use Rattle.depot_model.specs.Step.{after}
use Rattle.depot_model.specs.Steps.Submitting.{dropped, got_and_shut, landed, landing_number, landing_of}
use Rattle.depot_model.specs.declared.request.Request.{Request}
use Rattle.depot_rows.proofs.Keys.{same-is}
use Rattle.depot_runs.specs.Folds.{closed_where}
use Rattle.depot_facts.proofs.Steps.{after_joined}
use Rattle.job_laws.proofs.Submits.{unsaved}

-- ---- words about tests

pub or_false : (b : Bool) → (b || false) ≡ b
or_false true = refl
or_false false = refl

or_true : (b : Bool) → (b || true) ≡ true
or_true true = refl
or_true false = refl

pub or_or : (a b c : Bool) → ((a || b) || c) ≡ (a || (b || c))
or_or true b c = refl
or_or false b c = refl

pub either : (a b : Bool) → (a ≡ true → b ≡ true) → (b ≡ true → a ≡ true) → a ≡ b
either true b up down = sym (up refl)
either false true up down = down refl
either false false up down = refl

none_closed : (b : Bool) → closed_where b None ≡ closed_where true None
none_closed true = refl
none_closed false = refl

module _ (d : List Deed) (name : List ℕ) where
  -- the job is closed or not, over a depot with more deeds than this one
  abbrev pub IsClosed : List Deed → Bool → Type 0
  IsClosed e b = job e name ≡ closed_where b (job d name)

  pub still : (e : List Deed) (b c : Bool) → b ≡ c → IsClosed e b → IsClosed e c
  still e b c is h = h ∙ ap (λ (t : Bool). closed_where t (job d name)) is

  abbrev close : List ℕ → Option FormValue → List Deed
  close other o = elim o [ None ↦ [] | Some form ↦ Spec JobForm other (closed form) ∷ [] ]

  pub closes_one : (e : List Deed) (b : Bool) (other : List ℕ) → IsClosed e b → IsClosed (after e (closes d other)) (b || same other name)
  closes_one e b other h = go (same other name) refl
    where
      miss : same other name ≡ false → (o : Option FormValue) → job (after e (close other o)) name ≡ job e name
      miss s None = refl
      miss s (Some form) = ap (λ (t : Bool). option_or (when t (closed form)) (job e name)) s

      hit : same other name ≡ true → (o : Option FormValue) → job d other ≡ o → job (after e (close other o)) name ≡ closed_where true (job d name)
      hit s None k =
          let none : job d name ≡ None = ap (job d) (sym (same-is other name s)) ∙ k in
          h ∙ ap (closed_where b) none ∙ none_closed b ∙ sym (ap (closed_where true) none)
      hit s (Some form) k =
          let some : job d name ≡ Some form = ap (job d) (sym (same-is other name s)) ∙ k in
          ap (λ (t : Bool). option_or (when t (closed form)) (job e name)) s ∙ sym (ap (closed_where true) some)

      go : (t : Bool) → same other name ≡ t → IsClosed (after e (close other (job d other))) (b || same other name)
      go true s = still (after e (close other (job d other))) true (b || same other name) (sym (or_true b) ∙ ap (λ (t : Bool). b || t) (sym s)) (hit s (job d other) refl)
      go false s = still (after e (close other (job d other))) b (b || same other name) (sym (or_false b) ∙ ap (λ (t : Bool). b || t) (sym s)) (miss s (job d other) ∙ h)

  -- ---- the fixes of a change that lands

  abbrev pub is_fix : FormValue → Bool
  is_fix form = same (fixed_job form) name

  module _ (n m : ℕ) where
    renumbered : (e : List Deed) (form : FormValue) (b : Bool) → job (after e (renumbers_where b n m form)) name ≡ job e name
    renumbered e form true = refl
    renumbered e form false = refl

    closing_one : (e : List Deed) (b : Bool) (form : FormValue) → IsClosed e b → IsClosed (after e (closing d n m form)) (b || is_fix form)
    closing_one e b form h =
        let first = renumbers_where (n == m) n m form in
        ap (λ (x : List Deed). job x name) (after_joined e first (closes d (fixed_job form)))
        ∙ closes_one (after e first) b (fixed_job form) (renumbered e form (n == m) ∙ h)

    closing_all : (forms : List FormValue) (e : List Deed) (b : Bool) → IsClosed e b → IsClosed (after e (flat_map (closing d n m) forms)) (b || list_any is_fix forms)
    closing_all [] e b h = still e b (b || false) (sym (or_false b)) h
    closing_all (form ∷ forms) e b h =
        ap (λ (x : List Deed). job x name) (after_joined e (closing d n m form) (flat_map (closing d n m) forms))
        ∙ still (after (after e (closing d n m form)) (flat_map (closing d n m) forms)) ((b || is_fix form) || list_any is_fix forms) (b || (is_fix form || list_any is_fix forms))
        (or_or b (is_fix form) (list_any is_fix forms)) (closing_all forms (after e (closing d n m form)) (b || is_fix form) (closing_one e b form h))

  pub landed_closes : (request : Request) (n : ℕ) (text : List ℕ) (openings : List Opening)
      → IsClosed (after d (landed d request n text openings).deeds) (list_any is_fix (fixes_of d n))
  landed_closes request n text openings =
      let first : List Deed = Land (landing_of d request n text openings) ∷ d in
      let gots = flat_map (got_and_shut d) openings in
      let before = dropped d n ++ gots in
      ap (λ (x : List Deed). job x name) (after_joined first before (flat_map (closing d n (landing_number d n)) (fixes_of d n)))
      ∙ closing_all n (landing_number d n) (fixes_of d n) (after first before) false
      (unsaved d JobForm name (landing_of d request n text openings) n openings)
