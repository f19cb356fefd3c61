-- The fixes of a change that lands under another number go over to it.
use Rattle.std.proofs.Common.{◌≡◌, ℕ, Bool, true, false, List, [], ◌∷◌, ◌++◌, Option, Some, None, Ok, inl, inr, refl, sym, ap, subst, ◌∙◌}
use Rattle.std.specs.Prelude.{◌&&◌, ◌||◌, ◌==◌, not, codes, decimal, flat_map, if◌then◌else◌, option_map}
use Rattle.std.specs.List.{list_any}
use Rattle.std.specs.Option.{option_or}
use Rattle.std.proofs.lemmas.Option.{same_Some}
use Rattle.std.proofs.lemmas.Bool.{and_parts}
use Rattle.depot_model.specs.depot_path.Bytes.{same}
use Rattle.depot_model.specs.spec_form.Form.{FormValue, with_field}
use Rattle.depot_model.specs.Commands.{step}
use Rattle.depot_model.specs.Deeds.{Deed, Opening, Land, Spec, FixForm, JobForm}
use Rattle.depot_model.specs.Fixes.{closed, closes, closing, fix_name, fixed_job, fixes_of, has_fix, job, renumbers, renumbers_where}
use Rattle.depot_model.specs.Latest.{when, spec}
use Rattle.depot_model.specs.Rules.{IsSound}
use Rattle.depot_model.specs.Step.{after}
use Rattle.depot_model.specs.Steps.Submitting.{dropped, got_and_shut, landed, landing_number, landing_of}
use Rattle.depot_model.specs.declared.command.Command.{Command}
use Rattle.depot_model.specs.declared.command.Command.TheVariants.{SubmitChange, SubmitDefault}
use Rattle.depot_model.specs.declared.request.Request.{Request}
use Rattle.depot_rows.proofs.Entries.{In}
use Rattle.depot_rows.proofs.Keys.{same-is, same-self}
use Rattle.depot_runs.specs.Folds.{landed_by}
use Rattle.depot_facts.proofs.Decimals.{decimal_digits, parts_is}
use Rattle.depot_facts.proofs.Steps.{after_joined}
use Rattle.step_forms.proofs.Whole.{from_own}
use Rattle.job_laws.specs.Renumbering.{submitted, is_written, fix_moved, fix_landed}
use Rattle.job_laws.proofs.Closing.{either, is_fix, or_false, or_or}
use Rattle.job_laws.proofs.Jobs.{fixed_alike}
use Rattle.job_laws.proofs.Named.{AreNamed, saved_fix, sound_named}
use Rattle.job_laws.proofs.Submits.{of_submit, of_submit_change, unsaved}

key_same : (x name : List ℕ) (a k : ℕ) → same (fix_name x a) (fix_name name k) ≡ (same x name && is_written k a)
key_same x name a k = either (same (fix_name x a) (fix_name name k)) (same x name && is_written k a) up down
  where
    up : same (fix_name x a) (fix_name name k) ≡ true → (same x name && is_written k a) ≡ true
    up e =
        let parts = parts_is x name (decimal a) (decimal k) (decimal_digits a) (decimal_digits k) (same-is (fix_name x a) (fix_name name k) e) in
        let one : same x name ≡ true = sym (ap (same x) parts.0) ∙ same-self x in
        let two : is_written k a ≡ true = ap (same (decimal k)) parts.1 ∙ same-self (decimal k) in
        (λ i. one i && two i)

    down : (same x name && is_written k a) ≡ true → same (fix_name x a) (fix_name name k) ≡ true
    down e =
        let one : x ≡ name = same-is x name (and_parts (same x name) (is_written k a) e).0 in
        let two : decimal k ≡ decimal a = same-is (decimal k) (decimal a) (and_parts (same x name) (is_written k a) e).1 in
        let back : name ≡ x = sym one in
        (λ i. same (fix_name x a) (back i ++ 0x20 ∷ two i)) ∙ same-self (fix_name x a)

module _ (d : List Deed) (n m : ℕ) (name : List ℕ) (k : ℕ) where
  abbrev fixed : List Deed → Option FormValue
  fixed e = spec e FixForm (fix_name name k)

  abbrev now : Bool → Option FormValue
  now b = if b then fix_moved d n m name k else fixed d

  closes_keep : (e : List Deed) (x : List ℕ) → fixed (after e (closes d x)) ≡ fixed e
  closes_keep e x = go (job d x)
    where
      go : (o : Option FormValue) → fixed (after e (elim o as (λ _. List Deed) [ None ↦ [] | Some form ↦ Spec JobForm x (closed form) ∷ [] ])) ≡ fixed e
      go None = refl
      go (Some form) = refl

  -- one fix goes over
  module _ (e : List Deed) (b : Bool) (form : FormValue) (h : fixed e ≡ now b) where
    abbrev over : FormValue
    over = with_field (codes "Change") (decimal m) form

    abbrev off : FormValue
    off = with_field (codes "State") (codes "off") form

    abbrev then_fixed : Bool → Bool → Option FormValue
    then_fixed inside outside = option_or (when inside over) (option_or (when outside off) (fixed e))

    is_so : fixed (after e (renumbers n m form)) ≡ then_fixed (is_fix d name form && is_written k m) (is_fix d name form && is_written k n)
    is_so = λ i. then_fixed (key_same (fixed_job form) name m k i) (key_same (fixed_job form) name n k i)

    unlike : is_fix d name form ≡ false → fixed (after e (renumbers n m form)) ≡ now (b || is_fix d name form)
    unlike other =
        is_so ∙ (λ i. then_fixed (other i && is_written k m) (other i && is_written k n)) ∙ h
        ∙ ap now (sym (or_false b) ∙ ap (λ (t : Bool). b || t) (sym other))

    alike : is_fix d name form ≡ true → spec d FixForm (fix_name (fixed_job form) n) ≡ Some form → fixed (after e (renumbers n m form)) ≡ now (b || is_fix d name form)
    alike mine saved =
        is_so ∙ (λ i. then_fixed (mine i && is_written k m) (mine i && is_written k n)) ∙ go (is_written k m) (is_written k n) b h
        ∙ ap now (sym (or_true b) ∙ ap (λ (t : Bool). b || t) (sym mine))
      where
        or_true : (t : Bool) → (t || true) ≡ true
        or_true true = refl
        or_true false = refl

        was : Option FormValue
        was = spec d FixForm (fix_name name n)

        is : was ≡ Some form
        is = ap (λ (x : List ℕ). spec d FixForm (fix_name x n)) (sym (same-is (fixed_job form) name mine)) ∙ saved

        go : (inside outside c : Bool)
            → fixed e ≡ (if c then (if inside then option_map (with_field (codes "Change") (decimal m)) was else (if outside then option_map (with_field (codes "State") (codes "off")) was else fixed d)) else fixed d)
            → then_fixed inside outside
            ≡ (if inside then option_map (with_field (codes "Change") (decimal m)) was else (if outside then option_map (with_field (codes "State") (codes "off")) was else fixed d))
        go true outside c f = sym (ap (option_map (with_field (codes "Change") (decimal m))) is)
        go false true c f = sym (ap (option_map (with_field (codes "State") (codes "off"))) is)
        go false false true f = f
        go false false false f = f

    pub goes_over : spec d FixForm (fix_name (fixed_job form) n) ≡ Some form → fixed (after e (renumbers n m form)) ≡ now (b || is_fix d name form)
    goes_over saved = go (is_fix d name form) refl
      where
        go : (t : Bool) → is_fix d name form ≡ t → fixed (after e (renumbers n m form)) ≡ now (b || is_fix d name form)
        go true t = alike t saved
        go false t = unlike t

  abbrev AreSaved : List FormValue → Type 0
  AreSaved forms = (form : FormValue) → In forms form → spec d FixForm (fix_name (fixed_job form) n) ≡ Some form

  -- of a change that lands under another number
  module _ (other : (n == m) ≡ false) where
    one_goes : (e : List Deed) (b : Bool) (form : FormValue) → fixed e ≡ now b → spec d FixForm (fix_name (fixed_job form) n) ≡ Some form
        → fixed (after e (closing d n m form)) ≡ now (b || is_fix d name form)
    one_goes e b form h saved =
        (λ i. fixed (after e (renumbers_where (other i) n m form ++ closes d (fixed_job form))))
        ∙ ap fixed (after_joined e (renumbers n m form) (closes d (fixed_job form)))
        ∙ closes_keep (after e (renumbers n m form)) (fixed_job form) ∙ goes_over e b form h saved

    all_go : (forms : List FormValue) → AreSaved forms → (e : List Deed) (b : Bool) → fixed e ≡ now b
        → fixed (after e (flat_map (closing d n m) forms)) ≡ now (b || list_any (is_fix d name) forms)
    all_go [] saved e b h = h ∙ ap now (sym (or_false b))
    all_go (form ∷ forms) saved e b h =
        ap fixed (after_joined e (closing d n m form) (flat_map (closing d n m) forms))
        ∙ all_go forms (λ f there. saved f (inr there)) (after e (closing d n m form)) (b || is_fix d name form) (one_goes e b form h (saved form (inl refl)))
        ∙ ap now (or_or b (is_fix d name form) (list_any (is_fix d name) forms))

  -- of one that keeps its number
  module _ (own : (n == m) ≡ true) where
    all_keep : (forms : List FormValue) (e : List Deed) → fixed (after e (flat_map (closing d n m) forms)) ≡ fixed e
    all_keep [] e = refl
    all_keep (form ∷ forms) e =
        ap fixed (after_joined e (closing d n m form) (flat_map (closing d n m) forms))
        ∙ all_keep forms (after e (closing d n m form))
        ∙ (λ i. fixed (after e (renumbers_where (own i) n m form ++ closes d (fixed_job form)))) ∙ closes_keep e (fixed_job form)

  closings_follow : AreNamed d → (e : List Deed) → fixed e ≡ fixed d → fixed (after e (flat_map (closing d n m) (fixes_of d n))) ≡ fix_landed d n m name k
  closings_follow named e h = go (n == m) refl
    where
      pick : (b : Bool) → now b ≡ (if not b then fixed d else fix_moved d n m name k)
      pick true = refl
      pick false = refl

      go : (t : Bool) → (n == m) ≡ t → fixed (after e (flat_map (closing d n m) (fixes_of d n))) ≡ fix_landed d n m name k
      go true own = all_keep own (fixes_of d n) e ∙ h ∙ sym (ap (λ (t : Bool). if t || not (has_fix d n name) then fixed d else fix_moved d n m name k) own)
      go false other =
          all_go other (fixes_of d n) (saved_fix d named n) e false h ∙ ap now (fixed_alike d named n name) ∙ pick (has_fix d n name)
          ∙ sym (ap (λ (t : Bool). if t || not (has_fix d n name) then fixed d else fix_moved d n m name k) other)

-- ---- submits

module _ (d : List Deed) (named : AreNamed d) (request : Request) (n m : ℕ) (name : List ℕ) (k : ℕ) where
  abbrev Follow : List Deed → Type 0
  Follow deeds = landed_by deeds ≡ Some m → spec (after d deeds) FixForm (fix_name name k) ≡ fix_landed d n m name k

  landed_follow : (text : List ℕ) (openings : List Opening) → Follow (landed d request n text openings).deeds
  landed_follow text openings e =
      let first : List Deed = Land (landing_of d request n text openings) ∷ d in
      let before = dropped d n ++ flat_map (got_and_shut d) openings in
      ap (λ (x : List Deed). spec x FixForm (fix_name name k)) (after_joined first before (flat_map (closing d n (landing_number d n)) (fixes_of d n)))
      ∙ closings_follow d n (landing_number d n) name k named (after first before) (unsaved d FixForm (fix_name name k) (landing_of d request n text openings) n openings)
      ∙ ap (λ (number : ℕ). fix_landed d n number name k) (same_Some _ _ e)

  none_follow : Follow []
  none_follow e = absurd cc

  change_follows : request.command ≡ Ok (SubmitChange n) → Follow (step d request).deeds
  change_follows is = from_own d request Follow none_follow (SubmitChange n) is (of_submit_change d request n Follow none_follow landed_follow)

module _ (d : List Deed) (named : AreNamed d) (request : Request) (m : ℕ) (name : List ℕ) (k : ℕ) where
  default_follows : (text : List ℕ) → request.command ≡ Ok (SubmitDefault text) → Follow d named request 0 m name k (step d request).deeds
  default_follows text is =
      from_own d request (Follow d named request 0 m name k) (none_follow d named request 0 m name k) (SubmitDefault text) is
      (of_submit d request 0 (Follow d named request 0 m name k) (none_follow d named request 0 m name k) (landed_follow d named request 0 m name k) text)

pub fixes_follow : (d : List Deed) → IsSound d → (request : Request) (command : Command) (n m : ℕ) → request.command ≡ Ok command → submitted command ≡ Some n
    → landed_by (step d request).deeds ≡ Some m → (name : List ℕ) (k : ℕ) → spec (after d (step d request).deeds) FixForm (fix_name name k) ≡ fix_landed d n m name k
fixes_follow d sound request (SubmitChange c) n m is one landed name k =
    subst (λ (number : ℕ). spec (after d (step d request).deeds) FixForm (fix_name name k) ≡ fix_landed d number m name k) (same_Some _ _ one)
    (change_follows d (sound_named d sound) request c m name k is landed)
fixes_follow d sound request (SubmitDefault text) n m is one landed name k =
    subst (λ (number : ℕ). spec (after d (step d request).deeds) FixForm (fix_name name k) ≡ fix_landed d number m name k) (same_Some _ _ one)
    (default_follows d (sound_named d sound) request m name k text is landed)
fixes_follow d sound request _ n m is one landed name k = absurd cc
