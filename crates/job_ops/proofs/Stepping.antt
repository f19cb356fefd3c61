-- Steps of jobs one after another.
use Rattle.std.proofs.Common.{◌≡◌, ℕ, Bool, true, false, List, [], ◌∷◌, ◌++◌, Option, Some, None, refl, sym, ap, subst, ◌∙◌, append-nil}
use Rattle.std.specs.Prelude.{codes, if◌then◌else◌, is_some}
use Rattle.depot_rows.specs.table_changes.Changed.{AllRows}
use Rattle.depot_rows.specs.spec_form.Form.{FormValue, with_field}
use Rattle.depot_rows.specs.depot_model.declared.request.Caller.{Caller}
use Rattle.depot_rows.specs.depot_model.declared.reply.Row.{Row}
use Rattle.depot_rows.specs.depot_model.Deeds as model
use Rattle.depot_rows.specs.depot_model.Deeds.{Deed, FixForm}
use Rattle.depot_rows.specs.depot_model.Fixes.{closes, fix_form, fix_name, is_on}
use Rattle.depot_rows.specs.depot_model.Latest.{spec}
use Rattle.depot_rows.specs.depot_model.Numbers.{landing}
use Rattle.depot_rows.specs.depot_model.Step.{Step as ModelStep, after, all_of, both, nothing}
use Rattle.depot_rows.specs.depot_model.Steps.Jobs.{closes_where, fix_job, fixed_row, unfix, unfix_job}
use Rattle.depot_rows.specs.Effects.{Follow}
use Rattle.depot_rows.specs.declared.deed.Deed.{Deed as Done}
use Rattle.depot_rows.specs.declared.deed.Deed.TheVariants as dones
use Rattle.depot_rows.specs.declared.deed.SpecKind.TheVariants.{Fix}
use Rattle.reply_rows.specs.declared.step.Step.{Step}
use Rattle.reply_rows.specs.Made.{IsMade, told}
use Rattle.reply_rows.proofs.Bare.{made_of}
use Rattle.reply_rows.proofs.Joined.{both_assoc, both_nothing, made_on, then_on}
use Rattle.job_fixes.specs.Telling.{Tells}
use Rattle.job_ops.proofs.Telling.{AreSpecs, closes_specs, specs_follow}

-- ---- one step more

all_on : {A : Type 0} (act : A → ModelStep) (xs : List A) (x : A) → both (all_of act xs) (act x) ≡ all_of act (xs ++ x ∷ [])
all_on act [] x = sym (both_nothing (act x))
all_on act (y ∷ xs) x = both_assoc (act y) (all_of act xs) (act x) ∙ ap (λ (m : ModelStep). both (act y) m) (all_on act xs x)

module _ (all : AllRows) (d e : List Deed) (act : List ℕ → ModelStep) where
  pub step_more : (names : List (List ℕ)) (name : List ℕ) (step more joined : Step) → IsMade all d e (all_of act names) step
      → IsMade all d (after e (all_of act names).deeds) (act name) more
      → joined.deeds ≡ step.deeds ++ more.deeds → joined.rows ≡ step.rows ++ more.rows → joined.stores ≡ step.stores ++ more.stores
      → joined.reads ≡ step.reads ++ more.reads → IsMade all d e (all_of act (names ++ name ∷ [])) joined
  step_more names name step more joined was is deeds rows stores reads =
      let one : joined ≡ then_on step more = λ i. record { deeds = deeds i; rows = rows i; stores = stores i; reads = reads i } in
      subst (λ (m : ModelStep). IsMade all d e m joined) (all_on act names name)
      (subst (λ (x : Step). IsMade all d e (both (all_of act names) (act name)) x) (sym one) (made_on all d e (all_of act names) (act name) step more was is))

  pub no_step : (step : Step) → step ≡ told [] → IsMade all d e nothing step
  no_step step is = subst (λ (s : Step). IsMade all d e nothing s) (sym is) (made_of all d e nothing (told []) tt tt refl refl refl)

-- ---- a fix that is put on

where_specs : (d : List Deed) (landed : Bool) (name : List ℕ) → AreSpecs (closes_where d landed name)
where_specs d true name = closes_specs d name
where_specs d false name = tt

pub where_told : (d : List Deed) (landed : Bool) (name : List ℕ) (before now : List Done) → landed ≡ true → Tells before now (closes d name) → Tells before now (closes_where d landed name)
where_told d true name before now e tells = tells
where_told d false name before now e tells = absurd (let no : false ≡ true = e in cc)

pub where_none : (d : List Deed) (landed : Bool) (name : List ℕ) (before : List Done) → landed ≡ false → Tells before before (closes_where d landed name)
where_none d true name before e = absurd (let no : true ≡ false = e in cc)
where_none d false name before e = ([], (sym (append-nil before), tt))

module _ (all : AllRows) (d e : List Deed) (caller : Caller) (n : ℕ) (name : List ℕ) where
  abbrev on_deed : Deed
  on_deed = model.Spec FixForm (fix_name name n) (fix_form name n caller.user (codes "on"))

  pub fixed_made : (landed : Bool) (row : Row) (form : FormValue) (key : List ℕ) (before : List Done) (step : Step) → landed ≡ is_some (landing d n)
      → row ≡ fixed_row name n (codes "fixed") → form ≡ fix_form name n caller.user (codes "on") → key ≡ fix_name name n → before ≡ dones.Spec Fix key form ∷ []
      → Tells before step.deeds (closes_where d landed name) → step.rows ≡ row ∷ [] → step.stores ≡ [] → step.reads ≡ [] → IsMade all d e (fix_job d caller n name) step
  fixed_made landed row form key before step is_landed row_is form_is key_is before_is tells rows stores reads =
      made_of all d e (fix_job d caller n name) step (refl, tt)
      (subst (λ (b : Bool). Follow e step.deeds (on_deed ∷ closes_where d b name)) is_landed
      (subst (λ (dones : List Done). Follow e dones (on_deed ∷ closes_where d landed name)) (sym deeds_are) (refl, tt, specs_follow (on_deed ∷ e) tells.0 (closes_where d landed name) tells.1.1 (where_specs d landed name))))
      (rows ∙ ap (λ (r : Row). r ∷ []) row_is) stores reads
    where
      deeds_are : step.deeds ≡ dones.Spec Fix (fix_name name n) (fix_form name n caller.user (codes "on")) ∷ tells.0
      deeds_are = tells.1.0 ∙ ap (λ (l : List Done). l ++ tells.0) (before_is ∙ (λ i. dones.Spec Fix (key_is i) (form_is i) ∷ []))

-- ---- a fix that is taken off

module _ (all : AllRows) (d e : List Deed) (n : ℕ) (name : List ℕ) where
  pub unfixed_made : (form : FormValue) (row : Row) (key : List ℕ) (step : Step) → row ≡ fixed_row name n (codes "deleted") → key ≡ fix_name name n
      → step.deeds ≡ dones.Spec Fix key (with_field (codes "State") (codes "off") form) ∷ [] → step.rows ≡ row ∷ [] → step.stores ≡ [] → step.reads ≡ [] → IsMade all d e (unfix n name form) step
  unfixed_made form row key step row_is key_is deeds rows stores reads =
      made_of all d e (unfix n name form) step (refl, tt)
      (subst (λ (dones : List Done). Follow e dones (model.Spec FixForm (fix_name name n) (with_field (codes "State") (codes "off") form) ∷ []))
      (sym (deeds ∙ (λ i. dones.Spec Fix (key_is i) (with_field (codes "State") (codes "off") form) ∷ []))) (refl, tt, tt))
      (rows ∙ ap (λ (r : Row). r ∷ []) row_is) stores reads

  abbrev by_form : Option FormValue → ModelStep
  by_form o = elim o as (λ _. ModelStep) [
    | None ↦ nothing
    | Some form ↦ if (elim o as (λ _. Bool) [ None ↦ false | Some f ↦ is_on f ]) then unfix n name form else nothing
  ]

  pub unfix_none : (step : Step) → None ≡ spec d FixForm (fix_name name n) → step ≡ told [] → IsMade all d e (unfix_job d n name) step
  unfix_none step none is = subst (λ (o : Option FormValue). IsMade all d e (by_form o) step) none (no_step all d e (λ _. nothing) step is)

  pub unfix_off : (form : FormValue) (step : Step) → Some form ≡ spec d FixForm (fix_name name n) → is_on form ≡ false → step ≡ told [] → IsMade all d e (unfix_job d n name) step
  unfix_off form step some off is =
      subst (λ (o : Option FormValue). IsMade all d e (by_form o) step) some
      (subst (λ (b : Bool). IsMade all d e (if b then unfix n name form else nothing) step) (sym off) (no_step all d e (λ _. nothing) step is))

  pub unfix_on : (form : FormValue) (step : Step) → Some form ≡ spec d FixForm (fix_name name n) → is_on form ≡ true → IsMade all d e (unfix n name form) step
      → IsMade all d e (unfix_job d n name) step
  unfix_on form step some on made =
      subst (λ (o : Option FormValue). IsMade all d e (by_form o) step) some
      (subst (λ (b : Bool). IsMade all d e (if b then unfix n name form else nothing) step) (sym on) made)
