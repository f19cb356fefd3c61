-- Forms that are read or refused, the step of the first refusal, and refusals one after another.
use Rattle.std.proofs.Common.{◌≡◌, ◌⊎◌, inl, inr, ℕ, Bool, true, false, List, [], ◌∷◌, Option, Some, None, Result, Ok, Err, refl, sym, ap, ◌∙◌, subst}
use Rattle.std.specs.Prelude.{IfOk, option_map}
use Rattle.std.specs.declared.alloc.AllocError.{AllocError}
use Rattle.depot_rows.specs.depot_path.Answers.{Answers}
use Rattle.depot_rows.specs.spec_form.Form.{FormValue}
use Rattle.depot_rows.specs.spec_form.Reading.{form_of, no_memory}
use Rattle.depot_rows.specs.spec_form.declared.fault.FormFault.{FormFault}
use Rattle.depot_rows.specs.spec_form.declared.fault.FormFaultKind.TheVariants.{Memory}
use Rattle.depot_rows.specs.spec_form.declared.shape.Shape.{Shape}
use Rattle.depot_rows.specs.table_changes.Changed.{AllRows}
use Rattle.depot_rows.specs.depot_model.declared.refusal.Refusal.{Refusal}
use Rattle.depot_rows.specs.depot_model.declared.refusal.Refusal.TheVariants.{BadForm}
use Rattle.depot_rows.specs.depot_model.declared.reply.Row.{Row}
use Rattle.depot_rows.specs.depot_model.Deeds.{Deed}
use Rattle.depot_rows.specs.depot_model.Refusals.{refusal_row}
use Rattle.depot_rows.specs.depot_model.Step.{Step as ModelStep, refuse_if, refuses, unless}
use Rattle.reply_rows.specs.declared.step.Step.{Step}
use Rattle.reply_rows.specs.Made.{IsMade, told}
use Rattle.reply_rows.specs.Refusing.{first_of}
use Rattle.reply_rows.proofs.Bare.{refuses_made}
use Rattle.reply_rows.proofs.Joined.{made_refusal}

abbrev failed : FormFault → Result FormValue FormFault
failed fault = Err fault

abbrev no_row : Option Row
no_row = None

module _ (all : AllRows) (d : List Deed) where
  -- the step of a form that is read, and of one that isn't
  abbrev pub by_form : (FormValue → ModelStep) → Result FormValue FormFault → ModelStep
  by_form saved read = elim read [ Err fault ↦ refuses (BadForm fault.line) | Ok form ↦ saved form ]

  module _ (shape : Shape) (text : List ℕ) (saved : FormValue → ModelStep) (step : Step) where
    abbrev IsSo : Result FormValue FormFault → Type 0
    IsSo read = IsMade all d d (by_form saved read) step

    pub read_made : (form : FormValue) → Answers no_memory (Ok form) (form_of shape text) → IsMade all d d (saved form) step → IsSo (form_of shape text)
    read_made form h made = go h.is
      where
        go : (Ok form ≡ Err no_memory) ⊎ (Ok form ≡ form_of shape text) → IsSo (form_of shape text)
        go (inl e) = absurd cc
        go (inr e) = subst IsSo e made

    pub unread_made : (fault : FormFault) → Answers no_memory (Err fault) (form_of shape text) → (fault.what ≡ Memory → ⊥)
        → step ≡ told (refusal_row (BadForm fault.line) ∷ []) → IsSo (form_of shape text)
    unread_made fault h known is = go h.is
      where
        go : (failed fault ≡ failed no_memory) ⊎ (failed fault ≡ form_of shape text) → IsSo (form_of shape text)
        go (inl e) = absurd (known (let same : fault ≡ no_memory = cc in ap (λ f. f.what) same))
        go (inr e) = subst IsSo e (subst (λ (s : Step). IsMade all d d (refuses (BadForm fault.line)) s) (sym is) (refuses_made all d d (BadForm fault.line)))

  -- the step of the first refusal, where there is one, or else the own step
  pub refused_made : (tests : List (Option Refusal)) (own : ModelStep) (row : Row) (step : Step)
      → Some row ≡ option_map refusal_row (first_of tests) → step ≡ told (row ∷ []) → IsMade all d d (unless tests own) step
  refused_made [] own row step holds is = absurd cc
  refused_made (None ∷ tests) own row step holds is = refused_made tests own row step holds is
  refused_made (Some why ∷ tests) own row step holds is =
      let same : row ≡ refusal_row why = cc in
      subst (λ (s : Step). IsMade all d d (refuses why) s) (sym (is ∙ (λ i. told (same i ∷ [])))) (refuses_made all d d why)

  pub granted_made : (tests : List (Option Refusal)) (own : ModelStep) (step : Step)
      → no_row ≡ option_map refusal_row (first_of tests) → IsMade all d d own step → IsMade all d d (unless tests own) step
  granted_made [] own step none is = is
  granted_made (None ∷ tests) own step none is = granted_made tests own step none is
  granted_made (Some why ∷ tests) own step none is = absurd cc

-- ---- refusals one after another: the first that holds is told, and one that doesn't hold is passed

module _ (all : AllRows) (d e : List Deed) where
  -- a refusal by its row, that holds and that doesn't
  pub first_told : (test : Option Refusal) (tests : List (Option Refusal)) (model : ModelStep) (found : Option Row) (row : Row) (step : Step) → found ≡ Some row
      → found ≡ option_map refusal_row test → step ≡ told (row ∷ []) → IsMade all d e (unless (test ∷ tests) model) step
  first_told None tests model found row step is made tells = absurd cc
  first_told (Some why) tests model found row step is made tells = let one : row ≡ refusal_row why = cc in made_refusal all d e why row step one tells

  pub passed_first : (test : Option Refusal) (tests : List (Option Refusal)) (model : ModelStep) (found : Option Row) (step : Step) → ((row : Row) → found ≡ Some row → ⊥)
      → found ≡ option_map refusal_row test → IsMade all d e (unless tests model) step → IsMade all d e (unless (test ∷ tests) model) step
  passed_first None tests model found step none made is = is
  passed_first (Some why) tests model found step none made is = absurd (none (refusal_row why) made)

  -- one by its test
  pub holding_told : (test : Bool) (why : Refusal) (tests : List (Option Refusal)) (model : ModelStep) (row : Row) (step : Step) → test ≡ true → row ≡ refusal_row why
      → step ≡ told (row ∷ []) → IsMade all d e (unless (refuse_if test why ∷ tests) model) step
  holding_told true why tests model row step holds is tells = made_refusal all d e why row step is tells
  holding_told false why tests model row step holds is tells = absurd cc

  pub passed_if : (test : Bool) (why : Refusal) (tests : List (Option Refusal)) (model : ModelStep) (step : Step) → test ≡ false → IsMade all d e (unless tests model) step
      → IsMade all d e (unless (refuse_if test why ∷ tests) model) step
  passed_if true why tests model step fails is = absurd cc
  passed_if false why tests model step fails is = is

-- ---- what is found, and a step that a call gives and that is handed on

pub none_found : {A : Type 0} (found : Option A) → ((x : A) → found ≡ Some x → ⊥) → found ≡ None
none_found None none = refl
none_found (Some x) none = absurd (none x refl)

pub if_ok : {Q : Step → Type 0} (P : Step → Type 0) (result : Result Step AllocError) → IfOk result P → ((step : Step) → P step → Q step) → IfOk result Q
if_ok P (Ok step) is more = more step is
if_ok P (Err e) is more = tt
