-- The rows of jobs and fixes.
use Rattle.std.proofs.Common.{◌≡◌, ℕ, List, [], ◌∷◌, ◌++◌, map, Option, Some, None, refl, sym, ap, subst, ◌∙◌, append_assoc, append-nil}
use Rattle.std.specs.Prelude.{filter, filter_map, option_map}
use Rattle.std.specs.List.{cons_option}
use Rattle.std.specs.Option.{option_to_list}
use Rattle.depot_rows.specs.spec_form.Form.{FormValue}
use Rattle.depot_rows.specs.table_changes.Changed.{AllRows}
use Rattle.depot_rows.specs.depot_model.declared.reply.Row.{Row}
use Rattle.depot_rows.specs.depot_model.declared.request.Caller.{Caller}
use Rattle.depot_rows.specs.depot_model.declared.refusal.Refusal.TheVariants.{NoSuchJob}
use Rattle.depot_rows.specs.depot_model.Deeds.{Deed}
use Rattle.depot_rows.specs.depot_model.Fixes.{fixes_on, job, job_names}
use Rattle.depot_rows.specs.depot_model.FormRows.{form_fields}
use Rattle.depot_rows.specs.depot_model.Refusals.{refusal_row}
use Rattle.depot_rows.specs.depot_model.Rows.{row}
use Rattle.depot_rows.specs.depot_model.Step.{Step as ModelStep, refuses, tells}
use Rattle.depot_rows.specs.depot_model.Steps.Jobs.{fix_row, fixes, is_wanted, job_row, job_show, jobs}
use Rattle.reply_rows.specs.declared.step.Step.{Step}
use Rattle.reply_rows.specs.Made.{IsMade, told}
use Rattle.reply_rows.proofs.Bare.{AreBare, tells_made}
use Rattle.reply_rows.proofs.Joined.{made_row}

-- rows that are made without contents
mapped_bare : {A : Type 0} (f : A → Row) → ((x : A) → (f x).content ≡ None) → (xs : List A) → AreBare (map f xs)
mapped_bare f bare [] = tt
mapped_bare f bare (x ∷ xs) = (bare x, mapped_bare f bare xs)

told_rows : (all : AllRows) (d : List Deed) (model : List Row) (rows : List Row) → AreBare model → rows ≡ model → IsMade all d d (tells model) (told rows)
told_rows all d model rows bare is = subst (λ (r : List Row). IsMade all d d (tells model) (told r)) (sym is) (tells_made all d d model bare)

pub jobs_made : (all : AllRows) (d : List Deed) (rows : List Row) → rows ≡ map job_row (filter_map (job d) (job_names d)) → IsMade all d d (jobs d) (told rows)
jobs_made all d rows is =
    told_rows all d (map job_row (filter_map (job d) (job_names d))) rows (mapped_bare job_row (λ form. refl) (filter_map (job d) (job_names d))) is

pub fixes_made : (all : AllRows) (d : List Deed) (n : Option ℕ) (name : Option (List ℕ)) (rows : List Row) → rows ≡ map fix_row (filter (is_wanted n name) (fixes_on d))
    → IsMade all d d (fixes d n name) (told rows)
fixes_made all d n name rows is =
    told_rows all d (map fix_row (filter (is_wanted n name) (fixes_on d))) rows (mapped_bare fix_row (λ form. refl) (filter (is_wanted n name) (fixes_on d))) is

-- the row of a job, or of the refusal of a name under which none is saved
abbrev shown : List ℕ → Option FormValue → Row
shown name None = refusal_row (NoSuchJob name)
shown name (Some form) = row (form_fields form)

shown_bare : (name : List ℕ) (form : Option FormValue) → (shown name form).content ≡ None
shown_bare name None = refl
shown_bare name (Some form) = refl

shown_is : (name : List ℕ) (form : Option FormValue)
    → tells (shown name form ∷ []) ≡ (elim form as (λ _. ModelStep) [ None ↦ refuses (NoSuchJob name) | Some f ↦ tells (row (form_fields f) ∷ []) ])
shown_is name None = refl
shown_is name (Some form) = refl

pub show_made : (all : AllRows) (d : List Deed) (caller : Caller) (asked : Option (List ℕ)) (name : List ℕ) (found : Option FormValue) (made : Row) (step : Step) → asked ≡ Some name
    → found ≡ job d name → made ≡ shown name found → step ≡ told (made ∷ []) → IsMade all d d (job_show d caller asked) step
show_made all d caller asked name found made step named saved is told_is =
    subst (λ (o : Option (List ℕ)). IsMade all d d (job_show d caller o) step) (sym named)
    (subst (λ (m : ModelStep). IsMade all d d m step) (shown_is name (job d name))
    (made_row all d d made (shown name (job d name)) step (is ∙ ap (shown name) saved) (shown_bare name (job d name)) told_is))

-- one row more, if there is one
pub row_more : (f : FormValue → Row) (rows new : List Row) (form : Option FormValue) (forms : List FormValue) → new ≡ rows ++ option_to_list (option_map f form)
    → new ++ map f forms ≡ rows ++ map f (cons_option form forms)
row_more f rows new None forms is = ap (λ (r : List Row). r ++ map f forms) (is ∙ append-nil rows)
row_more f rows new (Some form) forms is = ap (λ (r : List Row). r ++ map f forms) is ∙ append_assoc rows (f form ∷ []) (map f forms)

-- fields one after another
pub fields_on : {A : Type 0} (a b c : List A) (t : A) (one two three four : List A) → one ≡ [] ++ a → two ≡ one ++ b → three ≡ two ++ c → four ≡ three ++ t ∷ []
    → four ≡ ((a ++ b) ++ c) ++ t ∷ []
fields_on a b c t one two three four e f g h =
    h ∙ ap (λ (l : List _). l ++ t ∷ []) (g ∙ ap (λ (l : List _). l ++ c) (f ∙ ap (λ (l : List _). l ++ b) e))
