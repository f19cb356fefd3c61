-- The step of a change that isn't refused is that of the model.
use Rattle.std.proofs.Common.{◌≡◌, ℕ, Bool, true, false, List, [], ◌∷◌, ◌++◌, map, Option, Some, None, refl, sym, subst, ◌∙◌}
use Rattle.std.specs.Prelude.{flat_map, codes, if◌then◌else◌, option_map, ◌==◌, ◌||◌}
use Rattle.std.specs.Option.{option_map_or}
use Rattle.depot_rows.specs.depot_model.Numbers.{pending}
use Rattle.depot_rows.specs.depot_model.Steps.Opening.{change_refusal}
use Rattle.depot_rows.specs.table_changes.Changed.{AllRows}
use Rattle.depot_rows.specs.depot_model.declared.reply.Row.{Row}
use Rattle.depot_rows.specs.depot_model.declared.request.Request.{Request}
use Rattle.depot_rows.specs.depot_model.declared.refusal.Refusal.{Refusal}
use Rattle.depot_rows.specs.depot_model.Deeds as model
use Rattle.depot_rows.specs.depot_model.Deeds.{Deed, Land, Opening}
use Rattle.depot_rows.specs.spec_form.Form.{FormValue}
use Rattle.depot_rows.specs.depot_model.Fixes.{closed, closes, closing, fixed_job, fixes_of, job, renumbers_where}
use Rattle.depot_rows.specs.depot_model.Refusals.{refusal_row}
use Rattle.depot_rows.specs.depot_model.Rows.{row, number_field}
use Rattle.depot_rows.specs.depot_model.Rules.{IsSound}
use Rattle.depot_rows.specs.depot_model.Step.{Step as ModelStep, refuses, unless}
use Rattle.depot_rows.specs.depot_model.Steps.Submitting.{dropped, file_row, got_and_shut, landed, landing_number, landing_of, openings_of, submit, submit_change}
use Rattle.depot_rows.specs.Deed.{IsLanding}
use Rattle.depot_rows.specs.Effects.{Follow}
use Rattle.depot_rows.specs.declared.deed.Deed.{Deed as Done}
use Rattle.depot_rows.specs.declared.deed.Deed.TheVariants as dones
use Rattle.depot_rows.specs.declared.deed.Landing.{Landing}
use Rattle.reply_rows.specs.declared.content.RowContent.{RowContent}
use Rattle.reply_rows.specs.Made.{ComeFrom, told}
use Rattle.reply_rows.specs.declared.step.Step.{Step}
use Rattle.reply_rows.proofs.Bare.{AreBare, none_told, rows_wait}
use Rattle.reply_rows.proofs.Joined.{made_refusal}
use Rattle.depot_facts.specs.Following.{AreTold}
use Rattle.depot_facts.specs.Submits.{MaySubmit}
use Rattle.depot_facts.proofs.Following.{submit_follows}
use Rattle.step_stores.specs.Stored.{ArePlaced, AreStored, IsStoring, NothingLands}
use Rattle.step_stores.proofs.Storing.{made_stores, none_land}

-- ---- no further change is submitted

nothing_on : (s t : List Deed) → NothingLands s → NothingLands t → NothingLands (s ++ t)
nothing_on [] t h k = k
nothing_on (model.Spec kind name form ∷ s) t h k = nothing_on s t h k
nothing_on (model.Guard lines ∷ s) t h k = nothing_on s t h k
nothing_on (model.Group name names ∷ s) t h k = nothing_on s t h k
nothing_on (model.Count name value ∷ s) t h k = nothing_on s t h k
nothing_on (model.Pend p ∷ s) t h k = nothing_on s t h k
nothing_on (model.Drop n ∷ s) t h k = nothing_on s t h k
nothing_on (model.Open o ∷ s) t h k = nothing_on s t h k
nothing_on (model.Shut held ∷ s) t h k = nothing_on s t h k
nothing_on (model.Hold held ∷ s) t h k = nothing_on s t h k
nothing_on (model.Free held ∷ s) t h k = nothing_on s t h k
nothing_on (model.Got held rev ∷ s) t h k = nothing_on s t h k
nothing_on (model.Tag label path rev ∷ s) t h k = nothing_on s t h k
nothing_on (model.Owe o ∷ s) t h k = nothing_on s t h k
nothing_on (model.Paid held from how ∷ s) t h k = nothing_on s t h k
nothing_on (model.Land l ∷ s) t h k = absurd h

module _ (d : List Deed) (n : ℕ) where
  dropped_none : NothingLands (dropped d n)
  dropped_none = go ((n == 0) || (n == landing_number d n))
    where
      go : (b : Bool) → NothingLands (if b then [] else model.Drop n ∷ [])
      go true = tt
      go false = tt

  files_none : (os : List Opening) → NothingLands (flat_map (got_and_shut d) os)
  files_none [] = tt
  files_none (o ∷ os) = files_none os

  renumbers_none : (b : Bool) (m : ℕ) (form : FormValue) → NothingLands (renumbers_where b n m form)
  renumbers_none true m form = tt
  renumbers_none false m form = tt

  closes_none : (job_name : List ℕ) → NothingLands (closes d job_name)
  closes_none name = go (job d name)
    where
      go : (o : Option FormValue) → NothingLands (elim o as (λ _. List Deed) [ None ↦ [] | Some form ↦ model.Spec model.JobForm name (closed form) ∷ [] ])
      go None = tt
      go (Some form) = tt

  closings_none : (m : ℕ) (forms : List FormValue) → NothingLands (flat_map (closing d n m) forms)
  closings_none m [] = tt
  closings_none m (form ∷ forms) =
      nothing_on (closing d n m form) (flat_map (closing d n m) forms)
      (nothing_on (renumbers_where (n == m) n m form) (closes d (fixed_job form)) (renumbers_none (n == m) m form) (closes_none (fixed_job form)))
      (closings_none m forms)

-- ---- its rows have no content

files_bare : (d : List Deed) (os : List Opening) (last : Row) → last.content ≡ None → AreBare (map (file_row d) os ++ last ∷ [])
files_bare d [] last bare = (bare, tt)
files_bare d (o ∷ os) last bare = (refl, files_bare d os last bare)

module _ (all : AllRows) (from : ℕ) (d : List Deed) (sound : IsSound d) (request : Request) (n : ℕ) (text : List ℕ) (may : MaySubmit d request n) where
  abbrev openings : List Opening
  openings = openings_of d request.caller n

  abbrev land : model.Landing
  land = landing_of d request n text openings

  abbrev later : List Deed
  later = dropped d n ++ flat_map (got_and_shut d) openings ++ flat_map (closing d n (landing_number d n)) (fixes_of d n)

  later_none : NothingLands later
  later_none =
      nothing_on (dropped d n ++ flat_map (got_and_shut d) openings) (flat_map (closing d n (landing_number d n)) (fixes_of d n))
      (nothing_on (dropped d n) (flat_map (got_and_shut d) openings) (dropped_none d n) (files_none d n openings))
      (closings_none d n (landing_number d n) (fixes_of d n))

  -- the deeds of a change, the files of which are placed, and rows of them
  pub landed_stores : (l : Landing) (done : List Done) (step : Step) → IsLanding d l land → ArePlaced all d step.stores from l.entries land.entries → AreTold done later
      → step.deeds ≡ dones.Land l ∷ done → step.rows ≡ map (file_row d) openings ++ row (number_field (codes "submittedChange") (landing_number d n) ∷ []) ∷ [] → step.reads ≡ []
      → IsStoring all from d (landed d request n text openings) step
  landed_stores l done step is placed are deeds rows reads = record {
    deeds = subst (λ (x : List Done). Follow d x (landed d request n text openings).deeds) (sym deeds) follows;
    rows = rows ∙ sym (rows_wait (landed d request n text openings).rows bare);
    stores = subst (λ (x : List Done). AreStored all from d step.stores x (landed d request n text openings).deeds) (sym deeds)
        (placed, (none_land (model.Land land ∷ d) done later follows.2 later_none, later_none));
    reads =
        let P : List (List ℕ) → Type 0 = λ contents. ComeFrom all d contents step.reads in
        let Q : List RowContent → Type 0 = λ places. ComeFrom all d [] places in
        subst P (sym (none_told (landed d request n text openings).rows bare)) (subst Q (sym reads) tt);
  }
    where
      follows : Follow d (dones.Land l ∷ done) (landed d request n text openings).deeds
      follows = submit_follows d sound request n text may l done is are

      bare : AreBare (landed d request n text openings).rows
      bare = files_bare d openings (row (number_field (codes "submittedChange") (landing_number d n) ∷ [])) refl

-- ---- a refusal

pub refusal_stores : (all : AllRows) (from : ℕ) (d : List Deed) (why : Refusal) (row : Row) (step : Step) → row ≡ refusal_row why → step ≡ told (row ∷ [])
    → IsStoring all from d (refuses why) step
refusal_stores all from d why row step is e = made_stores all from d (refuses why) step (made_refusal all d d why row step is e) tt

-- a change that is refused by name
pub change_refused : (all : AllRows) (from : ℕ) (d : List Deed) (request : Request) (n : ℕ) (row : Row) (step : Step)
    → Some row ≡ option_map refusal_row (change_refusal d request.caller n) → step ≡ told (row ∷ []) → IsStoring all from d (submit_change d request n) step
change_refused all from d request n row step is made = go (change_refusal d request.caller n) is
  where
    inner : ModelStep
    inner = submit d request n (option_map_or (λ (p : model.Pending). p.text) (pending d n) [])

    go : (o : Option Refusal) → Some row ≡ option_map refusal_row o → IsStoring all from d (unless (o ∷ []) inner) step
    go None e = absurd cc
    go (Some why) e = let one : row ≡ refusal_row why = cc in refusal_stores all from d why row step one made
