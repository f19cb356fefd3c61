-- Files that are opened as they were kept in a change, by their forms and what was found of them, are opened as the model opens them.
use Rattle.std.proofs.Common.{◌≡◌, ◌≤◌, ℕ, Bool, true, false, List, [], ◌∷◌, Option, Some, None, Result, Ok, Err, inl, inr, refl, sym, ap, subst, ◌∙◌, length, arith}
use Rattle.std.specs.Prelude.{codes, if◌then◌else◌, nat_lt, option_and_then, option_map, unwrap_or}
use Rattle.std.proofs.lemmas.Bool.Decides.{nat_tests}
use Rattle.depot_rows.specs.depot_path.Bytes.{same}
use Rattle.depot_rows.specs.depot_path.Digits.{number_of}
use Rattle.depot_rows.specs.depot_path.Path.{is_path, path_of}
use Rattle.depot_rows.specs.depot_path.declared.fault.PathFault.{PathFault}
use Rattle.depot_rows.specs.spec_form.Form.{FormValue, lines_of}
use Rattle.depot_rows.specs.spec_form.Printing.{printed_form}
use Rattle.depot_rows.specs.spec_form.declared.shape.Shape.TheVariants.{Shelf as ShelfShape}
use Rattle.depot_rows.specs.table_changes.Changed.{AllRows}
use Rattle.depot_rows.specs.depot_model.declared.request.Caller.{Caller}
use Rattle.depot_rows.specs.depot_model.Deeds.{Add, Deed, Delete, Edit, ShelfForm}
use Rattle.depot_rows.specs.depot_model.Latest.{spec, when}
use Rattle.depot_rows.specs.depot_model.Records.{record_of}
use Rattle.depot_rows.specs.depot_model.Rules.{HasItsSource, HasRev, IsBase, IsKept, IsSound, has_shelf_value, shelf_number, shelf_value}
use Rattle.depot_rows.specs.depot_model.Shelves.{is_kept, kept, kept_action, kept_base, kept_block, kept_opening, kept_source, shelf_name, source_at as source_in_form}
use Rattle.depot_rows.specs.depot_model.Step.{Step as ModelStep, nothing}
use Rattle.depot_rows.specs.depot_model.Steps.Shelving.{unshelve_file, unshelve_opening}
use Rattle.depot_rows.specs.depot_model.Values.{first_or_empty, value_of}
use Rattle.depot_rows.specs.Deed.{action_of, opening_of, source_of}
use Rattle.depot_rows.specs.declared.deed.Action.TheVariants as doings
use Rattle.depot_rows.specs.declared.deed.Opening.{Opening as Done}
use Rattle.depot_rows.proofs.Keys.{same-is}
use Rattle.opening_reads.specs.Read.{path_in_text, source_at as source_of_path}
use Rattle.reply_rows.specs.declared.step.Step.{Step}
use Rattle.reply_rows.specs.Made.{ComeFrom, IsMade, contents_of, waiting}
use Rattle.depot_facts.proofs.Read.{has_is, spelled_reads, value_is}
use Rattle.depot_facts.proofs.Revised.{rev_low}
use Rattle.depot_facts.proofs.Found.{saved_shelf, spelled}
use Rattle.shelf_ops.specs.Unshelved.{given_block, opens_kept, opens_waiting, unshelved_at, word_action}

-- ---- the numbers in the form of a kept file

rev_fits : (d : List Deed) → IsSound d → (text : List ℕ) (n : ℕ) → HasRev (record_of d) text n → n ≤ 4294967295
rev_fits d sound text n there =
    let low = rev_low d sound text n there in
    let most = (sound.rules).top_fits in
    omega (arith, low, most)

empty : (lines : List (List ℕ)) → nat_lt 0 (length lines) ≡ false → first_or_empty lines ≡ []
empty [] e = refl
empty (x ∷ lines) e = absurd (let f : nat_lt 0 (length (x ∷ lines)) ≡ true = grind (arith, nat_tests) in cc)

module _ (d : List Deed) (sound : IsSound d) (n : ℕ) (path : List ℕ) (form : FormValue) (saved : spec d ShelfForm (shelf_name n path) ≡ Some form) (on : is_kept form ≡ true) where
  abbrev text : List ℕ
  text = printed_form form

  value : (field : List ℕ) → shelf_value field text ≡ value_of form field
  value field = value_is ShelfShape form (spelled_reads ShelfForm form (spelled d sound ShelfForm (shelf_name n path) form saved)) field

  has : (field : List ℕ) → has_shelf_value text field ≡ nat_lt 0 (length (lines_of form field))
  has field = has_is ShelfShape form (spelled_reads ShelfForm form (spelled d sound ShelfForm (shelf_name n path) form saved)) field

  whole : IsKept (record_of d) text
  whole = (saved_shelf d sound (shelf_name n path) form saved).kept (value (codes "State") ∙ same-is (value_of form (codes "State")) (codes "kept") on)

  base_fits : kept_base form ≤ 4294967295
  base_fits = subst (λ (m : ℕ). m ≤ 4294967295) (ap number_of (value (codes "Base"))) (go whole.base)
    where
      go : IsBase (record_of d) (shelf_value (codes "Path") text) (shelf_number (codes "Base") text) → shelf_number (codes "Base") text ≤ 4294967295
      go (inl none) = let e : shelf_number (codes "Base") text ≡ 0 = none in omega (arith, e)
      go (inr there) = rev_fits d sound (shelf_value (codes "Path") text) (shelf_number (codes "Base") text) there

  from_fits : number_of (value_of form (codes "FromRev")) ≤ 4294967295
  from_fits = go whole.source
    where
      go : HasItsSource (record_of d) text → number_of (value_of form (codes "FromRev")) ≤ 4294967295
      go (inl none) =
          let e : value_of form (codes "FromRev") ≡ [] = empty (lines_of form (codes "FromRev")) (sym (has (codes "FromRev")) ∙ none.1) in
          let low : number_of [] ≤ 4294967295 = omega arith in
          subst (λ (w : List ℕ). number_of w ≤ 4294967295) (sym e) low
      go (inr some) =
          subst (λ (m : ℕ). m ≤ 4294967295) (ap number_of (value (codes "FromRev")))
          (rev_fits d sound (shelf_value (codes "From") text) (shelf_number (codes "FromRev") text) some.2)

pub kept_fits : (d : List Deed) → IsSound d → (n : ℕ) (path : List ℕ) (form : FormValue) → kept d n path ≡ Some form
    → (kept_base form ≤ 4294967295) × (number_of (value_of form (codes "FromRev")) ≤ 4294967295)
kept_fits d sound n path form = go (spec d ShelfForm (shelf_name n path)) refl
  where
    go : (o : Option FormValue) → spec d ShelfForm (shelf_name n path) ≡ o → option_and_then (λ f. when (is_kept f) f) o ≡ Some form
        → (kept_base form ≤ 4294967295) × (number_of (value_of form (codes "FromRev")) ≤ 4294967295)
    go None h k = absurd cc
    go (Some f) h k = test (is_kept f) refl k
      where
        test : (b : Bool) → is_kept f ≡ b → when b f ≡ Some form → (kept_base form ≤ 4294967295) × (number_of (value_of form (codes "FromRev")) ≤ 4294967295)
        test true on g =
            let one : f ≡ form = cc in
            let saved = h ∙ ap Some one in
            let kept_so = ap is_kept (sym one) ∙ on in
            (base_fits d sound n path form saved kept_so, from_fits d sound n path form saved kept_so)
        test false on g = absurd cc

-- ---- its action and its source

pub action_is : (form : FormValue) → action_of (word_action (value_of form (codes "Action"))) ≡ kept_action form
action_is form = go (same (codes "add") word) (same (codes "edit") word) (same (codes "delete") word)
  where
    word : List ℕ
    word = value_of form (codes "Action")

    go : (a b c : Bool) → action_of (if a then doings.Add else (if b then doings.Edit else (if c then doings.Delete else doings.Add)))
        ≡ unwrap_or (if a then Some Add else (if b then Some Edit else (if c then Some Delete else None))) Add
    go true b c = refl
    go false true c = refl
    go false false true = refl
    go false false false = refl

pub source_is : (form : FormValue) → option_map source_of (option_map (source_of_path (number_of (value_of form (codes "FromRev")))) (path_in_text (value_of form (codes "From")))) ≡ kept_source form
source_is form = go (path_of (value_of form (codes "From")))
  where
    go : (r : Result (List ℕ) PathFault)
        → option_map source_of (option_map (source_of_path (number_of (value_of form (codes "FromRev")))) (elim r as (λ _. Option (List ℕ)) [ Err fault ↦ None | Ok path ↦ Some path ]))
        ≡ source_in_form form (elim r as (λ _. List (List ℕ)) [ Err fault ↦ [] | Ok path ↦ path ∷ [] ])
    go (Err fault) = refl
    go (Ok path) = refl

-- ---- the step that opens it

pub opened_so : (all : AllRows) (d e : List Deed) (o : Done) (place block : Option (List ℕ)) (step : Step) → is_path o.path ≡ true
    → step ≡ opens_waiting o (waiting (unshelved_at (opening_of o) place block)) block → IsMade all d e (opens_kept (opening_of o) place block) step
opened_so all d e o place block step pathed made =
    subst (λ (s : Step). IsMade all d e (opens_kept (opening_of o) place block) s) (sym made)
    (record { deeds = (refl, pathed, tt); rows = refl; stores = refl; reads = come block })
  where
    come : (b : Option (List ℕ)) → ComeFrom all d (contents_of (unshelved_at (opening_of o) place b ∷ [])) (given_block b)
    come None = tt
    come (Some bytes) = (refl, tt)

-- ---- a file that is kept, and one that isn't

module _ (d : List Deed) (caller : Caller) (n change : ℕ) (path : List ℕ) where
  abbrev by_form : Option FormValue → ModelStep
  by_form found = elim found [ None ↦ nothing | Some form ↦ unshelve_opening d caller (kept_opening caller change path form) (kept_block form) ]

  pub by_kept : (form : FormValue) → kept d n path ≡ Some form → unshelve_opening d caller (kept_opening caller change path form) (kept_block form) ≡ unshelve_file d caller n change path
  by_kept form e = sym (ap by_form e)

  pub by_none : kept d n path ≡ None → nothing ≡ unshelve_file d caller n change path
  by_none e = sym (ap by_form e)
