-- What the saved forms of a sound depot say, and the shelved files that they tell of.
use Rattle.std.proofs.Common.{◌≡◌, ℕ, Bool, true, false, List, [], ◌∷◌, ◌++◌, Option, Some, Result, Ok, Err, inl, inr, refl, sym, ap, subst, ◌∙◌}
use Rattle.std.specs.Prelude.{◌&&◌, codes, decimal, IfSome, is_some, option_and_then, option_map, if◌then◌else◌}
use Rattle.std.proofs.lemmas.Bool.{and_parts}
use Rattle.depot_rows.specs.depot_path.Bytes.{same}
use Rattle.depot_rows.specs.depot_path.Path.{printed, is_path}
use Rattle.depot_rows.specs.depot_path.declared.fault.PathFault.{PathFault}
use Rattle.depot_rows.proofs.depot_path.Paths.{prints_path}
use Rattle.depot_rows.specs.db_records.declared.key.Key.TheVariants as keys
use Rattle.depot_rows.specs.db_records.declared.record.Record.{Record}
use Rattle.depot_rows.specs.spec_form.Form.{FormValue}
use Rattle.depot_rows.specs.spec_form.Printing.{printed_form}
use Rattle.depot_rows.specs.spec_form.declared.shape.Shape.TheVariants.{Shelf as ShelfShape}
use Rattle.depot_rows.specs.depot_model.Arguments.{paths_of}
use Rattle.depot_rows.specs.depot_model.Deeds.{Deed, Spec, SpecKind, ShelfForm, JobForm, FixForm}
use Rattle.depot_rows.specs.depot_model.Latest.{when, spec, spec_said, spec_name, same_kind}
use Rattle.depot_rows.specs.depot_model.Numerals.{is_numeral}
use Rattle.depot_rows.specs.depot_model.Records.{record_of, shape_of}
use Rattle.depot_rows.specs.depot_model.Rules.{IsSound, IsSpelled, IsRow, IsForm, IsShelf, IsJob, IsFix, IsPath, value_in}
use Rattle.depot_rows.specs.depot_model.Shelves.{shelf_name, paths_in, is_of_change, is_kept, kept, kept_paths, shelf_paths, is_shelved}
use Rattle.depot_rows.specs.depot_model.Values.{value_of}
use Rattle.depot_rows.specs.Effects.{form_row}
use Rattle.depot_rows.proofs.Keys.{same-is, same-self}
use Rattle.depot_rows.proofs.Entries.{In}
use Rattle.depot_facts.proofs.Decimals.{decimal_digits, numeral_digits, parts_are}
use Rattle.depot_facts.proofs.Listed.{filter_in, in_some}
use Rattle.depot_facts.proofs.Members.{told_in}
use Rattle.depot_facts.proofs.PathTexts.{path_in_text}
use Rattle.depot_facts.proofs.Read.{spelled_reads, value_is}

pub spec_names : (kind : SpecKind) (name : List ℕ) (form : FormValue) (deed : Deed) → spec_said kind name deed ≡ Some form → spec_name kind deed ≡ Some name
spec_names kind name form (Spec k x f) e = go (same_kind k kind) (same x name) refl e
  where
    go : (b c : Bool) → same x name ≡ c → when (b && c) f ≡ Some form → when b x ≡ Some name
    go true true h g = ap Some (same-is x name h)
    go true false h g = absurd cc
    go false c h g = absurd cc
spec_names kind name form _ e = absurd cc

-- a deed that saves the form of a shelved file tells of its path
shelf_tells : (n : ℕ) (name path : List ℕ) (form : FormValue) → is_of_change n form ≡ true → paths_in (value_of form (codes "Path")) ≡ path ∷ []
    → (deed : Deed) → spec_said ShelfForm name deed ≡ Some form → In (shelf_paths n deed) path
shelf_tells n name path form of paths (Spec ShelfForm x f) e = go (same x name) e
  where
    told : (is_of_change n form && true) ≡ true → In (if is_of_change n form then paths_in (value_of form (codes "Path")) else []) path
    told h = subst (λ (b : Bool). In (if b then paths_in (value_of form (codes "Path")) else []) path) (sym of)
        (subst (λ (ps : List (List ℕ)). In ps path) (sym paths) (inl refl))

    go : (b : Bool) → when b f ≡ Some form → In (if is_of_change n f then paths_in (value_of f (codes "Path")) else []) path
    go true h = let one : f ≡ form = cc in
        subst (λ (y : FormValue). In (if is_of_change n y then paths_in (value_of y (codes "Path")) else []) path) (sym one) (told (ap (λ (b : Bool). b && true) of))
    go false h = absurd cc
shelf_tells n name path form of paths _ e = absurd cc

-- the form of a row
module _ (d : List Deed) (sound : IsSound d) where
  row_form : (word name text : List ℕ) → record_of d (keys.Domain word name) ≡ Some (form_row word name text) → IsForm (record_of d) word name text
  row_form word name text at = subst (λ (r : Option Record). IfSome r (IsRow (record_of d))) at (sound.rules.each (keys.Domain word name))

  pub spelled : (kind : SpecKind) (name : List ℕ) (form : FormValue) → spec d kind name ≡ Some form → IsSpelled kind form
  spelled kind name form e = subst (λ (o : Option FormValue). IfSome o (IsSpelled kind)) e (sound.forms_read kind name)

  -- a field of its text is that of the form
  pub spec_value : (kind : SpecKind) (name : List ℕ) (form : FormValue) → spec d kind name ≡ Some form → (field : List ℕ)
      → value_in (shape_of kind) field (printed_form form) ≡ value_of form field
  spec_value kind name form e field = value_is (shape_of kind) form (spelled_reads kind form (spelled kind name form e)) field

  form_of_row : (made : List ℕ → Record) (kind : SpecKind) (name : List ℕ) (form : FormValue) → spec d kind name ≡ Some form
      → option_map made (option_map printed_form (spec d kind name)) ≡ Some (made (printed_form form))
  form_of_row made kind name form e = ap (λ (o : Option FormValue). option_map made (option_map printed_form o)) e

  pub saved_fix : (name : List ℕ) (form : FormValue) → spec d FixForm name ≡ Some form → IsFix (record_of d) name (printed_form form)
  saved_fix name form e = go (row_form (codes "fix") name (printed_form form) (form_of_row (form_row (codes "fix") name) FixForm name form e))
    where
      other : (word : List ℕ) → codes "fix" ≡ word → same (codes "fix") word ≡ true
      other word is = ap (same (codes "fix")) (sym is) ∙ refl

      go : IsForm (record_of d) (codes "fix") name (printed_form form) → IsFix (record_of d) name (printed_form form)
      go (inl client) = absurd (let f = other (codes "client") client.0 in cc)
      go (inr (inl label)) = absurd (let f = other (codes "label") label.0 in cc)
      go (inr (inr (inl shelf))) = absurd (let f = other (codes "shelf") shelf.0 in cc)
      go (inr (inr (inr (inl job)))) = absurd (let f = other (codes "job") job.0 in cc)
      go (inr (inr (inr (inr fix)))) = fix.1

  pub saved_job : (name : List ℕ) (form : FormValue) → spec d JobForm name ≡ Some form → IsJob name (printed_form form)
  saved_job name form e = go (row_form (codes "job") name (printed_form form) (form_of_row (form_row (codes "job") name) JobForm name form e))
    where
      other : (word : List ℕ) → codes "job" ≡ word → same (codes "job") word ≡ true
      other word is = ap (same (codes "job")) (sym is) ∙ refl

      go : IsForm (record_of d) (codes "job") name (printed_form form) → IsJob name (printed_form form)
      go (inl client) = absurd (let f = other (codes "client") client.0 in cc)
      go (inr (inl label)) = absurd (let f = other (codes "label") label.0 in cc)
      go (inr (inr (inl shelf))) = absurd (let f = other (codes "shelf") shelf.0 in cc)
      go (inr (inr (inr (inl job)))) = job.1
      go (inr (inr (inr (inr fix)))) = absurd (let f = other (codes "fix") fix.0 in cc)

  pub saved_shelf : (name : List ℕ) (form : FormValue) → spec d ShelfForm name ≡ Some form → IsShelf (record_of d) name (printed_form form)
  saved_shelf name form e = go (row_form (codes "shelf") name (printed_form form) (form_of_row (form_row (codes "shelf") name) ShelfForm name form e))
    where
      other : (word : List ℕ) → codes "shelf" ≡ word → same (codes "shelf") word ≡ true
      other word is = ap (same (codes "shelf")) (sym is) ∙ refl

      go : IsForm (record_of d) (codes "shelf") name (printed_form form) → IsShelf (record_of d) name (printed_form form)
      go (inl client) = absurd (let f = other (codes "client") client.0 in cc)
      go (inr (inl label)) = absurd (let f = other (codes "label") label.0 in cc)
      go (inr (inr (inl shelf))) = shelf.1
      go (inr (inr (inr (inl job)))) = absurd (let f = other (codes "job") job.0 in cc)
      go (inr (inr (inr (inr fix)))) = absurd (let f = other (codes "fix") fix.0 in cc)

  -- ---- shelved files

  -- the number and the path in the name of a shelved file are those of its form
  pub shelf_parts : (n : ℕ) (path : List ℕ) (form : FormValue) → spec d ShelfForm (shelf_name n path) ≡ Some form
      → (decimal n ≡ value_of form (codes "Change")) × (printed path ≡ value_of form (codes "Path"))
  shelf_parts n path form e =
      let value : (field : List ℕ) → value_in ShelfShape field (printed_form form) ≡ value_of form field = spec_value ShelfForm (shelf_name n path) form e in
      let shelf = saved_shelf (shelf_name n path) form e in
      let numeral : is_numeral (value_of form (codes "Change")) ≡ true = ap is_numeral (sym (value (codes "Change"))) ∙ (and_parts _ _ (shelf.change)).0 in
      let named : decimal n ++ 0x20 ∷ printed path ≡ value_of form (codes "Change") ++ 0x20 ∷ value_of form (codes "Path") =
      shelf.named ∙ (λ i. value (codes "Change") i ++ 0x20 ∷ value (codes "Path") i) in
      parts_are (decimal n) (value_of form (codes "Change")) (printed path) (value_of form (codes "Path")) (decimal_digits n)
      (numeral_digits (value_of form (codes "Change")) numeral) named

  -- the path of a shelved file stands among those of which deeds tell
  pub shelf_among : (n : ℕ) (path : List ℕ) → is_path path ≡ true → (form : FormValue) → spec d ShelfForm (shelf_name n path) ≡ Some form
      → In (paths_of (shelf_paths n) d) path
  shelf_among n path is form e =
      let parts = shelf_parts n path form e in
      let of : is_of_change n form ≡ true = ap (λ (w : List ℕ). same w (decimal n)) (sym parts.0) ∙ same-self (decimal n) in
      let paths : paths_in (value_of form (codes "Path")) ≡ path ∷ [] =
      ap paths_in (sym parts.1) ∙ ap (λ (r : Result (List ℕ) PathFault). elim r as (λ _. List (List ℕ)) [ Err fault ↦ [] | Ok p ↦ p ∷ [] ]) (prints_path path is) in
      told_in (spec_said ShelfForm (shelf_name n path)) (shelf_paths n) path form (shelf_tells n (shelf_name n path) path form of paths) d e

  -- a form of a file that is kept in a change shows that it has shelved files
  pub shelf_there : (n : ℕ) (name : List ℕ) (form : FormValue) → spec d ShelfForm name ≡ Some form → is_kept form ≡ true → is_of_change n form ≡ true
      → is_shelved d n ≡ true
  shelf_there n name form e on of =
      let value : (field : List ℕ) → value_in ShelfShape field (printed_form form) ≡ value_of form field = spec_value ShelfForm name form e in
      let shelf = saved_shelf name form e in
      let text : value_of form (codes "Change") ≡ decimal n = same-is (value_of form (codes "Change")) (decimal n) of in
      let pathed : IsPath (value_of form (codes "Path")) = subst (λ (w : List ℕ). IsPath w) (value (codes "Path")) shelf.path in
      let file = path_in_text (value_of form (codes "Path")) pathed in
      let path : List ℕ = file.0 in
      let name_is : name ≡ shelf_name n path =
      shelf.named ∙ (λ i. (value (codes "Change") ∙ text) i ++ 0x20 ∷ (value (codes "Path") ∙ sym file.2) i) in
      let kept_is : kept d n path ≡ when (is_kept form) form =
      ap (λ (x : List ℕ). option_and_then (λ f. when (is_kept f) f) (spec d ShelfForm x)) (sym name_is)
      ∙ ap (option_and_then (λ f. when (is_kept f) f)) e in
      let some : is_some (kept d n path) ≡ true = ap is_some (kept_is ∙ ap (λ (b : Bool). when b form) on) in
      let paths : paths_in (value_of form (codes "Path")) ≡ path ∷ [] =
      ap (λ (r : Result (List ℕ) PathFault). elim r as (λ _. List (List ℕ)) [ Err fault ↦ [] | Ok p ↦ p ∷ [] ]) file.1 in
      let there : In (kept_paths d n) path =
      filter_in (λ p. is_some (kept d n p)) (paths_of (shelf_paths n) d) path
      (told_in (spec_said ShelfForm name) (shelf_paths n) path form (shelf_tells n name path form of paths) d e) some in
      in_some (kept_paths d n) path there
