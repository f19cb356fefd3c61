-- The step that opens shelved files.
use Rattle.std.proofs.Common.{◌≡◌, ◌≤◌, ℕ, Bool, true, false, List, [], ◌∷◌, ◌++◌, length, Option, Some, None, Result, Ok, Err, inl, inr, refl, sym, ap, subst, ◌∙◌, arith}
use Rattle.std.specs.Prelude.{codes, decimal, nat_lt, IfSome, is_some, is_none, unwrap_or, option_and_then, option_map, if◌then◌else◌}
use Rattle.std.specs.List.{list_all}
use Rattle.std.proofs.lemmas.Bool.Decides.{nat_tests}
use Rattle.std.proofs.lemmas.Bool.{and_parts}
use Rattle.depot_rows.specs.depot_path.Bytes.{same, is_digit, is_among}
use Rattle.depot_rows.specs.depot_path.Digits.{number_of, is_digits}
use Rattle.depot_rows.specs.depot_path.Path.{path_of, printed, is_path}
use Rattle.depot_rows.specs.depot_path.declared.fault.PathFault.{PathFault}
use Rattle.depot_rows.specs.depot_path.declared.revision.Wanted.TheVariants.{Head}
use Rattle.depot_rows.specs.db_records.declared.key.Key.TheVariants as keys
use Rattle.depot_rows.specs.db_records.declared.record.Record.{Record}
use Rattle.depot_rows.proofs.spec_form.Cutting.{behind_at}
use Rattle.depot_rows.specs.spec_form.Form.{FormValue, lines_of}
use Rattle.depot_rows.specs.spec_form.Printing.{printed_form}
use Rattle.depot_rows.specs.spec_form.Texts.{behind}
use Rattle.depot_rows.specs.spec_form.declared.shape.Shape.TheVariants.{Shelf as ShelfShape}
use Rattle.depot_rows.specs.depot_model.Arguments.{named, names, over_all, no_file, within_files}
use Rattle.depot_rows.specs.depot_model.Asking.{is_client, to_open}
use Rattle.depot_rows.specs.depot_model.Choice.{shown}
use Rattle.depot_rows.specs.depot_model.Deeds.{Deed, Open, ShelfForm, Source, Add, Edit, Delete}
use Rattle.depot_rows.specs.depot_model.Latest.{spec, when}
use Rattle.depot_rows.specs.depot_model.Numerals.{is_numeral}
use Rattle.depot_rows.specs.depot_model.Opened.{opened}
use Rattle.depot_rows.specs.depot_model.Records.{record_of, rev_record}
use Rattle.depot_rows.specs.depot_model.Revisions.{head, revision}
use Rattle.depot_rows.specs.depot_model.Rows.{action_word}
use Rattle.depot_rows.specs.depot_model.Rules.{IsSound, IsShelf, IsKept, IsType, IsBase, HasRev, HasItsSource, shelf_value, shelf_number, has_shelf_value}
use Rattle.depot_rows.specs.depot_model.Shelves.{shelf_name, paths_in, is_kept, kept, kept_paths, kept_base, kept_action, source_at, kept_source, kept_block, kept_opening}
use Rattle.depot_rows.specs.depot_model.Step.{Step, nothing, does, after, refuse_if}
use Rattle.depot_rows.specs.depot_model.Steps.Opening.{named_change_refusal, right_refusal, exclusive_refusal}
use Rattle.depot_rows.specs.depot_model.Steps.Shelving.{unshelve, unshelve_file, unshelve_opening, unshelved_row, shelf_refusal}
use Rattle.depot_rows.specs.depot_model.Values.{value_of, first_or_empty}
use Rattle.depot_rows.specs.depot_model.declared.command.FileArgument.{FileArgument}
use Rattle.depot_rows.specs.depot_model.declared.refusal.Refusal.TheVariants.{NotInView, AlreadyOpen}
use Rattle.depot_rows.specs.depot_model.declared.request.Caller.{Caller}
use Rattle.depot_rows.proofs.Keys.{same-is}
use Rattle.sound_deeds.specs.Keeping.{IsTaken, is_move}
use Rattle.depot_facts.proofs.Read.{spelled_reads, value_is, has_is}
use Rattle.sound_file_steps.proofs.Files.{named_change_ok}
use Rattle.sound_file_steps.proofs.Flat.{Meets, flat_sound}
use Rattle.depot_facts.proofs.Found.{saved_shelf, spelled}
use Rattle.depot_facts.proofs.PathTexts.{read_path}
use Rattle.depot_facts.proofs.PathsTold.{kept_are}
use Rattle.sound_file_steps.proofs.Known.{rev_known, base_known, IsWithin}
use Rattle.sound_file_steps.proofs.Moving.{opening_has}
use Rattle.depot_facts.proofs.Decimals.{decimal_digits, digits_without}
use Rattle.depot_facts.proofs.Steps.{AllOf, all_filtered, unless_all, within_all, over_any}

-- ---- a shelved file

kept_still : (form : FormValue) → is_move (kept_action form) ≡ false
kept_still form = go (same (action_word Add) word) (same (action_word Edit) word) (same (action_word Delete) word)
  where
    word : List ℕ
    word = value_of form (codes "Action")

    go : (a b c : Bool) → is_move (unwrap_or (if a then Some Add else (if b then Some Edit else (if c then Some Delete else None))) Add) ≡ false
    go true b c = refl
    go false true c = refl
    go false false true = refl
    go false false false = refl

module _ (d : List Deed) (sound : IsSound d) (n : ℕ) (path : List ℕ) (pathed : is_path path ≡ true) (form : FormValue)
    (saved : spec d ShelfForm (shelf_name n path) ≡ Some form) (on : is_kept form ≡ true) where
  abbrev text : List ℕ
  text = printed_form form

  shelf : IsShelf (record_of d) (shelf_name n path) text
  shelf = saved_shelf d sound (shelf_name n path) form saved

  value : (field : List ℕ) → shelf_value field text ≡ value_of form field
  value field = value_is ShelfShape form (spelled_reads ShelfForm form (spelled d sound ShelfForm (shelf_name n path) form saved)) field

  is_kept_file : IsKept (record_of d) text
  is_kept_file = shelf.kept (value (codes "State") ∙ same-is (value_of form (codes "State")) (codes "kept") on)

  no_space : is_among (value_of form (codes "Change")) 0x20 ≡ false
  no_space =
      let numeral : is_numeral (value_of form (codes "Change")) ≡ true = ap is_numeral (sym (value (codes "Change"))) ∙ (and_parts _ _ shelf.change).0 in
      digits_without 0x20 refl (value_of form (codes "Change"))
      (and_parts _ (list_all is_digit (value_of form (codes "Change"))) (and_parts (is_digits (value_of form (codes "Change"))) _ numeral).0).1

  -- the name's second half is the path
  path_text : value_of form (codes "Path") ≡ printed path
  path_text =
      let names_same : value_of form (codes "Change") ++ 0x20 ∷ value_of form (codes "Path") ≡ decimal n ++ 0x20 ∷ printed path =
      sym (λ i. value (codes "Change") i ++ 0x20 ∷ value (codes "Path") i) ∙ sym shelf.named in
      sym (behind_at 0x20 (value_of form (codes "Change")) (value_of form (codes "Path")) no_space)
      ∙ ap (behind 0x20) names_same ∙ behind_at 0x20 (decimal n) (printed path) (digits_without 0x20 refl (decimal n) (decimal_digits n))

  based : kept_base form ≡ shelf_number (codes "Base") text
  based = sym (ap number_of (value (codes "Base")))

  base_under : kept_base form ≤ head d path
  base_under =
      subst (λ (m : ℕ). m ≤ head d path) (sym based)
      (base_known d path (shelf_number (codes "Base") text) pathed
      (subst (λ (p : List ℕ). IsBase (record_of d) p (shelf_number (codes "Base") text)) (value (codes "Path") ∙ path_text) is_kept_file.base))

  typed : IsType (value_of form (codes "Type"))
  typed = subst (λ (w : List ℕ). IsType w) (value (codes "Type")) is_kept_file.file_type

  -- its source
  abbrev SourceMeets : Option Source → Type 0
  SourceMeets source = IfSome source (λ s. is_path s.path ≡ true) × IfSome source (IsTaken d)

  rev_of_text : (from : List ℕ) (m : ℕ) (x : List ℕ) → path_of from ≡ Ok x → HasRev (record_of d) from m → printed x ≡ from
  rev_of_text from m x e h = go (path_of from) e h
    where
      go : (r : Result (List ℕ) PathFault) → r ≡ Ok x
          → is_some (elim r as (λ _. Option Record) [ Err fault ↦ None | Ok y ↦ if same (printed y) from then option_map (rev_record m) (revision d y m) else None ]) ≡ true
          → printed x ≡ from
      go (Err fault) f k = absurd cc
      go (Ok y) f k = test (same (printed y) from) refl k
        where
          test : (b : Bool) → same (printed y) from ≡ b → is_some (if b then option_map (rev_record m) (revision d y m) else None) ≡ true → printed x ≡ from
          test true g q = let one : y ≡ x = cc in ap printed (sym one) ∙ same-is (printed y) from g
          test false g q = absurd cc

  source_meets : SourceMeets (kept_source form)
  source_meets = go is_kept_file.source
    where
      empty : (lines : List (List ℕ)) → nat_lt 0 (length lines) ≡ false → first_or_empty lines ≡ []
      empty [] e = refl
      empty (x ∷ lines) e = absurd (let f : nat_lt 0 (length (x ∷ lines)) ≡ true = grind (arith, nat_tests) in cc)

      has : (field : List ℕ) → has_shelf_value text field ≡ nat_lt 0 (length (lines_of form field))
      has field = has_is ShelfShape form (spelled_reads ShelfForm form (spelled d sound ShelfForm (shelf_name n path) form saved)) field

      go : HasItsSource (record_of d) text → SourceMeets (source_at form (paths_in (value_of form (codes "From"))))
      go (inl none) =
          let nothing_there : value_of form (codes "From") ≡ [] = empty (lines_of form (codes "From")) (sym (has (codes "From")) ∙ none.0) in
          subst (λ (w : List ℕ). SourceMeets (source_at form (paths_in w))) (sym nothing_there) (tt, tt)
      go (inr some) = at (path_of (value_of form (codes "From"))) refl
        where
          there : HasRev (record_of d) (value_of form (codes "From")) (number_of (value_of form (codes "FromRev")))
          there = ap is_some (λ i. record_of d (keys.Rev (sym (value (codes "From")) i) (number_of (sym (value (codes "FromRev")) i)))) ∙ some.2

          at : (r : Result (List ℕ) PathFault) → path_of (value_of form (codes "From")) ≡ r
              → SourceMeets (source_at form (elim r as (λ _. List (List ℕ)) [ Err fault ↦ [] | Ok x ↦ x ∷ [] ]))
          at (Err fault) e = (tt, tt)
          at (Ok x) e =
              let is : is_path x ≡ true = read_path (value_of form (codes "From")) x e in
              let spells : printed x ≡ value_of form (codes "From") = rev_of_text (value_of form (codes "From")) (number_of (value_of form (codes "FromRev"))) x e there in
              let within : IsWithin (number_of (value_of form (codes "FromRev"))) (head d x) =
              rev_known d x (number_of (value_of form (codes "FromRev"))) is
              (subst (λ (w : List ℕ). HasRev (record_of d) w (number_of (value_of form (codes "FromRev")))) (sym spells) there) in
              (is, (within.low, within.high))

  pub kept_meets : (caller : Caller) → is_client d caller.client ≡ true → (change : Option ℕ) → named_change_refusal d caller change ≡ None
      → Meets d (Open (kept_opening caller (unwrap_or change 0) path form))
  kept_meets caller client change free = record {
    has = opening_has path None (kept_source form) pathed tt source_meets.0;
    plain = refl;
    keeps = record { client = client; base = base_under; file_type = typed; source = source_meets.1; moved = sym (kept_still form) };
    ties = named_change_ok d caller change free;
  }

-- ---- unshelve

module _ (d : List Deed) (sound : IsSound d) (caller : Caller) (client : is_client d caller.client ≡ true) (n : ℕ) (change : Option ℕ) where
  opening_meets : named_change_refusal d caller change ≡ None → (path : List ℕ) → is_path path ≡ true → (form : FormValue) → kept d n path ≡ Some form
      → AllOf (Meets d) (unshelve_opening d caller (kept_opening caller (unwrap_or change 0) path form) (kept_block form)).deeds
  opening_meets free path is form e = unless_all (Meets d)
      (right_refusal to_open d caller path ∷ refuse_if (is_none (shown d caller Head path)) (NotInView (printed path))
      ∷ refuse_if (is_some (opened d caller.client path)) (AlreadyOpen path)
      ∷ exclusive_refusal d path caller.client (kept_opening caller (unwrap_or change 0) path form).file_type ∷ [])
      (does (Open (kept_opening caller (unwrap_or change 0) path form) ∷ []) (unshelved_row d caller (kept_opening caller (unwrap_or change 0) path form) (kept_block form)))
      (λ none. (go (spec d ShelfForm (shelf_name n path)) refl e, tt))
    where
      go : (o : Option FormValue) → spec d ShelfForm (shelf_name n path) ≡ o → option_and_then (λ f. when (is_kept f) f) o ≡ Some form
          → Meets d (Open (kept_opening caller (unwrap_or change 0) path form))
      go None h k = absurd cc
      go (Some f) h k = test (is_kept f) refl k
        where
          test : (b : Bool) → is_kept f ≡ b → when b f ≡ Some form → Meets d (Open (kept_opening caller (unwrap_or change 0) path form))
          test true on g =
              let one : f ≡ form = cc in
              kept_meets d sound n path is form (h ∙ ap Some one) (ap is_kept (sym one) ∙ on) caller client change free
          test false on g = absurd cc

  file_meets : named_change_refusal d caller change ≡ None → (path : List ℕ) → is_path path ≡ true → AllOf (Meets d) (unshelve_file d caller n (unwrap_or change 0) path).deeds
  file_meets free path is = go (kept d n path) refl
    where
      go : (o : Option FormValue) → kept d n path ≡ o
          → AllOf (Meets d) (elim o as (λ _. Step) [
            | None ↦ nothing
            | Some form ↦ unshelve_opening d caller (kept_opening caller (unwrap_or change 0) path form) (kept_block form)
          ]).deeds
      go None e = tt
      go (Some form) e = opening_meets free path is form e

  pub unshelve_sound : (files : List FileArgument) → IsSound (after d (unshelve d caller n change files).deeds)
  unshelve_sound files = flat_sound d (unshelve d caller n change files).deeds sound
      (unless_all (Meets d) (named_change_refusal d caller change ∷ shelf_refusal d caller n ∷ []) (within_files step) (λ none.
      within_all (Meets d) step
      (over_any (Meets d) is_path (named false d caller (kept_paths d n)) (λ _. unshelve_file d caller n (unwrap_or change 0))
      (λ a. all_filtered is_path (names false d caller a.spec) (kept_paths d n) (kept_are d sound.paths n))
      (λ a x is. file_meets none.0 x is) no_file (λ a. tt) files)))
    where
      step : Step
      step = over_all (named false d caller (kept_paths d n)) no_file (λ _. unshelve_file d caller n (unwrap_or change 0)) files
