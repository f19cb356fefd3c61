-- The texts of the forms of shelved files are those that are printed of them.
use Rattle.std.proofs.Common.{◌≡◌, ℕ, true, List, [], ◌∷◌, ◌++◌, ◌⊎◌, Option, Some, None, Result, Ok, Err, inl, inr, refl, sym, ap, subst, ◌∙◌, append_assoc}
use Rattle.std.specs.Prelude.{codes, decimal, IfSome}
use Rattle.std.proofs.lemmas.List.Concat.{flat_map-append}
use Rattle.depot_rows.specs.depot_path.Answers.{Answers}
use Rattle.depot_rows.specs.depot_path.Name.{is_name}
use Rattle.depot_rows.specs.depot_path.Path.{is_path, printed}
use Rattle.depot_rows.proofs.spec_form.Good.{GoodValue}
use Rattle.depot_rows.proofs.spec_form.Printed.{good_reads_back}
use Rattle.depot_rows.specs.spec_form.declared.form.Field.{Field}
use Rattle.depot_rows.specs.spec_form.declared.shape.FieldKind.TheVariants.{Single}
use Rattle.depot_rows.specs.spec_form.Form.{FormValue, value_lines}
use Rattle.depot_rows.specs.spec_form.Printing.{printed as printed_fields, printed_as, printed_form}
use Rattle.depot_rows.specs.spec_form.Reading.{form_of, no_memory}
use Rattle.depot_rows.specs.spec_form.Shapes.{fields_of}
use Rattle.depot_rows.specs.spec_form.declared.fault.FormFault.{FormFault}
use Rattle.depot_rows.specs.spec_form.declared.shape.Shape.TheVariants.{Shelf}
use Rattle.depot_rows.specs.depot_model.declared.request.Caller.{Caller}
use Rattle.depot_rows.specs.depot_model.Deeds.{Action, Add, Branch, Deed, Delete, Edit, Integrate, MoveAdd, MoveDelete, Opening, Source}
use Rattle.depot_rows.specs.depot_model.Opened.{opened}
use Rattle.depot_rows.specs.depot_model.Rows.{action_word}
use Rattle.depot_rows.specs.depot_model.Rules.{IsSound}
use Rattle.depot_rows.specs.depot_model.Shelves.{content_fields, gone_form, kept_form, source_fields}
use Rattle.depot_rows.specs.depot_model.Values.{valued}
use Rattle.depot_facts.proofs.OpenFiles.{ArePaths, are_paths, opened_paths, opening_rule}
use Rattle.depot_facts.proofs.Spelled.{good_name}
use Rattle.depot_facts.proofs.KeptForms.{kept_spelled}
use Rattle.depot_facts.proofs.Values.{good_decimal, good_path, good_content, type_named}
use Rattle.shelf_ops.specs.Forms.{fields_text}

-- ---- fields one after another

pub fields_on : (t t1 t2 : List ℕ) (xs ys : List Field) → t1 ≡ t ++ fields_text xs → t2 ≡ t1 ++ fields_text ys → t2 ≡ t ++ fields_text (xs ++ ys)
fields_on t t1 t2 xs ys e1 e2 =
    e2 ∙ ap (λ (l : List ℕ). l ++ fields_text ys) e1 ∙ append_assoc t (fields_text xs) (fields_text ys)
    ∙ ap (λ (l : List ℕ). t ++ l) (sym (flat_map-append (printed_as (Some Single)) xs ys))

-- ---- a form that is read of the text of another one is that one

abbrev ok_form : FormValue → Result FormValue FormFault
ok_form form = Ok form

pub read_is : (text : List ℕ) (form made : FormValue) → form_of Shelf text ≡ Ok made → Answers no_memory (Ok form) (form_of Shelf text) → form ≡ made
read_is text form made reads answers = go answers.is
  where
    one : (a b : FormValue) → ok_form a ≡ ok_form b → a ≡ b
    one a b e = cc

    go : (Ok form ≡ Err no_memory) ⊎ (Ok form ≡ form_of Shelf text) → form ≡ made
    go (inl e) = absurd cc
    go (inr e) = one form made (e ∙ reads)

-- ---- a file that is kept no more

module _ (n : ℕ) (path : List ℕ) (is : is_path path ≡ true) where
  gone_printed : fields_text (gone_form n path).fields ≡ printed_form (gone_form n path)
  unfolding fields_of
  gone_printed = refl

  gone_reads : form_of Shelf (printed_form (gone_form n path)) ≡ Ok (gone_form n path)
  unfolding fields_of
  gone_reads =
      good_reads_back Shelf (valued (codes "State") (codes "gone") ∷ valued (codes "Change") (decimal n) ∷ valued (codes "Path") (printed path) ∷ [])
      (good_name (codes "gone") refl, refl, (good_decimal n, refl, (good_path path is, refl, tt))) refl

  pub gone_is : (text : List ℕ) (form : FormValue) → text ≡ fields_text (gone_form n path).fields → Answers no_memory (Ok form) (form_of Shelf text) → form ≡ gone_form n path
  gone_is text form spells answers = read_is text form (gone_form n path) (ap (form_of Shelf) (spells ∙ gone_printed) ∙ gone_reads) answers

-- ---- a file that is kept

good_word : (a : Action) → GoodValue (value_lines (action_word a))
good_word Add = record { value = codes "add"; is = refl; clean = record { one = refl; utf8 = refl }; trimmed = refl }
good_word Edit = record { value = codes "edit"; is = refl; clean = record { one = refl; utf8 = refl }; trimmed = refl }
good_word Delete = record { value = codes "delete"; is = refl; clean = record { one = refl; utf8 = refl }; trimmed = refl }
good_word Branch = record { value = codes "branch"; is = refl; clean = record { one = refl; utf8 = refl }; trimmed = refl }
good_word Integrate = record { value = codes "integrate"; is = refl; clean = record { one = refl; utf8 = refl }; trimmed = refl }
good_word MoveAdd = record { value = codes "move/add"; is = refl; clean = record { one = refl; utf8 = refl }; trimmed = refl }
good_word MoveDelete = record { value = codes "move/delete"; is = refl; clean = record { one = refl; utf8 = refl }; trimmed = refl }

module _ (caller : Caller) (o : Opening) (block : Option (List ℕ)) where
  abbrev fields : Option Source → Option (List ℕ) → List Field
  fields source given =
      valued (codes "Path") (printed o.path) ∷ valued (codes "Change") (decimal o.change) ∷ valued (codes "Client") caller.client ∷ valued (codes "User") caller.user
      ∷ valued (codes "State") (codes "kept") ∷ valued (codes "Action") (action_word o.action) ∷ valued (codes "Type") o.file_type
      ∷ valued (codes "Base") (decimal o.base) ∷ source_fields source ++ content_fields given

  all_printed : (source : Option Source) (given : Option (List ℕ)) → fields_text (fields source given) ≡ printed_fields Shelf (fields source given)
  unfolding fields_of
  all_printed None None = refl
  all_printed None (Some x) = refl
  all_printed (Some s) None = refl
  all_printed (Some s) (Some x) = refl

  kept_printed : fields_text (kept_form caller o block).fields ≡ printed_form (kept_form caller o block)
  kept_printed = all_printed o.source block

  module _ (user : is_name caller.user ≡ true) (client : is_name caller.client ≡ true) (d : List Deed) (sound : IsSound d) (c path : List ℕ) (is : opened d c path ≡ Some o) where
    paths : ArePaths o.path o.moved o.source
    paths = are_paths o.path o.moved o.source (opened_paths d sound.paths c path o is)

    source_good : (s : Source) → o.source ≡ Some s → GoodValue (value_lines (printed s.path)) × GoodValue (value_lines (decimal s.rev))
    source_good s e = (good_path s.path (subst (λ (x : Option Source). IfSome x (λ y. is_path y.path ≡ true)) e paths.taken), good_decimal s.rev)

    kept_reads : form_of Shelf (printed_form (kept_form caller o block)) ≡ Ok (kept_form caller o block)
    kept_reads = (kept_spelled (printed o.path) (decimal o.change) caller.client caller.user (action_word o.action) o.file_type (decimal o.base) (record {
      path = good_path o.path paths.own;
      change = good_decimal o.change;
      client = good_name caller.client client;
      user = good_name caller.user user;
      action = good_word o.action;
      file_type = good_name o.file_type (type_named o.file_type (opening_rule d sound c path o is).4);
      base = good_decimal o.base;
      kept = good_name (codes "kept") refl;
    }) o.source block source_good (λ x. good_content x)).1

    pub kept_is : (text : List ℕ) (form : FormValue) → text ≡ fields_text (kept_form caller o block).fields → Answers no_memory (Ok form) (form_of Shelf text)
        → form ≡ kept_form caller o block
    kept_is text form spells answers = read_is text form (kept_form caller o block) (ap (form_of Shelf) (spells ∙ kept_printed) ∙ kept_reads) answers
