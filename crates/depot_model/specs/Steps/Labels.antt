-- `label -o`, `label -i`, `labels` (Command-Line Reference, "p4 label", "p4 labels").
use Rattle.std.specs.Prelude.{◌||◌, ℕ, List, [], ◌∷◌, filter_map, codes, Option, Some, None, Ok, Err, option_map, Bool, false, not, ◌&&◌, ◌==◌}
use Rattle.std.specs.List.{list_any, slice_split}
use Rattle.db_records.specs.depot_path.Bytes.{same}
use Rattle.db_records.specs.depot_path.Name.{is_name}
use Rattle.spec_form.specs.declared.shape.Shape.TheVariants.{Label}
use Rattle.spec_form.specs.Form.{FormValue}
use Rattle.spec_form.specs.Reading.{form_of}
use Rattle.depot_model.specs.Values.{value_of}
use Rattle.depot_model.specs.declared.reply.Row.{Row}
use Rattle.depot_model.specs.declared.refusal.Refusal.TheVariants.{BadForm, LabelLocked}
use Rattle.depot_model.specs.Deeds.{Deed, Spec, LabelForm}
use Rattle.depot_model.specs.Latest.{spec, keys_of, spec_name}
use Rattle.depot_model.specs.Rows.{row, text_field}
use Rattle.depot_model.specs.Step.{Step, tells, does, refuses, unless, refuse_if}
use Rattle.depot_model.specs.FormRows.{form_fields, value_fields}

-- what stands between the spaces and tabs of a text
abbrev pub words : List ℕ → List (List ℕ)
words text = slice_split (λ b. (b == 0x20) || (b == 0x09)) text

-- the options hold the word `locked`
abbrev pub is_locked_form : FormValue → Bool
is_locked_form form = list_any (same (codes "locked")) (words (value_of form (codes "Options")))

abbrev pub is_locked : List Deed → List ℕ → Bool
is_locked d name = elim (spec d LabelForm name) [ None ↦ false | Some form ↦ is_locked_form form ]

abbrev pub label_row : List ℕ → Option FormValue → Row
label_row name None = row (text_field (codes "Label") name ∷ [])
label_row name (Some form) = row (form_fields form)

abbrev pub label_show : List Deed → List ℕ → Step
label_show d name = tells (label_row name (spec d LabelForm name) ∷ [])

abbrev pub saved : List Deed → FormValue → Step
saved d form =
    let name = value_of form (codes "Label") in
    unless (refuse_if (not (is_name name)) (BadForm 0) ∷ refuse_if (is_locked d name && is_locked_form form) (LabelLocked name) ∷ [])
    (does (Spec LabelForm name form ∷ []) (row (text_field (codes "Label") name ∷ text_field (codes "action") (codes "saved") ∷ [])))

abbrev pub label_save : List Deed → List ℕ → Step
label_save d input = elim (form_of Label input) [ Err fault ↦ refuses (BadForm fault.line) | Ok form ↦ saved d form ]

abbrev pub listed : List ℕ → FormValue → Row
listed name form = row (text_field (codes "label") name ∷ value_fields (codes "options") (codes "Options") form)

abbrev pub labels : List Deed → Step
labels d = tells (filter_map (λ name. option_map (listed name) (spec d LabelForm name)) (keys_of (spec_name LabelForm) d))
