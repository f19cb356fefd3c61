-- `group -o`, `group -i` (Command-Line Reference, "p4 group"). That subgroups are refused is this project's own choice.
use Rattle.std.specs.Prelude.{ℕ, List, [], ◌∷◌, length, map, codes, Ok, Err, not, nat_lt}
use Rattle.std.specs.List.{list_all, enumerate_from}
use Rattle.depot_model.specs.Sorted.{inserted}
use Rattle.db_records.specs.depot_path.Name.{is_name}
use Rattle.spec_form.specs.declared.shape.Shape.TheVariants.{Group as GroupShape}
use Rattle.spec_form.specs.Form.{FormValue, lines_of}
use Rattle.spec_form.specs.Reading.{form_of}
use Rattle.depot_model.specs.Values.{value_of}
use Rattle.depot_model.specs.declared.refusal.Refusal.TheVariants.{BadForm, OverLimit}
use Rattle.depot_model.specs.declared.refusal.Limit.TheVariants.{Users}
use Rattle.depot_model.specs.Deeds.{Deed, Group}
use Rattle.depot_model.specs.Latest.{users}
use Rattle.depot_model.specs.Rows.{row, text_field}
use Rattle.depot_model.specs.Step.{Step, tells, does, refuses, unless, refuse_if}
use Rattle.depot_model.specs.FormRows.{numbered}
use Rattle.spec_form.specs.Places.{line_place}

-- names, each once, in order
abbrev pub by_name : List (List ℕ) → List (List ℕ)
by_name [] = []
by_name (name ∷ names) = inserted name (by_name names)

abbrev pub group_show : List Deed → List ℕ → Step
group_show d name = tells (row (text_field (codes "Group") name ∷ map (numbered (codes "Users")) (enumerate_from 0 (by_name (users d name)))) ∷ [])

abbrev pub saved : List ℕ → FormValue → Step
saved input form =
    let name = value_of form (codes "Group") in
    let lines = lines_of form (codes "Users") in
    unless (
    refuse_if (not (is_name name)) (BadForm 0)
    ∷ refuse_if (nat_lt 0 (length (lines_of form (codes "Subgroups")))) (BadForm (line_place input (codes "Subgroups") 0))
    ∷ refuse_if (not (list_all is_name lines)) (BadForm 0)
    ∷ refuse_if (nat_lt 10000 (length lines)) (OverLimit Users)
    ∷ [])
    (does (Group name lines ∷ []) (row (text_field (codes "Group") name ∷ text_field (codes "action") (codes "saved") ∷ [])))

abbrev pub group_save : List ℕ → Step
group_save input = elim (form_of GroupShape input) [ Err fault ↦ refuses (BadForm fault.line) | Ok form ↦ saved input form ]
