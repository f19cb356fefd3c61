-- Replies where a rule leaves several readings.
use Rattle.spec_form.specs.Shapes.{fields_of}
use Rattle.std.proofs.Common.{◌≡◌, ℕ, List, [], ◌∷◌, ◌++◌, Some, None, refl, Ok, Err, true, false}
use Rattle.std.specs.Prelude.{codes, decimal}
use Rattle.spec_form.specs.declared.shape.Shape.TheVariants.{Client as ClientShape}
use Rattle.spec_form.specs.Reading.{form_of}
use Rattle.spec_form.specs.Printing.{printed_form}
use Rattle.depot_model.specs.declared.command.Command.TheVariants.{ClientSave, ProtectSave, GroupSave, ChangeSave, Add, Delete, Reopen, SubmitDefault, Files, Tag, LabelSave, Labels}
use Rattle.depot_model.specs.Places.{Placed}
use Rattle.depot_model.proofs.Scene.{ann, file, block, does, with_blocks, with_input, reply, row, client_of_ann}

abbrev one : Placed
one = does ann (Add None None (file (codes "//ws1/a") ∷ []))

abbrev landed : List Placed
landed = client_of_ann ∷ one ∷ with_blocks ann (SubmitDefault (codes "one")) (block (codes "//ws1/a") (codes "1") ∷ []) ∷ []

abbrev deleted : List Placed
deleted = landed ++ does ann (Delete None (file (codes "//ws1/a") ∷ [])) ∷ does ann (SubmitDefault (codes "two")) ∷ []

-- a bad view line counts by its place in the form
bad_view : reply [] (with_input ann ClientSave (codes "# A form\nClient: ws1\nView:\n\t//depot/... //ws1/...\n\n\t//depot/... //ws2/...\n")) ≡ row (codes "code" ∷ decimal 19 ∷ codes "name" ∷ codes "BadForm" ∷ codes "line" ∷ decimal 6 ∷ []) ∷ []
unfolding fields_of
bad_view = refl

bad_protection : reply [] (with_input ann ProtectSave (codes "Protections:\tsuper user ann * //...\n\tread user ann *\n")) ≡ row (codes "code" ∷ decimal 19 ∷ codes "name" ∷ codes "BadForm" ∷ codes "line" ∷ decimal 2 ∷ []) ∷ []
unfolding fields_of
bad_protection = refl

with_subgroup : reply [] (with_input ann GroupSave (codes "Group: g\nSubgroups:\n\th\nUsers:\n\ta/b\n")) ≡ row (codes "code" ∷ decimal 19 ∷ codes "name" ∷ codes "BadForm" ∷ codes "line" ∷ decimal 3 ∷ []) ∷ []
unfolding fields_of
with_subgroup = refl

bad_number : reply (client_of_ann ∷ []) (with_input ann ChangeSave (codes "\nChange: old\nDescription:\n")) ≡ row (codes "code" ∷ decimal 19 ∷ codes "name" ∷ codes "BadForm" ∷ codes "line" ∷ decimal 2 ∷ []) ∷ []
unfolding fields_of
bad_number = refl

bad_file_line : reply (client_of_ann ∷ one ∷ []) (with_input ann ChangeSave (codes "Change: new\nDescription: x\nFiles:\n\t//depot/a\t# add\n\t//depot\n")) ≡ row (codes "code" ∷ decimal 19 ∷ codes "name" ∷ codes "BadForm" ∷ codes "line" ∷ decimal 5 ∷ []) ∷ []
unfolding fields_of
bad_file_line = refl

-- no change has the number 0, but in `reopen`
no_change_zero : reply (client_of_ann ∷ []) (does ann (Add (Some 0) None (file (codes "//ws1/a") ∷ []))) ≡ row (codes "code" ∷ decimal 9 ∷ codes "name" ∷ codes "NoSuchChange" ∷ codes "change" ∷ decimal 0 ∷ []) ∷ []
unfolding fields_of
no_change_zero = refl

reopens : reply (client_of_ann ∷ one ∷ []) (does ann (Reopen (Some 0) (Some (codes "text+l")) (file (codes "//ws1/a") ∷ []))) ≡ row (codes "depotFile" ∷ codes "//depot/a" ∷ codes "change" ∷ codes "default" ∷ codes "type" ∷ codes "text+l" ∷ []) ∷ []
unfolding fields_of
reopens = refl

-- a deleted file is named, but has no row with -e; a tag of it changes nothing
shows_no_deleted : reply deleted (does ann (Files true (file (codes "//depot/a") ∷ []))) ≡ []
unfolding fields_of
shows_no_deleted = refl

tags_no_deleted : reply deleted (does ann (Tag (codes "L") false (file (codes "//depot/a") ∷ []))) ≡ []
unfolding fields_of
tags_no_deleted = refl

labels_without_options : reply (does ann (Tag (codes "L") false (file (codes "//depot/none") ∷ [])) ∷ []) (does ann Labels) ≡ row (codes "label" ∷ codes "L" ∷ []) ∷ []
unfolding fields_of
labels_without_options = refl

locks_by_a_word : reply (with_input ann LabelSave (codes "Label: L\nOptions: x\tlocked\n") ∷ []) (does ann (Tag (codes "L") false (file (codes "//depot/a") ∷ []))) ≡ row (codes "code" ∷ decimal 21 ∷ codes "name" ∷ codes "LabelLocked" ∷ codes "label" ∷ codes "L" ∷ []) ∷ []
unfolding fields_of
locks_by_a_word = refl

abbrev printed_again : List ℕ → List ℕ
printed_again text = elim (form_of ClientShape text) [ Ok form ↦ printed_form form | Err fault ↦ [] ]

empty_value : printed_again (codes "Client: ws1\nHost:\nView:\n") ≡ codes "Client:\tws1\n\nHost:\n\nView:\n\n"
unfolding fields_of
empty_value = refl
