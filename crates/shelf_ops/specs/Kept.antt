-- Which of some files are kept in a change (Command-Line Reference, "p4 shelve").
use Rattle.std.specs.Prelude.{ℕ, Bool, List, [], ◌∷◌, if◌then◌else◌, Option, Some, None, is_some}
use Rattle.depot_rows.specs.spec_form.Form.{FormValue}
use Rattle.depot_rows.specs.protect_table.Rights.{may}
use Rattle.depot_rows.specs.depot_model.Deeds.{Deed}
use Rattle.depot_rows.specs.depot_model.Shelves.{is_kept, kept}
use Rattle.named_files.specs.declared.asker.Asker.{Asker}

-- the form, where it is of a file that is kept
abbrev pub if_kept : Option FormValue → Option FormValue
if_kept None = None
if_kept (Some form) = if is_kept form then Some form else None

-- the file, where a test holds
abbrev pub file_if : Bool → List ℕ → List (List ℕ)
file_if test path = if test then path ∷ [] else []

-- the file, where it is kept in the change
abbrev pub kept_file : List Deed → ℕ → List ℕ → List (List ℕ)
kept_file d n path = file_if (is_some (kept d n path)) path

-- the file, where the asker may list it
abbrev pub listable_file : Asker → List ℕ → List (List ℕ)
listable_file asker path = file_if (may asker.protects asker.who path 1) path
