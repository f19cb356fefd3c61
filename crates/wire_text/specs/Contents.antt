-- What a session says that its files hold: the last block of each, in the order in which the files were first named since they were last cleared.
-- This is this project's own choice; a real client reads the files of its workspace.
use Rattle.std.specs.Prelude.{ℕ, Bool, true, false, List, [], ◌∷◌}
use Rattle.indexmap.specs.IndexMap.{insert_entry, shift_remove_entry}
use Rattle.depot_model.specs.depot_path.Bytes.{same}
use Rattle.wire_text.specs.declared.entry.Entry.{Entry}
use Rattle.wire_text.specs.declared.entry.Entry.TheVariants.{Put, Clear, Command}

-- after entries of a script
abbrev pub contents_after : List (List ℕ × List ℕ) → List Entry → List (List ℕ × List ℕ)
contents_after contents [] = contents
contents_after contents (Put content ∷ entries) = contents_after (insert_entry same contents content.path content.bytes) entries
contents_after contents (Clear path ∷ entries) = contents_after (shift_remove_entry (same path) contents) entries
contents_after contents (Command item ∷ entries) = contents_after contents entries

-- a command is among the entries
abbrev pub has_command : List Entry → Bool
has_command [] = false
has_command (Put content ∷ entries) = has_command entries
has_command (Clear path ∷ entries) = has_command entries
has_command (Command item ∷ entries) = true
