-- A script's commands, each with what it says of files before it. This project's own choice.
use Rattle.std.specs.Prelude.{◌≤◌, ℕ, List, [], ◌∷◌, ◌++◌, map}
use Rattle.depot_model.specs.Contents.{Files, ScriptFiles, contents_after}
use Rattle.depot_model.specs.declared.request.Asked.{Asked}
use Rattle.wire_text.specs.declared.entry.Entry.{Entry}
use Rattle.session_loop.specs.Asking.{asked_by, asked_from}
use Rattle.session_loop.specs.declared.reading.PlacedItem.{PlacedItem}

-- what a command asks
abbrev pub asked_in : Files → PlacedItem → Asked
asked_in files placed = asked_by (contents_after placed.lines files) placed.item

-- what commands ask, and then the entries that follow
abbrev pub all_asked : ScriptFiles → List PlacedItem → List Entry → List Asked
all_asked script items entries = map (asked_in script.files) items ++ asked_from (contents_after script.lines script.files) entries

-- no command stands behind more lines than there are
abbrev pub AreBehind : ℕ → List PlacedItem → Type 0
AreBehind lines [] = Unit {0}
AreBehind lines (placed ∷ items) = (placed.lines ≤ lines) × AreBehind lines items
