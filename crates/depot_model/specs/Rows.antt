-- Rows of replies: named fields, as in the tagged output of p4 (Command-Line Reference, "Global options", `-ztag`). The words of actions are those
-- of "p4 opened" and "p4 filelog", the words of integrations those of "p4 integrated".
use Rattle.std.specs.Prelude.{ℕ, ◌==◌, List, [], ◌∷◌, codes, if◌then◌else◌, Option, Some, None, decimal}
use Rattle.db_records.specs.depot_path.Path.{printed}
use Rattle.depot_model.specs.declared.reply.Field.{Field}
use Rattle.depot_model.specs.declared.reply.Row.{Row}
use Rattle.depot_model.specs.Deeds.{Action, Add, Edit, Delete, Branch, Integrate, How, CopyFrom, BranchFrom, DeleteFrom, Ignored, MoveAdd, MoveDelete, MovedFrom}

abbrev pub text_field : List ℕ → List ℕ → Field
text_field name value = record { name = name; value = value }

abbrev pub number_field : List ℕ → ℕ → Field
number_field name n = text_field name (decimal n)

abbrev pub path_field : List ℕ → List ℕ → Field
path_field name path = text_field name (printed path)

-- a field that is left out where it has no value
abbrev pub if_any : {A : Type 0} → (A → Field) → Option A → List Field
if_any made None = []
if_any made (Some value) = made value ∷ []

abbrev pub row : List Field → Row
row fields = record { fields = fields; content = None }

abbrev pub action_word : Action → List ℕ
action_word Add = codes "add"
action_word Edit = codes "edit"
action_word Delete = codes "delete"
action_word Branch = codes "branch"
action_word Integrate = codes "integrate"
action_word MoveAdd = codes "move/add"
action_word MoveDelete = codes "move/delete"

abbrev pub how_word : How → List ℕ
how_word CopyFrom = codes "copy from"
how_word BranchFrom = codes "branch from"
how_word DeleteFrom = codes "delete from"
how_word Ignored = codes "ignored"
how_word MovedFrom = codes "moved from"

-- a change's number, or `default`
abbrev pub change_word : ℕ → List ℕ
change_word n = if n == 0 then codes "default" else decimal n

-- a refusal's row: its code, its name and its fields
abbrev pub coded_row : ℕ → List ℕ → List Field → Row
coded_row code name fields = row (number_field (codes "code") code ∷ text_field (codes "name") name ∷ fields)

-- a disk failed in the command's commit
abbrev pub disk_row : Row
disk_row = coded_row 30 (codes "Disk") []

-- there was no memory for the command
abbrev pub memory_row : Row
memory_row = coded_row 31 (codes "Memory") []
