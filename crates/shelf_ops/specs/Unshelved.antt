-- Files that are opened as they were kept in a change, by what their forms say and what is found of them (Command-Line Reference, "p4 unshelve"), and
-- what is read for it. Which tables are read is this project's own choice.
use Rattle.std.specs.Prelude.{ℕ, List, [], ◌∷◌, ◌++◌, codes, if◌then◌else◌, Option, Some, None, Err, Ok, drop}
use Rattle.hex.specs.Hex.{decode_of}
use Rattle.depot_rows.specs.depot_path.Bytes.{same}
use Rattle.depot_rows.specs.depot_model.declared.reply.Row.{Row}
use Rattle.depot_rows.specs.depot_model.Deeds.{Open, Opening}
use Rattle.depot_rows.specs.depot_model.Step.{Step, does}
use Rattle.depot_rows.specs.depot_model.Steps.Opening.{opening_row}
use Rattle.depot_rows.specs.depot_model.Steps.Shelving.{from_fields}
use Rattle.depot_rows.specs.declared.deed.Action.{Action}
use Rattle.depot_rows.specs.declared.deed.Action.TheVariants as actions
use Rattle.depot_rows.specs.declared.deed.Deed.TheVariants as dones
use Rattle.depot_rows.specs.declared.deed.Opening.{Opening as Done}
use Rattle.reply_rows.specs.declared.content.RowContent.{RowContent}
use Rattle.reply_rows.specs.declared.content.RowContent.TheVariants.{Given}
use Rattle.reply_rows.specs.declared.step.Step.{Step as Made}

-- the action of a word in the form of a kept file, `add` for any other word
abbrev pub word_action : List ℕ → Action
word_action word =
    if same (codes "add") word then actions.Add else (if same (codes "edit") word then actions.Edit else (if same (codes "delete") word then actions.Delete else actions.Add))

-- the block of which a line gives the digits behind its first byte
abbrev pub line_block : List ℕ → Option (List ℕ)
line_block line = elim (decode_of (drop 1 line)) [ Err fault ↦ None | Ok block ↦ Some block ]

-- the row of a file that is opened, with the block of its content where there is one
abbrev pub unshelved_at : Opening → Option (List ℕ) → Option (List ℕ) → Row
unshelved_at o place block = record { fields = (opening_row o place).fields ++ from_fields o.source; content = block }

abbrev pub opens_kept : Opening → Option (List ℕ) → Option (List ℕ) → Step
opens_kept o place block = does (Open o ∷ []) (unshelved_at o place block)

-- where the content of the row comes from
abbrev pub given_block : Option (List ℕ) → List RowContent
given_block None = []
given_block (Some block) = Given block ∷ []

-- the same as the code has it: a row that waits for the block
abbrev pub opens_waiting : Done → Row → Option (List ℕ) → Made
opens_waiting o row block = record { deeds = dones.Open o ∷ []; rows = row ∷ []; stores = []; reads = given_block block }
