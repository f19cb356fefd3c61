-- What a session or a replica is asked: the commands of its script's lines. A line brings the input that stands before it, and a submit or a shelve also the
-- contents that are in force there, the last one of each file, in the order in which the files were first named since they were last cleared
-- (this project's own choice).
use Rattle.std.specs.Prelude.{ℕ, Bool, true, false, List, [], ◌∷◌, map, Option, Some, None, is_some, Result, Ok, Err, IfOk, IsTrue}
use Rattle.std.specs.List.{All, list_all}
use Rattle.indexmap.specs.IndexMap.{insert_entry, shift_remove_entry}
use Rattle.depot_model.specs.depot_path.Bytes.{same}
use Rattle.depot_model.specs.depot_path.declared.fault.PathFault.{PathFault}
use Rattle.depot_model.specs.Contents.{content_of}
use Rattle.depot_model.specs.Filter.{filter_of}
use Rattle.depot_model.specs.declared.command.Command.{Command}
use Rattle.depot_model.specs.declared.command.Command.TheVariants.{SubmitChange, SubmitDefault, Shelve}
use Rattle.depot_model.specs.declared.filter.FilterRule.{FilterRule}
use Rattle.depot_model.specs.declared.request.Asked.{Asked}
use Rattle.depot_model.specs.declared.request.Caller.{Caller}
use Rattle.depot_model.specs.declared.request.Content.{Content}
use Rattle.depot_model.specs.declared.request.Session.{Session}
use Rattle.depot_model.specs.declared.request.WordFault.{WordFault}
use Rattle.command_words.specs.Reading.{command_of}
use Rattle.command_words.specs.WellFormed.{IsWellFormed}
use Rattle.wire_text.specs.declared.entry.Entry.{Entry}
use Rattle.wire_text.specs.declared.entry.Entry.TheVariants.{Put, Clear, Command as Asks}
use Rattle.wire_text.specs.declared.entry.Item.{Item}
use Rattle.wire_text.specs.declared.fault.ScriptFault.{ScriptFault}
use Rattle.wire_text.specs.declared.head.Head.{Head}
use Rattle.wire_text.specs.declared.head.Head.TheVariants.{Session as SessionHead, Replica}
use Rattle.wire_text.specs.Script.{Script, script_of, is_short}
use Rattle.session_loop.specs.declared.reading.ReplicaScript.{ReplicaScript}

-- ---- lines

-- a submit and a shelve take contents
abbrev pub takes_contents : Result Command WordFault → Bool
takes_contents (Ok (SubmitChange change)) = true
takes_contents (Ok (SubmitDefault text)) = true
takes_contents (Ok (Shelve change replaces files)) = true
takes_contents _ = false

abbrev pub taken_contents : Bool → List (List ℕ × List ℕ) → List Content
taken_contents true contents = map content_of contents
taken_contents false contents = []

abbrev pub asked_with : Result Command WordFault → Option (List ℕ) → List (List ℕ × List ℕ) → Asked
asked_with command input contents = record { command = command; input = input; contents = taken_contents (takes_contents command) contents }

-- what a line asks, where the session has named these contents
abbrev pub asked_by : List (List ℕ × List ℕ) → Item → Asked
asked_by contents item = asked_with (command_of item.line (is_some item.input)) item.input contents

abbrev pub asked_from : List (List ℕ × List ℕ) → List Entry → List Asked
asked_from contents [] = []
asked_from contents (Put content ∷ entries) = asked_from (insert_entry same contents content.path content.bytes) entries
asked_from contents (Clear path ∷ entries) = asked_from (shift_remove_entry (same path) contents) entries
asked_from contents (Asks item ∷ entries) = asked_by contents item ∷ asked_from contents entries

-- ---- sessions

-- A session or a replica's script, where the script has the head of one, and the fault that ends it.
pub record Asking : Type 0 where
  pub session : Option Session
  pub replica : Option ReplicaScript
  pub fault : Option ScriptFault

abbrev pub session_by : Caller → List Entry → Session
session_by caller entries = record { caller = caller; commands = asked_from [] entries }

abbrev pub session_of : Option Head → List Entry → Option Session
session_of (Some (SessionHead caller)) entries = Some (session_by caller entries)
session_of _ entries = None

-- patterns that are no filter's stand in no head
abbrev pub rules_of : Result (List FilterRule) PathFault → Option (List FilterRule)
rules_of (Ok rules) = Some rules
rules_of (Err fault) = None

abbrev pub replica_with : Option (List FilterRule) → Session → Option ReplicaScript
replica_with (Some rules) session = Some (record { filter = rules; session = session })
replica_with None session = None

abbrev pub replica_of : Option Head → List Entry → Option ReplicaScript
replica_of (Some (Replica caller patterns)) entries = replica_with (rules_of (filter_of patterns)) (session_by caller entries)
replica_of _ entries = None

abbrev pub asking_by : Script → Asking
asking_by script = record { session = session_of script.head script.entries; replica = replica_of script.head script.entries; fault = script.fault }

-- what the bytes of a script ask
abbrev pub asking_of : List ℕ → Asking
asking_of bytes = asking_by (script_of bytes)

abbrev pub commands_of : Option Session → List Asked
commands_of (Some session) = session.commands
commands_of None = []

abbrev pub replica_commands : Option ReplicaScript → List Asked
replica_commands (Some script) = script.session.commands
replica_commands None = []

-- a command, where words spell one, is well-formed, and contents are short
abbrev pub AreProper : Result Command WordFault → List Content → Type 0
AreProper command contents = IfOk command IsWellFormed × IsTrue (list_all is_short contents)

-- so is each that is asked
abbrev pub AreWellFormed : List Asked → Type 0
AreWellFormed commands = All (λ (asked : Asked). AreProper asked.command asked.contents) commands
