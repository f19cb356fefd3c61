-- Of which requests it is proved that their steps leave a sound depot sound, and what the types of a request promise of it. This project's own
-- choice.
use Rattle.std.specs.Prelude.{Ok, Err, Bool, true, false, ◌&&◌, IsTrue, IfOk}
use Rattle.std.specs.List.{list_all}
use Rattle.depot_rows.specs.depot_path.Name.{is_name}
use Rattle.depot_rows.specs.depot_model.WellFormed.{is_command}
use Rattle.depot_rows.specs.depot_model.declared.command.Command.{Command}
use Rattle.depot_rows.specs.depot_model.declared.command.Command.TheVariants.{CounterSet, CounterDelete, Tag, SubmitChange, SubmitDefault}
use Rattle.depot_rows.specs.depot_model.declared.request.Request.{Request}
use Rattle.sound_form_steps.specs.Contents.{is_short, is_of_bytes}

-- a counter that is set or deleted, and a label that is put on files, have a name
abbrev pub names_what : Command → Bool
names_what (CounterSet name value) = is_name name
names_what (CounterDelete name) = is_name name
names_what (Tag label removes files) = is_name label
names_what _ = true

-- the caller and what the command names have names
abbrev pub is_named : Request → Command → Bool
is_named request command = is_name (request.caller).user && is_name (request.caller).client && names_what command

-- all commands but those that land a change
abbrev pub is_covered : Command → Bool
is_covered (SubmitChange n) = false
is_covered (SubmitDefault text) = false
is_covered _ = true

-- the caller of a request, and what its command names, have names, and its contents are of bytes
abbrev pub are_named : Request → Bool
are_named request = elim request.command [
  | Err fault ↦ is_name (request.caller).user && is_name (request.caller).client
  | Ok command ↦ is_named request command
]

abbrev pub is_typed : Request → Bool
is_typed request = are_named request && list_all is_of_bytes request.contents

-- what a session makes sure of: a command that words spell is well-formed, and contents are no longer than a block of a script
pub record IsAsked (request : Request) : Type 0 where
  pub formed : IfOk request.command (λ command. IsTrue (is_command command))
  pub short : IsTrue (list_all is_short request.contents)
