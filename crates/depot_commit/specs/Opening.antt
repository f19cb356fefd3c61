-- Which requests open a generation (Command-Line Reference, "p4 admin").
use Rattle.std.specs.Prelude.{Bool, true, false, Result, Ok, Err}
use Rattle.depot_rows.specs.depot_model.declared.command.Command.{Command}
use Rattle.depot_rows.specs.depot_model.declared.command.Command.TheVariants.{Checkpoint}
use Rattle.depot_rows.specs.depot_model.declared.request.Request.{Request}
use Rattle.depot_rows.specs.depot_model.declared.request.WordFault.{WordFault}

abbrev pub is_checkpoint : Command → Bool
is_checkpoint Checkpoint = true
is_checkpoint _ = false

-- a command that is a checkpoint
abbrev pub opens : Result Command WordFault → Bool
opens (Ok command) = is_checkpoint command
opens (Err fault) = false

-- the request does, where it isn't refused
abbrev pub opens_generation : Request → Bool
opens_generation request = opens request.command
