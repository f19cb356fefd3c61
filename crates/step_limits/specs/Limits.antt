-- What the steps of requests leave as it was: the generation, which only a checkpoint counts up (Command-Line Reference, "p4 admin").
use Rattle.std.specs.Prelude.{◌≡◌, ◌≢◌, ℕ, IsTrue, List, IfOk, codes}
use Rattle.depot_model.specs.db_records.declared.key.Key.TheVariants as keys
use Rattle.depot_model.specs.declared.command.Command.{Command}
use Rattle.depot_model.specs.declared.command.Command.TheVariants.{Checkpoint}
use Rattle.depot_model.specs.declared.request.Request.{Request}
use Rattle.depot_model.specs.Commands.{step}
use Rattle.depot_model.specs.Deeds.{Deed}
use Rattle.depot_model.specs.Records.{record_of}
use Rattle.depot_model.specs.Rules.{value_of}
use Rattle.depot_model.specs.Step.{after}
use Rattle.depot_model.specs.WellFormed.{is_command}

-- the generation that a depot tells: the counter `journal`
abbrev pub generation_in : List Deed → ℕ
generation_in d = value_of (record_of d (keys.Counter (codes "journal")))

-- a command that is well-formed and no checkpoint
abbrev pub CountsNoGeneration : Command → Type 0
CountsNoGeneration command = IsTrue (is_command command) × (command ≢ Checkpoint)

-- the step of a request whose command, if it has one, is no checkpoint leaves the generation as it was
abbrev pub StepsKeepTheGeneration : Type 0
StepsKeepTheGeneration = (d : List Deed) (request : Request) → IfOk request.command CountsNoGeneration
    → generation_in (after d (step d request).deeds) ≡ generation_in d
