-- What a run of the program promises, whatever its words, its outside and its files.
use Rattle.std.specs.Prelude.{◌≡◌, ◌⊎◌, ℕ, List, Some, None}
use Rattle.outside_api.specs.Says.{SinkSays}
use Rattle.end_lines.specs.Causes.{status_of}
use Rattle.end_lines.specs.declared.cause.Cause.{Cause}
use Rattle.end_lines.specs.declared.cause.Cause.TheVariants as causes
use Rattle.p4_server.specs.Checkpoint.{Checkpoints}
use Rattle.p4_server.specs.Dump.{Dumps}
use Rattle.p4_server.specs.Init.{Inits}
use Rattle.p4_server.specs.Load.{Loads}
use Rattle.p4_server.specs.Outside.{After, Before, Outside}
use Rattle.p4_server.specs.Schedule.{Schedules}
use Rattle.p4_server.specs.Serve.{Serves}
use Rattle.p4_server.specs.Telling.{IsToldAlone}
use Rattle.program_words.specs.Words.{Job, asked, init, dump, checkpoint, load, schedule, serve}

-- For this cause nothing is run, and no disk and no door is touched.
pub record IsRefused {D S K H : Type 0} (sink_says : SinkSays K) (old_doors new_doors : H) (before : Before D K) (after : After D S K) (cause : Cause) : Type 0 where
  pub cause_is : after.ended.cause ≡ cause
  pub told : IsToldAlone sink_says before.out after.out after.ended
  pub journal_is : after.ended.journal ≡ before.journal
  pub archive_is : after.ended.archive ≡ before.archive
  pub doors_stay : new_doors ≡ old_doors

module _ {D S K H : Type 0} (outside : Outside D S K H) (old_doors new_doors : H) (words : List (List ℕ)) (before : Before D K) (after : After D S K) where
  -- What is promised of each mode. But for `schedule` and `serve` none touches a door.
  abbrev pub Keeps : Job → Type 0
  Keeps init = Inits outside.disk outside.sink before after × (new_doors ≡ old_doors)
  Keeps dump = Dumps outside.disk outside.sink before after × (new_doors ≡ old_doors)
  Keeps checkpoint = Checkpoints outside.disk outside.sink outside.may_give before after × (new_doors ≡ old_doors)
  Keeps (load seed count) = Loads outside.disk outside.sink outside.may_give before after seed count × (new_doors ≡ old_doors)
  Keeps (schedule seed names) =
      Schedules outside old_doors new_doors before after seed names
  Keeps (serve names) =
      Serves outside old_doors new_doors before after names

  -- the words ask for a mode, and its promise is kept
  pub record IsAsked : Type 0 where
    pub job : Job
    pub asks : asked words ≡ Some job
    pub keeps : Keeps job

  -- the words ask for none
  pub record IsUnasked : Type 0 where
    pub asks : asked words ≡ None
    pub refused : IsRefused outside.sink old_doors new_doors before after causes.Usage

  -- The words ask for a mode, and what is promised of it is kept; or they ask for none; or there was no memory to read them. Usage comes only where
  -- they ask for none.
  pub record KeepsPromise : Type 0 where
    pub kept : IsAsked ⊎ (IsUnasked ⊎ IsRefused outside.sink old_doors new_doors before after causes.Memory)
    pub usage : after.ended.cause ≡ causes.Usage → asked words ≡ None
    pub status : after.ended.status ≡ status_of after.ended.cause
