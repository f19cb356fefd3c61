-- The step of a request stays in the tables that its command writes.
use Rattle.std.proofs.Common.{◌≡◌, List, [], ◌++◌, Result, Ok, Err, refl, sym, subst}
use Rattle.std.specs.Prelude.{unwrap_or, None}
use Rattle.depot_model.specs.About.{about}
use Rattle.depot_model.specs.Commands.{own_step, whole_step, step}
use Rattle.depot_model.specs.Common.{common_refusals, last_refusals, word_refusal}
use Rattle.depot_model.specs.Deeds.{Deed}
use Rattle.depot_model.specs.Deeds as actions
use Rattle.depot_model.specs.Step.{Step, refuses}
use Rattle.depot_model.specs.Tables.{own_tables}
use Rattle.depot_model.specs.declared.command.Command.{Command}
use Rattle.depot_model.specs.declared.command.Command.TheVariants.{CounterShow, CounterSet, CounterDelete, Counters, ClientShow, ClientSave, LabelShow, LabelSave, GroupShow, GroupSave, ProtectShow, ProtectSave, Where, Add, Edit, Delete, Revert, Reopen, Lock, Unlock, Opened, ChangeSave, ChangeShow, ChangeDelete, Changes, SubmitChange, SubmitDefault, Sync, Have, Tag, LabelSync, Labels, Integrate, Resolve, Integrated, Files, FileLog, Print, Describe, Dirs, FileStat, Checkpoint, Pull, Move, Shelve, ShelveDelete, Unshelve, DescribeShelved, JobShow, JobSave, Jobs, Fix, FixDelete, Fixes}
use Rattle.depot_model.specs.declared.request.Request.{Request}
use Rattle.depot_model.specs.declared.request.WordFault.{WordFault}
use Rattle.step_tables.proofs.Combining.{Stays, only_tells, done, stays_unless}
use Rattle.step_tables.proofs.Opening.{add_stays, open_had_stays, reopen_stays, unshelve_stays, lock_stays, unlock_stays, revert_stays, sync_stays, resolve_stays, move_stays, integrate_stays}
use Rattle.step_tables.proofs.Reading.{where_stays, have_stays, opened_stays, integrated_stays, filelog_stays, print_stays, fstat_stays, files_stays, describe_stays, change_show_stays, job_show_stays, describe_shelved_stays}
use Rattle.step_tables.proofs.Saving.{client_save_stays, group_save_stays, protect_save_stays, label_save_stays, job_save_stays, checkpoint_stays, fix_stays, fix_delete_stays, shelve_stays, shelve_delete_stays, tag_stays, labelsync_stays}
use Rattle.step_tables.proofs.Submitting.{change_save_stays, change_delete_stays, submit_change_stays, submit_default_stays}

module _ (d : List Deed) (request : Request) where
  pub own_stays : (command : Command) → Stays (own_tables command).written (own_step d request command)
  own_stays (CounterShow name) = only_tells _
  own_stays (CounterSet name value) = done _ _ refl
  own_stays (CounterDelete name) = done _ _ refl
  own_stays Counters = only_tells _
  own_stays (ClientShow name) = only_tells _
  own_stays ClientSave = client_save_stays (unwrap_or request.input [])
  own_stays (LabelShow name) = only_tells _
  own_stays LabelSave = label_save_stays d (unwrap_or request.input [])
  own_stays (GroupShow name) = only_tells _
  own_stays GroupSave = group_save_stays (unwrap_or request.input [])
  own_stays ProtectShow = only_tells _
  own_stays ProtectSave = protect_save_stays (unwrap_or request.input [])
  own_stays (Where paths) = where_stays d request.caller paths
  own_stays (Add change type paths) = add_stays d request.caller change type paths
  own_stays (Edit change type files) = open_had_stays d request.caller actions.Edit change type files
  own_stays (Delete change files) = open_had_stays d request.caller actions.Delete change None files
  own_stays (Move change from to) = move_stays request.caller change from to d
  own_stays (Revert change files) = revert_stays d request.caller change files
  own_stays (Reopen change type files) = reopen_stays d request.caller change type files
  own_stays (Lock change files) = lock_stays d request.caller change files
  own_stays (Unlock change files) = unlock_stays d request.caller change files
  own_stays (Opened all files) = opened_stays d request.caller all files
  own_stays ChangeSave = change_save_stays d request (unwrap_or request.input [])
  own_stays (ChangeShow change) = change_show_stays d request.caller change
  own_stays (ChangeDelete change) = change_delete_stays d request.caller change
  own_stays (Changes most status user client files) = only_tells _
  own_stays (SubmitChange change) = submit_change_stays d request change
  own_stays (SubmitDefault text) = submit_default_stays d request text
  own_stays (Sync again shows files) = sync_stays d request.caller again shows files
  own_stays (Have files) = have_stays d request.caller files
  own_stays (Tag label removes files) = tag_stays d request.caller label removes files
  own_stays (LabelSync label labelling files) = labelsync_stays d request.caller label labelling files
  own_stays Labels = only_tells _
  own_stays (Integrate change from to) = integrate_stays request.caller change from to d
  own_stays (Resolve taking files) = resolve_stays d request.caller taking files
  own_stays (Integrated files) = integrated_stays d request.caller files
  own_stays (Files live files) = files_stays d request.caller live files
  own_stays (FileLog files) = filelog_stays d request.caller files
  own_stays (Print files) = print_stays d request.caller files
  own_stays (Describe change) = describe_stays d request.caller change
  own_stays (Dirs patterns) = only_tells _
  own_stays (FileStat files) = fstat_stays d request.caller files
  own_stays (Shelve change replaces files) = shelve_stays d request replaces change files
  own_stays (ShelveDelete change files) = shelve_delete_stays d request.caller change files
  own_stays (Unshelve shelved change files) = unshelve_stays d request.caller shelved change files
  own_stays (DescribeShelved change) = describe_shelved_stays d request.caller change
  own_stays (JobShow job) = job_show_stays d request.caller job
  own_stays JobSave = job_save_stays d (unwrap_or request.input [])
  own_stays Jobs = only_tells _
  own_stays (Fix change jobs) = fix_stays d request.caller change jobs
  own_stays (FixDelete change jobs) = fix_delete_stays d change jobs
  own_stays (Fixes change job) = only_tells _
  own_stays Checkpoint = checkpoint_stays d
  own_stays Pull = only_tells _

  whole_stays : (command : Command) → Stays (own_tables command).written (whole_step d request command)
  whole_stays command =
      stays_unless (common_refusals d request.caller (about command) ++ last_refusals d command) (own_step d request command) (own_stays command)

abbrev step_for : List Deed → Request → Result Command WordFault → Step
step_for d request asked = elim asked [ Err fault ↦ refuses (word_refusal fault) | Ok command ↦ whole_step d request command ]

pub step_stays : (d : List Deed) (request : Request) (command : Command) → request.command ≡ Ok command
    → Stays (own_tables command).written (step d request)
step_stays d request command is =
    let P : Result Command WordFault → Type 0 = λ asked. Stays (own_tables command).written (step_for d request asked) in
    subst P (sym is) (whole_stays d request command)
