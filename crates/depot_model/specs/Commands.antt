-- What each command does: its own step, one line a form, after the refusals that are common to all.
use Rattle.std.specs.Prelude.{List, [], ◌++◌, codes, Ok, Err, unwrap_or}
use Rattle.depot_model.specs.declared.request.Request.{Request}
use Rattle.depot_model.specs.declared.command.Command.{Command}
use Rattle.depot_model.specs.declared.command.Command.TheVariants.{CounterShow, CounterSet, CounterDelete, Counters, ClientShow, ClientSave, LabelShow, LabelSave, GroupShow, GroupSave, ProtectShow, ProtectSave, Where, Add, Edit, Delete, Revert, Reopen, Lock, Unlock, Opened, ChangeSave, ChangeShow, ChangeDelete, Changes, SubmitChange, SubmitDefault, Sync, Have, Tag, LabelSync, Labels, Integrate, Resolve, Integrated, Files, FileLog, Print, Describe, Dirs, FileStat, Checkpoint, Pull, Move, Shelve, ShelveDelete, Unshelve, DescribeShelved, JobShow, JobSave, Jobs, Fix, FixDelete, Fixes}
use Rattle.depot_model.specs.Deeds.{Deed}
use Rattle.depot_model.specs.About.{about}
use Rattle.depot_model.specs.Common.{common_refusals, word_refusal, last_refusals}
use Rattle.depot_model.specs.Step.{Step, refuses, unless}
use Rattle.depot_model.specs.Steps.Counters.{counter_show, counter_set, counter_delete, counters}
use Rattle.depot_model.specs.Steps.Clients.{client_show, client_save}
use Rattle.depot_model.specs.Steps.Protections.{protect_show, protect_save}
use Rattle.depot_model.specs.Steps.Adding.{add}
use Rattle.depot_model.specs.Steps.Editing.{edit, delete}
use Rattle.depot_model.specs.Steps.Syncing.{sync}
use Rattle.depot_model.specs.Steps.Listing.{files}
use Rattle.depot_model.specs.Steps.Submitting.{submit_change, submit_default}
use Rattle.depot_model.specs.Steps.Labels.{label_show, label_save, labels}
use Rattle.depot_model.specs.Steps.Groups.{group_show, group_save}
use Rattle.depot_model.specs.Steps.Placing.{where_is, have_step}
use Rattle.depot_model.specs.Steps.Reverting.{revert, reopen, lock, unlock, opened_step}
use Rattle.depot_model.specs.Steps.Changing.{change_save, change_show, change_delete}
use Rattle.depot_model.specs.Steps.Changes.{changes}
use Rattle.depot_model.specs.Steps.Checkpoint.{checkpoint}
use Rattle.depot_model.specs.declared.refusal.Refusal.TheVariants.{BadUsage}
use Rattle.depot_model.specs.Steps.Tagging.{tag, labelsync}
use Rattle.depot_model.specs.Steps.Integrating.{integrate}
use Rattle.depot_model.specs.Steps.Resolving.{resolve}
use Rattle.depot_model.specs.Steps.History.{integrated, filelog, print, describe, dirs, fstat}
use Rattle.depot_model.specs.Steps.Moving.{move}
use Rattle.depot_model.specs.Steps.Shelving.{shelve, shelve_delete, unshelve, describe_shelved}
use Rattle.depot_model.specs.Steps.Jobs.{job_show, job_save, jobs, fix, fix_delete, fixes}

-- the step of each form of command, where no common refusal holds
abbrev pub own_step : List Deed → Request → Command → Step
own_step d request (CounterShow name) = counter_show d name
own_step d request (CounterSet name value) = counter_set name value
own_step d request (CounterDelete name) = counter_delete name
own_step d request Counters = counters d
own_step d request (ClientShow name) = client_show d (unwrap_or name request.caller.client)
own_step d request ClientSave = client_save (unwrap_or request.input [])
own_step d request ProtectShow = protect_show d
own_step d request ProtectSave = protect_save (unwrap_or request.input [])
own_step d request (Add change type paths) = add d request.caller change type paths
own_step d request (Edit change type arguments) = edit d request.caller change type arguments
own_step d request (Delete change arguments) = delete d request.caller change arguments
own_step d request (SubmitChange n) = submit_change d request n
own_step d request (SubmitDefault text) = submit_default d request text
own_step d request (Sync again shows arguments) = sync d request.caller again shows arguments
own_step d request (Files live arguments) = files d request.caller live arguments
own_step d request (LabelShow name) = label_show d name
own_step d request LabelSave = label_save d (unwrap_or request.input [])
own_step d request (GroupShow name) = group_show d name
own_step d request GroupSave = group_save (unwrap_or request.input [])
own_step d request (Where paths) = where_is d request.caller paths
own_step d request (Move change from to) = move d request.caller change from to
own_step d request (Revert change arguments) = revert d request.caller change arguments
own_step d request (Reopen change type arguments) = reopen d request.caller change type arguments
own_step d request (Lock change arguments) = lock d request.caller change arguments
own_step d request (Unlock change arguments) = unlock d request.caller change arguments
own_step d request (Opened all arguments) = opened_step d request.caller all arguments
own_step d request ChangeSave = change_save d request (unwrap_or request.input [])
own_step d request (ChangeDelete n) = change_delete d request.caller n
own_step d request (Have arguments) = have_step d request.caller arguments
own_step d request (Tag label removes arguments) = tag d request.caller label removes arguments
own_step d request (LabelSync label labelling arguments) = labelsync d request.caller label labelling arguments
own_step d request Labels = labels d
own_step d request (Integrate change from to) = integrate d request.caller change from to
own_step d request (Resolve taking arguments) = resolve d request.caller taking arguments
own_step d request (Integrated arguments) = integrated d request.caller arguments
own_step d request (FileLog arguments) = filelog d request.caller arguments
own_step d request (Print arguments) = print d request.caller arguments
own_step d request (Describe n) = describe d request.caller n
own_step d request (Dirs patterns) = dirs d request.caller patterns
own_step d request (FileStat arguments) = fstat d request.caller arguments
own_step d request (ChangeShow n) = change_show d request.caller n
own_step d request (Changes most status user client arguments) = changes d request.caller most status user client arguments
own_step d request (Shelve n replaces arguments) = shelve d request n replaces arguments
own_step d request (ShelveDelete n arguments) = shelve_delete d request.caller n arguments
own_step d request (Unshelve n change arguments) = unshelve d request.caller n change arguments
own_step d request (DescribeShelved n) = describe_shelved d request.caller n
own_step d request (JobShow name) = job_show d request.caller name
own_step d request JobSave = job_save d (unwrap_or request.input [])
own_step d request Jobs = jobs d
own_step d request (Fix n names) = fix d request.caller n names
own_step d request (FixDelete n names) = fix_delete d n names
own_step d request (Fixes n name) = fixes d n name
own_step d request Checkpoint = checkpoint d
own_step d request Pull = refuses (BadUsage (codes "pull"))

-- what a command does: the first of the common refusals that holds, or else its own step
abbrev pub whole_step : List Deed → Request → Command → Step
whole_step d request command = unless (common_refusals d request.caller (about command) ++ last_refusals d command) (own_step d request command)

-- what the command of a request does to a depot, and what it is answered; words that are no command are refused
abbrev pub step : List Deed → Request → Step
step d request = elim request.command [ Err fault ↦ refuses (word_refusal fault) | Ok command ↦ whole_step d request command ]
