-- The step of a request over two sound depots with the same rows and contents.
use Rattle.std.proofs.Common.{◌≡◌, not, List, [], ◌∷◌, ◌++◌, Result, Ok, Err, refl, subst}
use Rattle.std.specs.Prelude.{◌&&◌, ◌||◌, codes, if◌then◌else◌, flat_map, unwrap_or}
use Rattle.depot_rows.specs.depot_path.declared.revision.RevSpec.TheVariants.{Named}
use Rattle.depot_rows.specs.depot_path.declared.revision.Wanted.{Wanted}
use Rattle.depot_rows.specs.depot_path.declared.revision.Wanted.TheVariants.{One}
use Rattle.depot_rows.specs.depot_model.declared.command.Command.{Command}
use Rattle.depot_rows.specs.depot_model.declared.command.Command.TheVariants.{ProtectShow, SubmitDefault, SubmitChange, ChangeDelete, Shelve, ShelveDelete, Unshelve, DescribeShelved, GroupShow, Opened, ChangeShow, ChangeSave, Describe, JobSave, Fix, FixDelete, Dirs, CounterShow, CounterSet, CounterDelete, Counters, ClientShow, ClientSave, LabelShow, LabelSave, GroupSave, ProtectSave, Where, Add, Edit, Delete, Revert, Reopen, Lock, Unlock, Sync, Have, Tag, LabelSync, Labels, Files, Print, FileStat, Checkpoint, Pull, JobShow, Jobs, Fixes, Integrated, FileLog, Changes, Move, Resolve, Integrate}
use Rattle.depot_rows.specs.depot_model.declared.command.FileArgument.{FileArgument}
use Rattle.depot_rows.specs.depot_model.declared.refusal.Refusal.TheVariants.{Denied, NoClient, Shelved, Fixed}
use Rattle.depot_rows.specs.depot_model.declared.request.Caller.{Caller}
use Rattle.depot_rows.specs.depot_model.declared.request.Request.{Request}
use Rattle.depot_rows.specs.depot_model.declared.request.WordFault.{WordFault}
use Rattle.depot_rows.specs.depot_model.About.{About, about}
use Rattle.depot_rows.specs.depot_model.Commands.{own_step, whole_step, step}
use Rattle.depot_rows.specs.depot_model.Common.{common_refusals, unknown_name, first_unknown, asks_client, last_refusals, word_refusal}
use Rattle.depot_rows.specs.depot_model.Deeds.{Deed}
use Rattle.depot_rows.specs.depot_model.Records.{SameRows}
use Rattle.depot_rows.specs.depot_model.Step.{Step, refuses, refuse_if, unless, after}
use Rattle.depot_rows.specs.declared.deed.Deed.{Deed as Done}
use Rattle.depot_rows.specs.Effects.{Follow}
use Rattle.depot_rows.proofs.Twins.{rows_same}
use Rattle.row_reads.proofs.Rights.{same_somewhere}
use Rattle.depots_alike.proofs.Changes.{group_show_same, opened_step_same, change_show_same, job_save_same, fix_same, fix_delete_same, dirs_same, change_delete_same}
use Rattle.depots_alike.proofs.Shelving.{shelve_same, shelve_delete_same, unshelve_same, describe_shelved_same}
use Rattle.depots_alike.proofs.Submitting.{submit_default_same, submit_change_same}
use Rattle.depots_alike.proofs.Protections.{protect_show_same}
use Rattle.depots_alike.proofs.Kept.{is_shelved_same}
use Rattle.depots_alike.proofs.Describing.{change_save_same, describe_same}
use Rattle.depots_alike.proofs.Choosing.{is_client_same, is_label_same}
use Rattle.depots_alike.proofs.Files.{is_fixing_same, labels_same, jobs_same, fixes_same, files_same, print_same, edit_same, delete_same, add_same}
use Rattle.depots_alike.proofs.More.{fstat_same, sync_same, tag_same, labelsync_same}
use Rattle.depots_alike.proofs.Names.{counters_same}
use Rattle.depots_alike.proofs.Simple.{counter_show_same, client_show_same, label_show_same, label_save_same, job_show_same, checkpoint_same, where_same, have_step_same, lock_same, unlock_same, reopen_same, revert_same}
use Rattle.depots_alike.proofs.Twins.{Twins}
use Rattle.depots_alike.proofs.Alike.{alike_of}
use Rattle.depots_alike.proofs.Logs.{integrated_same, filelog_same}
use Rattle.depots_alike.proofs.Numbers.{changes_same}
use Rattle.depots_alike.proofs.Turning.{move_same, resolve_same}
use Rattle.depots_alike.proofs.Integrating.{integrate_same}

module _ (d e : List Deed) (twins : Twins d e) (request : Request) where
  abbrev caller : Caller
  caller = request.caller

  unknown_same : (wanted : Wanted) → unknown_name d wanted ≡ unknown_name e wanted
  unknown_same (One (Named name)) =
      λ i. if is_label_same d e (alike_of d e twins) name i || is_client_same d e (alike_of d e twins) name i then [] else name ∷ []
  unknown_same _ = refl

  common_same : (form : About) → common_refusals d caller form ≡ common_refusals e caller form
  common_same form = λ i.
      refuse_if (not (same_somewhere d e caller twins.left twins.right twins.rows form.need i)) (Denied (codes "//...") form.need)
      ∷ refuse_if (asks_client caller form && not (is_client_same d e (alike_of d e twins) caller.client i)) (NoClient caller.client)
      ∷ first_unknown (flat_map (λ (a : FileArgument). unknown_same a.spec.wanted i) form.files)
      ∷ []

  own_same : (command : Command) → own_step d request command ≡ own_step e request command
  own_same (CounterShow name) = counter_show_same d e twins name
  own_same (CounterSet name value) = refl
  own_same (CounterDelete name) = refl
  own_same Counters = counters_same d e twins
  own_same (ClientShow name) = client_show_same d e twins (unwrap_or name caller.client)
  own_same ClientSave = refl
  own_same (LabelShow name) = label_show_same d e twins name
  own_same LabelSave = label_save_same d e twins (unwrap_or request.input [])
  own_same Labels = labels_same d e twins
  own_same GroupSave = refl
  own_same ProtectSave = refl
  own_same (Where paths) = where_same d e twins caller paths
  own_same (Have files) = have_step_same d e twins caller files
  own_same (Add change type paths) = add_same d e twins caller change type paths
  own_same (Edit change type files) = edit_same d e twins caller change type files
  own_same (Delete change files) = delete_same d e twins caller change files
  own_same (Revert change files) = revert_same d e twins caller change files
  own_same (Reopen change type files) = reopen_same d e twins caller change type files
  own_same (Lock change files) = lock_same d e twins caller change files
  own_same (Unlock change files) = unlock_same d e twins caller change files
  own_same (Sync again shows files) = sync_same d e twins caller again shows files
  own_same (Tag label removes files) = tag_same d e twins caller label removes files
  own_same (LabelSync label labelling files) = labelsync_same d e twins caller label labelling files
  own_same (Files live files) = files_same d e twins caller live files
  own_same (Print files) = print_same d e twins caller files
  own_same (FileStat files) = fstat_same d e twins caller files
  own_same (JobShow name) = job_show_same d e twins caller name
  own_same Jobs = jobs_same d e twins
  own_same (Fixes change job) = fixes_same d e twins change job
  own_same (GroupShow name) = group_show_same d e twins name
  own_same (Opened all files) = opened_step_same d e twins caller all files
  own_same (ChangeShow change) = change_show_same d e twins caller change
  own_same ChangeSave = change_save_same d e twins request (unwrap_or request.input [])
  own_same (Describe change) = describe_same d e twins caller change
  own_same JobSave = job_save_same d e twins (unwrap_or request.input [])
  own_same (Fix change jobs) = fix_same d e twins caller change jobs
  own_same (FixDelete change jobs) = fix_delete_same d e twins change jobs
  own_same (Dirs patterns) = dirs_same d e twins caller patterns
  own_same (ChangeDelete change) = change_delete_same d e twins caller change
  own_same (Shelve change replaces files) = shelve_same d e twins request change replaces files
  own_same (ShelveDelete change files) = shelve_delete_same d e twins caller change files
  own_same (Unshelve shelved change files) = unshelve_same d e twins caller shelved change files
  own_same (DescribeShelved change) = describe_shelved_same d e twins caller change
  own_same (SubmitDefault text) = submit_default_same d e twins request text
  own_same (SubmitChange change) = submit_change_same d e twins request change
  own_same ProtectShow = protect_show_same d e twins
  own_same Checkpoint = checkpoint_same d e twins
  own_same Pull = refl
  own_same (Integrated files) = integrated_same d e twins caller files
  own_same (FileLog files) = filelog_same d e twins caller files
  own_same (Changes most status user client files) = changes_same d e twins caller most status user client files
  own_same (Move change from to) = move_same d e twins caller change from to
  own_same (Resolve taking files) = resolve_same caller taking d e twins files
  own_same (Integrate change from to) = integrate_same d e twins caller change from to

  last_same : (command : Command) → last_refusals d command ≡ last_refusals e command
  last_same (SubmitChange n) = λ i. refuse_if (is_shelved_same d e twins n i) (Shelved n) ∷ []
  last_same (ChangeDelete n) =
      λ i. refuse_if (is_shelved_same d e twins n i) (Shelved n) ∷ refuse_if (is_fixing_same d e twins n i) (Fixed n) ∷ []
  last_same _ = refl

  pub whole_same : (command : Command) → whole_step d request command ≡ whole_step e request command
  whole_same command = λ i. unless (common_same (about command) i ++ last_same command i) (own_same command i)

  abbrev step_for : List Deed → Result Command WordFault → Step
  step_for x asked = elim asked [ Err fault ↦ refuses (word_refusal fault) | Ok command ↦ whole_step x request command ]

  pub step_same : step d request ≡ step e request
  step_same = go request.command
    where
      go : (asked : Result Command WordFault) → step_for d asked ≡ step_for e asked
      go (Err fault) = refl
      go (Ok command) = whole_same command

  pub rows_stay : (dones : List Done) → Follow d dones (step d request).deeds
      → SameRows (after d (step d request).deeds) (after e (step e request).deeds)
  rows_stay dones follow =
      let P : Step → Type 0 = λ s. SameRows (after d (step d request).deeds) (after e s.deeds) in
      subst P step_same
      (rows_same d e dones (step d request).deeds twins.rows (twins.left).landed_or_pending (twins.right).landed_or_pending follow)
