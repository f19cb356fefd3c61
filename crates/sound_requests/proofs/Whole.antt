-- The step of a request leaves a sound depot sound.
use Rattle.std.proofs.Common.{◌≡◌, Bool, true, false, List, [], ◌++◌, Some, None, Result, Ok, Err, refl, sym, subst}
use Rattle.std.specs.Prelude.{◌&&◌, not, unwrap_or}
use Rattle.std.specs.List.{list_all}
use Rattle.std.proofs.lemmas.Bool.{and_parts}
use Rattle.depot_rows.specs.depot_path.Name.{is_name}
use Rattle.depot_rows.specs.depot_model.About.{about}
use Rattle.depot_rows.specs.depot_model.Asking.{is_client}
use Rattle.depot_rows.specs.depot_model.Commands.{own_step, whole_step, step}
use Rattle.depot_rows.specs.depot_model.Common.{common_refusals, last_refusals, asks_client, word_refusal}
use Rattle.depot_rows.specs.depot_model.Deeds.{Deed}
use Rattle.depot_rows.specs.depot_model.Fixes.{is_fixing}
use Rattle.depot_rows.specs.depot_model.Rules.{IsSound}
use Rattle.depot_rows.specs.depot_model.Shelves.{is_shelved}
use Rattle.depot_rows.specs.depot_model.Step.{Step, refuses, after, refuse_if}
use Rattle.depot_rows.specs.depot_model.WellFormed.{is_command, is_type_or_none, spells_path}
use Rattle.depot_rows.specs.depot_model.declared.command.Command.{Command}
use Rattle.depot_rows.specs.depot_model.declared.command.Command.TheVariants.{CounterShow, CounterSet, CounterDelete, Counters, ClientShow, ClientSave, LabelShow, LabelSave, GroupShow, GroupSave, ProtectShow, ProtectSave, Where, Add, Edit, Delete, Revert, Reopen, Lock, Unlock, Opened, ChangeSave, ChangeShow, ChangeDelete, Changes, SubmitChange, SubmitDefault, Sync, Have, Tag, LabelSync, Labels, Integrate, Resolve, Integrated, Files, FileLog, Print, Describe, Dirs, FileStat, Checkpoint, Pull, Move, Shelve, ShelveDelete, Unshelve, DescribeShelved, JobShow, JobSave, Jobs, Fix, FixDelete, Fixes}
use Rattle.depot_rows.specs.depot_model.declared.refusal.Refusal.TheVariants.{NoClient, Shelved, Fixed}
use Rattle.depot_rows.specs.depot_model.declared.request.Request.{Request}
use Rattle.depot_rows.specs.depot_model.declared.request.WordFault.{WordFault}
use Rattle.depot_rows.proofs.depot_model.Counting.{counted_is_sound}
use Rattle.sound_form_steps.specs.Contents.{fits_content}
use Rattle.sound_requests.specs.Asked.{is_named, is_covered, names_what}
use Rattle.sound_form_steps.proofs.ChangeForms.{change_save_sound}
use Rattle.sound_form_steps.proofs.Changing.{change_delete_sound, checkpoint_sound}
use Rattle.sound_file_steps.proofs.Files.{lock_sound, unlock_sound, revert_sound, reopen_sound}
use Rattle.sound_form_steps.proofs.Fixing.{fix_delete_sound}
use Rattle.sound_file_steps.proofs.Integrating.{integrate_sound}
use Rattle.sound_form_steps.proofs.Jobs.{job_save_sound}
use Rattle.sound_form_steps.proofs.Keeping.{shelve_sound}
use Rattle.sound_file_steps.proofs.Moving.{move_sound}
use Rattle.sound_file_steps.proofs.Opening.{add_sound, edit_sound, delete_sound, sync_sound}
use Rattle.sound_form_steps.proofs.Putting.{fix_sound}
use Rattle.sound_file_steps.proofs.Reading.{where_sound, have_sound, opened_sound, integrated_sound, filelog_sound, print_sound, fstat_sound, files_sound, describe_sound, change_show_sound, job_show_sound, describe_shelved_sound}
use Rattle.sound_file_steps.proofs.Resolving.{resolve_sound}
use Rattle.sound_form_steps.proofs.Saves.{group_sound, client_sound, label_sound}
use Rattle.sound_form_steps.proofs.Shelving.{unshelve_sound}
use Rattle.depot_facts.proofs.Steps.{NoneOf, not_refused, unless_sound}
use Rattle.sound_file_steps.proofs.Tagging.{tag_sound, labelsync_sound}
use Rattle.sound_form_steps.proofs.Unshelving.{shelve_delete_sound}
use Rattle.sound_form_steps.proofs.Words.{protect_sound}

module _ (d : List Deed) (request : Request) (sound : IsSound d) (user : is_name (request.caller).user ≡ true) (client : is_name (request.caller).client ≡ true)
    (contents : list_all fits_content request.contents ≡ true) where
  -- the refusal of a client that isn't saved
  saved_by : (asks : Bool) → asks ≡ true → refuse_if (asks && not (is_client d (request.caller).client)) (NoClient (request.caller).client) ≡ None
      → is_client d (request.caller).client ≡ true
  saved_by true e none = go (is_client d (request.caller).client) (not_refused (not (is_client d (request.caller).client)) (NoClient (request.caller).client) none)
    where
      go : (b : Bool) → not b ≡ false → b ≡ true
      go true h = refl
      go false h = absurd cc
  saved_by false e none = absurd cc

  -- what the refusals that are common leave known
  record IsAsked (command : Command) : Type 0 where
    saved : asks_client request.caller (about command) ≡ true → is_client d (request.caller).client ≡ true
    last : NoneOf (last_refusals d command)

  own_sound : (command : Command) → is_command command ≡ true → names_what command ≡ true → is_covered command ≡ true → IsAsked command
      → IsSound (after d (own_step d request command).deeds)
  own_sound (CounterShow name) formed named covered asked = sound
  own_sound (CounterSet name value) formed named covered asked = counted_is_sound name (Some value) named formed d sound
  own_sound (CounterDelete name) formed named covered asked = counted_is_sound name None named formed d sound
  own_sound Counters formed named covered asked = sound
  own_sound (ClientShow name) formed named covered asked = sound
  own_sound ClientSave formed named covered asked = client_sound d sound (unwrap_or request.input [])
  own_sound (LabelShow name) formed named covered asked = sound
  own_sound LabelSave formed named covered asked = label_sound d sound (unwrap_or request.input [])
  own_sound (GroupShow name) formed named covered asked = sound
  own_sound GroupSave formed named covered asked = group_sound d sound (unwrap_or request.input [])
  own_sound ProtectShow formed named covered asked = sound
  own_sound ProtectSave formed named covered asked = protect_sound d sound (unwrap_or request.input [])
  own_sound (Where paths) formed named covered asked = where_sound d sound request.caller paths
  own_sound (Add change type paths) formed named covered asked =
      add_sound d sound request.caller (asked.saved refl) change type paths (and_parts (is_type_or_none type) (list_all spells_path paths) formed).0
      (and_parts (is_type_or_none type) (list_all spells_path paths) formed).1
  own_sound (Edit change type files) formed named covered asked = edit_sound d sound request.caller (asked.saved refl) change type formed files
  own_sound (Delete change files) formed named covered asked = delete_sound d sound request.caller (asked.saved refl) change files
  own_sound (Revert change files) formed named covered asked = revert_sound d request.caller sound change files
  own_sound (Reopen change type files) formed named covered asked = reopen_sound d request.caller sound change type formed files
  own_sound (Lock change files) formed named covered asked = lock_sound d request.caller sound change files
  own_sound (Unlock change files) formed named covered asked = unlock_sound d request.caller sound change files
  own_sound (Opened all files) formed named covered asked = opened_sound d sound request.caller all files
  own_sound ChangeSave formed named covered asked = change_save_sound d sound request user client (unwrap_or request.input [])
  own_sound (ChangeShow n) formed named covered asked = change_show_sound d sound request.caller n
  own_sound (ChangeDelete n) formed named covered asked =
      change_delete_sound d sound request.caller n (not_refused (is_shelved d n) (Shelved n) (asked.last).0) (not_refused (is_fixing d n) (Fixed n) (asked.last).1.0)
  own_sound (Changes most status by from files) formed named covered asked = sound
  own_sound (SubmitChange n) formed named covered asked = absurd cc
  own_sound (SubmitDefault text) formed named covered asked = absurd cc
  own_sound (Sync again shows files) formed named covered asked = sync_sound d sound request.caller (asked.saved refl) again shows files
  own_sound (Have files) formed named covered asked = have_sound d sound request.caller files
  own_sound (Tag label removes files) formed named covered asked = tag_sound d sound request.caller label named removes files
  own_sound (LabelSync label labelling files) formed named covered asked = labelsync_sound d sound request.caller label labelling files
  own_sound Labels formed named covered asked = sound
  own_sound (Integrate change from to) formed named covered asked = integrate_sound d sound request.caller (asked.saved refl) change from to
  own_sound (Resolve taking files) formed named covered asked = resolve_sound d sound request.caller taking files
  own_sound (Integrated files) formed named covered asked = integrated_sound d sound request.caller files
  own_sound (Files live files) formed named covered asked = files_sound d sound request.caller live files
  own_sound (FileLog files) formed named covered asked = filelog_sound d sound request.caller files
  own_sound (Print files) formed named covered asked = print_sound d sound request.caller files
  own_sound (Describe n) formed named covered asked = describe_sound d sound request.caller n
  own_sound (Dirs patterns) formed named covered asked = sound
  own_sound (FileStat files) formed named covered asked = fstat_sound d sound request.caller files
  own_sound Checkpoint formed named covered asked = checkpoint_sound d sound
  own_sound Pull formed named covered asked = sound
  own_sound (Move change from to) formed named covered asked = move_sound d sound request.caller change from to
  own_sound (Shelve n replaces files) formed named covered asked = shelve_sound d sound request contents user client n replaces files
  own_sound (ShelveDelete n files) formed named covered asked = shelve_delete_sound d sound request.caller n files
  own_sound (Unshelve n change files) formed named covered asked = unshelve_sound d sound request.caller (asked.saved refl) n change files
  own_sound (DescribeShelved n) formed named covered asked = describe_shelved_sound d sound request.caller n
  own_sound (JobShow name) formed named covered asked = job_show_sound d sound request.caller name
  own_sound JobSave formed named covered asked = job_save_sound d sound (unwrap_or request.input [])
  own_sound Jobs formed named covered asked = sound
  own_sound (Fix n names) formed named covered asked = fix_sound d sound request.caller user n names
  own_sound (FixDelete n names) formed named covered asked = fix_delete_sound d sound n names
  own_sound (Fixes n name) formed named covered asked = sound

  whole_sound : (command : Command) → is_command command ≡ true → names_what command ≡ true → is_covered command ≡ true
      → IsSound (after d (whole_step d request command).deeds)
  whole_sound command formed named covered =
      unless_sound d sound (common_refusals d request.caller (about command) ++ last_refusals d command) (own_step d request command) (λ none.
      own_sound command formed named covered (record { saved = λ asks. saved_by (asks_client request.caller (about command)) asks none.1.0; last = none.1.1.1 }))

pub step_sound : (d : List Deed) (request : Request) (command : Command) → request.command ≡ Ok command → IsSound d
    → is_command command ≡ true → is_named request command ≡ true → list_all fits_content request.contents ≡ true → is_covered command ≡ true
    → IsSound (after d (step d request).deeds)
step_sound d request command e sound formed named contents covered =
    subst (λ (r : Result Command WordFault). IsSound (after d (elim r as (λ _. Step) [ Err fault ↦ refuses (word_refusal fault) | Ok c ↦ whole_step d request c ]).deeds))
    (sym e) (whole_sound d request sound
    (and_parts (is_name (request.caller).user) (is_name (request.caller).client) (and_parts _ (names_what command) named).0).0
    (and_parts (is_name (request.caller).user) (is_name (request.caller).client) (and_parts _ (names_what command) named).0).1 contents command formed (and_parts _ (names_what command) named).1 covered)
