-- The step of a request saves forms of its command's kinds alone.
use Rattle.std.proofs.Common.{◌≡◌, Bool, List, [], ◌++◌, Result, Ok, Err, refl, sym, subst}
use Rattle.std.specs.Prelude.{unwrap_or}
use Rattle.depot_model.specs.About.{about}
use Rattle.depot_model.specs.Commands.{own_step, whole_step, step}
use Rattle.depot_model.specs.Common.{common_refusals, last_refusals, word_refusal}
use Rattle.depot_model.specs.Deeds.{Deed}
use Rattle.depot_model.specs.Step.{Step, refuses}
use Rattle.depot_model.specs.Tables.{own_tables}
use Rattle.depot_model.specs.declared.command.Command.{Command}
use Rattle.depot_model.specs.declared.command.Command.TheVariants.{ClientSave, LabelSave, Tag, SubmitChange, SubmitDefault, Shelve, ShelveDelete, JobSave, Fix, FixDelete}
use Rattle.depot_model.specs.declared.request.Request.{Request}
use Rattle.depot_model.specs.declared.request.WordFault.{WordFault}
use Rattle.step_forms.specs.SavedForms.{saved_kinds, saves_in}
use Rattle.step_forms.proofs.Combining.{All, Each, unless_holds}
use Rattle.step_forms.proofs.Staying.{saves_none}
use Rattle.step_forms.proofs.Saving.{Saves, client_save_saves, label_save_saves, job_save_saves, fix_saves, fix_delete_saves, shelve_saves, shelve_delete_saves, tag_saves, submit_default_saves, submit_change_saves}
use Rattle.step_tables.proofs.Whole.{own_stays}

module _ (d : List Deed) (request : Request) where
  -- what holds of no deed and of those of a command's own step holds of those of its request
  pub from_own : (Holds : List Deed → Type 0) → Holds [] → (command : Command) → request.command ≡ Ok command → Holds (own_step d request command).deeds
      → Holds (step d request).deeds
  from_own Holds nothing command is own =
      subst (λ (asked : Result Command WordFault). Holds (elim asked as (λ _. Step) [ Err fault ↦ refuses (word_refusal fault) | Ok c ↦ whole_step d request c ]).deeds)
      (sym is) (unless_holds Holds nothing (common_refusals d request.caller (about command) ++ last_refusals d command) (own_step d request command) own)

  pub each_of : (test : Deed → Bool) (command : Command) → request.command ≡ Ok command → Each test (own_step d request command) → Each test (step d request)
  each_of test command is own = record { all = from_own (All test) refl command is own.all }

  own_saves : (command : Command) → Saves (saved_kinds command) (own_step d request command)
  own_saves ClientSave = client_save_saves (unwrap_or request.input [])
  own_saves LabelSave = label_save_saves d (unwrap_or request.input [])
  own_saves (Tag label removes files) = tag_saves d request.caller label removes files
  own_saves (SubmitChange change) = submit_change_saves d request change
  own_saves (SubmitDefault text) = submit_default_saves d request text
  own_saves (Shelve change replaces files) = shelve_saves d request replaces change files
  own_saves (ShelveDelete change files) = shelve_delete_saves d request.caller change files
  own_saves JobSave = job_save_saves d (unwrap_or request.input [])
  own_saves (Fix change jobs) = fix_saves d request.caller change jobs
  own_saves (FixDelete change jobs) = fix_delete_saves d change jobs
  own_saves command =
      record { all = saves_none (own_tables command).written (saved_kinds command) refl (own_step d request command).deeds (own_stays d request command).each }

pub step_saves : (d : List Deed) (request : Request) (command : Command) → request.command ≡ Ok command → Saves (saved_kinds command) (step d request)
step_saves d request command is = each_of d request (saves_in (saved_kinds command)) command is (own_saves d request command)
