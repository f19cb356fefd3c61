use Rattle.sound_form_steps.proofs.ChangeForms.{change_save_sound}
use Rattle.sound_form_steps.proofs.Changing.{change_delete_sound, checkpoint_sound}
use Rattle.sound_form_steps.proofs.laws.steps_on_changes_keep_depots_sound.Goals as goal

pub returns-clause-save : goal.returns-clause-save
returns-clause-save c = λ d request input sound user client. change_save_sound d sound request user client input

pub returns-clause-delete : goal.returns-clause-delete
returns-clause-delete c = λ d caller n sound unshelved unfixed. change_delete_sound d sound caller n unshelved unfixed

pub returns-clause-checkpoint : goal.returns-clause-checkpoint
returns-clause-checkpoint c = λ d sound. checkpoint_sound d sound
