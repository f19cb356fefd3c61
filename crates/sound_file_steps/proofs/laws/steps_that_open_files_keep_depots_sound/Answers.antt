use Rattle.sound_file_steps.proofs.Opening.{add_sound, edit_sound, delete_sound, sync_sound}
use Rattle.sound_file_steps.proofs.laws.steps_that_open_files_keep_depots_sound.Goals as goal

pub returns-clause-add : goal.returns-clause-add
returns-clause-add c = λ d caller change type paths sound saved typed spelled. add_sound d sound caller saved change type paths typed spelled

pub returns-clause-edit : goal.returns-clause-edit
returns-clause-edit c = λ d caller change type files sound saved typed. edit_sound d sound caller saved change type typed files

pub returns-clause-delete : goal.returns-clause-delete
returns-clause-delete c = λ d caller change files sound saved. delete_sound d sound caller saved change files

pub returns-clause-sync : goal.returns-clause-sync
returns-clause-sync c = λ d caller again shows files sound saved. sync_sound d sound caller saved again shows files
