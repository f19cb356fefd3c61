use Rattle.sound_file_steps.proofs.Integrating.{integrate_sound}
use Rattle.sound_file_steps.proofs.Moving.{move_sound}
use Rattle.sound_file_steps.proofs.Resolving.{resolve_sound}
use Rattle.sound_file_steps.proofs.laws.steps_between_files_keep_depots_sound.Goals as goal

pub returns-clause-moved : goal.returns-clause-moved
returns-clause-moved c = λ d caller change from to sound. move_sound d sound caller change from to

pub returns-clause-integrate : goal.returns-clause-integrate
returns-clause-integrate c = λ d caller change from to sound saved. integrate_sound d sound caller saved change from to

pub returns-clause-resolve : goal.returns-clause-resolve
returns-clause-resolve c = λ d caller taking files sound. resolve_sound d sound caller taking files
