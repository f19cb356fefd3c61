use Rattle.sound_form_steps.proofs.Jobs.{job_save_sound}
use Rattle.sound_form_steps.proofs.Words.{protect_sound}
use Rattle.sound_form_steps.proofs.Saves.{group_sound, client_sound, label_sound}
use Rattle.sound_form_steps.proofs.laws.forms_that_are_saved_keep_depots_sound.Goals as goal

pub returns-clause-group : goal.returns-clause-group
returns-clause-group c = λ d input sound. group_sound d sound input

pub returns-clause-client : goal.returns-clause-client
returns-clause-client c = λ d input sound. client_sound d sound input

pub returns-clause-label : goal.returns-clause-label
returns-clause-label c = λ d input sound. label_sound d sound input

pub returns-clause-protections : goal.returns-clause-protections
returns-clause-protections c = λ d input sound. protect_sound d sound input

pub returns-clause-job : goal.returns-clause-job
returns-clause-job c = λ d input sound. job_save_sound d sound input
