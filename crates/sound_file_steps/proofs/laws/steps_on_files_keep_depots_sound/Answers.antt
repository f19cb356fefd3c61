use Rattle.sound_file_steps.proofs.Files.{lock_sound, unlock_sound, revert_sound, reopen_sound}
use Rattle.sound_file_steps.proofs.Tagging.{tag_sound, labelsync_sound}
use Rattle.sound_file_steps.proofs.laws.steps_on_files_keep_depots_sound.Goals as goal

pub returns-clause-lock : goal.returns-clause-lock
returns-clause-lock c = λ d caller change files sound. lock_sound d caller sound change files

pub returns-clause-unlock : goal.returns-clause-unlock
returns-clause-unlock c = λ d caller change files sound. unlock_sound d caller sound change files

pub returns-clause-revert : goal.returns-clause-revert
returns-clause-revert c = λ d caller change files sound. revert_sound d caller sound change files

pub returns-clause-reopen : goal.returns-clause-reopen
returns-clause-reopen c = λ d caller change type files sound typed. reopen_sound d caller sound change type typed files

pub returns-clause-tag : goal.returns-clause-tag
returns-clause-tag c = λ d caller label removes files sound named. tag_sound d sound caller label named removes files

pub returns-clause-labelsync : goal.returns-clause-labelsync
returns-clause-labelsync c = λ d caller label labelling files sound. labelsync_sound d sound caller label labelling files
