use Rattle.sound_form_steps.proofs.Fixing.{fix_delete_sound}
use Rattle.sound_form_steps.proofs.Keeping.{shelve_sound}
use Rattle.sound_form_steps.proofs.Putting.{fix_sound}
use Rattle.sound_form_steps.proofs.Shelving.{unshelve_sound}
use Rattle.sound_form_steps.proofs.Unshelving.{shelve_delete_sound}
use Rattle.sound_form_steps.proofs.laws.steps_on_shelves_and_fixes_keep_depots_sound.Goals as goal

pub returns-clause-unfix : goal.returns-clause-unfix
returns-clause-unfix c = λ d n names sound. fix_delete_sound d sound n names

pub returns-clause-take_away : goal.returns-clause-take_away
returns-clause-take_away c = λ d caller n files sound. shelve_delete_sound d sound caller n files

pub returns-clause-unshelve : goal.returns-clause-unshelve
returns-clause-unshelve c = λ d caller n change files sound saved. unshelve_sound d sound caller saved n change files

pub returns-clause-fix : goal.returns-clause-fix
returns-clause-fix c = λ d caller n names sound user. fix_sound d sound caller user n names

pub returns-clause-shelve : goal.returns-clause-shelve
returns-clause-shelve c = λ d request n replaces files sound contents user client. shelve_sound d sound request contents user client n replaces files
