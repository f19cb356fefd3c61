use Rattle.sound_requests.proofs.All.{asked_sound}
use Rattle.command_core.proofs.laws.steps_keep_depots_sound.Goals as goal

pub returns : goal.returns
returns c = λ d request sound asked typed. asked_sound d request sound asked typed
