use Rattle.command_words.proofs.FormedLines.{is_formed}
use Rattle.command_words.proofs.laws.words_spell_well_formed_commands.Goals as goal

pub returns : goal.returns
returns c = is_formed
