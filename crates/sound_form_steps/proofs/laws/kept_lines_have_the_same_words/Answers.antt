use Rattle.sound_form_steps.proofs.Words.{words_again}
use Rattle.sound_form_steps.proofs.laws.kept_lines_have_the_same_words.Goals as goal

pub returns : goal.returns
returns c = λ line. words_again line
