use Rattle.row_texts.proofs.Changes.{changes_have_texts}
use Rattle.row_texts.proofs.Rows.{row_has_text}
use Rattle.row_texts.proofs.laws.rows_of_sound_depots_have_texts.Goals as goal

pub returns-clause-rows : goal.returns-clause-rows
returns-clause-rows c = λ d row sound e typed counted. row_has_text d sound row e typed counted

pub returns-clause-changes : goal.returns-clause-changes
returns-clause-changes c = λ all d e changes stand sound differences typed counted. changes_have_texts all d e changes stand sound differences typed counted
