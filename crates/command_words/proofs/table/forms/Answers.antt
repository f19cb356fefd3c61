use Rattle.std.proofs.Common.{refl}
use Rattle.command_words.specs.Table.{table}
use Rattle.command_words.proofs.table.forms.Goals as goal

pub returns : goal.returns
unfolding table
returns c = refl
