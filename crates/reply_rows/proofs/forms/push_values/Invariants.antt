use Rattle.std.proofs.Common.{◌≡◌, ◌++◌, length}
use Rattle.std.specs.Prelude.{map}
use Rattle.depot_rows.specs.depot_model.Rows.{text_field}
use Rattle.reply_rows.proofs.forms.push_values.Given as goal

abbrev pub invariant-loop-rest : goal.invariant-loop-rest
invariant-loop-rest l = l.fields ++ map (text_field l.name) l.rest ≡ l.fn.fields ++ map (text_field l.name) l.lines

abbrev pub decreases-loop-rest : goal.decreases-loop-rest
decreases-loop-rest l = length l.rest
