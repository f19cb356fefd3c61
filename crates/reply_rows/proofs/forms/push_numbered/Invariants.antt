use Rattle.std.proofs.Common.{◌≡◌, ◌++◌, ◌+◌, length}
use Rattle.std.specs.Prelude.{map}
use Rattle.std.specs.List.{enumerate_from}
use Rattle.depot_rows.specs.depot_model.FormRows.{numbered}
use Rattle.reply_rows.proofs.forms.push_numbered.Given as goal

abbrev pub invariant-loop-rest : goal.invariant-loop-rest
invariant-loop-rest l = record {
  shown : l.fields ++ map (numbered l.name) (enumerate_from l.index l.rest) ≡ l.fn.fields ++ map (numbered l.name) (enumerate_from 0 l.lines);
  counted : l.index + length l.rest ≡ length l.lines;
}

abbrev pub decreases-loop-rest : goal.decreases-loop-rest
decreases-loop-rest l = length l.rest
