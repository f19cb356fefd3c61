use Rattle.std.proofs.Common.{◌≡◌, ◌++◌, ◌+◌, length}
use Rattle.std.specs.Prelude.{map}
use Rattle.depot_rows.specs.depot_model.Steps.Changing.{listed_path}
use Rattle.change_lists.specs.Lines.{first_bad}
use Rattle.change_lists.proofs.lines.push_paths.Given as goal

abbrev pub invariant-loop-rest : goal.invariant-loop-rest
invariant-loop-rest l = record {
  bad : first_bad l.index l.rest ≡ first_bad 0 l.lines;
  read : l.paths ++ map listed_path l.rest ≡ l.fn.paths ++ map listed_path l.lines;
  counted : l.index + length l.rest ≡ length l.lines;
}

abbrev pub decreases-loop-rest : goal.decreases-loop-rest
decreases-loop-rest l = length l.rest
