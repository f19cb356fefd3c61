use Rattle.std.proofs.Common.{◌≡◌, take, filter}
use Rattle.std.specs.Prelude.{codes}
use Rattle.db_records.specs.depot_path.Bytes.{is_among}
use Rattle.depot_model.proofs.file_type.ordered.Given as goal

abbrev pub invariant-loop-modifier : goal.invariant-loop-modifier
invariant-loop-modifier l = l.text.items ≡ filter (λ b. is_among l.letters b) (take l.modifier-index (codes "xwlF"))
