use Rattle.std.proofs.Common.{drop, ◌==◌, arith}
use Rattle.std.proofs.lemmas.Bool.Decides.{nat_tests}
use Rattle.std.proofs.lemmas.List.Splits.{length-slice_split}
use Rattle.depot_path.proofs.component.has_one_component.Goals as goal

pub returns : goal.returns
returns c = let e = length-slice_split (λ b. b == 0x2F) (drop 2 c.args.text.now) in grind (arith, nat_tests)
