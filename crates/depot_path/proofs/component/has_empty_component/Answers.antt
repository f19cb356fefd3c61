use Rattle.std.proofs.Common.{[], drop, rules, tests, ◌==◌}
use Rattle.std.proofs.lemmas.Iterator.Search.{any_from_yields_List}
use Rattle.std.proofs.lemmas.Iterator.Splits.{YieldsList-from_slice_split}
use Rattle.depot_path.specs.Bytes.{same}
use Rattle.depot_path.proofs.component.has_empty_component.Goals as goal

pub returns : goal.returns
returns c =
    any_from_yields_List (same []) _ _ _ c.any.ensures.ran
    (YieldsList-from_slice_split _ (λ b. b == 0x2F) (drop 2 c.args.text.now) (cc) (cc) (cc) (λ x b q k. search (rules, tests)))
    (λ x b q k. search (rules, tests))
