use Rattle.std.proofs.Common.{rules, tests, ◌||◌, ◌==◌}
use Rattle.std.specs.Prelude.{codes}
use Rattle.std.proofs.lemmas.Iterator.Search.{any_from_yields_List}
use Rattle.std.proofs.lemmas.Iterator.Splits.{YieldsList-from_slice_split}
use Rattle.depot_rows.specs.depot_path.Bytes.{same}
use Rattle.row_reads.proofs.forms.has_locked.Goals as goal

pub returns : goal.returns
returns c =
    any_from_yields_List (same (codes "locked")) _ _ _ c.any.ensures.ran
    (YieldsList-from_slice_split _ (λ b. (b == 0x20) || (b == 0x09)) c.args.text.now c.split.ensures.rest c.split.ensures.done c.split.ensures.closure (λ x b q k. search (rules, tests)))
    (λ x b q k. search (rules, tests))
