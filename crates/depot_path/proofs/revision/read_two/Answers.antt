use Rattle.std.proofs.Common.{sym, ap, ◌∙◌}
use Rattle.depot_path.proofs.Ends.{both_read}
use Rattle.depot_path.specs.Revision.{same_mark, range_of}
use Rattle.depot_path.proofs.revision.read_two.Goals as goal

pub returns : goal.returns
returns c =
    both_read (same_mark c.args.first_hash c.args.second_hash) c.read_end-first.result c.read_end-second.result _ _ c.join_ends.result c.read_end-first.ensures c.read_end-second.ensures (sym c.is_memory.ensures ∙ c.if-is_memory.false) (sym c.is_memory-else-is_memory.ensures ∙ c.if-is_memory-2.false)
    (c.join_ends.ensures ∙ ap (λ s. range_of s c.read_end-first.result c.read_end-second.result) c.same_mark.ensures)
