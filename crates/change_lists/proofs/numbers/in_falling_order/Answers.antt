use Rattle.std.proofs.Common.{ℕ, sym, ap, subst, ◌∙◌}
use Rattle.std.proofs.lemmas.List.Filters.{dedup_is}
use Rattle.std.proofs.lemmas.List.Sorted.{list_any-IsPermutation}
use Rattle.std.specs.Prelude.{◌==◌, reverse}
use Rattle.change_lists.specs.Numbers.{Falls, is_among}
use Rattle.change_lists.proofs.Falling.{dedup_among, sorted_falls}
use Rattle.change_lists.proofs.numbers.in_falling_order.Goals as goal

pub returns-clause-falls : goal.returns-clause-falls
returns-clause-falls c =
    subst Falls (sym (c.reverse.ensures.items ∙ ap reverse (dedup_is _ _ _ c.dedup.ensures.filtered))) (sorted_falls _ c.sort_unstable.ensures.sorted)

pub returns-clause-same : goal.returns-clause-same
returns-clause-same c = λ n.
    sym (list_any-IsPermutation (λ (m : ℕ). m == n) _ _ c.reverse.ensures.permutation)
    ∙ ap (is_among n) (dedup_is _ _ _ c.dedup.ensures.filtered)
    ∙ dedup_among n _
    ∙ sym (list_any-IsPermutation (λ (m : ℕ). m == n) _ _ c.sort_unstable.ensures.permutation)
