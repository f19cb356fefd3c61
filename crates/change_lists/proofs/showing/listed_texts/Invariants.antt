use Rattle.std.proofs.Common.{◌≡◌, ◌++◌, length}
use Rattle.std.specs.Prelude.{flat_map}
use Rattle.depot_rows.specs.declared.deed.Opening.{Opening}
use Rattle.change_lists.specs.Showing.{listed_text}
use Rattle.change_lists.proofs.showing.listed_texts.Given as goal

abbrev pub invariant-loop-rest : goal.invariant-loop-rest
invariant-loop-rest l =
    l.texts ++ flat_map (λ (o : Opening). listed_text l.asker o.path) l.rest ≡ flat_map (λ (o : Opening). listed_text l.asker o.path) l.openings

abbrev pub decreases-loop-rest : goal.decreases-loop-rest
decreases-loop-rest l = length l.rest
