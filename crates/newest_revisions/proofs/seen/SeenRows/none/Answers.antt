use Rattle.std.proofs.Common.{List, map, sym, ap, subst}
use Rattle.std.specs.List.{All}
use Rattle.std.proofs.lemmas.List.Elements.{All-nil}
use Rattle.named_files.specs.HeadRows.{IsHead}
use Rattle.newest_revisions.proofs.seen.SeenRows.none.Goals as goal

pub returns-clause-rows : goal.returns-clause-rows
returns-clause-rows c = ap (λ (items : List _). map (λ r. r.now) items) c.new.ensures.items

pub returns-clause-heads : goal.returns-clause-heads
returns-clause-heads c = λ rows. subst (λ (items : List _). All (IsHead rows) (map (λ r. r.now) items)) (sym c.new.ensures.items) (All-nil (IsHead rows))
