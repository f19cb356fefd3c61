use Rattle.std.proofs.Common.{◌++◌, List, length, ap, ◌∙◌}
use Rattle.locked_tables.specs.Known.{PartyKnown}
use Rattle.shared_depot.specs.Sharing.{fresh_passes}
use Rattle.shared_depot.proofs.making.make_parts.Goals as goal

pub returns-clause-passes : goal.returns-clause-passes
returns-clause-passes g c = c.in_ok-make_passes.ensures.passes ∙ ap (λ (l : List PartyKnown). l ++ fresh_passes (length c.args.places.now)) c.new-passes.ensures.items
