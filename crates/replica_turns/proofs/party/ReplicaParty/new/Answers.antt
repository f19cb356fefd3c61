use Rattle.std.proofs.Common.{List, length, ap, ◌∙◌}
use Rattle.std.proofs.lemmas.List.{length-reverse}
use Rattle.depot_rows.specs.depot_model.declared.request.Request.{Request}
use Rattle.replica_turns.proofs.Turns.{requests_many}
use Rattle.replica_turns.proofs.party.ReplicaParty.new.Goals as goal

pub returns-clause-left : goal.returns-clause-left
returns-clause-left g c =
    ap (λ (requests : List Request). length requests) c.reverse.ensures.items
    ∙ (length-reverse c.in_ok-left.left.items ∙ requests_many (g.C.Clock.says.may_give c.args.clock.now) c.args.party 1 c.args.script.session.caller c.args.script.session.commands c.in_ok-left.left.items c.in_ok-left.ensures)
