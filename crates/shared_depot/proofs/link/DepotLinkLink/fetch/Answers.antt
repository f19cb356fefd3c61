use Rattle.std.proofs.Common.{List, ℕ}
use Rattle.outside_api.specs.Link.{Answers, IsEarlier}
use Rattle.outside_api.specs.declared.link.Fetched.{Fetched}
use Rattle.outside_api.specs.declared.stream.Failed.{Failed}
use Rattle.replica_pull.proofs.Moves.{ok_on}
use Rattle.shared_depot.proofs.Links.{told_itself, told_on}
use Rattle.shared_depot.proofs.link.DepotLinkLink.fetch.Goals as goal

pub returns-clause-answer : goal.returns-clause-answer
returns-clause-answer g c = λ now told.
    let itself = told_itself g.D.Disk.says g.N.Naming.end g.N.Imaging.images g.N.Serving.begins g.N.Serving.masters c.fetch.new.pass.list now told in
    ok_on Fetched Failed (λ fetched. Answers now c.args.generation c.args.at fetched c.fetch.new.buffer)
    (λ fetched. (earlier : List (List ℕ)) × IsEarlier earlier now × Answers earlier c.args.generation c.args.at fetched c.fetch.new.buffer) c.fetch.result (c.fetch.ensures.answers now told)
    (λ fetched has. (now, itself, has))

pub returns-clause-grows : goal.returns-clause-grows
returns-clause-grows g c = λ before told.
    told_on g.D.Disk.says g.N.Naming.end g.N.Imaging.images g.N.Serving.begins g.N.Serving.masters c.args.self.now.pass.list c.fetch.new.pass.list c.fetch.ensures.heard.later c.fetch.ensures.tells before told
