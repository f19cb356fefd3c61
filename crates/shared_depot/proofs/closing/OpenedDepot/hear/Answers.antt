use Rattle.std.proofs.Common.{◌≡◌, ◌++◌, ℕ, subst}
use Rattle.party_marks.specs.Known.{PassKnown}
use Rattle.party_marks.specs.Marks.{marks_of}
use Rattle.shared_depot.proofs.Marks.{marked_alike}
use Rattle.shared_depot.specs.Common.{OpenedKnown}
use Rattle.shared_depot.proofs.closing.OpenedDepot.hear.Goals as goal

pub returns-clause-marked : goal.returns-clause-marked
returns-clause-marked g c =
    let known = c.marks.inside in
    let party = known.journal.party in
    let all = c.self.inside.marks.list in
    let contents = c.self.inside.content_marks.list in
    let own : marks_of party contents ≡ marks_of party known.archive.list = subst (λ (n : ℕ). marks_of n contents ≡ marks_of n known.archive.list) c.marks.invariant c.tell-3.ensures.own in
    subst (λ (k : PassKnown). marks_of k.party c.args.self.now.marks ≡ marks_of k.party k.list) c.marks.view_is
    (subst (λ (o : OpenedKnown). marks_of party o.marks ≡ marks_of party (known.journal.list ++ known.archive.list)) c.self.view_is
    (marked_alike party known.journal.list known.archive.list all contents c.tell-2.ensures.own own))
