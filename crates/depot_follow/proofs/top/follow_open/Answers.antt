use Rattle.std.proofs.Common.{Err, inl, inr, sym, ap, ◌∙◌}
use Rattle.depot_follow.specs.declared.ended.ChainCause.{ChainCause}
use Rattle.depot_follow.proofs.Endings.{all_of, done_unfailed, ends_of, follows_of, pair_is, rose_of}
use Rattle.depot_follow.proofs.top.follow_open.Goals as goal

pub returns-in-Err-clause-follows : goal.returns-in-Err-clause-follows
returns-in-Err-clause-follows g c =
    let followed = c.in-Err.ensures in
    let end = c.end_chain.ensures.ended in
    let up = c.into_files-up.ensures in
    let node = c.into_files-node.ensures in
    follows_of g.D.Disk.says g.K.Sink.says c.args.up c.args.node c.follow-followed.new.up c.follow-followed.new.node c.args.out.now c.end_chain.new.out c.end_chain.result
    (end.up_is ∙ pair_is c.into_files-up.result _ _ up.journal up.archive) (end.node_is ∙ pair_is c.into_files-node.result _ _ node.journal node.archive) followed.no_fewer followed.behind
    (ends_of g.D.Disk.says g.K.Sink.says c.args.up c.args.node c.follow-followed.new.up c.follow-followed.new.node c.args.out.now c.end_chain.new.out c.end_chain.result c.in-Err.cause end.cause_is followed.ended c.end_chain.ensures.line)
    (λ is. rose_of g.D.Disk.says g.K.Sink.says c.args.up c.args.node c.follow-followed.new.up c.follow-followed.new.node c.args.out.now c.end_chain.new.out c.end_chain.result
    (followed.cause (ap (λ (cause : ChainCause). Err cause) (sym end.cause_is ∙ is))))

pub returns-in-Ok-give_done-clause-follows : goal.returns-in-Ok-give_done-clause-follows
returns-in-Ok-give_done-clause-follows g c =
    let followed = c.in-Ok.ensures in
    let figures = c.in-Ok.figures in
    let end = c.ended_by.ensures in
    let up = c.into_files-up.ensures in
    let node = c.into_files-node.ensures in
    follows_of g.D.Disk.says g.K.Sink.says c.args.up c.args.node c.follow-followed.new.up c.follow-followed.new.node c.args.out.now c.give_done.new.out c.ended_by.result
    (end.up_is ∙ pair_is c.into_files-up.result _ _ up.journal up.archive) (end.node_is ∙ pair_is c.into_files-node.result _ _ node.journal node.archive) followed.no_fewer followed.behind
    (all_of g.D.Disk.says g.K.Sink.says c.args.up c.args.node c.follow-followed.new.up c.follow-followed.new.node c.args.out.now c.give_done.new.out c.ended_by.result figures.generation figures.changes figures.verified
    followed.agrees followed.upstream followed.position followed.rows followed.verified followed.all (inl (end.cause_is, c.in-Ok-give_done.ensures.given.whole)))
    (λ is. absurd (done_unfailed _ end.cause_is is))

pub returns-in-Err-give_done-clause-follows : goal.returns-in-Err-give_done-clause-follows
returns-in-Err-give_done-clause-follows g c =
    let followed = c.in-Ok.ensures in
    let figures = c.in-Ok.figures in
    let end = c.ended_by-in-Err-give_done.ensures in
    let up = c.into_files-up.ensures in
    let node = c.into_files-node.ensures in
    let failed = c.in-Err-give_done.ensures in
    follows_of g.D.Disk.says g.K.Sink.says c.args.up c.args.node c.follow-followed.new.up c.follow-followed.new.node c.args.out.now c.give_done.new.out c.ended_by-in-Err-give_done.result
    (end.up_is ∙ pair_is c.into_files-up.result _ _ up.journal up.archive) (end.node_is ∙ pair_is c.into_files-node.result _ _ node.journal node.archive) followed.no_fewer followed.behind
    (all_of g.D.Disk.says g.K.Sink.says c.args.up c.args.node c.follow-followed.new.up c.follow-followed.new.node c.args.out.now c.give_done.new.out c.ended_by-in-Err-give_done.result figures.generation figures.changes figures.verified
    followed.agrees followed.upstream followed.position followed.rows followed.verified followed.all (inr (end.cause_is, failed.cause.risen, failed.given.front)))
    (λ is. inr (inr failed.cause.risen))
