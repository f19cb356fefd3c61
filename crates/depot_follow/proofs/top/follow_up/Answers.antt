use Rattle.std.proofs.Common.{inl, inr}
use Rattle.depot_follow.proofs.Copied.{copied_by}
use Rattle.depot_follow.proofs.Endings.{has_not_opened}
use Rattle.depot_follow.proofs.top.follow_up.Goals as goal

pub returns-in-Ok-clause-follows : goal.returns-in-Ok-clause-follows
returns-in-Ok-clause-follows g c = inr (record { node = c.in-Ok.node; opened = c.in-Ok.ensures.opened; follows = c.follow_open.ensures.follows; copied = copied_by g.D.Disk.says g.met.D.Disk.reads_an_image g.K.Sink.says c.args.up c.in-Ok.node _ _ c.follow_open.result c.in-Ok.ensures.opened.fresh c.follow_open.ensures.follows })

pub returns-in-Err-clause-follows : goal.returns-in-Err-clause-follows
returns-in-Err-clause-follows g c =
    let end = c.end_unopened.ensures in
    inl (has_not_opened g.D.Disk.says g.K.Sink.says c.args.up c.args.files c.args.out.now c.end_unopened.new.out c.end_unopened.result c.in-Err.found end.ended end.line c.in-Err.ensures.unopened)
