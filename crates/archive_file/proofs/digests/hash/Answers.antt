use Rattle.std.proofs.Common.{◌≡◌, ◌+◌, ◌≤◌, length, take, drop, subst, arith, length-take, ap, ◌∙◌}
use Rattle.outside_api.specs.Moments.{then, weaker}
use Rattle.md5.specs.Md5.{Holds}
use Rattle.archive_file.proofs.Hashed.{all_read, piece_more}
use Rattle.archive_file.proofs.digests.hash.Goals as goal

pub returns-then-count-eq0-clause-digest : goal.returns-then-count-eq0-clause-digest
returns-then-count-eq0-clause-digest g c = λ files read within.
    let inv = c.loop-done.invariant in
    let file = files 0 in
    let at = c.args.spot.at + c.loop-done.done in
    let room = c.min-room.result in
    let whole : room + at ≤ length file = omega (arith, c.min-room.ensures, within, inv.within) in
    let slice : length (take room c.loop-done.buffer) ≡ room = omega (arith, length-take room c.loop-done.buffer, c.min-room.ensures) in
    let part : length c.fill.new.buffer ≡ room = c.fill.auto.buffer ∙ slice in
    let fits : c.in_ok-count.count ≤ room = subst (λ n. c.in_ok-count.count ≤ n) slice c.in_ok-count.ensures.fits in
    let bytes : take c.in_ok-count.count c.fill.new.buffer ≡ take room (drop at file) = c.in_ok-count.ensures.bytes files (inv.same.kept files read) ∙ ap (λ n. take n (drop at file)) slice in
    absurd (omega (arith, all_read file c.fill.new.buffer at c.in_ok-count.count room part fits whole bytes, c.if-count-eq0.true, c.min-room.ensures, c.requires.room))

pub loop-done-preserved : goal.loop-done-preserved
loop-done-preserved g c =
    let inv = c.loop-done.invariant in
    let room = c.min-room.result in
    let slice : length (take room c.loop-done.buffer) ≡ room = omega (arith, length-take room c.loop-done.buffer, c.min-room.ensures) in
    let fits : c.in_ok-count.count ≤ room = subst (λ n. c.in_ok-count.count ≤ n) slice c.in_ok-count.ensures.fits in
    record {
      within = omega (arith, inv.within, c.min-room.ensures, fits);
      holds = λ files read within.
          let file = files 0 in
          let at = c.args.spot.at + c.loop-done.done in
          let whole : room + at ≤ length file = omega (arith, c.min-room.ensures, within, inv.within) in
          let part : length c.fill.new.buffer ≡ room = c.fill.auto.buffer ∙ slice in
          let bytes : take c.in_ok-count.count c.fill.new.buffer ≡ take room (drop at file) = c.in_ok-count.ensures.bytes files (inv.same.kept files read) ∙ ap (λ n. take n (drop at file)) slice in
          subst (Holds c.update.new.self) (piece_more file c.fill.new.buffer _ c.args.spot.at c.loop-done.done c.in_ok-count.count room part fits whole bytes) (c.update.ensures (take c.loop-done.done (drop c.args.spot.at file)) (inv.holds files read within));
      same = record { kept = λ f read. c.fill.ensures.same.kept f (inv.same.kept f read); no_more = λ f read. inv.same.no_more f (c.fill.ensures.same.no_more f read) };
      crash = λ f left. inv.crash f (c.fill.ensures.crash f left);
      any_moment = then g.D.Disk.says c.args.disk.now c.loop-done.disk c.fill.new.disk (g.D.Disk.says.may_leave c.args.disk.now) inv.any_moment (weaker g.D.Disk.says c.loop-done.disk c.fill.new.disk (g.D.Disk.says.may_leave c.loop-done.disk) (g.D.Disk.says.may_leave c.args.disk.now) inv.crash c.fill.ensures.any_moment);
      faults = c.in_ok-count.ensures.only ∙ inv.faults;
    }
