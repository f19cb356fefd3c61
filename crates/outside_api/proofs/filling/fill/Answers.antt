use Rattle.std.proofs.Common.{◌∙◌, ◌+◌, ◌-◌, ◌≤◌, length, drop, arith, rules, length-drop}
use Rattle.outside_api.specs.Disk.{Files}
use Rattle.outside_api.specs.Moments.{goes_on}
use Rattle.outside_api.proofs.Reading.{more_read}
use Rattle.outside_api.proofs.filling.fill.Goals as goal

pub loop-done-preserved : goal.loop-done-preserved
loop-done-preserved g c =
    let so_far = c.loop-done.invariant in
    let n = c.in_ok-count.count in
    let fits : n ≤ length c.read.new.buffer = search rules in
    let P : Files → Type 0 = g.D.Disk.says.may_leave c.args.disk.now in
    record {
      within = omega (arith, c.loop-done.auto.buffer, fits, c.loop-done.invariant.within);
      bytes = λ files read.
          let old = so_far.bytes files read in
          let more = c.in_ok-count.ensures.bytes files (so_far.same.kept files read) in
          let there : n ≤ length (drop (c.args.at + c.loop-done.done) (files c.args.file)) = more.there in (
            more_read c.loop-done.buffer c.read.new.buffer c.loop-done.done (length c.loop-done.buffer - c.loop-done.done) so_far.within (files c.args.file) c.args.at n fits old.0 more.bytes,
            omega (arith, there, old.1, length-drop (c.args.at + c.loop-done.done) (files c.args.file), length-drop c.args.at (files c.args.file)),
          );
      same = record { kept = λ f read. c.read.ensures.same.kept f (so_far.same.kept f read); no_more = λ f read. so_far.same.no_more f (c.read.ensures.same.no_more f read) };
      crash = λ f left. so_far.crash f (c.read.ensures.crash f left);
      any_moment = goes_on g.D.Disk.says c.args.disk.now c.loop-done.disk c.read.new.self P so_far.any_moment c.read.ensures.time (λ f left. so_far.crash f (c.read.ensures.crash f left));
      faults = c.in_ok-count.ensures.only ∙ so_far.faults;
    }
