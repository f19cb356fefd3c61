use Rattle.std.proofs.Common.{◌+◌, ◌^◌, ◌<◌, drop, Some, subst, arith, ◌∙◌}
use Rattle.outside_api.specs.Disk.{Files}
use Rattle.outside_api.specs.Moments.{then, weaker}
use Rattle.disk_journal.specs.Fetch.{IsBlockAt}
use Rattle.disk_journal.proofs.Scanning.{scanned, room_for_block, reaches_end, reaches_enough}
use Rattle.disk_journal.proofs.fetch.committed_length.Goals as goal

pub returns-in_default-clause-text : goal.returns-in_default-clause-text
returns-in_default-clause-text g c = λ groups files read is from.
    let so_far = c.loop-length.invariant in
    let seen = c.in_ok-found.ensures.block files (so_far.same.kept files read) in
    reaches_end groups (files c.args.file) c.args.enough c.loop-length.length is (g.met.D.Disk.within c.args.disk.now files c.args.file read) (so_far.reached groups files read is from) (subst (IsBlockAt (drop c.loop-length.length (files c.args.file))) c.in_default.is seen)

pub returns-then-block-length-clause-text : goal.returns-then-block-length-clause-text
returns-then-block-length-clause-text g c = λ groups files read is from.
    let so_far = c.loop-length.invariant in
    let seen = c.in_ok-found.ensures.block files (so_far.same.kept files read) in
    let room : c.loop-length.length + c.in-Some.block < 2 ^ 63 = room_for_block groups (files c.args.file) c.loop-length.length c.in-Some.block is (g.met.D.Disk.within c.args.disk.now files c.args.file read) (so_far.reached groups files read is from) (subst (IsBlockAt (drop c.loop-length.length (files c.args.file))) c.in-Some.is seen) in
    absurd (omega (arith, room, c.if-block-length.true))

pub loop-length-preserved : goal.loop-length-preserved
loop-length-preserved g c =
    let so_far = c.loop-length.invariant in
    let P : Files → Type 0 = g.D.Disk.says.may_leave c.args.disk.now in
    record {
      small = omega (arith, so_far.small, c.if-block-length.false);
      reached = λ groups files read is from.
          let seen = c.in_ok-found.ensures.block files (so_far.same.kept files read) in
          scanned groups (files c.args.file) c.loop-length.length (Some c.in-Some.block) is (g.met.D.Disk.within c.args.disk.now files c.args.file read) (so_far.reached groups files read is from) (subst (IsBlockAt (drop c.loop-length.length (files c.args.file))) c.in-Some.is seen);
      same = record { kept = λ f read. c.block_at.ensures.same.kept f (so_far.same.kept f read); no_more = λ f read. so_far.same.no_more f (c.block_at.ensures.same.no_more f read) };
      crash = λ f left. so_far.crash f (c.block_at.ensures.crash f left);
      any_moment = then g.D.Disk.says c.args.disk.now c.loop-length.disk c.block_at.new.disk P so_far.any_moment (weaker g.D.Disk.says c.loop-length.disk c.block_at.new.disk (g.D.Disk.says.may_leave c.loop-length.disk) P so_far.crash c.block_at.ensures.any_moment);
      faults = c.in_ok-found.ensures.only ∙ so_far.faults;
    }

pub returns-clause-text : goal.returns-clause-text
returns-clause-text g c = λ groups files read is from.
    reaches_enough groups c.args.enough c.loop-length.length (c.loop-length.invariant.reached groups files read is from) c.loop-length-test.false

pub returns-in_default-clause-reached : goal.returns-in_default-clause-reached
returns-in_default-clause-reached g c = c.loop-length.invariant.reached

pub returns-then-block-length-clause-reached : goal.returns-then-block-length-clause-reached
returns-then-block-length-clause-reached g c = c.loop-length.invariant.reached

pub returns-clause-reached : goal.returns-clause-reached
returns-clause-reached g c = c.loop-length.invariant.reached
