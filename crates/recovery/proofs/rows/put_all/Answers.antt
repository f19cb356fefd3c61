use Rattle.std.proofs.Common.{◌≡◌, ◌*◌, ◌+◌, ℕ, [], ◌∷◌, ◌++◌, Err, refl, subst, ◌∙◌, arith}
use Rattle.depot_rows.specs.table_changes.Drafts.{rows_of_draft}
use Rattle.recovery.specs.Damage.{IsCheckpointDamage}
use Rattle.recovery.specs.Reading.{HasTaken}
use Rattle.recovery.proofs.Looks.{reads_on}
use Rattle.recovery.proofs.PassedOn.{passed_damage}
use Rattle.recovery.proofs.Taken.{checkpoint_taken, taken_alike}
use Rattle.recovery.proofs.rows.put_all.Goals as goal

pub put_next-requires-clause-taken : goal.put_next-requires-clause-taken
put_next-requires-clause-taken g c =
    let begun = c.requires.taken in
    let loop = c.loop-left in
    let here = loop.invariant.so_far begun.0 begun.1 in
    (begun.0, (here.0, (taken_alike (g.D.Disk.says.seen c.args.disk.now) (g.D.Disk.says.seen loop.disk) begun.0 loop.left loop.groups here.0 loop.invariant.reads.same.no_more here.1.0, here.1.1)))

pub loop-left-preserved : goal.loop-left-preserved
loop-left-preserved g c =
    let loop = c.loop-left in
    let seen = g.D.Disk.says.seen c.args.disk.now in
    record {
      so_far = λ generation begun.
          let here = loop.invariant.so_far generation begun in
          let taken = taken_alike seen (g.D.Disk.says.seen loop.disk) generation loop.left loop.groups here.0 loop.invariant.reads.same.no_more here.1.0 in
          let next = c.in-Ok.ensures.put generation here.0 taken here.1.1 in
          let puts = here.0 ++ next.0 ∷ [] in
          (puts, (taken_alike (g.D.Disk.says.seen loop.disk) seen generation c.in-Ok.behind c.put_next.new.groups puts loop.invariant.reads.same.kept next.1.0, next.1.1));
      file = c.put_next.ensures.file ∙ loop.invariant.file;
      reads = reads_on g.D.Disk.says c.args.disk.now loop.disk c.put_next.new.disk loop.invariant.reads c.put_next.ensures.reads;
      faults = c.in-Ok.ensures.unfailed ∙ loop.invariant.faults;
    }

pub returns-in-Err-clause-damaged : goal.returns-in-Err-clause-damaged
returns-in-Err-clause-damaged g c = λ generation begun last files read.
    let loop = c.loop-left in
    let P = IsCheckpointDamage generation (files (2 + 2 * generation)) in
    let here = loop.invariant.so_far generation begun in
    let taken = taken_alike (g.D.Disk.says.seen c.args.disk.now) (g.D.Disk.says.seen loop.disk) generation loop.left loop.groups here.0 loop.invariant.reads.same.no_more here.1.0 in
    passed_damage ℕ P P {X = Unit {0}} (Err c.in-Err.fault) c.in-Err.fault refl (c.in-Err.ensures.damaged generation here.0 taken here.1.1 last files (loop.invariant.reads.same.kept files read)) (λ place bad. bad)

pub put_waiting-requires : goal.put_waiting-requires
put_waiting-requires g c = let begun = c.requires.taken in let here = c.loop-left.invariant.so_far begun.0 begun.1 in (here.0, here.1.1)

pub returns-clause-rows : goal.returns-clause-rows
returns-clause-rows g c = λ generation begun.
    let loop = c.loop-left in
    let seen = g.D.Disk.says.seen c.args.disk.now in
    let here = loop.invariant.so_far generation begun in
    let none : loop.left ≡ 0 = omega (arith, c.loop-left-test.false) in
    checkpoint_taken seen generation loop.groups here.0 (rows_of_draft c.put_waiting.new.draft) (subst (λ (n : ℕ). HasTaken seen generation loop.groups n here.0) none here.1.0) here.1.1.are_puts (c.in_ok-put_waiting.ensures here.0 here.1.1)
