use Rattle.std.proofs.Common.{◌≡◌, ◌-◌, ◌*◌, ◌+◌, ℕ, Err, sym, subst, arith}
use Rattle.recovery.specs.Damage.{IsCheckpointDamage}
use Rattle.recovery.specs.Faults.{IfDamaged}
use Rattle.recovery.specs.declared.fault.OpenFault.{OpenFault}
use Rattle.recovery.proofs.Taken.{misput, record_taken, stopped}
use Rattle.recovery.proofs.rows.put_next.Goals as goal

pub returns-then-not-branch-clause-damaged : goal.returns-then-not-branch-clause-damaged
returns-then-not-branch-clause-damaged g c = λ generation puts taken has last files read.
    let groups = c.args.groups.now in
    let next = c.next_record.new.self in
    let P = IsCheckpointDamage generation (files (2 + 2 * generation)) in
    let come = rw c.in-Ok.is at c.in_ok-change.ensures.come in
    let text = rw c.in-Ok.is at (c.in_ok-change.ensures.text files read (taken.text files read).0) in
    let none = c.in_ok-put_above-in-Ok.ensures.none puts has c.if-not-branch.true in
    let bad = misput (g.D.Disk.says.seen c.args.disk.now) generation c.args.size groups puts taken files read last has.are_puts next c.in-Ok.change c.in-Ok.behind come.0 come.1 text.1 none in
    let place : groups.reader.at ≡ c.place-place.result - next.front = omega (arith, c.place-place.ensures.place, c.next_record.ensures.file.1, taken.front) in
    subst (λ (fault : OpenFault). IfDamaged {X = ℕ} (Err fault) P) (sym c.damaged.ensures) (subst P place bad)

pub returns-else-not-branch-clause-put : goal.returns-else-not-branch-clause-put
returns-else-not-branch-clause-put g c = λ generation puts taken has.
    let come = rw c.in-Ok.is at c.in_ok-change.ensures.come in
    let next = c.next_record.new.self in
    let records = record_taken (g.D.Disk.says.seen c.args.disk.now) generation c.args.size c.args.groups.now puts taken next c.in-Ok.change c.in-Ok.behind come.0 come.1 come.3 c.next_record.ensures.file.0 c.next_record.ensures.file.1 (λ files read. rw c.in-Ok.is at (c.in_ok-change.ensures.text files read (taken.text files read).0)) in
    (c.in-Ok.change, (records, c.in_ok-put_above-in-Ok.ensures.above puts has c.if-not-branch.false))

pub returns-in-Err-clause-damaged : goal.returns-in-Err-clause-damaged
returns-in-Err-clause-damaged g c = λ generation puts taken has last files read.
    let next = c.next_record.new.self in
    let P = IsCheckpointDamage generation (files (2 + 2 * generation)) in
    let stop = rw c.in-Err.is at (c.in_ok-change.ensures.stopped files read (taken.text files read).0) in
    let bad = stopped (g.D.Disk.says.seen c.args.disk.now) generation c.args.size c.args.groups.now puts taken files read last has.are_puts c.in-Err.place c.requires.some stop in
    let place : c.in-Err.place ≡ c.in-Err.place - next.front = omega (arith, c.next_record.ensures.file.1, taken.front) in
    subst (λ (fault : OpenFault). IfDamaged {X = ℕ} (Err fault) P) (sym c.damaged-in-Err.ensures) (subst P place bad)
