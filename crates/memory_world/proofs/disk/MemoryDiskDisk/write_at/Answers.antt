use Rattle.std.proofs.Common.{length, refl}
use Rattle.memory_world.specs.Files.{contents}
use Rattle.memory_world.specs.declared.call.Call.TheVariants.{BrokenWrite, Write}
use Rattle.memory_world.proofs.Calls.{broken_write_sound, broken_write_crash, write_sound, write_crash, write_leads, write_small, still_tells}
use Rattle.memory_world.proofs.Replays.{either_elapses, elapses}
use Rattle.memory_world.proofs.disk.MemoryDiskDisk.write_at.Goals as goal

pub invariant_of-self : goal.invariant_of-self
invariant_of-self c = record { sound = broken_write_sound (contents c.args.self.now.start.items) (contents c.args.self.now.files.items) c.args.self.now.log.items c.keep.new.log.items c.args.self.now.sound c.args.file c.args.at (length c.args.piece.now) c.keep.ensures }

pub returns-then-call_fails-clause-crash : goal.returns-then-call_fails-clause-crash
returns-then-call_fails-clause-crash c = broken_write_crash (contents c.args.self.now.start.items) (contents c.args.self.now.files.items) c.args.self.now.log.items c.keep.new.log.items c.args.self.now.sound c.args.file c.args.at (length c.args.piece.now) c.keep.ensures

pub returns-then-call_fails-clause-time : goal.returns-then-call_fails-clause-time
returns-then-call_fails-clause-time c = either_elapses (contents c.args.self.now.start.items) c.args.self.now.log.items c.keep.new.log.items (BrokenWrite c.args.file c.args.at (length c.args.piece.now)) c.keep.ensures

pub invariant_of-self-in-Ok : goal.invariant_of-self-in-Ok
invariant_of-self-in-Ok c =
    let kept = c.in-Ok.ensures.kept in
    record { sound = write_sound (contents c.args.self.now.start.items) (contents c.args.self.now.files.items) c.args.self.now.log.items c.write_kept.new.log.items c.args.self.now.sound (contents c.write_kept.new.files.items) c.args.file c.args.at kept.0 c.args.piece.now (c.requires (contents c.args.self.now.files.items) (λ f. refl)) kept.1 kept.2 c.in-Ok.ensures.written }

pub returns-in-Ok-clause-written : goal.returns-in-Ok-clause-written
returns-in-Ok-clause-written c = write_leads (contents c.args.self.now.start.items) (contents c.args.self.now.files.items) c.args.self.now.log.items c.write_kept.new.log.items c.args.self.now.sound (contents c.write_kept.new.files.items) c.args.file c.args.at c.args.piece.now c.in-Ok.ensures.written

pub returns-in-Ok-clause-small : goal.returns-in-Ok-clause-small
returns-in-Ok-clause-small c =
    write_small c.write_kept.new.files.items (contents c.args.self.now.files.items) c.args.file c.args.at c.args.piece.now (c.requires (contents c.args.self.now.files.items) (λ f. refl)) c.in-Ok.ensures.written

pub returns-in-Ok-clause-told : goal.returns-in-Ok-clause-told
returns-in-Ok-clause-told c = still_tells (contents c.args.self.now.files.items) (contents c.write_kept.new.files.items)

pub returns-in-Ok-clause-crash : goal.returns-in-Ok-clause-crash
returns-in-Ok-clause-crash c =
    let kept = c.in-Ok.ensures.kept in
    write_crash (contents c.args.self.now.start.items) (contents c.args.self.now.files.items) c.args.self.now.log.items c.write_kept.new.log.items c.args.self.now.sound c.args.file c.args.at kept.0 c.args.piece.now kept.1 kept.2

pub returns-in-Ok-clause-time : goal.returns-in-Ok-clause-time
returns-in-Ok-clause-time c =
    let kept = c.in-Ok.ensures.kept in
    elapses (contents c.args.self.now.start.items) c.args.self.now.log.items c.write_kept.new.log.items (Write c.args.file c.args.at kept.0) kept.2

pub returns-in-Err-clause-told : goal.returns-in-Err-clause-told
returns-in-Err-clause-told c = still_tells (contents c.args.self.now.files.items) (contents c.write_kept.new.files.items)
