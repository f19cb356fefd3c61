use Rattle.memory_world.specs.Files.{contents}
use Rattle.memory_world.specs.declared.call.Call.TheVariants.{Look, Sync}
use Rattle.memory_world.proofs.Calls.{look_sound, look_crash, sync_sound, sync_durable, sync_crash}
use Rattle.memory_world.proofs.Replays.{either_elapses, elapses}
use Rattle.memory_world.proofs.disk.MemoryDiskDisk.sync.Goals as goal

pub invariant_of-self : goal.invariant_of-self
invariant_of-self c = record { sound = look_sound (contents c.args.self.now.start.items) (contents c.args.self.now.files.items) c.args.self.now.log.items c.keep.new.log.items c.args.self.now.sound c.keep.ensures }

pub returns-then-call_fails-clause-crash : goal.returns-then-call_fails-clause-crash
returns-then-call_fails-clause-crash c = look_crash (contents c.args.self.now.start.items) (contents c.args.self.now.files.items) c.args.self.now.log.items c.keep.new.log.items c.args.self.now.sound c.keep.ensures

pub returns-then-call_fails-clause-time : goal.returns-then-call_fails-clause-time
returns-then-call_fails-clause-time c = either_elapses (contents c.args.self.now.start.items) c.args.self.now.log.items c.keep.new.log.items Look c.keep.ensures

pub invariant_of-self-in-Ok : goal.invariant_of-self-in-Ok
invariant_of-self-in-Ok c = record { sound = sync_sound (contents c.args.self.now.start.items) (contents c.args.self.now.files.items) c.args.self.now.log.items c.note.new.log.items c.args.self.now.sound c.in-Ok.ensures.kept }

pub returns-in-Ok-clause-durable : goal.returns-in-Ok-clause-durable
returns-in-Ok-clause-durable c = sync_durable (contents c.args.self.now.start.items) (contents c.args.self.now.files.items) c.args.self.now.log.items c.note.new.log.items c.args.self.now.sound c.in-Ok.ensures.kept

pub returns-in-Ok-clause-crash : goal.returns-in-Ok-clause-crash
returns-in-Ok-clause-crash c = sync_crash (contents c.args.self.now.start.items) (contents c.args.self.now.files.items) c.args.self.now.log.items c.note.new.log.items c.args.self.now.sound c.in-Ok.ensures.kept

pub returns-in-Ok-clause-time : goal.returns-in-Ok-clause-time
returns-in-Ok-clause-time c = elapses (contents c.args.self.now.start.items) c.args.self.now.log.items c.note.new.log.items Sync c.in-Ok.ensures.kept
