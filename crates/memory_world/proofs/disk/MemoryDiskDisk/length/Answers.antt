use Rattle.memory_world.specs.Files.{contents}
use Rattle.memory_world.specs.declared.call.Call.TheVariants.{Look}
use Rattle.memory_world.proofs.Calls.{look_sound, look_crash}
use Rattle.memory_world.proofs.Replays.{either_elapses}
use Rattle.memory_world.proofs.disk.MemoryDiskDisk.length.Goals as goal

pub invariant_of-self : goal.invariant_of-self
invariant_of-self c = record { sound = look_sound (contents c.args.self.now.start.items) (contents c.args.self.now.files.items) c.args.self.now.log.items c.look.new.log.items c.args.self.now.sound c.look.ensures.log }

pub returns-in_err-look-clause-crash : goal.returns-in_err-look-clause-crash
returns-in_err-look-clause-crash c = look_crash (contents c.args.self.now.start.items) (contents c.args.self.now.files.items) c.args.self.now.log.items c.look.new.log.items c.args.self.now.sound c.look.ensures.log

pub returns-in_err-look-clause-time : goal.returns-in_err-look-clause-time
returns-in_err-look-clause-time c = either_elapses (contents c.args.self.now.start.items) c.args.self.now.log.items c.look.new.log.items Look c.look.ensures.log

pub returns-clause-crash : goal.returns-clause-crash
returns-clause-crash c = look_crash (contents c.args.self.now.start.items) (contents c.args.self.now.files.items) c.args.self.now.log.items c.look.new.log.items c.args.self.now.sound c.look.ensures.log

pub returns-clause-time : goal.returns-clause-time
returns-clause-time c = either_elapses (contents c.args.self.now.start.items) c.args.self.now.log.items c.look.new.log.items Look c.look.ensures.log
