use Rattle.memory_world.specs.Files.{contents}
use Rattle.memory_world.specs.declared.call.Call.TheVariants.{BrokenCut, Cut}
use Rattle.memory_world.proofs.Calls.{broken_cut_sound, broken_cut_crash, cut_sound, cut_crash, cut_leads, still_tells}
use Rattle.memory_world.proofs.Replays.{either_elapses, elapses}
use Rattle.memory_world.proofs.disk.MemoryDiskDisk.cut.Goals as goal

pub invariant_of-self : goal.invariant_of-self
invariant_of-self c = record { sound = broken_cut_sound (contents c.args.self.now.start.items) (contents c.args.self.now.files.items) c.args.self.now.log.items c.keep.new.log.items c.args.self.now.sound c.args.file c.args.length c.keep.ensures }

pub returns-then-call_fails-clause-crash : goal.returns-then-call_fails-clause-crash
returns-then-call_fails-clause-crash c = broken_cut_crash (contents c.args.self.now.start.items) (contents c.args.self.now.files.items) c.args.self.now.log.items c.keep.new.log.items c.args.self.now.sound c.args.file c.args.length c.keep.ensures

pub returns-then-call_fails-clause-time : goal.returns-then-call_fails-clause-time
returns-then-call_fails-clause-time c = either_elapses (contents c.args.self.now.start.items) c.args.self.now.log.items c.keep.new.log.items (BrokenCut c.args.file c.args.length) c.keep.ensures

pub invariant_of-self-in-Ok : goal.invariant_of-self-in-Ok
invariant_of-self-in-Ok c = record { sound = cut_sound (contents c.args.self.now.start.items) (contents c.args.self.now.files.items) c.args.self.now.log.items c.note.new.log.items c.args.self.now.sound (contents c.cut_file.new.files.items) c.args.file c.args.length c.in-Ok.ensures.kept c.cut_file.ensures }

pub returns-in-Ok-clause-cut : goal.returns-in-Ok-clause-cut
returns-in-Ok-clause-cut c = cut_leads (contents c.args.self.now.start.items) (contents c.args.self.now.files.items) c.args.self.now.log.items c.note.new.log.items c.args.self.now.sound (contents c.cut_file.new.files.items) c.args.file c.args.length c.cut_file.ensures

pub returns-in-Ok-clause-told : goal.returns-in-Ok-clause-told
returns-in-Ok-clause-told c = still_tells (contents c.args.self.now.files.items) (contents c.cut_file.new.files.items)

pub returns-in-Ok-clause-crash : goal.returns-in-Ok-clause-crash
returns-in-Ok-clause-crash c = cut_crash (contents c.args.self.now.start.items) (contents c.args.self.now.files.items) c.args.self.now.log.items c.note.new.log.items c.args.self.now.sound c.args.file c.args.length c.in-Ok.ensures.kept

pub returns-in-Ok-clause-time : goal.returns-in-Ok-clause-time
returns-in-Ok-clause-time c = elapses (contents c.args.self.now.start.items) c.args.self.now.log.items c.note.new.log.items (Cut c.args.file c.args.length) c.in-Ok.ensures.kept
