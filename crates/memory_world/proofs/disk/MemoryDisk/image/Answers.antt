use Rattle.std.proofs.Common.{◌∙◌, ap, subst, ℕ, List, Vec, take}
use Rattle.std.specs.declared.alloc.Global.{Global}
use Rattle.memory_world.specs.Files.{contents}
use Rattle.memory_world.specs.Disk.{state_at}
use Rattle.memory_world.specs.Ranges.{is_in, Agrees, IsFilled}
use Rattle.memory_world.specs.Replay.{at_rest, replay}
use Rattle.memory_world.specs.declared.call.Call.{Call}
use Rattle.memory_world.specs.declared.image.OpenRange.{OpenRange}
use Rattle.memory_world.proofs.Filled.{filled_alike}
use Rattle.memory_world.proofs.disk.MemoryDisk.image.Goals as goal

pub returns-clause-filled : goal.returns-clause-filled
returns-clause-filled c =
    let n = c.args.moment in
    let agrees : Agrees c.in_ok-start.start.items c.in_ok-start.ranges.items (state_at c.args.self.now c.args.moment) =
    subst (λ (start : List (Vec ℕ Global)). Agrees c.in_ok-start.start.items c.in_ok-start.ranges.items (replay (take n c.args.self.now.log.items) (at_rest (contents start)))) c.deref.ensures.value
    (subst (λ (log : List Call). Agrees c.in_ok-start.start.items c.in_ok-start.ranges.items (replay (take n log) (at_rest (contents c.deref.result.now)))) c.deref-2.ensures.value
    (subst (λ (files : Vec (Vec ℕ Global) Global). Agrees files.items c.in_ok-start.ranges.items (replay (take n c.deref-2.result.now) (at_rest (contents c.deref.result.now)))) c.in_ok-start.start-is
    (subst (λ (ranges : Vec OpenRange Global). Agrees c.in_ok-start.field-0.files.items ranges.items (replay (take n c.deref-2.result.now) (at_rest (contents c.deref.result.now)))) c.in_ok-start.ranges-is
    (subst (λ (calls : List Call). Agrees c.in_ok-start.field-0.files.items c.in_ok-start.field-0.ranges.items (replay calls (at_rest (contents c.deref.result.now)))) c.until.ensures c.in_ok-start.ensures)))) in
    filled_alike (is_in c.in_ok-start.ranges.items) (state_at c.args.self.now c.args.moment).is_open c.args.pick.now (contents c.in_ok-start.start.items) (state_at c.args.self.now c.args.moment).files (contents c.fill_all.new.files.items) (contents c.in_ok-files.files.items)
    agrees.places agrees.same
    (λ f. c.in_ok-files.ensures f ∙ ap (λ (l : List (Vec ℕ Global)). contents l f) c.deref-4.ensures.value)
    (subst (λ (ranges : Vec OpenRange Global). IsFilled (is_in ranges.items) c.args.pick.now (contents c.in_ok-start.start.items) (contents c.fill_all.new.files.items)) c.in_ok-start.ranges-is
    (subst (λ (ranges : List OpenRange). IsFilled (is_in ranges) c.args.pick.now (contents c.in_ok-start.start.items) (contents c.fill_all.new.files.items)) c.deref-3.ensures.value
    (subst (λ (files : Vec (Vec ℕ Global) Global). IsFilled (is_in c.deref-3.result.now) c.args.pick.now (contents files.items) (contents c.fill_all.new.files.items)) c.in_ok-start.start-is c.fill_all.ensures)))
