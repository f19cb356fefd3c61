use Rattle.std.proofs.Common.{◌≡◌, ◌∙◌, ◌+◌, ◌++◌, [], ◌∷◌, ap, sym, subst, take}
use Rattle.std.proofs.lemmas.List.{take_more}
use Rattle.memory_world.specs.Files.{contents}
use Rattle.memory_world.specs.Replay.{replay, at_rest}
use Rattle.memory_world.specs.Ranges.{Agrees}
use Rattle.memory_world.specs.declared.call.Call.{Call}
use Rattle.memory_world.proofs.Replays.{replayed}
use Rattle.memory_world.proofs.image.replay_calls.Goals as goal

pub loop-call-preserved : goal.loop-call-preserved
loop-call-preserved c =
    let i = c.loop-call.call-index in
    let x = c.call-item.result in
    let one : take (i + 1) c.args.calls.now ≡ take i c.args.calls.now ++ x ∷ [] =
    take_more c.args.calls.now i x c.loop-call-test.true ∙ ap (λ (y : Call). take i c.args.calls.now ++ y ∷ []) (sym c.call-item.is) in
    let start = at_rest (contents c.args.start.now) in
    let next = replayed (take i c.args.calls.now) (take (i + 1) c.args.calls.now) x start one in
    subst (λ s. Agrees c.redo.new.files.items c.redo.new.ranges.items s) (sym next) (c.in_ok-redo.ensures (replay (take i c.args.calls.now) start) c.loop-call.invariant)
