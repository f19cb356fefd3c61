use Rattle.std.proofs.Common.{◌∙◌, sym}
use Rattle.std.specs.Map.{keys_of}
use Rattle.row_changes.specs.Ranges.{leading}
use Rattle.row_changes.proofs.Touched.{walk-goes}
use Rattle.row_changes.proofs.ranges.keys_while.Goals as goal

pub loop-key-preserved : goal.loop-key-preserved
loop-key-preserved c =
    walk-goes c.args.range.now (leading c.args.range.now (keys_of c.args.entries)) c.loop-key.found.items c.loop-key.key-iterator c.loop-key.invariant
    (c.in-Some.key.now, c.in-Some.field-0-1.now) c.next.new.self c.in-Some.ensures.steps c.in_ok-copy_key.field-0 c.push.new.self.items
    (sym c.contains.ensures ∙ c.if-not-contains.false) c.in_ok-copy_key.ensures c.in_ok-push.ensures.items
