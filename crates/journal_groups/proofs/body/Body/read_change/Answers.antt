use Rattle.std.proofs.Common.{◌≡◌, ◌-◌, ◌≤◌, length, drop, ap, ◌∙◌, arith, length-drop}
use Rattle.journal_groups.proofs.Whole.{one_more}
use Rattle.journal_groups.proofs.body.Body.read_change.Goals as goal

pub returns : goal.returns
returns c =
    let old = c.args.self.now in
    let rest = c.split_at.result.1.now in
    let n = c.in_ok-change.length in
    let within = c.in_ok-change.ensures.within in
    let back : rest ≡ drop old.read c.args.bytes.now = c.split_at.ensures.back in
    let l : length rest ≡ length c.args.bytes.now - old.read = ap length back ∙ length-drop old.read c.args.bytes.now in
    let read : old.read ≤ length c.args.bytes.now = c.requires.within in
    (omega (arith, within.1, within.2), one_more c.args.bytes.now rest old.changes c.push.new.self old.size old.read n c.in_ok-change.change back c.in_ok-push.ensures.ok (omega (arith, l, read, within.0)) within.0 c.in_ok-change.ensures.exact)
