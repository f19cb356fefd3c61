use Rattle.std.proofs.Common.{◌≡◌, ◌+◌, ◌≤◌, [], length, drop, ap, ◌∙◌, arith}
use Rattle.std.proofs.lemmas.List.{drop_all}
use Rattle.record_text.specs.Words.{common}
use Rattle.record_text.proofs.Words.{common_none}
use Rattle.record_text.proofs.word.common_front.Goals as goal

pub returns-else-count-bytes : goal.returns-else-count-bytes
returns-else-count-bytes c =
    let past : length c.args.bytes.now ≤ c.loop-count.count = c.if-count-bytes.false in
    let none : drop c.loop-count.count c.args.bytes.now ≡ [] = drop_all c.loop-count.count c.args.bytes.now past in
    let zero : common (drop c.loop-count.count c.args.text.now) (drop c.loop-count.count c.args.bytes.now) ≡ 0 = ap (common (drop c.loop-count.count c.args.text.now)) none ∙ common_none (drop c.loop-count.count c.args.text.now) in
    let sum : c.loop-count.count + common (drop c.loop-count.count c.args.text.now) (drop c.loop-count.count c.args.bytes.now) ≡ common c.args.text.now c.args.bytes.now = c.loop-count.invariant.2 in
    omega arith
