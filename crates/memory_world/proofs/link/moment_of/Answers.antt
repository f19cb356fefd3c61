use Rattle.std.proofs.Common.{◌≡◌, ◌<◌, ◌+◌, List, ℕ, [], length, take, ap, arith}
use Rattle.std.specs.List.{concat}
use Rattle.std.proofs.lemmas.List.{get_or_read}
use Rattle.memory_world.proofs.Journals.{total_then, total_more, total_within, total_last}
use Rattle.memory_world.proofs.link.moment_of.Goals as goal

pub returns-then-left-bytes-clause-bytes : goal.returns-then-left-bytes-clause-bytes
returns-then-left-bytes-clause-bytes c =
    let texts = c.args.texts.now in
    let i = c.loop-newest.newest in
    let within : i < length texts = omega (arith, c.loop-newest-test.true, c.saturating_sub-newest-end.ensures) in
    let text = get_or_read texts i c.index-texts-newest.result within c.index-texts-newest.is [] in
    omega (arith, total_then texts i c.loop-newest.left, total_more texts i within, total_within texts (i + 1), c.loop-newest.invariant, c.if-left-bytes.true, c.len-bytes.ensures, ap (λ (t : List ℕ). length t) text)

pub loop-newest-preserved : goal.loop-newest-preserved
loop-newest-preserved c =
    let texts = c.args.texts.now in
    let i = c.loop-newest.newest in
    let within : i < length texts = omega (arith, c.loop-newest-test.true, c.saturating_sub-newest-end.ensures) in
    let text = get_or_read texts i c.index-texts-newest.result within c.index-texts-newest.is [] in
    omega (arith, total_more texts i within, c.loop-newest.invariant, c.if-left-bytes.false, c.len-bytes.ensures, ap (λ (t : List ℕ). length t) text)

pub returns-clause-bytes : goal.returns-clause-bytes
returns-clause-bytes c =
    let texts = c.args.texts.now in
    let i = c.loop-newest.newest in
    let newest = c.now-newest.result.newest in
    let same : i ≡ newest = omega (arith, c.loop-newest-test.false, c.saturating_sub-newest-end.ensures, c.loop-newest.auto.newest-end, c.now-newest.ensures.newest) in
    omega (arith, total_then texts newest c.min.result, total_last texts newest c.now-newest.ensures.newest, ap (λ (n : ℕ). length (concat (take n texts))) same, c.loop-newest.invariant, c.min.ensures, c.now-newest.ensures.bytes)
