use Rattle.std.proofs.Common.{◌≡◌, ℕ, ◌+◌, ◌-◌, ◌<◌, ◌^◌, ◌∷◌, ◌++◌, Option, Some, length, ap, ◌∙◌, arith}
use Rattle.std.specs.Prelude.{decimal}
use Rattle.disk_journal.proofs.Heads.{line_long, some_when}
use Rattle.disk_journal.proofs.head.length_from_number.Goals as goal

pub returns-in_err-line : goal.returns-in_err-line
returns-in_err-line c = λ number size after few small is fits. absurd (c.in_err-line.ensures.number number (decimal size ++ 10 ∷ after) (omega arith) (omega arith) is)

pub returns-in_err-size : goal.returns-in_err-size
returns-in_err-size c = λ number size after few small is fits.
    let line = (c.in_ok-line.ensures.number number (decimal size ++ 10 ∷ after) (omega arith) (omega arith) is).1 in
    absurd (c.in_err-size.ensures.number size after (omega arith) (omega arith) line)

pub returns : goal.returns
returns c = λ number size after few small is fits.
    let line = (c.in_ok-line.ensures.number number (decimal size ++ 10 ∷ after) (omega arith) (omega arith) is).1 in
    let found = c.in_ok-size.ensures.number size after (omega arith) (omega arith) line in
    let sum : c.in_ok-size.size + (length c.args.rest.now - length c.in_ok-size.records.now) ≡ length (decimal number) + length (decimal size) + 2 + size = omega (arith, found.0, ap length found.1, line_long number size after c.args.rest.now is) in
    let total = c.in_ok-size.size + (length c.args.rest.now - length c.in_ok-size.records.now) in
    some_when c.checked_add.result (total < 2 ^ 64) total c.checked_add.ensures (omega (arith, sum, fits)) ∙ ap (λ (n : ℕ). let o : Option ℕ = Some n in o) sum
