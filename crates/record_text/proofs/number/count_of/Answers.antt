use Rattle.std.proofs.Common.{◌≤◌, arith}
use Rattle.record_text.specs.Grammar.{largest_count}
use Rattle.record_text.proofs.Numbers.{number_reads}
use Rattle.record_text.proofs.number.count_of.Goals as goal

pub overflow_cast-result : goal.overflow_cast-result
overflow_cast-result c =
    let h = (number_reads 0 largest_count c.args.ender (omega arith) (omega arith) (omega arith) c.requires).done c.args.bytes.now c.in_ok-number.number c.in_ok-number.rest.now c.in_ok-number.ensures in
    let small : c.in_ok-number.number ≤ largest_count = h.0.1 in
    omega arith
