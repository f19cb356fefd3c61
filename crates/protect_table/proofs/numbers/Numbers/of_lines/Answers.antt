use Rattle.std.proofs.Common.{◌∙◌, ◌++◌, ◌∷◌, [], ap, sym, subst, take, arith}
use Rattle.std.proofs.lemmas.List.{length-take-le, take_more}
use Rattle.protect_table.specs.Numbers.{AreOf}
use Rattle.protect_table.proofs.Naming.{added}
use Rattle.protect_table.proofs.numbers.Numbers.of_lines.Goals as goal

pub loop-number-preserved : goal.loop-number-preserved
loop-number-preserved c =
    let lines = c.args.lines.now in
    let n = c.loop-number.number in
    let line = c.index-lines-number.result in
    let before = sym (length-take-le n lines (omega arith)) in
    subst (AreOf c.add.new.self) (ap (λ x. take n lines ++ x ∷ []) c.index-lines-number.is ∙ sym (take_more lines n line (omega arith)))
    (added c.loop-number.numbers c.add.new.self (take n lines) line n before c.loop-number.invariant c.in_ok-add.ensures)
