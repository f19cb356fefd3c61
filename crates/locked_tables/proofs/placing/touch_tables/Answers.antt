use Rattle.std.proofs.Common.{◌<◌, ◌+◌, length, subst, sym, ◌∙◌, ap, arith}
use Rattle.std.proofs.lemmas.Bool.{eq-eqb, ne_eqb}
use Rattle.std.proofs.lemmas.List.{length-set}
use Rattle.std.specs.Int.{bit_at}
use Rattle.locked_tables.proofs.Touched.{AreNoted, note_none, note_one}
use Rattle.locked_tables.proofs.placing.touch_tables.Goals as goal
use Rattle.locked_tables.proofs.placing.touch_tables.Goals.{then-lanes-number-eq1, else-lanes-number-eq1}

pub loop-number-preserved : goal.loop-number-preserved
loop-number-preserved c =
    let was = c.args.touched.now in
    let touched = c.loop-number.touched in
    let number = c.loop-number.number in
    let lanes = c.args.lanes in
    let place = c.args.place in
    elim c.if-lanes-number-eq1.branch [
      | then-lanes-number-eq1 w ↦
          let long = sym (length-set touched number place) ∙ ap length (sym w.touched-is) ∙ c.if-lanes-number-eq1.array_long in
          let within : number < length touched = omega (arith, c.loop-number-test.true, long) in
          subst (AreNoted was lanes place (number + 1)) (sym w.touched-is) (note_one was touched lanes place number c.loop-number.invariant within (eq-eqb (bit_at lanes number) 1 w.if-lanes-number-eq1.true))
      | else-lanes-number-eq1 w ↦
          subst (AreNoted was lanes place (number + 1)) (sym w.touched-is) (note_none was touched lanes place number c.loop-number.invariant (ne_eqb (bit_at lanes number) 1 w.if-lanes-number-eq1.false))
    ]
