use Rattle.std.proofs.Common.{◌≡◌, List, [], ◌∷◌, ◌++◌, false, not, length, sym, ap, subst, ◌∙◌, append_assoc, append-nil, arith}
use Rattle.std.proofs.SliceLists.{all_by_recursion_push}
use Rattle.std.proofs.lemmas.Bool.{not-true}
use Rattle.std.proofs.lemmas.List.{nil_from_length}
use Rattle.std.specs.List.{AllByRecursion, list_any}
use Rattle.std.specs.Vec.Iter.{into_iter_items}
use Rattle.locked_tables.specs.Known.{IsStill, TableKnown, is_touched}
use Rattle.locked_tables.specs.declared.taken.Taken.{Taken}
use Rattle.table_locks.proofs.Judged.{none_passes}
use Rattle.table_locks.proofs.confirming.are_still.Goals as goal

pub loop-peek-preserved : goal.loop-peek-preserved
loop-peek-preserved g c =
    let at = c.loop-peek in
    let peek = c.in-Some.peek in
    let rest = into_iter_items c.next.new.self in
    let steps : into_iter_items at.peek-iterator ≡ peek ∷ rest = c.in-Some.ensures.steps.0 in
    let parts : at.yielded ++ peek ∷ rest ≡ c.args.peeks.items = rw (← steps) at.invariant.items in
    let still = subst (λ (l : List Taken). IsStill g.N.Naming.rows l peek) at.invariant.same (c.judge.ensures.still c.if-not-judge.false) in
    let untouched : is_touched c.args.order.now peek ≡ false = ap (λ (l : List Taken). is_touched l peek) (sym at.invariant.same) ∙ not-true (is_touched at.order peek) (sym c.judge.ensures.judged ∙ c.if-not-judge.false) in
    record {
      items = append_assoc at.yielded (peek ∷ []) rest ∙ parts;
      left =
          let was = at.invariant.left in
          let gone = c.in-Some.ensures.steps.1 in
          let short = ap length steps in
          omega arith;
      same = c.judge.ensures.same ∙ at.invariant.same;
      still = all_by_recursion_push (IsStill g.N.Naming.rows c.args.order.now) at.yielded peek at.invariant.still still;
      none = none_passes (is_touched c.args.order.now) at.yielded peek at.invariant.none untouched;
    }

pub returns-clause-still : goal.returns-clause-still
returns-clause-still g c = λ yes.
    let at = c.loop-peek in
    let none : into_iter_items at.peek-iterator ≡ [] = nil_from_length (into_iter_items at.peek-iterator) (sym at.invariant.left ∙ c.in-None.ensures.steps.0) in
    let all : at.yielded ≡ c.args.peeks.items = sym (append-nil at.yielded) ∙ rw (← none) at.invariant.items in
    subst (AllByRecursion (IsStill g.N.Naming.rows c.args.order.now)) all at.invariant.still

pub returns-clause-judged : goal.returns-clause-judged
returns-clause-judged g c =
    let at = c.loop-peek in
    let none : into_iter_items at.peek-iterator ≡ [] = nil_from_length (into_iter_items at.peek-iterator) (sym at.invariant.left ∙ c.in-None.ensures.steps.0) in
    let all : at.yielded ≡ c.args.peeks.items = sym (append-nil at.yielded) ∙ rw (← none) at.invariant.items in
    sym (ap not (subst (λ (l : List TableKnown). list_any (is_touched c.args.order.now) l ≡ false) all at.invariant.none))
