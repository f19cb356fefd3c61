use Rattle.std.proofs.Common.{◌≡◌, List, refl, sym, subst}
use Rattle.std.specs.List.{AllByRecursion}
use Rattle.locked_tables.specs.Held.{AllHaveLearnt, AllStill, known_of}
use Rattle.locked_tables.specs.Known.{IsStill}
use Rattle.locked_tables.specs.declared.held_table.HeldTable.{HeldTable}
use Rattle.locked_tables.specs.declared.taken.Taken.{Taken}
use Rattle.table_changes.specs.Changed.{rows_of}
use Rattle.table_locks.specs.Confirmed.{tables_of}
use Rattle.table_locks.specs.Gathered.{AllHeldSeen}
use Rattle.table_locks.proofs.Learnt.{known_learnt, set_now, shown_learnt, tables_learnt}
use Rattle.table_locks.proofs.Written.{length_learnt, rewritten}
use Rattle.table_locks.proofs.gathered.Gathered.confirm.Goals as goal

pub returns-clause-confirmed : goal.returns-clause-confirmed
returns-clause-confirmed g c =
    let start = g.N.Naming.rows in
    let order = c.args.order.now in
    let olds = c.args.self.held.items in
    let news = c.learn_held.new.held in
    let learnt = subst (λ (l : List (HeldTable _)). AllHaveLearnt order l news) c.as_mut_slice.ensures.value c.learn_held.ensures.learnt in
    let still = subst (AllStill start order) c.as_mut_slice.ensures.value c.learn_held.ensures.still in
    let written = rewritten c.args.self.held.len olds news c.args.self.held.ok.0 (length_learnt order olds news learnt) in
    record {
      held = subst (λ (l : List (HeldTable _)). tables_of l ≡ tables_of olds) (sym written) (tables_learnt order olds news learnt);
      known = subst (AllByRecursion (λ (h : HeldTable _). (known_of h).list ≡ order)) (sym written) (known_learnt order olds news learnt);
      shown = subst (AllHeldSeen start (rows_of c.args.self.tables)) (sym written) (shown_learnt order start (rows_of c.args.self.tables) olds news learnt still c.requires.held);
      tables = refl;
    }

pub returns-clause-set : goal.returns-clause-set
returns-clause-set g c =
    let start = g.N.Naming.rows in
    let order = c.args.order.now in
    let still = subst (AllStill start order) c.as_mut_slice.ensures.value c.learn_held.ensures.still in
    let judged = c.are_still.ensures.still c.if-not-are_still.false in
    let peeks = subst (λ (l : List Taken). AllByRecursion (IsStill start l) c.args.self.peeks.items) c.learn_held.ensures.same judged in
    set_now start order c.args.self c.requires still peeks
