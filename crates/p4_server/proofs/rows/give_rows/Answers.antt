use Rattle.std.proofs.Common.{subst, Err, ◌≡◌, ◌++◌, ◌∷◌, List, sym, ◌∙◌, map, arith}
use Rattle.std.specs.Borrow.{Bor}
use Rattle.depot_rows.specs.db_records.declared.record.Record.{Record}
use Rattle.p4_server.specs.Rows.{Prints, row_text, rows_text}
use Rattle.wire_text.proofs.Pieces.{extended-nil}
use Rattle.p4_server.proofs.RowsLemmas.{prints_last}
use Rattle.p4_server.proofs.rows.give_rows.Goals as goal

pub loop-row-init : goal.loop-row-init
loop-row-init g c = record {
  given = sym (extended-nil _);
  items = c.into_iter-row-iterator.ensures.into_iter_gives ∙ c.rows-row-items.ensures;
  counts = omega arith;
}

pub returns-in-Err-clause-prints : goal.returns-in-Err-clause-prints
returns-in-Err-clause-prints g c =
    let at = c.loop-row in
    let parts : map (λ (row : Bor Record). row.now) at.yielded ++ c.in-Some.row.now ∷ c.next.new.self ≡ c.args.version.now.rows = rw c.in-Some.ensures.steps at at.invariant.items in
    let P : List Record → Type 0 = λ rows. Prints (g.K.Sink.says.given c.args.out.now) (g.K.Sink.says.given c.give_row.new.out) (g.K.Sink.says.faults c.args.out.now) (g.K.Sink.says.faults c.give_row.new.out) (rows_text rows) (Err c.in-Err.fault) in
    subst P parts (prints_last row_text (g.K.Sink.says.given c.args.out.now) (g.K.Sink.says.given at.out) (g.K.Sink.says.given c.give_row.new.out) (g.K.Sink.says.faults c.args.out.now) (g.K.Sink.says.faults at.out) (g.K.Sink.says.faults c.give_row.new.out)
    (map (λ (row : Bor Record). row.now) at.yielded) c.next.new.self c.in-Some.row.now c.in-Err.fault at.invariant.counts at.invariant.given c.in-Err.ensures.prints)
