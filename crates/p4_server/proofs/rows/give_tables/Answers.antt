use Rattle.std.proofs.Common.{subst, Err, ◌≡◌, ◌+◌, ◌++◌, ◌∷◌, List, ℕ, take, drop, get_or}
use Rattle.depot_rows.specs.db_records.Table.{all_tables}
use Rattle.depot_rows.specs.db_records.declared.table.TableId.{TableId}
use Rattle.depot_rows.specs.db_records.declared.table.TableId.TheVariants.{Counter}
use Rattle.end_lines.proofs.Tellings.{parted}
use Rattle.p4_server.specs.Rows.{Prints, rows_text, tables_text}
use Rattle.depot_rows.specs.table_store.Rows.{TableRows}
use Rattle.depot_rows.specs.table_store.Tables.{version_of}
use Rattle.p4_server.proofs.RowsLemmas.{prints_last}
use Rattle.p4_server.proofs.rows.give_tables.Goals as goal

pub returns-in-Err-clause-prints : goal.returns-in-Err-clause-prints
returns-in-Err-clause-prints g c =
    let at = c.loop-table in
    let i = at.table-index in
    let text_of : TableId → List ℕ = λ table. rows_text (version_of c.args.tables.now table).rows in
    let Q : TableRows → Type 0 = λ version. Prints (g.K.Sink.says.given at.out) (g.K.Sink.says.given c.give_rows.new.out) (g.K.Sink.says.faults at.out) (g.K.Sink.says.faults c.give_rows.new.out) (rows_text version.rows) (Err c.in-Err.fault) in
    let parts : take i all_tables ++ get_or all_tables i Counter ∷ drop (i + 1) all_tables ≡ all_tables = parted all_tables i Counter c.loop-table-test.true in
    let P : List TableId → Type 0 = λ tables. Prints (g.K.Sink.says.given c.args.out.now) (g.K.Sink.says.given c.give_rows.new.out) (g.K.Sink.says.faults c.args.out.now) (g.K.Sink.says.faults c.give_rows.new.out) (tables_text (λ table. (version_of c.args.tables.now table).rows) tables) (Err c.in-Err.fault) in
    subst P parts (prints_last text_of (g.K.Sink.says.given c.args.out.now) (g.K.Sink.says.given at.out) (g.K.Sink.says.given c.give_rows.new.out) (g.K.Sink.says.faults c.args.out.now) (g.K.Sink.says.faults at.out) (g.K.Sink.says.faults c.give_rows.new.out)
    (take i all_tables) (drop (i + 1) all_tables) (get_or all_tables i Counter) c.in-Err.fault at.invariant.counts at.invariant.given (subst Q c.version.ensures.rows c.in-Err.ensures.prints))
