use Rattle.std.proofs.Common.{Option, subst}
use Rattle.depot_rows.specs.db_records.declared.change.Change.{Change}
use Rattle.depot_rows.specs.table_changes.Drafts.{rows_of_draft}
use Rattle.recovery.specs.Reading.{HasPut}
use Rattle.recovery.proofs.Taken.{none_waits, waiting_fits, waiting_made}
use Rattle.recovery.proofs.puts.put_waiting.Goals as goal

pub take-requires : goal.take-requires
take-requires c =
    let rows = rows_of_draft c.args.draft.now in
    waiting_fits c.requires.0 c.in-Some.change rows (subst (λ (w : Option Change). HasPut c.requires.0 w rows) c.in-Some.is c.requires.1)

pub returns-in-Some : goal.returns-in-Some
returns-in-Some c = λ puts has.
    let rows = rows_of_draft c.args.draft.now in
    waiting_made puts c.in-Some.change rows (rows_of_draft c.take.new.self) c.take.result (subst (λ (w : Option Change). HasPut puts w rows) c.in-Some.is has) c.take.ensures.ok

pub returns-in-None : goal.returns-in-None
returns-in-None c = λ puts has.
    let rows = rows_of_draft c.args.draft.now in
    none_waits puts rows (subst (λ (w : Option Change). HasPut puts w rows) c.in-None.is has)
