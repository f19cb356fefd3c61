use Rattle.std.proofs.Common.{sym, ap, ◌∙◌}
use Rattle.std.proofs.lemmas.Option.{same_Some}
use Rattle.depot_rows.specs.table_changes.Changed.{AllRows}
use Rattle.shared_depot.proofs.Order.{rows_known}
use Rattle.shared_depot.proofs.written_journal.WrittenJournal.room_for.Goals as goal

pub change_tables-requires : goal.change_tables-requires
change_tables-requires g c =
    rw (rows_known c.self.invariant.0 c.self.view_is, c.as_slice-changes.ensures) c.requires.settled.2.fit

pub returns-clause-writing : goal.returns-clause-writing
returns-clause-writing g c =
    let so = c.requires.settled.2 in
    let request = same_Some _ _ (sym c.requires.settled.1 ∙ (sym c.take.ensures.value ∙ c.unwrap-request.ensures)) in
    let after = rw (rows_known c.self.invariant.0 c.self.view_is, c.as_slice-changes.ensures) at c.in_ok-after.ensures.rows in
    record {
      prepared = rw c.as_slice-changes.ensures at (c.in_ok-held.ensures.prepared c.args.self.now so.gathered so.confirmed (λ table. rw c.as_slice-changes.ensures (ap (λ (all : AllRows). all table) after)));
      after = λ table. ap (λ (all : AllRows). all table) after;
      shown = c.in_ok-shown.ensures;
      some = c.requires.some;
      read = so.read;
      due = rw request at so.due;
    }
