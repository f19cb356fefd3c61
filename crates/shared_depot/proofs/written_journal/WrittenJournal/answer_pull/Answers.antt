use Rattle.std.proofs.Common.{◌≡◌, ◌+◌, ◌++◌, ℕ, List, length, Err, map, refl, sym, ap, subst, ◌∙◌}
use mathlib.Core.List.{IsPrefix}
use Rattle.disk_journal.specs.Stands.{disk_of}
use Rattle.locked_tables.specs.Known.{PartyKnown}
use Rattle.locked_tables.specs.Taken.{of_party, placed_of}
use Rattle.locked_tables.specs.declared.taken.Taken.{Taken}
use Rattle.party_marks.specs.Known.{MarksKnown, PassKnown}
use Rattle.party_marks.specs.Marks.{marks_of}
use Rattle.replica_turns.specs.Going.{is_lost, one_if}
use Rattle.serial_depot.specs.Running.{HasRun}
use Rattle.depot_commit.specs.Storing.{HasStored, stores_end}
use Rattle.serial_depot.specs.declared.depot.SerialDepot.{SerialDepot}
use Rattle.depot_commit.proofs.Moved.{over_fetched}
use Rattle.shared_depot.specs.Common.{HasAllStored, HasRunOrder, IsCountAfter, IsFollowed, KeepsOrder}
use Rattle.shared_depot.specs.Replicas.{mark_count}
use Rattle.shared_depot.specs.Stored.{is_unwritten, stores_of}
use Rattle.shared_depot.proofs.Committed.{run_on}
use Rattle.shared_depot.proofs.Marks.{count_answered, count_quietly, marked_before}
use Rattle.shared_depot.proofs.Order.{depot_ran, run_fetched}
use Rattle.shared_depot.proofs.Turns.{answered_so, without_memory}
use Rattle.shared_depot.proofs.written_journal.WrittenJournal.answer_pull.Goals as goal

pub invariant_of-held : goal.invariant_of-held
invariant_of-held g c =
    let D = g.D.Disk in
    subst (λ (l : List Taken). KeepsOrder D.says g.N.Naming.rows g.N.Naming.end g.N.Imaging.images g.N.Serving.begins g.N.Serving.masters l c.held.inside.tables)
    (sym c.tell.ensures.same) c.held.invariant

pub invariant_of-self-2 : goal.invariant_of-self-2
invariant_of-self-2 g c =
    let D = g.D.Disk in
    let rows = g.N.Naming.rows in
    let end = g.N.Naming.end in
    let images = g.N.Imaging.images in
    let begins = g.N.Serving.begins in
    let next = c.answer_by_journal-answer.ensures in
    let order = c.deref_mut-held.result.now in
    let tables = c.self.inside.tables in
    let old = c.self.inside.journal in
    let new = c.answer_by_journal-answer.new.journal in
    let first = g.N.Serving.faults in
    let before = D.says.faults (disk_of old) in
    let now = D.says.faults (disk_of new) in
    let answer = c.answer_by_journal-answer.result in
    let was = run_on D.says rows end images begins g.N.Serving.masters c.self.inside.lane order c.learn_journal.ensures.on tables old c.self.invariant.0 in (
      subst (λ (l : List Taken). HasRunOrder D.says rows end images begins g.N.Serving.masters l tables new) (sym c.learn_journal.ensures.learnt)
          (run_fetched D.says rows end images begins g.N.Serving.masters order tables old new was
          (was.can.0, (was.can.1.0, next.fetched.stands was.can.0 was.can.1.0 was.can.1.1))
          (λ since start places h. over_fetched D.says (HasStored images end (stores_of order)) (stores_end (stores_of order) end) tables old since start places h new next.fetched) next.fetched.groups),
      subst (λ (l : List Taken). IsCountAfter is_unwritten first now l c.mark_lost.new.all.list) (sym c.learn_journal.ensures.learnt)
          (count_answered is_unwritten first before now order c.make_room.new.self.list c.mark_lost.new.all.list answer next.never_falls next.cause next.only next.no_memory c.mark_lost.ensures.more
          (subst (λ (m : MarksKnown). IsCountAfter is_unwritten first before order m.list) (sym c.make_room.ensures.same)
          (count_quietly first before c.self.inside.lane order c.self.inside.marks.list c.learn_journal.ensures.on c.self.invariant.1))),
    )

pub invariant_of-marks : goal.invariant_of-marks
invariant_of-marks g c = c.marks.invariant ∙ sym c.mark_lost.ensures.party

pub invariant_of-self : goal.invariant_of-self
invariant_of-self g c = (
  c.self.invariant.0,
  subst (λ (m : MarksKnown). IsCountAfter is_unwritten g.N.Serving.faults (g.D.Disk.says.faults (disk_of c.self.inside.journal)) c.self.inside.lane m.list) (sym c.make_room.ensures.same) c.self.invariant.1,
)

pub returns-in_default-clause-answer : goal.returns-in_default-clause-answer
returns-in_default-clause-answer g c =
    c.tell_alone.ensures.told c.args.request.now c.args.replica.now (Err (record {})) c.args.marks.now (without_memory g.D.Disk.says c.args.request.now c.args.replica.now (record {}))

pub returns-clause-answer : goal.returns-clause-answer
returns-clause-answer g c =
    let D = g.D.Disk in
    let rows = g.N.Naming.rows in
    let end = g.N.Naming.end in
    let images = g.N.Imaging.images in
    let begins = g.N.Serving.begins in
    let order = c.deref_mut-held.result.now in
    let tables = c.self.inside.tables in
    let journal = c.self.inside.journal in
    let was = run_on D.says rows end images begins g.N.Serving.masters c.self.inside.lane order c.learn_journal.ensures.on tables journal c.self.invariant.0 in
    let request = c.args.request.now in
    let replica = c.args.replica.now in
    let replica' = c.answer_by_journal-answer.new.self in
    let answer = c.answer_by_journal-answer.result in
    let party = c.args.pass.now.party in
    let told : c.tell.new.pass.list ≡ c.held.inside.order = ap (λ (k : PartyKnown). k.list) c.tell.ensures.told in
    let known : c.tell.new.pass.list ≡ order = told ∙ (c.held.view_is ∙ c.learn_journal.ensures.same) in
    let marks = c.marks.inside in
    let given = c.mark_lost.new.pass.list in
    let more = one_if (is_lost answer) in
    let marked : length (marks_of marks.journal.party given) ≡ length (marks_of marks.journal.party marks.journal.list) + more = ap (λ (p : ℕ). length (marks_of p given)) (sym c.mark_lost.ensures.party) ∙ c.mark_lost.ensures.marked in
    record {
      answered = λ archive all.
          let depot : SerialDepot g.row.D.Denot = record { tables = tables; journal = journal; archive = archive } in
          let here = subst (λ (l : List Taken). HasAllStored D.says end images begins l archive) known all in (
            depot,
            (
              λ since start at.
                  subst (λ (l : List Taken). HasRun D.says depot since start (map placed_of l)) (sym known)
                  (depot_ran D.says rows end images begins g.N.Serving.masters order tables journal was archive here since start at),
              subst (λ (l : List Taken). IsFollowed D.says begins g.N.Serving.masters l depot) (sym known) (was.followed archive here),
              λ formed. answered_so D.says depot replica replica' request answer (c.answer_by_journal-answer.ensures.answered depot refl formed) c.answer_by_journal-answer.ensures.kept,
              here.room,
            ),
          );
      heard = record {
        party = ap (λ (k : PartyKnown). k.party) c.tell.ensures.told;
        later = subst (IsPrefix c.args.pass.now.list) (sym told) c.tell.ensures.begins;
        own = subst (λ (l : List Taken). of_party party l ≡ of_party party c.args.pass.now.list) (sym told) c.tell.ensures.own;
        marks_party = c.mark_lost.ensures.party ∙ ap (λ (k : PassKnown). k.party) c.marks.view_is;
        marked =
            ap (λ (p : ℕ). length (marks_of p (given ++ marks.archive.list))) c.mark_lost.ensures.party
            ∙ (marked_before marks.journal.party marks.journal.list given marks.archive.list more marked
            ∙ ap (λ (k : PassKnown). mark_count k + more) c.marks.view_is);
      };
    }
