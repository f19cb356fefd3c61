use Rattle.std.proofs.Common.{◌≡◌, ◌+◌, ℕ, List, length, Err, map, refl, sym, ap, subst, ◌∙◌}
use mathlib.Core.List.{IsPrefix}
use Rattle.archive_file.specs.Archive.{disk_of}
use Rattle.locked_tables.specs.Known.{PartyKnown}
use Rattle.locked_tables.specs.Taken.{of_party, placed_of}
use Rattle.locked_tables.specs.declared.taken.Taken.{Taken}
use Rattle.party_marks.specs.Known.{MarksKnown, PassKnown}
use Rattle.party_marks.specs.Marks.{marks_of}
use Rattle.replica_turns.specs.Going.{is_lost, one_if}
use Rattle.serial_depot.specs.Running.{HasRun}
use Rattle.serial_depot.specs.declared.depot.SerialDepot.{SerialDepot}
use Rattle.shared_depot.specs.Common.{IsArchiveAfter, IsCountAfter, IsFollowed, KeepsOrder}
use Rattle.shared_depot.specs.Replicas.{mark_count}
use Rattle.shared_depot.specs.Stored.{is_lost as failed_at}
use Rattle.shared_depot.proofs.Marks.{count_answered, count_learnt, marked_behind}
use Rattle.shared_depot.proofs.Order.{archive_learnt, archive_read, depot_ran, has_all}
use Rattle.shared_depot.proofs.Turns.{answered_so, kept_so, without_memory}
use Rattle.shared_depot.proofs.stored_archive.StoredArchive.answer_print.Goals as goal

pub invariant_of-held : goal.invariant_of-held
invariant_of-held g c =
    let D = g.D.Disk in
    let same = c.tell.ensures.same ∙ c.learn_archive.ensures.same in
    subst (λ (l : List Taken). KeepsOrder D.says g.N.Naming.rows g.N.Naming.end g.N.Imaging.images g.N.Serving.begins g.N.Serving.masters l c.held.inside.tables) (sym same) c.held.invariant

pub invariant_of-self-2 : goal.invariant_of-self-2
invariant_of-self-2 g c =
    let D = g.D.Disk in
    let end = g.N.Naming.end in
    let images = g.N.Imaging.images in
    let begins = g.N.Serving.begins in
    let contents_then = g.N.Serving.content_faults in
    let next = c.answer_print-answer.ensures in
    let order = c.held.inside.order in
    let old = c.self.inside.archive in
    let new = c.answer_print-answer.new.archive in
    let was = c.self.invariant.0 in
    let before = D.says.faults (disk_of old) in
    let now = D.says.faults (disk_of new) in
    let answer = c.answer_print-answer.result in
    let read = archive_read D.says end images begins c.self.inside.lane old new was next.read in (
      subst (λ (l : List Taken). IsArchiveAfter D.says end images begins l new) (sym c.learn_archive.ensures.learnt)
          (archive_learnt D.says end images begins c.self.inside.lane order new read c.learn_archive.ensures.behind),
      subst (λ (l : List Taken). IsCountAfter failed_at contents_then now l c.mark_lost.new.all.list) (sym c.learn_archive.ensures.learnt)
          (count_answered failed_at contents_then before now order c.make_room.new.self.list c.mark_lost.new.all.list answer next.never_falls next.cause next.only next.no_memory c.mark_lost.ensures.more
          (subst (λ (m : MarksKnown). IsCountAfter failed_at contents_then before order m.list) (sym c.make_room.ensures.same)
          (count_learnt contents_then before c.self.inside.lane order c.self.inside.marks.list c.learn_archive.ensures.behind c.self.invariant.1))),
    )

pub invariant_of-marks : goal.invariant_of-marks
invariant_of-marks g c = c.mark_lost.ensures.party ∙ c.marks.invariant

pub invariant_of-self : goal.invariant_of-self
invariant_of-self g c = (
  c.self.invariant.0,
  subst (λ (m : MarksKnown). IsCountAfter failed_at g.N.Serving.content_faults (g.D.Disk.says.faults (disk_of c.self.inside.archive)) c.self.inside.lane m.list) (sym c.make_room.ensures.same) c.self.invariant.1,
)

pub returns-in_default : goal.returns-in_default
returns-in_default g c = record {
  answer = c.tell_alone.ensures.told c.args.request.now c.args.replica.now (Err (record {})) c.args.marks.now (without_memory g.D.Disk.says c.args.request.now c.args.replica.now (record {}));
}

pub returns : goal.returns
returns g c =
    let D = g.D.Disk in
    let rows = g.N.Naming.rows in
    let end = g.N.Naming.end in
    let images = g.N.Imaging.images in
    let begins = g.N.Serving.begins in
    let order = c.held.inside.order in
    let run = c.held.invariant.run in
    let tables = run.0 in
    let journal = run.1.0 in
    let archive = c.self.inside.archive in
    let was = run.1.1 in
    let request = c.args.request.now in
    let replica = c.args.replica.now in
    let answer = c.answer_print-answer.result in
    let party = c.args.pass.now.party in
    let told = c.tell.ensures.told in
    let known : c.tell.new.pass.list ≡ order = ap (λ (k : PartyKnown). k.list) told ∙ c.learn_archive.ensures.same in
    let marks = c.marks.inside in
    let given = c.mark_lost.new.pass.list in
    let more = one_if (is_lost answer) in
    let of_party_is : c.mark_lost.new.pass.party ≡ marks.journal.party = c.mark_lost.ensures.party ∙ c.marks.invariant in
    let marked : length (marks_of marks.journal.party given) ≡ length (marks_of marks.journal.party marks.archive.list) + more =
    ap (λ (p : ℕ). length (marks_of p given)) (sym of_party_is) ∙ (c.mark_lost.ensures.marked ∙ ap (λ (p : ℕ). length (marks_of p marks.archive.list) + more) c.marks.invariant) in
    let all = has_all D.says end images begins order archive (archive_learnt D.says end images begins c.self.inside.lane order archive c.self.invariant.0 c.learn_archive.ensures.behind) in
    let depot : SerialDepot g.row.D.Denot = record { tables = tables; journal = journal; archive = archive } in
    record {
      answer = record {
        answered = λ other stored. (
          depot,
          (
            λ since start at.
                subst (λ (l : List Taken). HasRun D.says depot since start (map placed_of l)) (sym known)
                (depot_ran D.says rows end images begins g.N.Serving.masters order tables journal was archive all since start at),
            subst (λ (l : List Taken). IsFollowed D.says begins g.N.Serving.masters l depot) (sym known) (was.followed archive all),
            λ formed. answered_so D.says depot replica replica request answer (c.answer_print-answer.ensures.answered depot refl formed) (kept_so answer replica.replica),
            all.room,
          ),
        );
        heard = record {
          party = ap (λ (k : PartyKnown). k.party) told;
          later = subst (IsPrefix c.args.pass.now.list) (sym (ap (λ (k : PartyKnown). k.list) told)) c.tell.ensures.begins;
          own = subst (λ (l : List Taken). of_party party l ≡ of_party party c.args.pass.now.list) (sym (ap (λ (k : PartyKnown). k.list) told)) c.tell.ensures.own;
          marks_party = ap (λ (k : PassKnown). k.party) c.marks.view_is;
          marked =
              marked_behind marks.journal.party marks.journal.list marks.archive.list given more marked
              ∙ ap (λ (k : PassKnown). mark_count k + more) c.marks.view_is;
        };
      };
    }
