use Rattle.std.proofs.Common.{refl, sym, ◌∙◌}
use Rattle.locked_tables.proofs.Placed.{of_archive}
use Rattle.shared_depot.proofs.Committed.{changes_then, committed_then, counted_then, keeps_written, of_taken, reply_then, written_at}
use Rattle.shared_depot.proofs.Order.{taken_so}
use Rattle.shared_depot.proofs.written_journal.WrittenJournal.commit.Goals as goal

pub place-requires : goal.place-requires
place-requires g c =
    let was = rw c.self.view_is at c.self.invariant in
    record {
      can = was.0.can;
      used = rw (was.0.end_is ∙ was.0.ends) c.requires.used;
      some = λ none. c.requires.some (sym c.requires.held ∙ none);
      fit = λ none. cc;
    }

pub invariant_of-self : goal.invariant_of-self
invariant_of-self g c = rw (c.in_default.ensures.nothing.0, c.in_default.ensures.nothing.1) c.self.invariant

pub invariant_of-common : goal.invariant_of-common
invariant_of-common g c =
    let was = rw c.self.view_is at c.self.invariant in
    let place = c.in-Ok.ensures in
    let placing = c.place-2.ensures in
    let writing = c.requires.writing in
    let at = rw c.self.view_is at (written_at c.common.invariant placing.placed placing.touches placing.journal.behind placing.rows placing.end) in
    let ran = committed_then was.0 writing at c.place.new.tables place.landed (of_taken c.archive_end.ensures.end) c.requires.may.proper c.requires.some c.place.ensures.can place.rows place.ran place.grows in
    rw placing.placed.last
    (keeps_written g.D.Disk.says g.N.Naming.rows g.N.Naming.end g.N.Imaging.images g.N.Serving.begins g.N.Serving.masters c.common.inside.order c.common.inside.tables c.common.invariant _
    at c.show.new.tables c.show.ensures.same (λ failed. rw (place.landed.changes, failed)) (λ fine table. rw (c.show.ensures.shown fine, place.landed.changes, fine, writing.shown) (writing.after table))
    (c.place.new.tables, (c.place.new.journal, ran)))

pub invariant_of-self-2 : goal.invariant_of-self-2
invariant_of-self-2 g c =
    let was = rw c.self.view_is at c.self.invariant in
    let place = c.in-Ok.ensures in
    let placing = c.place-2.ensures in
    let at = rw c.self.view_is at (written_at c.common.invariant placing.placed placing.touches placing.journal.behind placing.rows placing.end) in
    let ran = committed_then was.0 c.requires.writing at c.place.new.tables place.landed (of_taken c.archive_end.ensures.end) c.requires.may.proper c.requires.some c.place.ensures.can place.rows place.ran place.grows in
    let counted = counted_then at (of_taken c.archive_end.ensures.end) place.counted c.requires.writing.read c.place.ensures.never_falls
    (λ none. (g.met.S.Store.unfailing c.args.store.now (c.requires.held ∙ none), g.met.S.Store.unfailing c.place.new.store (c.requires.held ∙ none))) g.N.Serving.faults c.self.inside.marks.list was.1 in
    rw (placing.journal.learnt, placing.placed.last) (ran, counted)

pub returns : goal.returns
returns g c =
    let was = rw c.self.view_is at c.self.invariant in
    let place = c.in-Ok.ensures in
    let placing = c.place-2.ensures in
    let writing = c.requires.writing in
    let at = rw c.self.view_is at (written_at c.common.invariant placing.placed placing.touches placing.journal.behind placing.rows placing.end) in
    record {
      taken = taken_so g.N.Serving.begins _ _ c.args.pass.now c.place-2.new.pass _ c.args.writing.request c.in-Ok.landed.answer _ placing.placed.last placing.placed.pass placing.placed.own
          refl refl (λ k. record { place = c.place-at.ensures k; reply = c.in-Ok.landed.answer.reply })
          (λ since start begun. place.answers start _ writing.due.outcome writing.due.tells (reply_then was.0 writing at since start begun))
          (λ touches. changes_then was.0 writing at);
      nothing = tt;
      stored = record {
        order = c.common.inside.order;
        entry = _;
        learnt = rw placing.placed.last at placing.archive;
        touches = of_archive placing.touches;
        stored = place.landed.stored;
        caused = λ lost. place.counted.cause_contents lost writing.read;
        stand = place.counted.only_contents;
      };
      never_falls = c.place.ensures.never_falls_contents;
    }
