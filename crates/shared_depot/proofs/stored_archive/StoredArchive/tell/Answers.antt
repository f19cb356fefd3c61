use Rattle.std.proofs.Common.{[], List, refl, sym, ap, subst, inr, ◌∙◌, append-nil}
use Rattle.std.proofs.lemmas.Bool.{true≢false}
use Rattle.std.proofs.lemmas.Option.{same_Some}
use Rattle.archive_file.specs.Archive.{disk_of}
use Rattle.locked_tables.specs.Taken.{end_after}
use Rattle.locked_tables.specs.declared.taken.Taken.{Taken}
use Rattle.shared_depot.specs.Common.{IsArchiveAfter, IsCountAfter, IsLostPlace}
use Rattle.shared_depot.specs.Stored.{is_lost}
use Rattle.shared_depot.proofs.Marks.{count_learnt, count_on, count_placed}
use Rattle.shared_depot.proofs.Order.{archive_learnt, archive_placed, archive_read}
use Rattle.shared_depot.proofs.Stored.{lost_fails}
use Rattle.shared_depot.proofs.stored_archive.StoredArchive.tell.Goals as goal

-- ---- no memory was left, or the reply is printed

pub invariant_of-self : goal.invariant_of-self
invariant_of-self g c =
    let D = g.D.Disk in
    let read = c.tell_reading.ensures in (
      archive_read D.says g.N.Naming.end g.N.Imaging.images g.N.Serving.begins c.self.inside.lane c.self.inside.archive c.tell_reading.new.archive c.self.invariant.0
          (record { same = read.same; crash = read.crash; used = read.used }),
      count_on is_lost g.N.Serving.content_faults (D.says.faults (disk_of c.self.inside.archive)) (D.says.faults (disk_of c.tell_reading.new.archive)) c.self.inside.lane c.self.inside.lane c.self.inside.marks.list read.never_falls
          ([], append-nil c.self.inside.lane) refl (λ none. c.in_err-told.ensures.no_memory) c.self.invariant.1,
    )

pub invariant_of-self-then-not-is_unread : goal.invariant_of-self-then-not-is_unread
invariant_of-self-then-not-is_unread g c =
    let D = g.D.Disk in
    let read = c.tell_reading.ensures in (
      archive_read D.says g.N.Naming.end g.N.Imaging.images g.N.Serving.begins c.self.inside.lane c.self.inside.archive c.tell_reading.new.archive c.self.invariant.0
          (record { same = read.same; crash = read.crash; used = read.used }),
      count_on is_lost g.N.Serving.content_faults (D.says.faults (disk_of c.self.inside.archive)) (D.says.faults (disk_of c.tell_reading.new.archive)) c.self.inside.lane c.self.inside.lane c.self.inside.marks.list read.never_falls
          ([], append-nil c.self.inside.lane) refl (λ none. c.in_ok-told.ensures.only (sym c.is_unread.ensures ∙ c.if-not-is_unread.true)) c.self.invariant.1,
    )

pub returns-then-not-is_unread-clause-reading : goal.returns-then-not-is_unread-clause-reading
returns-then-not-is_unread-clause-reading g c = record { tells = c.in_ok-told.ensures.told; read = sym c.is_unread.ensures ∙ c.if-not-is_unread.true; same = refl; kept = refl }

pub returns-then-not-is_unread-clause-over : goal.returns-then-not-is_unread-clause-over
returns-then-not-is_unread-clause-over g c = (
  c.self.view_is,
  λ request number.
      let D = g.D.Disk in
      let was = c.self.invariant.0 in
      rw (← c.self.view_is) (λ since start at rows from d stand is kept.
      let told = was.tells since start at in
      let image = was.among told.0 (g.met.D.Disk.reads_an_image (disk_of c.self.inside.archive) told.0 told.1) in
      c.in_ok-told.ensures.reply told.0 rows from d request told.1 number (kept.contents told.0 image) (is d stand)),
)

-- ---- a content couldn't be read

pub place_quiet-answer-requires : goal.place_quiet-answer-requires
place_quiet-answer-requires g c =
    let asked = c.requires.0 in
    let unread = sym c.is_unread.ensures ∙ c.if-not-is_unread.false in
    rw (sym (same_Some _ _ (sym asked.is ∙ (sym c.take.ensures.value ∙ c.unwrap-request.ensures)))) (record {
      may = asked.may;
      unwritten = inr unread;
      held = unread;
      end = λ held. c.end-end.ensures.end ∙ ap (end_after g.N.Naming.end) (c.learn_archive.ensures.learnt ∙ sym c.learn_archive.ensures.same);
      fits = λ held. c.end-end.ensures.fits;
      tells = (c.args.outcome, rw c.requires.1 c.in_ok-told.ensures.told);
      due = λ read. absurd (true≢false (sym unread ∙ read));
    })

pub invariant_of-self-2 : goal.invariant_of-self-2
invariant_of-self-2 g c =
    let D = g.D.Disk in
    let end = g.N.Naming.end in
    let images = g.N.Imaging.images in
    let begins = g.N.Serving.begins in
    let contents_then = g.N.Serving.content_faults in
    let read = c.tell_reading.ensures in
    let was = c.self.inside.archive in
    let now = c.tell_reading.new.archive in
    let order = c.deref_mut-held.result.now in
    let placed = c.place_quiet-answer in
    let place = subst (λ (l : List Taken). IsLostPlace l placed.new.self) c.learn_archive.ensures.same (placed.ensures.lost refl) in
    let before = D.says.faults (disk_of was) in
    let after = D.says.faults (disk_of now) in
    let here = archive_learnt D.says end images begins c.self.inside.lane order was c.self.invariant.0 c.learn_archive.ensures.behind in (
      subst (λ (l : List Taken). IsArchiveAfter D.says end images begins l now) (sym placed.ensures.archive.learnt)
          (archive_placed D.says end images begins order placed.new.self was now here (record { same = read.same; crash = read.crash; used = read.used })
          place),
      subst (λ (l : List Taken). IsCountAfter is_lost contents_then after l c.self.inside.marks.list) (sym (placed.ensures.archive.learnt ∙ place.placed))
          (count_placed is_lost contents_then before after order place.entry c.self.inside.marks.list read.never_falls (λ lost. c.in_ok-told.ensures.cause (sym c.is_unread.ensures ∙ c.if-not-is_unread.false))
          (λ fine. absurd (true≢false (sym (lost_fails place.entry place.lost) ∙ fine))) (count_learnt contents_then before c.self.inside.lane order c.self.inside.marks.list c.learn_archive.ensures.behind c.self.invariant.1)),
    )

pub returns-clause-reading : goal.returns-clause-reading
returns-clause-reading g c = rw (sym c.take.ensures.value ∙ c.unwrap-request.ensures) c.place_quiet-answer.ensures.taken
