use Rattle.std.proofs.Common.{◌≡◌, ◌∙◌, ◌++◌, List, length, sym, ap, subst}
use Rattle.std.specs.Prelude.{is_err}
use Rattle.depot_commit.proofs.Moved.{over_fetched}
use Rattle.depot_commit.specs.Storing.{HasStored, stores_end}
use Rattle.disk_journal.specs.Stands.{disk_of}
use Rattle.locked_tables.specs.Known.{PartyKnown}
use Rattle.locked_tables.specs.declared.taken.Taken.{Taken}
use Rattle.outside_api.specs.Count.{HasCause}
use Rattle.outside_api.specs.Link.{Answers}
use Rattle.outside_api.specs.declared.link.Fetched.{Fetched}
use Rattle.party_marks.specs.Known.{PassKnown}
use Rattle.shared_depot.proofs.Committed.{run_on}
use Rattle.shared_depot.proofs.Links.{cause_before, err_has, has_told, heard_all, ok_told, tells_run}
use Rattle.shared_depot.proofs.Marks.{count_marked, count_quietly, ok_has}
use Rattle.shared_depot.proofs.Order.{run_fetched}
use Rattle.shared_depot.specs.Common.{HasRunOrder, IsCountAfter, KeepsOrder}
use Rattle.shared_depot.specs.Link.{TellsAll, TellsJournal}
use Rattle.shared_depot.specs.Stored.{is_unwritten, stores_of}
use Rattle.shared_depot.proofs.written_journal.WrittenJournal.fetch.Goals as goal

pub invariant_of-held : goal.invariant_of-held
invariant_of-held g c =
    let D = g.D.Disk in
    subst (λ (l : List Taken). KeepsOrder D.says g.N.Naming.rows g.N.Naming.end g.N.Imaging.images g.N.Serving.begins g.N.Serving.masters l c.held.inside.tables)
    (sym c.tell.ensures.same) c.held.invariant

pub invariant_of-self : goal.invariant_of-self
invariant_of-self g c =
    let D = g.D.Disk in
    let rows = g.N.Naming.rows in
    let end = g.N.Naming.end in
    let images = g.N.Imaging.images in
    let begins = g.N.Serving.begins in
    let masters = g.N.Serving.masters in
    let next = c.fetch_texts-fetched.ensures in
    let order = c.deref_mut-held.result.now in
    let tables = c.self.inside.tables in
    let old = c.self.inside.journal in
    let new = c.fetch_texts-fetched.new.journal in
    let fetched = c.fetch_texts-fetched.result in
    let before = D.says.faults (disk_of old) in
    let now = D.says.faults (disk_of new) in
    let was = run_on D.says rows end images begins masters c.self.inside.lane order c.learn_journal.ensures.on tables old c.self.invariant.0 in (
      subst (λ (l : List Taken). HasRunOrder D.says rows end images begins masters l tables new) (sym c.learn_journal.ensures.learnt)
          (run_fetched D.says rows end images begins masters order tables old new was
          (was.can.0, (was.can.1.0, next.fetched.stands was.can.0 was.can.1.0 was.can.1.1))
          (λ since start places h. over_fetched D.says (HasStored images end (stores_of order)) (stores_end (stores_of order) end) tables old since start places h new next.fetched) next.fetched.groups),
      subst (λ (l : List Taken). IsCountAfter is_unwritten g.N.Serving.faults now l c.tell_fetched.new.all.list) (sym c.learn_journal.ensures.learnt)
          (count_marked is_unwritten g.N.Serving.faults before now order c.self.inside.marks.list c.tell_fetched.new.all.list (is_err fetched) next.cause.never_falls
          (err_has fetched _ next.cause.risen) (ok_has fetched _ next.only) c.tell_fetched.ensures.marked c.tell_fetched.ensures.none
          (count_quietly g.N.Serving.faults before c.self.inside.lane order c.self.inside.marks.list c.learn_journal.ensures.on c.self.invariant.1)),
    )

pub invariant_of-marks : goal.invariant_of-marks
invariant_of-marks g c = c.marks.invariant ∙ sym c.tell_fetched.ensures.party

pub returns-clause-answers : goal.returns-clause-answers
returns-clause-answers g c = λ texts told.
    let D = g.D.Disk in
    let rows = g.N.Naming.rows in
    let end = g.N.Naming.end in
    let images = g.N.Imaging.images in
    let begins = g.N.Serving.begins in
    let masters = g.N.Serving.masters in
    let order = c.deref_mut-held.result.now in
    let tables = c.self.inside.tables in
    let journal = c.self.inside.journal in
    let was = run_on D.says rows end images begins masters c.self.inside.lane order c.learn_journal.ensures.on tables journal c.self.invariant.0 in
    let known : c.tell.new.pass.list ≡ order = ap (λ (k : PartyKnown). k.list) c.tell.ensures.told ∙ (c.held.view_is ∙ c.learn_journal.ensures.same) in
    let here = subst (λ (l : List Taken). TellsJournal D.says end images begins masters l texts) known told in
    ok_told c.fetch_texts-fetched.result c.tell_fetched.result (λ (fetched : Fetched). Answers texts c.args.generation c.args.at fetched c.fetch_texts-fetched.new.buffer) c.tell_fetched.ensures.told
    (c.fetch_texts-fetched.ensures.answers texts (has_told D.says end images begins masters rows order tables journal was g.met.D.Disk.reads_an_image texts here))

pub returns-clause-fits : goal.returns-clause-fits
returns-clause-fits g c = ok_told c.fetch_texts-fetched.result c.tell_fetched.result _ c.tell_fetched.ensures.told c.fetch_texts-fetched.ensures.fits

pub returns-clause-tells : goal.returns-clause-tells
returns-clause-tells g c =
    let D = g.D.Disk in
    let rows = g.N.Naming.rows in
    let end = g.N.Naming.end in
    let images = g.N.Imaging.images in
    let begins = g.N.Serving.begins in
    let masters = g.N.Serving.masters in
    let order = c.deref_mut-held.result.now in
    let tables = c.self.inside.tables in
    let journal = c.self.inside.journal in
    let was = run_on D.says rows end images begins masters c.self.inside.lane order c.learn_journal.ensures.on tables journal c.self.invariant.0 in
    let known : c.tell.new.pass.list ≡ order = ap (λ (k : PartyKnown). k.list) c.tell.ensures.told ∙ (c.held.view_is ∙ c.learn_journal.ensures.same) in
    subst (TellsAll D.says end images begins masters) (sym known) (tells_run D.says end images begins masters rows order tables journal was)

pub returns-clause-heard : goal.returns-clause-heard
returns-clause-heard g c = heard_all c.args.pass.now c.tell.new.pass c.held.inside.order c.tell.ensures.told c.tell.ensures.begins c.tell.ensures.own

pub returns-clause-marks_party : goal.returns-clause-marks_party
returns-clause-marks_party g c = c.tell_fetched.ensures.party ∙ ap (λ (k : PassKnown). k.party) c.marks.view_is

pub returns-clause-cause : goal.returns-clause-cause
returns-clause-cause g c =
    let marks = c.marks.inside in
    let given = c.tell_fetched.new.pass.list in
    subst (λ (k : PassKnown). HasCause (length k.list) (length (given ++ marks.archive.list)) c.tell_fetched.result) c.marks.view_is
    (cause_before marks.journal.list given marks.archive.list c.tell_fetched.result c.tell_fetched.ensures.cause)
