use Rattle.std.proofs.Common.{◌≡◌, ◌+◌, ◌++◌, ◌⊎◌, [], List, length, map, sym, subst, arith}
use Rattle.std.specs.List.{AllByRecursion}
use Rattle.std.proofs.lemmas.List.{length-append}
use Rattle.std.proofs.lemmas.List.Elements.{recursion_from_All}
use Rattle.archive_file.specs.Archive.{disk_of as archive_disk_of}
use Rattle.depot_rows.specs.depot_model.declared.order.Place.{Place}
use Rattle.disk_journal.specs.Stands.{disk_of}
use Rattle.locked_tables.specs.Taken.{place_of, placed_of}
use Rattle.party_marks.specs.Marks.{IsMarkOf, MayMark}
use Rattle.party_marks.specs.declared.mark.Mark.{Mark}
use Rattle.serial_depot.specs.Running.{CanTake, HasRun}
use Rattle.serial_depot.specs.declared.depot.SerialDepot.{SerialDepot}
use Rattle.session_loop.specs.Served.{HaveRisenBy, StandWithoutFaults, fault_count}
use Rattle.shared_depot.specs.Common.{HasAllStored, IsFollowed, OpenedKnown}
use Rattle.shared_depot.proofs.Marks.{both_of_run, both_risen}
use Rattle.shared_depot.proofs.Order.{closed_can, closed_followed, closed_run, closed_stored}
use Rattle.shared_depot.proofs.closing.OpenedDepot.close.Goals as goal

pub returns-clause-can : goal.returns-clause-can
returns-clause-can g c =
    let D = g.D.Disk in
    let parts = c.self.inside in
    subst (λ (depot : SerialDepot g.row.D.Denot). CanTake D.says depot) (sym c.new.ensures)
    (closed_can D.says g.N.Naming.rows g.N.Naming.end g.N.Imaging.images g.N.Serving.begins g.N.Serving.masters parts.order parts.tables parts.journal parts.archive c.self.invariant.0 c.self.invariant.1)

pub returns-clause-ran : goal.returns-clause-ran
returns-clause-ran g c = λ since start at.
    let D = g.D.Disk in
    let parts = c.self.inside in
    let order = parts.order in
    subst (λ (o : OpenedKnown). HasRun D.says c.new.result since start (map placed_of o.order)) c.self.view_is
    (subst (λ (depot : SerialDepot g.row.D.Denot). HasRun D.says depot since start (map placed_of order)) (sym c.new.ensures)
    (closed_run D.says g.N.Naming.rows g.N.Naming.end g.N.Imaging.images g.N.Serving.begins g.N.Serving.masters order parts.tables parts.journal parts.archive c.self.invariant.0 c.self.invariant.1 since start at))

pub returns-clause-followed : goal.returns-clause-followed
returns-clause-followed g c =
    let D = g.D.Disk in
    let begins = g.N.Serving.begins in
    let masters = g.N.Serving.masters in
    let parts = c.self.inside in
    subst (λ (o : OpenedKnown). IsFollowed D.says begins masters o.order c.new.result) c.self.view_is
    (subst (λ (depot : SerialDepot g.row.D.Denot). IsFollowed D.says begins masters parts.order depot) (sym c.new.ensures)
    (closed_followed D.says g.N.Naming.rows g.N.Naming.end g.N.Imaging.images begins masters parts.order parts.tables parts.journal parts.archive c.self.invariant.0 c.self.invariant.1))

pub returns-clause-stored : goal.returns-clause-stored
returns-clause-stored g c =
    let D = g.D.Disk in
    let end = g.N.Naming.end in
    let images = g.N.Imaging.images in
    let begins = g.N.Serving.begins in
    let parts = c.self.inside in
    let order = parts.order in
    subst (λ (o : OpenedKnown). HasAllStored D.says end images begins o.order c.new.result.archive) c.self.view_is
    (subst (λ (depot : SerialDepot g.row.D.Denot). HasAllStored D.says end images begins order depot.archive) (sym c.new.ensures)
    (closed_stored D.says g.N.Naming.rows end images begins g.N.Serving.masters order parts.tables parts.journal parts.archive c.self.invariant.0 c.self.invariant.1))

pub returns-clause-failures : goal.returns-clause-failures
returns-clause-failures g c =
    let D = g.D.Disk in
    let parts = c.self.inside in
    let before = g.N.Serving.faults in
    let contents_before = g.N.Serving.content_faults in
    let Risen : List Place → List Mark → SerialDepot g.row.D.Denot → Type 0 = λ places marks depot.
    HaveRisenBy (fault_count places + length marks) before (D.says.faults (disk_of depot.journal)) contents_before (D.says.faults (archive_disk_of depot.archive)) in
    subst (Risen c.into_places.result.items c.args.self.marks) (sym c.new.ensures)
    (subst (λ (places : List Place). Risen places c.args.self.marks (record { tables = parts.tables; journal = parts.journal; archive = parts.archive })) (sym c.into_places.ensures)
    (subst (λ (o : OpenedKnown). Risen (map place_of parts.order) o.marks (record { tables = parts.tables; journal = parts.journal; archive = parts.archive })) c.self.view_is
    (both_risen before (D.says.faults (disk_of parts.journal)) contents_before (D.says.faults (archive_disk_of parts.archive)) parts.order parts.marks.list parts.content_marks.list c.self.invariant.2 c.self.invariant.3)))

pub returns-clause-mark_parties : goal.returns-clause-mark_parties
returns-clause-mark_parties g c =
    let parts = c.self.inside in
    let run = g.N.Marking.marks in
    let contents_run = g.N.Serving.content_marks in
    subst (λ (o : OpenedKnown). AllByRecursion (λ (mark : Mark). MayMark run mark.party ⊎ MayMark contents_run mark.party) o.marks) c.self.view_is
    (both_of_run run contents_run parts.marks.list parts.content_marks.list
    (recursion_from_All (IsMarkOf run) parts.marks.list c.parties_are_of_run-2.ensures) (recursion_from_All (IsMarkOf contents_run) parts.content_marks.list c.parties_are_of_run-3.ensures))

pub returns-clause-stand : goal.returns-clause-stand
returns-clause-stand g c = λ none.
    let D = g.D.Disk in
    let parts = c.self.inside in
    let before = g.N.Serving.faults in
    let contents_before = g.N.Serving.content_faults in
    let both = length-append parts.marks.list parts.content_marks.list in
    let unmarked : length (parts.marks.list ++ parts.content_marks.list) ≡ 0 = subst (λ (o : OpenedKnown). length o.marks ≡ 0) (sym c.self.view_is) none in
    subst (λ (depot : SerialDepot g.row.D.Denot). StandWithoutFaults before (D.says.faults (disk_of depot.journal)) contents_before (D.says.faults (archive_disk_of depot.archive)) [] c.into_places.result.items) (sym c.new.ensures)
    (subst (λ (places : List Place). StandWithoutFaults before (D.says.faults (disk_of parts.journal)) contents_before (D.says.faults (archive_disk_of parts.archive)) [] places) (sym c.into_places.ensures)
    (λ faultless. (c.self.invariant.2.stand faultless (omega (arith, both, unmarked)), c.self.invariant.3.stand faultless (omega (arith, both, unmarked)))))
