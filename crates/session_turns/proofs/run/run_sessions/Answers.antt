use Rattle.std.proofs.Common.{List, subst}
use Rattle.archive_file.specs.Archive.{disk_of as archive_disk_of}
use Rattle.depot_rows.specs.depot_model.declared.order.Place.{Place}
use Rattle.disk_journal.specs.Stands.{disk_of}
use Rattle.session_loop.specs.Served.{AreCaused, StandWithoutFaults}
use Rattle.session_turns.proofs.Losing.{not_before}
use Rattle.session_turns.proofs.Whole.{whole_counted, whole_ends, whole_master, whole_ran, whole_served}
use Rattle.session_turns.proofs.run.run_sessions.Goals as goal

pub returns-clause-served : goal.returns-clause-served
returns-clause-served g c = λ since start formed h.
    let rest = c.answer_rest.ensures in
    whole_served _ _ _ _ _ c.args.depot c.args.sinks _ c.new-2.ensures.items _ c.tables.ensures _ c.in-Ok.ensures _ c.requires.as_many_replicas c.requires.apart c.requires.few_parties c.requires.few c.requires.few_replicas
    c.args.seed c.take_all.ensures.turns _ c.deref.ensures.value _ _ rest.none rest.same since start formed h

pub returns-clause-master : goal.returns-clause-master
returns-clause-master g c = λ past since start all formed h master.
    let rest = c.answer_rest.ensures in
    whole_master _ _ _ _ _ c.args.depot c.args.sinks _ c.new-2.ensures.items _ c.tables.ensures _ c.in-Ok.ensures _ c.requires.as_many_replicas c.requires.apart c.requires.few_parties c.requires.few c.requires.few_replicas
    c.args.seed c.take_all.ensures.turns _ c.deref.ensures.value _ _ rest.none rest.same since start formed h past all master

pub returns-clause-ran : goal.returns-clause-ran
returns-clause-ran g c = λ since start formed h.
    let rest = c.answer_rest.ensures in
    whole_ran _ _ _ _ _ c.args.depot c.args.sinks _ c.new-2.ensures.items _ c.tables.ensures _ c.in-Ok.ensures _ c.requires.as_many_replicas c.requires.apart c.requires.few_parties c.requires.few c.requires.few_replicas
    c.args.seed c.take_all.ensures.turns _ c.deref.ensures.value _ _ rest.none rest.same since start formed h

pub returns-clause-counted : goal.returns-clause-counted
returns-clause-counted g c = λ since start formed h.
    let rest = c.answer_rest.ensures in
    whole_counted _ _ _ _ _ c.args.depot c.args.sinks _ c.new-2.ensures.items _ c.tables.ensures _ c.in-Ok.ensures _ c.requires.as_many_replicas c.requires.apart c.requires.few_parties c.requires.few c.requires.few_replicas
    c.args.seed c.take_all.ensures.turns _ c.deref.ensures.value _ _ rest.none rest.same since start formed h

pub returns-clause-ends : goal.returns-clause-ends
returns-clause-ends g c =
    let rest = c.answer_rest.ensures in
    whole_ends g.D.Disk.says g.K.Sink.says _ _ _ c.args.depot c.args.sinks c.new-2.result c.new-2.ensures.items _ c.tables.ensures _ c.in-Ok.ensures c.take_all.new.self c.take_all.ensures.within _ c.deref.ensures.value _ _ rest.within rest.done

pub returns-clause-lost : goal.returns-clause-lost
returns-clause-lost g c = λ is. not_before _ _ _ _ _ _ c.in-Ok.ensures.lost c.take_all.ensures.lost is

pub returns-clause-stand : goal.returns-clause-stand
returns-clause-stand g c = λ none.
    let before = c.args.depot in
    let after = c.take_all.new.self in
    let Stand : List Place → Type 0 = λ order.
    StandWithoutFaults (g.D.Disk.says.faults (disk_of before.journal)) (g.D.Disk.says.faults (disk_of after.depot.journal)) (g.D.Disk.says.faults (archive_disk_of before.archive))
    (g.D.Disk.says.faults (archive_disk_of after.depot.archive)) order after.order.items in
    subst Stand c.new-2.ensures.items (c.take_all.ensures.told.stand none)

pub returns-clause-faults : goal.returns-clause-faults
returns-clause-faults g c =
    let after = c.take_all.new.self in
    let Caused : List Place → Type 0 = λ order. AreCaused (g.D.Disk.says.faults (disk_of c.args.depot.journal)) (g.D.Disk.says.faults (disk_of after.depot.journal)) (g.D.Disk.says.faults (archive_disk_of c.args.depot.archive))
    (g.D.Disk.says.faults (archive_disk_of after.depot.archive)) order after.order.items in
    subst Caused c.new-2.ensures.items c.take_all.ensures.faults
