use Rattle.std.proofs.Common.{◌≡◌, ◌≤◌, ℕ, true, false, [], length, map, Option, None, Vec, Global, sym, ap, subst, ◌∙◌, arith}
use Rattle.std.proofs.lemmas.List.{length-map}
use Rattle.std.proofs.lemmas.List.Elements.{All-from_recursion, recursion_from_All}
use Rattle.std.proofs.lemmas.Result.{IfOk-weaker}
use Rattle.archive_file.specs.Archive.{disk_of as archive_disk_of}
use Rattle.depot_model.specs.declared.request.Request.{Request}
use Rattle.depot_runs.specs.Run.{placed}
use Rattle.disk_journal.specs.Stands.{disk_of}
use Rattle.run_parties.proofs.Fresh.{few_left}
use Rattle.run_parties.specs.Asking.{left_in}
use Rattle.run_parties.specs.Replicas.{AreReplicasServed, AreReplicasTold, OneHasRisen}
use Rattle.run_parties.specs.Served.{AreEnds, AreServed}
use Rattle.run_parties.specs.replica_turns.Master.{CanBeFollowed}
use Rattle.run_parties.specs.replica_turns.declared.party.ReplicaParty.{ReplicaParty}
use Rattle.run_parties.specs.serial_depot.Running.{CanTake, HasRun}
use Rattle.session_loop.specs.Asking.{replica_commands}
use Rattle.session_loop.specs.Served.{AreCaused, HaveRisenBy, StandWithoutFaults}
use Rattle.session_loop.specs.declared.reading.ReplicaScript.{ReplicaScript}
use Rattle.party_threads.proofs.Asked.{all_proper, are_asked, as_many, items_of}
use Rattle.party_threads.proofs.Finishing.{all_ends, all_replicas_served, all_replicas_told, all_served, depot_followed, depot_ran, faults_caused, fresh_count, one_rose}
use Rattle.party_threads.specs.Words.{AreFreshWords}
use Rattle.party_threads.specs.declared.run.ThreadsRun.{ThreadsRun}
use Rattle.party_threads.proofs.run.run_on_threads.Goals as goal

pub run_named-requires-clause-few_parties : goal.run_named-requires-clause-few_parties
run_named-requires-clause-few_parties g c = λ κs bounds.
    let count = as_many (g.C.Clock.says.may_give c.args.clock.now) c.args.sessions.items c.in-Ok.brought.requests.items c.in-Ok.ensures.requests in
    let few = c.requires.few_parties in
    omega (arith, count, few)

pub run_named-requires-clause-words : goal.run_named-requires-clause-words
run_named-requires-clause-words g c = λ κs bounds.
    let count = as_many (g.C.Clock.says.may_give c.args.clock.now) c.args.sessions.items c.in-Ok.brought.requests.items c.in-Ok.ensures.requests in
    subst (λ (n : ℕ). AreFreshWords n c.in-Ok.brought.words) (sym count) c.in-Ok.ensures.words

pub run_named-requires-clause-as_many_places : goal.run_named-requires-clause-as_many_places
run_named-requires-clause-as_many_places g c = λ κs bounds.
    ap (length {A = ℕ}) c.in-Ok.ensures.places ∙ length-map c.in-Ok.brought.requests.items (λ (own : Vec Request Global). length own.items)

pub run_named-requires-clause-as_many : goal.run_named-requires-clause-as_many
run_named-requires-clause-as_many g c = λ κs bounds.
    let count = as_many (g.C.Clock.says.may_give c.args.clock.now) c.args.sessions.items c.in-Ok.brought.requests.items c.in-Ok.ensures.requests in
    c.requires.as_many ∙ sym count

pub run_named-requires-clause-as_many_replicas : goal.run_named-requires-clause-as_many_replicas
run_named-requires-clause-as_many_replicas g c = λ κs bounds.
    let count = as_many (g.C.Clock.says.may_give c.args.clock.now) c.args.sessions.items c.in-Ok.brought.requests.items c.in-Ok.ensures.requests in
    fresh_count (g.C.Clock.says.may_give c.args.clock.now) 1 c.args.replicas.items c.in-Ok.brought.replicas.items c.in-Ok.ensures.replicas ∙ (c.requires.as_many_replicas ∙ sym count)

pub run_named-requires-clause-asked : goal.run_named-requires-clause-asked
run_named-requires-clause-asked g c = λ κs bounds.
    are_asked (g.C.Clock.says.may_give c.args.clock.now) c.args.sessions.items c.in-Ok.brought.requests.items c.in-Ok.ensures.requests _ c.requires.few (λ since start begun. begun.0)

pub run_named-requires-clause-few : goal.run_named-requires-clause-few
run_named-requires-clause-few g c = λ κs bounds.
    All-from_recursion (λ (r : Option ReplicaParty). length (left_in r) ≤ 67108864) c.in-Ok.brought.replicas.items
    (few_left (g.C.Clock.says.may_give c.args.clock.now) 1 c.args.replicas.items c.in-Ok.brought.replicas.items c.in-Ok.ensures.replicas
    (recursion_from_All (λ (s : Option ReplicaScript). length (replica_commands s) ≤ 67108864) c.args.replicas.items c.requires.few_replicas))

pub returns-in-Ok-clause-served : goal.returns-in-Ok-clause-served
returns-in-Ok-clause-served g c = λ since start formed h.
    let D = g.D.Disk in
    let may_give = g.C.Clock.says.may_give c.args.clock.now in
    let sessions = c.args.sessions.items in
    let scripts = c.args.replicas.items in
    let requests = c.in-Ok.brought.requests.items in
    let asked = c.in-Ok.ensures.requests in
    let Ran : Type 0 = ThreadsRun g.row.D.Denot g.row.K.Denot in
    IfOk-weaker c.run_named.result _ (λ (ran : Ran). AreServed may_give sessions scripts start ran.runs.items (map g.K.Sink.says.given c.args.sinks.items) (map g.K.Sink.says.given ran.sinks.items) ran.order.items)
    (λ ran s. all_served D.says c.args.depot.tables.archive_end (D.says.may_leave (archive_disk_of c.args.depot.archive)) g.K.Sink.says may_give sessions scripts (map items_of requests) asked c.requires.as_many_replicas c.requires.apart
    c.in-Ok.brought.replicas.items c.in-Ok.ensures.replicas _ _ _ _ c.args.sinks.items c.requires.as_many ran s since start (all_proper may_give sessions requests asked formed, h))
    c.run_named.ensures.run

pub returns-in-Ok-clause-replicas : goal.returns-in-Ok-clause-replicas
returns-in-Ok-clause-replicas g c = λ since start formed well_formed h.
    let D = g.D.Disk in
    let may_give = g.C.Clock.says.may_give c.args.clock.now in
    let sessions = c.args.sessions.items in
    let scripts = c.args.replicas.items in
    let requests = c.in-Ok.brought.requests.items in
    let asked = c.in-Ok.ensures.requests in
    let Ran : Type 0 = ThreadsRun g.row.D.Denot g.row.K.Denot in
    IfOk-weaker c.run_named.result _ (λ (ran : Ran). AreReplicasServed D.says may_give sessions scripts since start ran.order.items (λ party. None) ran.runs.items ran.lost
    (λ failures. HaveRisenBy failures (D.says.faults (disk_of c.args.depot.journal)) (D.says.faults (disk_of ran.depot.journal)) (D.says.faults (archive_disk_of c.args.depot.archive)) (D.says.faults (archive_disk_of ran.depot.archive)))
    (map g.K.Sink.says.given c.args.sinks.items) (map g.K.Sink.says.given ran.sinks.items))
    (λ ran s. all_replicas_served D.says c.args.depot.tables.archive_end (D.says.may_leave (archive_disk_of c.args.depot.archive)) g.K.Sink.says may_give sessions scripts (map items_of requests) asked c.requires.as_many_replicas c.requires.apart
    c.in-Ok.brought.replicas.items c.in-Ok.ensures.replicas _ _ _ _ c.args.sinks.items c.requires.as_many ran s well_formed since start (all_proper may_give sessions requests asked formed, h))
    c.run_named.ensures.run

pub returns-in-Ok-clause-told : goal.returns-in-Ok-clause-told
returns-in-Ok-clause-told g c = λ past since start all formed well_formed h master.
    let D = g.D.Disk in
    let may_give = g.C.Clock.says.may_give c.args.clock.now in
    let sessions = c.args.sessions.items in
    let scripts = c.args.replicas.items in
    let requests = c.in-Ok.brought.requests.items in
    let asked = c.in-Ok.ensures.requests in
    let Ran : Type 0 = ThreadsRun g.row.D.Denot g.row.K.Denot in
    IfOk-weaker c.run_named.result _ (λ (ran : Ran). AreReplicasTold past start sessions scripts may_give ran.order.items (λ party. None) ran.runs.items (map g.K.Sink.says.given c.args.sinks.items) (map g.K.Sink.says.given ran.sinks.items))
    (λ ran s. all_replicas_told D.says c.args.depot.tables.archive_end (D.says.may_leave (archive_disk_of c.args.depot.archive)) g.K.Sink.says may_give sessions scripts (map items_of requests) asked c.requires.as_many_replicas c.requires.apart
    c.in-Ok.brought.replicas.items c.in-Ok.ensures.replicas _ _ _ _ c.args.sinks.items c.requires.as_many ran s well_formed since past start all (all_proper may_give sessions requests asked formed, h) master)
    c.run_named.ensures.run

pub returns-in-Ok-clause-master : goal.returns-in-Ok-clause-master
returns-in-Ok-clause-master g c = λ past since start all formed h master.
    let D = g.D.Disk in
    let may_give = g.C.Clock.says.may_give c.args.clock.now in
    let sessions = c.args.sessions.items in
    let scripts = c.args.replicas.items in
    let requests = c.in-Ok.brought.requests.items in
    let asked = c.in-Ok.ensures.requests in
    let Ran : Type 0 = ThreadsRun g.row.D.Denot g.row.K.Denot in
    IfOk-weaker c.run_named.result _ (λ (ran : Ran). CanBeFollowed D.says past start (map (placed sessions) ran.order.items) ran.depot)
    (λ ran s. depot_followed D.says c.args.depot.tables.archive_end (D.says.may_leave (archive_disk_of c.args.depot.archive)) g.K.Sink.says may_give sessions scripts (map items_of requests) asked c.requires.as_many_replicas c.requires.apart
    c.in-Ok.brought.replicas.items c.in-Ok.ensures.replicas _ _ _ _ c.args.sinks.items c.requires.as_many ran s since past start all (all_proper may_give sessions requests asked formed, h) master)
    c.run_named.ensures.run

pub returns-in-Ok-clause-ran : goal.returns-in-Ok-clause-ran
returns-in-Ok-clause-ran g c = λ since start formed h.
    let D = g.D.Disk in
    let may_give = g.C.Clock.says.may_give c.args.clock.now in
    let sessions = c.args.sessions.items in
    let scripts = c.args.replicas.items in
    let requests = c.in-Ok.brought.requests.items in
    let asked = c.in-Ok.ensures.requests in
    let Ran : Type 0 = ThreadsRun g.row.D.Denot g.row.K.Denot in
    IfOk-weaker c.run_named.result _ (λ (ran : Ran). HasRun D.says ran.depot since start (map (placed sessions) ran.order.items))
    (λ ran s. depot_ran D.says c.args.depot.tables.archive_end (D.says.may_leave (archive_disk_of c.args.depot.archive)) g.K.Sink.says may_give sessions scripts (map items_of requests) asked c.requires.as_many_replicas c.requires.apart
    c.in-Ok.brought.replicas.items c.in-Ok.ensures.replicas _ _ _ _ c.args.sinks.items c.requires.as_many ran s since start (all_proper may_give sessions requests asked formed, h))
    c.run_named.ensures.run

pub returns-in-Ok-clause-ends : goal.returns-in-Ok-clause-ends
returns-in-Ok-clause-ends g c =
    let D = g.D.Disk in
    let may_give = g.C.Clock.says.may_give c.args.clock.now in
    let sessions = c.args.sessions.items in
    let scripts = c.args.replicas.items in
    let requests = c.in-Ok.brought.requests.items in
    let asked = c.in-Ok.ensures.requests in
    let Ran : Type 0 = ThreadsRun g.row.D.Denot g.row.K.Denot in
    IfOk-weaker c.run_named.result _ (λ (ran : Ran). AreEnds g.K.Sink.says sessions scripts ran.runs.items c.args.sinks.items ran.sinks.items)
    (λ ran s. all_ends D.says c.args.depot.tables.archive_end (D.says.may_leave (archive_disk_of c.args.depot.archive)) g.K.Sink.says may_give sessions scripts (map items_of requests) asked c.requires.as_many_replicas c.requires.apart
    c.in-Ok.brought.replicas.items c.in-Ok.ensures.replicas _ _ _ _ c.args.sinks.items c.requires.as_many ran s)
    c.run_named.ensures.run

pub returns-in-Ok-clause-can : goal.returns-in-Ok-clause-can
returns-in-Ok-clause-can g c =
    IfOk-weaker c.run_named.result _ (λ (ran : ThreadsRun g.row.D.Denot g.row.K.Denot). CanTake g.D.Disk.says ran.depot) (λ ran s. s.can) c.run_named.ensures.run

pub returns-in-Ok-clause-faults : goal.returns-in-Ok-clause-faults
returns-in-Ok-clause-faults g c =
    IfOk-weaker c.run_named.result _ (λ (ran : ThreadsRun g.row.D.Denot g.row.K.Denot). AreCaused (g.D.Disk.says.faults (disk_of c.args.depot.journal)) (g.D.Disk.says.faults (disk_of ran.depot.journal)) (g.D.Disk.says.faults (archive_disk_of c.args.depot.archive)) (g.D.Disk.says.faults (archive_disk_of ran.depot.archive)) [] ran.order.items) (λ ran s. faults_caused ran.order.items s.losses _ _ _ _ s.failures) c.run_named.ensures.run

pub returns-in-Ok-clause-lost : goal.returns-in-Ok-clause-lost
returns-in-Ok-clause-lost g c =
    IfOk-weaker c.run_named.result _ (λ (ran : ThreadsRun g.row.D.Denot g.row.K.Denot). ran.lost ≡ true → OneHasRisen (g.D.Disk.says.faults (disk_of c.args.depot.journal)) (g.D.Disk.says.faults (disk_of ran.depot.journal)) (g.D.Disk.says.faults (archive_disk_of c.args.depot.archive)) (g.D.Disk.says.faults (archive_disk_of ran.depot.archive))) (λ ran s. one_rose ran.order.items s.losses ran.lost _ _ _ _ s.told s.failures) c.run_named.ensures.run

pub returns-in-Ok-clause-stand : goal.returns-in-Ok-clause-stand
returns-in-Ok-clause-stand g c =
    IfOk-weaker c.run_named.result _ (λ (ran : ThreadsRun g.row.D.Denot g.row.K.Denot). ran.lost ≡ false → StandWithoutFaults (g.D.Disk.says.faults (disk_of c.args.depot.journal)) (g.D.Disk.says.faults (disk_of ran.depot.journal)) (g.D.Disk.says.faults (archive_disk_of c.args.depot.archive)) (g.D.Disk.says.faults (archive_disk_of ran.depot.archive)) [] ran.order.items) (λ ran s. s.stand) c.run_named.ensures.run
