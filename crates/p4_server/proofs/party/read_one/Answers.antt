use Rattle.std.proofs.Common.{◌≤◌, length, Option}
use Rattle.std.proofs.lemmas.List.Elements.{All-push}
use Rattle.depot_rows.specs.depot_model.declared.request.Session.{Session}
use Rattle.session_loop.specs.Asking.{AreWellFormed, commands_of, replica_commands}
use Rattle.session_loop.specs.declared.reading.ReplicaScript.{ReplicaScript}
use Rattle.p4_server.proofs.Readings.{read_more}
use Rattle.p4_server.proofs.party.read_one.Goals as goal

pub returns-clause-read : goal.returns-clause-read
returns-clause-read g c = λ before so_far.
    let added = c.in_ok-add_script.ensures in
    rw (added.sources, added.sessions, added.replicas, added.ends) (read_more _ before _ _ _ _ c.args.source _ _ _ _ so_far (record { asked = c.in_ok-read.ensures.read; apart = c.in_ok-read.ensures.apart }))

pub returns-clause-formed : goal.returns-clause-formed
returns-clause-formed g c = λ all.
    let read = c.in_ok-read.ensures in
    let added = c.in_ok-add_script.ensures in
    rw (added.sessions, added.replicas) (record {
      sessions_formed = All-push (λ (session : Option Session). AreWellFormed (commands_of session)) _ _ all.sessions_formed read.formed;
      replicas_formed = All-push (λ (replica : Option ReplicaScript). AreWellFormed (replica_commands replica)) _ _ all.replicas_formed read.formed_of_replica;
    })

pub returns-clause-few : goal.returns-clause-few
returns-clause-few g c = λ all.
    let read = c.in_ok-read.ensures in
    let added = c.in_ok-add_script.ensures in
    rw (added.sessions, added.replicas) (record {
      sessions_few = All-push (λ (session : Option Session). length (commands_of session) ≤ 67108864) _ _ all.sessions_few read.few;
      replicas_few = All-push (λ (replica : Option ReplicaScript). length (replica_commands replica) ≤ 67108864) _ _ all.replicas_few read.few_of_replica;
    })
