use Rattle.std.proofs.Common.{ℕ, List, arith}
use Rattle.std.proofs.lemmas.List.{length-map}
use Rattle.std.specs.Borrow.{Bor}
use Rattle.p4_server.proofs.Readings.{are_apart}
use Rattle.p4_server.proofs.Ran.{ends_count, ends_of, run_from, runs_count, sinks_count}
use Rattle.p4_server.proofs.party.run_parties.Goals as goal

pub run_sessions-requires-clause-as_many : goal.run_sessions-requires-clause-as_many
run_sessions-requires-clause-as_many g c =
    let come = c.in-Ok.ensures.came in
    let read = c.in-Ok-read_scripts.ensures.read in
    omega (arith, come.sources_count, come.sinks_count, read.sessions_count)

pub run_sessions-requires-clause-as_many_replicas : goal.run_sessions-requires-clause-as_many_replicas
run_sessions-requires-clause-as_many_replicas g c =
    let read = c.in-Ok-read_scripts.ensures.read in
    omega (arith, read.replicas_count, read.sessions_count)

pub run_sessions-requires-clause-apart : goal.run_sessions-requires-clause-apart
run_sessions-requires-clause-apart g c = are_apart _ _ _ _ _ _ c.in-Ok-read_scripts.ensures.read

pub run_sessions-requires-clause-few : goal.run_sessions-requires-clause-few
run_sessions-requires-clause-few g c = c.in-Ok-read_scripts.ensures.few.sessions_few

pub run_sessions-requires-clause-few_replicas : goal.run_sessions-requires-clause-few_replicas
run_sessions-requires-clause-few_replicas g c = c.in-Ok-read_scripts.ensures.few.replicas_few

pub run_sessions-requires-clause-few_parties : goal.run_sessions-requires-clause-few_parties
run_sessions-requires-clause-few_parties g c =
    let come = c.in-Ok.ensures.came in
    let read = c.in-Ok-read_scripts.ensures.read in
    let same = length-map c.args.names.now (λ (word : Bor (List ℕ)). word.now) in
    omega (arith, come.sources_count, read.sessions_count, same, c.requires.few)

pub returns-in-Ok-run_sessions-clause-told : goal.returns-in-Ok-run_sessions-clause-told
returns-in-Ok-run_sessions-clause-told g c =
    let come = c.in-Ok.ensures.came in
    let read = c.in-Ok-read_scripts.ensures.read in
    let turns = c.in-Ok-run_sessions.ensures.ends in
    let same = length-map c.args.names.now (λ (word : Bor (List ℕ)). word.now) in
    let all = sinks_count _ _ _ _ _ _ _ _ _ _ _ _ _ come read turns in
    record {
      runs = runs_count _ _ _ _ _ _ _ _ _ _ _ _ _ come read turns;
      ends = ends_count _ _ _ _ _ _ _ _ _ _ _ _ _ come read turns;
      few = omega (arith, all, same, c.requires.few);
    }

pub returns-in-Ok-run_sessions-clause-ends : goal.returns-in-Ok-run_sessions-clause-ends
returns-in-Ok-run_sessions-clause-ends g c =
    ends_of _ _ _ _ _ _ _ _ _ _ _ _ _ c.in-Ok.ensures.came c.in-Ok-read_scripts.ensures.read c.in-Ok-run_sessions.ensures.ends

pub returns-in-Ok-run_sessions-clause-run : goal.returns-in-Ok-run_sessions-clause-run
returns-in-Ok-run_sessions-clause-run g c = λ since start ran.
    let formed = c.in-Ok-read_scripts.ensures.formed.sessions_formed in
    let replicas_formed = c.in-Ok-read_scripts.ensures.formed.replicas_formed in
    let run = c.in-Ok-run_sessions.ensures in
    let counted = run.counted since start formed ran in
    rw c.from_vec.ensures (run_from _ _ _ _ _ _ _ _ _ _ _ _ _ c.in-Ok.ensures.came c.in-Ok-read_scripts.ensures.read run.ends _ _ since start _ _ _ _ _ (run.served since start formed ran) (counted.served replicas_formed) _
    (λ past began. counted.told replicas_formed past began.0 began.1) _
    (run.ran since start formed ran) (λ past began. run.master past since start began.0 formed ran began.1) counted.drawn)

pub returns-in-Ok-run_sessions-clause-faults : goal.returns-in-Ok-run_sessions-clause-faults
returns-in-Ok-run_sessions-clause-faults g c = rw c.from_vec.ensures c.in-Ok-run_sessions.ensures.faults

pub returns-in-Ok-run_sessions-clause-stand : goal.returns-in-Ok-run_sessions-clause-stand
returns-in-Ok-run_sessions-clause-stand g c = rw c.from_vec.ensures c.in-Ok-run_sessions.ensures.stand
