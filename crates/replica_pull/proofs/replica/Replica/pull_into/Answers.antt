use Rattle.std.proofs.Common.{inr}
use Rattle.outside_api.specs.Reaching.{once}
use Rattle.journal_groups.specs.declared.moved.Moved.{Moved}
use Rattle.replica_pull.specs.declared.fault.PullFault.{PullFault}
use Rattle.replica_pull.specs.Replica.{HasMoved, IsStopped}
use Rattle.replica_pull.proofs.Moves.{ok_on, err_on, fits_on, never_falls, no_link_fault}
use Rattle.replica_pull.proofs.replica.Replica.pull_into.Goals as goal

pub returns-in_err-fetched-clause-grows : goal.returns-in_err-fetched-clause-grows
returns-in_err-fetched-clause-grows g c = λ before told. let more = c.fetch.ensures.grows before told in (more.0, (more.1, inr more.2))

pub returns-clause-moved : goal.returns-clause-moved
returns-clause-moved g c =
    let f = c.in_ok-fetched.fetched in
    let buffer = c.fetch.new.buffer in
    ok_on Moved PullFault (HasMoved c.args.self.now c.follow-moved.new.self f buffer) _ c.follow-moved.result c.follow-moved.ensures.moved (λ m has. (f, (buffer, (has, (fits_on f _ 65536 c.in_ok-fetched.ensures.fits c.requires.most, (λ now told. let e = c.in_ok-fetched.ensures.answer now told in (e.0, (e.1, e.2))))))))

pub returns-clause-never_falls : goal.returns-clause-never_falls
returns-clause-never_falls g c = never_falls c.args.self.now c.follow-moved.new.self c.fetch.new.buffer c.in_ok-fetched.fetched c.follow-moved.result c.follow-moved.ensures.moved c.follow-moved.ensures.kept

pub returns-clause-stopped : goal.returns-clause-stopped
returns-clause-stopped g c =
    let f = c.in_ok-fetched.fetched in
    let buffer = c.fetch.new.buffer in
    err_on Moved PullFault (IsStopped c.args.self.now f buffer) _ c.follow-moved.result c.follow-moved.ensures.stopped (λ fault has. inr (f, (buffer, (has, (λ now told. let e = c.in_ok-fetched.ensures.answer now told in (e.0, (e.1, e.2)))))))

pub returns-clause-cause : goal.returns-clause-cause
returns-clause-cause g c = record {
  never_falls = c.fetch.ensures.cause.never_falls;
  risen = λ is. absurd (no_link_fault c.args.self.now c.fetch.new.buffer c.in_ok-fetched.fetched c.follow-moved.result c.follow-moved.ensures.stopped is);
}

pub returns-clause-grows : goal.returns-clause-grows
returns-clause-grows g c = λ before told. let more = c.fetch.ensures.grows before told in (more.0, (more.1, inr more.2))

pub returns-in_err-fetched-clause-reached : goal.returns-in_err-fetched-clause-reached
returns-in_err-fetched-clause-reached g c = once c.fetch.ensures.keeps

pub returns-clause-reached : goal.returns-clause-reached
returns-clause-reached g c = once c.fetch.ensures.keeps
