use Rattle.std.proofs.Common.{◌≤◌, ◌<◌, ◌^◌, ℕ, Result, Ok, Err, IfOk, subst, arith, ◌∙◌}
use Rattle.outside_api.specs.Moments.{started, goes_on}
use Rattle.recovery.specs.Looking.{OnlyReads}
use Rattle.recovery.proofs.Looks.{reads_on, rises_on}
use Rattle.recovery.proofs.PassedOn.{unless_anyway, unless_failed, unless_weaker}
use Rattle.recovery.proofs.contents.read_contents.Goals as goal

if_ok : {X E : Type 0} (r : Result X E) (P Q : X → Type 0) → ((x : X) → P x → Q x) → IfOk r P → IfOk r Q
if_ok (Ok x) P Q leads has = leads x has
if_ok (Err e) P Q leads has = tt

below : (limit : ℕ) (end : ℕ) → limit < 2 ^ 63 → end ≤ limit → end < 2 ^ 63
below limit end small within = omega (arith, small, within)

pub returns-clause-end : goal.returns-clause-end
returns-clause-end g c = if_ok c.check_rows.result _ _ (λ end has. has.0) c.check_rows.ensures.end

pub returns-clause-within : goal.returns-clause-within
returns-clause-within g c = λ files read. if_ok c.check_rows.result _ _ (λ end has. subst (λ (n : ℕ). end ≤ n) (c.in_ok-limit.ensures.length files read) has.1) c.check_rows.ensures.end

pub returns-clause-small : goal.returns-clause-small
returns-clause-small g c = if_ok c.check_rows.result _ _ (λ end has. below c.in_ok-limit.limit end c.in_ok-limit.ensures.small has.1) c.check_rows.ensures.end

pub returns-clause-whole : goal.returns-clause-whole
returns-clause-whole g c = λ files read. c.check_rows.ensures.whole files (c.length.ensures.same.kept files read) (c.in_ok-limit.ensures.length files read)

pub returns-clause-damaged : goal.returns-clause-damaged
returns-clause-damaged g c = λ files read. c.check_rows.ensures.damaged files (c.length.ensures.same.kept files read) (c.in_ok-limit.ensures.length files read)

pub returns-clause-reads : goal.returns-clause-reads
returns-clause-reads g c =
    let old = c.args.disk.now in
    let mid = c.length.new.self in
    let first : OnlyReads g.D.Disk.says old mid = record {
      same = c.length.ensures.same;
      no_more = c.length.ensures.crash;
      any_moment = goes_on g.D.Disk.says old old mid (g.D.Disk.says.may_leave old) (started g.D.Disk.says old (g.D.Disk.says.may_leave old) (g.met.D.Disk.only_now old)) c.length.ensures.time c.length.ensures.crash;
    } in
    reads_on g.D.Disk.says old mid c.check_rows.new.disk first c.check_rows.ensures.reads

both : (before mid now : ℕ) → before ≤ mid → mid ≤ now → before ≤ now
both before mid now first second = omega (arith, first, second)

pub returns-clause-cause : goal.returns-clause-cause
returns-clause-cause g c = record {
  never_falls = both (g.D.Disk.says.faults c.args.disk.now) (g.D.Disk.says.faults c.length.new.self) (g.D.Disk.says.faults c.check_rows.new.disk) c.length.ensures.cause.never_falls c.check_rows.ensures.cause.never_falls;
  risen = λ e. rises_on (g.D.Disk.says.faults c.args.disk.now) (g.D.Disk.says.faults c.length.new.self) (g.D.Disk.says.faults c.check_rows.new.disk) c.length.ensures.cause.never_falls (c.check_rows.ensures.cause.risen e);
}

pub returns-in_err-limit-clause-unfailed : goal.returns-in_err-limit-clause-unfailed
returns-in_err-limit-clause-unfailed g c = unless_failed c.from_residual.result _ c.from_residual.ensures.1

pub returns-in_err-piece-clause-unfailed : goal.returns-in_err-piece-clause-unfailed
returns-in_err-piece-clause-unfailed g c = unless_anyway c.from_residual-in_err-piece.result _ c.in_ok-limit.ensures.only

pub returns-clause-unfailed : goal.returns-clause-unfailed
returns-clause-unfailed g c = unless_weaker c.check_rows.result _ _ (λ stands. stands ∙ c.in_ok-limit.ensures.only) c.check_rows.ensures.unfailed
