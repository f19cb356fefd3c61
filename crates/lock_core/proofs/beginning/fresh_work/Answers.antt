use Rattle.std.proofs.Common.{refl}
use Rattle.command_needs.proofs.Listed.{listed}
use Rattle.lock_core.proofs.beginning.fresh_work.Goals as goal

pub returns-clause-fresh : goal.returns-clause-fresh
returns-clause-fresh c = record {
  stage = refl;
  second = refl;
  done = refl;
  stale = refl;
  set = listed c.request_needs-needs.result c.args.request c.request_needs-needs.ensures;
}
