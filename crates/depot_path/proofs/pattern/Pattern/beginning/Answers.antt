use Rattle.depot_path.proofs.Rows.{begins_literal}
use Rattle.depot_path.proofs.pattern.Pattern.beginning.Goals as goal

pub returns-in_err-bytes-clause-every : goal.returns-in_err-bytes-clause-every
returns-in_err-bytes-clause-every c = begins_literal c.args.self.now

pub returns-clause-every : goal.returns-clause-every
returns-clause-every c = begins_literal c.args.self.now
