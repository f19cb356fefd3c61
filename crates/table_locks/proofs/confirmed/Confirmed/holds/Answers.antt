use Rattle.std.proofs.Common.{sym, ◌∙◌}
use Rattle.table_locks.proofs.Fitting.{fits_now}
use Rattle.table_locks.proofs.confirmed.Confirmed.holds.Goals as goal

pub returns-clause-fit : goal.returns-clause-fit
returns-clause-fit g c = λ yes start order gathered is fits. fits_now start order gathered c.args.self.now c.args.changes.now is (sym c.holds_each.ensures ∙ yes) fits
