use Rattle.depot_model.proofs.Filters.{HasRead}
use Rattle.depot_model.proofs.filter.Filter.read.Given as goal

abbrev pub invariant-loop-i : goal.invariant-loop-i
invariant-loop-i l = HasRead l.words l.rules l.i
