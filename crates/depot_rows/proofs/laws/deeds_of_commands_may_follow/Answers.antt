use Rattle.depot_rows.proofs.Allowed.{unlanded_change, new_change, pending_change, free_file}
use Rattle.depot_rows.proofs.Sorted.{landing_of_paths}
use Rattle.depot_rows.proofs.laws.deeds_of_commands_may_follow.Goals as goal

pub returns-clause-unlanded : goal.returns-clause-unlanded
returns-clause-unlanded c = unlanded_change

pub returns-clause-pending : goal.returns-clause-pending
returns-clause-pending c = pending_change

pub returns-clause-above : goal.returns-clause-above
returns-clause-above c = new_change

pub returns-clause-free : goal.returns-clause-free
returns-clause-free c = free_file

pub returns-clause-landed : goal.returns-clause-landed
returns-clause-landed c = λ d request n text l sound is. landing_of_paths d request n text l sound.paths is
