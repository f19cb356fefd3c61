use Rattle.std.proofs.Common.{ap, ◌∙◌}
use Rattle.std.specs.List.{list_any}
use Rattle.lock_core.specs.Core.{is_working}
use Rattle.lock_core.proofs.Counterparts.{unfinished_same}
use Rattle.lock_core.proofs.machine.LockCore.unfinished.Goals as goal

pub returns : goal.returns
returns c = λ start s shows.
    c.any_working.ensures ∙ (ap (list_any is_working) c.deref.ensures.value ∙ unfinished_same s.order c.args.self.now.parties.items s.parties shows.parties)
