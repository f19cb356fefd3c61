use Rattle.std.proofs.Common.{◌≡◌, true, sym, ap, ◌∙◌, arith}
use Rattle.std.specs.Prelude.{is_some}
use Rattle.depot_rows.specs.depot_model.Tables.{set_locks}
use Rattle.command_needs.specs.Sets.{locks_in, takes}
use Rattle.lock_core.specs.Works.{next_of}
use Rattle.lock_core.proofs.Passing.{no_more, within_all}
use Rattle.lock_core.proofs.work.Work.gather.Goals as goal

pub overflow_add-self : goal.overflow_add-self
overflow_add-self c =
    let w = c.args.self.now in
    let some : is_some (next_of w) ≡ true = ap is_some (sym c.next_lock.ensures) ∙ (sym c.is_some.ensures ∙ c.if-is_some.true) in
    let within = within_all (locks_in w.needs) w.done some in
    let few = no_more (takes w.needs) set_locks in
    omega arith
