use Rattle.std.proofs.Common.{◌≡◌, true, sym, ap, ◌∙◌}
use Rattle.table_locks.specs.Prepared.{are_held}
use Rattle.shared_depot.proofs.Held.{are_held_alike, end_still, held_else, none_else}
use Rattle.shared_depot.proofs.Outcomes.{due_after}
use Rattle.shared_depot.proofs.common.CommonDepot.settle.Goals as goal

pub returns-clause-settled : goal.returns-clause-settled
returns-clause-settled g c = λ request over.
    let confirmed = c.in-Some.confirmed in
    let is = rw c.self.view_is at c.in-Some.ensures.confirmed in
    let here = c.confirm.ensures.same ∙ c.self.view_is in
    let learnt = c.learn_held-archive.ensures in
    let held : are_held confirmed.held.items c.args.told.changes ≡ true = ap (are_held confirmed.held.items) (sym c.as_slice.ensures) ∙ (sym c.holds.ensures.held ∙ c.if-not-holds.false) in
    let still = sym (are_held_alike confirmed.held.items c.args.gathered.held.items is.held c.args.told.changes) ∙ held in
    record {
      gathered = c.args.gathered;
      confirmed = is;
      held = held;
      fit = rw c.as_slice.ensures at (c.holds.ensures.fit c.if-not-holds.false g.N.Naming.rows c.args.self.now c.args.gathered is (rw (c.as_slice.ensures, is.tables) over.fit));
      read = over.read;
      due = due_after over c.args.self.now (rw (c.self.view_is, is.tables) at c.in-Some.ensures.set) still (end_still _ _ _ _ _ over.ends (rw here at learnt.still)) (rw here at learnt.stores);
      archive = rw here at learnt.learnt;
      without = λ gone. none_else c.is_empty.result _ c.is_empty.ensures.0 (λ some. held_else _ _ _ _ over.ends (learnt.held some gone));
    }
