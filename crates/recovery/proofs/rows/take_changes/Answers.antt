use Rattle.std.proofs.Common.{◌≡◌, Bool, true, false, ◌∷◌, [], ◌++◌, reverse, ap, sym, ◌∙◌, rules}
use Rattle.depot_rows.specs.table_changes.Drafts.{rows_of_draft}
use Rattle.recovery.proofs.SomeMade.{misfit_told, next_fits, one_made}
use Rattle.recovery.proofs.rows.take_changes.Goals as goal

not_both : {b : Bool} → b ≡ false → b ≡ true → ⊥
not_both e h = cc

pub returns-then-not-fits-clause-only : goal.returns-then-not-fits-clause-only
returns-then-not-fits-clause-only c = λ fit.
    let at = c.loop-change in
    absurd (not_both c.if-not-fits.true (c.fits.ensures.1 (next_fits (rows_of_draft c.args.draft.now) (rows_of_draft at.draft) c.args.changes at.left.items c.pop.new.self.items c.in-Some.change at.invariant c.in-Some.ensures.items fit)))

pub returns-then-not-fits-clause-damaged : goal.returns-then-not-fits-clause-damaged
returns-then-not-fits-clause-damaged c =
    let at = c.loop-change in
    let next = c.in-Some.ensures.items in
    let back : c.push.new.self.items ≡ c.pop.new.self.items ++ c.in-Some.change ∷ [] = search rules in
    misfit_told (rows_of_draft c.args.draft.now) (rows_of_draft at.draft) c.args.changes at.left.items c.pop.new.self.items c.in-Some.change at.invariant next
    (Unit {0}) c.args.groups.now c.deref.result.now c.damaged_before.result (λ fits. not_both c.if-not-fits.true (c.fits.ensures.1 fits))
    (c.deref.ensures.value ∙ c.reverse-then-not-fits.ensures.items ∙ ap reverse (back ∙ sym next)) c.damaged_before.ensures.place

pub loop-change-preserved : goal.loop-change-preserved
loop-change-preserved c =
    let at = c.loop-change in
    one_made (rows_of_draft c.args.draft.now) (rows_of_draft at.draft) c.args.changes at.left.items c.pop.new.self.items c.in-Some.change at.invariant c.in-Some.ensures.items (rows_of_draft c.take.new.self)
    (c.fits.ensures.0 c.if-not-fits.false) c.in_ok-take.ensures.ok
