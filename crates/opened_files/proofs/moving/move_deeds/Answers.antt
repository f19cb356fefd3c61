use Rattle.std.proofs.Common.{List, true, false, refl, sym, subst, ◌∙◌}
use Rattle.depot_rows.specs.depot_model.Deeds.{Deed}
use Rattle.depot_rows.specs.Deed.{action_of}
use Rattle.depot_rows.specs.Effects.{Follow}
use Rattle.opened_files.specs.Moves.{is_move_add}
use Rattle.opened_files.proofs.Moves.{deeds_are}
use Rattle.opened_files.proofs.moving.move_deeds.Goals as goal

pub returns-then-is_added : goal.returns-then-is_added
returns-then-is_added c = λ d e sound has own head_is.
    let o = c.args.opening.now in
    subst (λ (x : List Deed). Follow e c.in_ok-deeds.deeds x) (deeds_are e c.args.change o c.args.target.now true (is_move_add (action_of o.action)) (sym c.if-is_added.true ∙ c.is_added.ensures) refl)
    (c.in_ok-deeds.ensures e head_is)

pub returns-then-is_moved : goal.returns-then-is_moved
returns-then-is_moved c = λ d e sound has own head_is.
    let o = c.args.opening.now in
    subst (λ (x : List Deed). Follow e c.in_ok-deeds-2.deeds x)
    (deeds_are e c.args.change o c.args.target.now false true (sym c.if-is_added.false ∙ c.is_added.ensures) (sym c.if-is_moved.true ∙ c.is_moved.ensures))
    (c.in_ok-deeds-2.ensures d e sound has own head_is)

pub returns : goal.returns
returns c = λ d e sound has own head_is.
    let o = c.args.opening.now in
    subst (λ (x : List Deed). Follow e c.in_ok-deeds-3.deeds x)
    (deeds_are e c.args.change o c.args.target.now false false (sym c.if-is_added.false ∙ c.is_added.ensures) (sym c.if-is_moved.false ∙ c.is_moved.ensures))
    (c.in_ok-deeds-3.ensures e head_is)
