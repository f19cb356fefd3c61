use Rattle.std.proofs.Common.{List, ◌++◌, Some, sym, ap, subst, ◌∙◌}
use Rattle.depot_rows.specs.depot_path.Path.{is_path}
use Rattle.depot_rows.specs.depot_model.Steps.Moving.{renamed}
use Rattle.depot_rows.specs.Deed.{opening_of}
use Rattle.depot_rows.specs.Effects.{Follow}
use Rattle.depot_rows.specs.declared.deed.Deed.{Deed}
use Rattle.opened_files.proofs.Moves.{end_renamed, end_stays}
use Rattle.opened_files.proofs.moving.add_renamed.Goals as goal

pub returns-then-is_left : goal.returns-then-is_left
returns-then-is_left c = λ e done was.
    let other = c.args.other.now in
    let t = c.args.target.now in
    let here = c.as_bytes-path.ensures in
    subst (λ (l : List Deed). Follow e l (done ++ renamed c.args.change t (Some (opening_of other)))) (sym c.in_ok-open.ensures.done)
    (end_renamed e done c.args.deeds.now c.args.change other t was c.in_ok-end.end c.in_ok-end.ensures (ap is_path (sym here.value) ∙ here.path) (sym c.if-is_left.true ∙ c.is_left.ensures))

pub returns : goal.returns
returns c = λ e done was. end_stays e done c.args.deeds.now c.args.change c.args.other.now c.args.target.now was (sym c.if-is_left.false ∙ c.is_left.ensures)
