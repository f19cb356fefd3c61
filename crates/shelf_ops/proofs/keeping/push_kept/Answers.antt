use Rattle.std.proofs.Common.{ap, ◌∙◌}
use Rattle.std.specs.Prelude.{is_some}
use Rattle.depot_rows.specs.depot_model.Shelves.{kept}
use Rattle.shelf_ops.proofs.Sifted.{left_out, put_in}
use Rattle.shelf_ops.proofs.keeping.push_kept.Goals as goal

pub returns-in_ok-put_path : goal.returns-in_ok-put_path
returns-in_ok-put_path c = λ d sound has.
    put_in (is_some (kept d c.args.change c.args.path.now)) c.args.path.now c.args.files.now c.put_path.new.paths c.is_some-kept.result
    (c.is_some-kept.ensures ∙ ap is_some (c.in_ok-form.ensures d sound has)) c.if-kept.true c.in_ok-put_path.ensures

pub returns-else-kept : goal.returns-else-kept
returns-else-kept c = λ d sound has.
    left_out (is_some (kept d c.args.change c.args.path.now)) c.args.path.now c.args.files.now c.is_some-kept.result
    (c.is_some-kept.ensures ∙ ap is_some (c.in_ok-form.ensures d sound has)) c.if-kept.false
