use Rattle.std.proofs.Common.{None, ◌∙◌}
use Rattle.shelf_ops.proofs.Unshelved.{kept_fits}
use Rattle.shelf_ops.proofs.kept_openings.kept_opening.Goals as goal

pub returns : goal.returns
returns c = λ d n sound kept.
    let fits = kept_fits d sound n c.args.path.now c.args.form.now kept in
    λ i. record {
      client = c.in_ok-client.ensures i;
      path = c.in_ok-file.ensures i;
      base = c.kept_base-base.ensures fits.0 i;
      action = c.kept_action-action.ensures i;
      file_type = (c.in_ok-file_type.ensures ∙ c.form_value-word.ensures) i;
      change = c.args.change;
      source = c.in_ok-source.ensures fits.1 i;
      moved = None;
    }
