use Rattle.std.proofs.Common.{ap, ◌∙◌, sym}
use Rattle.depot_rows.specs.depot_path.Path.{is_path}
use Rattle.shelf_ops.proofs.FormTexts.{gone_is}
use Rattle.shelf_ops.proofs.forms.gone_form.Goals as goal

pub returns-in-Ok : goal.returns-in-Ok
returns-in-Ok c =
    let bytes = c.as_bytes-bytes.ensures in
    gone_is c.args.change c.args.path.now (ap is_path (sym bytes.value) ∙ bytes.path) c.as_bytes.result.now c.in-Ok.form
    (c.as_bytes.ensures ∙ c.in_ok-text.ensures) c.in-Ok.ensures.read
