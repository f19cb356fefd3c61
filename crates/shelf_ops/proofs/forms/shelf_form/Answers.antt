use Rattle.std.proofs.Common.{ap, ◌∙◌, sym}
use Rattle.std.specs.Option.{option_copied}
use Rattle.depot_rows.specs.depot_path.Name.{is_name}
use Rattle.depot_rows.specs.Deed.{opening_of}
use Rattle.shelf_ops.proofs.FormTexts.{kept_is}
use Rattle.shelf_ops.proofs.forms.shelf_form.Goals as goal

pub returns-in-Ok : goal.returns-in-Ok
returns-in-Ok c = λ d client path sound is.
    let user = c.as_bytes-user.ensures in
    let own = c.as_bytes-client.ensures in
    kept_is c.args.caller.now (opening_of c.args.opening.now) (option_copied c.args.block) (ap is_name (sym user.value) ∙ user.named) (ap is_name (sym own.value) ∙ own.named)
    d sound client path is c.as_bytes.result.now c.in-Ok.form (c.as_bytes.ensures ∙ c.in_ok-text.ensures) c.in-Ok.ensures.read
