use Rattle.std.proofs.Common.{Some, sym, ap, ◌∙◌}
use Rattle.depot_rows.specs.depot_path.Path.{is_path}
use Rattle.depot_rows.specs.depot_model.Deeds.{Open}
use Rattle.depot_rows.specs.Deed.{opening_of}
use Rattle.depot_rows.specs.declared.deed.Deed.TheVariants as dones
use Rattle.depot_rows.specs.declared.deed.Opening.{Opening}
use Rattle.integ_records.proofs.Adding.{adds_one}
use Rattle.integ_records.proofs.turns.open_anew.Goals as goal

pub returns : goal.returns
returns c =
    let path = c.as_bytes-path.ensures in
    let copy = c.in_ok-copy.ensures in
    adds_one c.args.deeds.now c.open.new.self (dones.Open c.in_ok-copy.copy) (Open (opening_of c.args.opening.now)) c.in_ok-open.ensures.done
    (λ e. (ap (λ (o : Opening). Some (Open (opening_of o))) copy, ap (λ (o : Opening). is_path o.path) copy ∙ ap is_path (sym path.value) ∙ path.path, tt))
