use Rattle.std.proofs.Common.{Some, sym, ap, ◌∙◌}
use Rattle.depot_rows.specs.depot_path.Path.{is_path}
use Rattle.depot_rows.specs.depot_model.Deeds.{Shut}
use Rattle.depot_rows.specs.depot_model.Steps.Resolving.{held_of as own_file}
use Rattle.depot_rows.specs.Deed.{held_of, owing_of}
use Rattle.depot_rows.specs.declared.deed.Deed.TheVariants as dones
use Rattle.depot_rows.specs.declared.deed.Held.{Held}
use Rattle.integ_records.proofs.Adding.{adds_one}
use Rattle.integ_records.proofs.turns.shut.Goals as goal

pub returns : goal.returns
returns c =
    let path = c.as_bytes-path.ensures in
    let file = c.in_ok-file.ensures in
    adds_one c.args.deeds.now c.shut.new.self (dones.Shut c.in_ok-file.file) (Shut (own_file (owing_of c.args.owing.now))) c.in_ok-shut.ensures.done
    (λ e. (λ i. Some (Shut (held_of (file i))), ap (λ (h : Held). is_path h.path) file ∙ ap is_path (sym path.value) ∙ path.path, tt))
