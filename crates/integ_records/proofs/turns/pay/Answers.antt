use Rattle.std.proofs.Common.{Some, sym, ap, ◌∙◌}
use Rattle.depot_rows.specs.depot_path.Path.{is_path}
use Rattle.depot_rows.specs.depot_model.Deeds.{Paid}
use Rattle.depot_rows.specs.depot_model.Steps.Resolving.{paid}
use Rattle.depot_rows.specs.Deed.{held_of, owing_of}
use Rattle.depot_rows.specs.declared.deed.Deed.TheVariants as dones
use Rattle.depot_rows.specs.declared.deed.Held.{Held}
use Rattle.integ_records.proofs.Adding.{adds_one}
use Rattle.integ_records.proofs.turns.pay.Goals as goal

pub returns : goal.returns
returns c =
    let path = c.as_bytes-path.ensures in
    let from = c.as_bytes-from.ensures in
    let file = c.in_ok-file.ensures in
    let copy = c.in_ok-from.ensures in
    adds_one c.args.deeds.now c.paid.new.self (dones.Paid c.in_ok-file.file c.in_ok-from.from c.how_of.result) (paid c.args.taking (owing_of c.args.owing.now)) c.in_ok-paid.ensures.done
    (λ e. (
      λ i. Some (Paid (held_of (file i)) (copy i) (c.how_of.ensures i)),
      (ap (λ (h : Held). is_path h.path) file ∙ ap is_path (sym path.value) ∙ path.path, ap is_path copy ∙ ap is_path (sym from.value) ∙ from.path),
      tt,
    ))
