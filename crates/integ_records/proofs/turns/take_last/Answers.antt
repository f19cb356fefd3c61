use Rattle.std.proofs.Common.{◌∷◌, [], subst}
use Rattle.depot_rows.specs.depot_model.Deeds.{Got, Open}
use Rattle.depot_rows.specs.depot_model.Steps.Resolving.{held_of}
use Rattle.depot_rows.specs.Deed.{opening_of, owing_of}
use Rattle.depot_rows.specs.declared.deed.Opening.{Opening}
use Rattle.integ_records.specs.Turns.{Adds}
use Rattle.integ_records.proofs.Adding.{adds_more}
use Rattle.integ_records.proofs.turns.take_last.Goals as goal

pub returns-clause-deeds : goal.returns-clause-deeds
returns-clause-deeds c =
    let owing = c.args.owing.now in
    subst (λ (o : Opening). Adds c.args.deeds.now c.open_anew.new.deeds (Got (held_of (owing_of owing)) owing.last ∷ Open (opening_of o) ∷ [])) c.rebase.ensures
    (adds_more c.args.deeds.now c.get.new.deeds c.open_anew.new.deeds (Got (held_of (owing_of owing)) owing.last ∷ []) (Open (opening_of c.rebase.new.opening) ∷ []) c.in_ok-get.ensures
    c.in_ok-open_anew.ensures)
