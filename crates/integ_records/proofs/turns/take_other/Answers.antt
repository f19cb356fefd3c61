use Rattle.std.proofs.Common.{◌∷◌, [], Some, true, refl, sym, ap, subst, ◌∙◌}
use Rattle.depot_rows.specs.depot_model.Deeds.{Open}
use Rattle.depot_rows.specs.depot_model.Steps.Resolving.{other_deeds}
use Rattle.depot_rows.specs.depot_model.declared.command.Taking.{Taking}
use Rattle.depot_rows.specs.Deed.{opening_of, owing_of}
use Rattle.depot_rows.specs.declared.deed.Opening.{Opening}
use Rattle.depot_rows.specs.declared.deed.Source.{Source}
use Rattle.integ_records.specs.Turns.{Adds, IsTurned, left_other}
use Rattle.integ_records.proofs.Adding.{adds_none}
use Rattle.integ_records.proofs.turns.take_other.Goals as goal

pub returns-in_ok-open_anew-in-Theirs : goal.returns-in_ok-open_anew-in-Theirs
returns-in_ok-open_anew-in-Theirs c =
    let owing = c.args.owing.now in
    let old = c.args.opening.now in
    let o = opening_of old in
    let r = owing_of owing in
    let now : Source → Opening = λ s. record old { source = Some s } in
    let is = c.rebase.ensures ∙ ap now c.in_ok-source-in-Theirs.ensures in
    subst (λ (t : Taking). IsTurned c.args.deeds.now c.open_anew.new.deeds (other_deeds t o r) (Some (left_other t o r)) true (opening_of c.rebase.new.opening)) (sym c.in-Theirs.is)
    (record {
      added = subst (λ (x : Opening). Adds c.args.deeds.now c.open_anew.new.deeds (Open (opening_of x) ∷ [])) is c.in_ok-open_anew-in-Theirs.ensures;
      left_is = ap (λ (x : Opening). Some (opening_of x)) (sym is);
    })

pub returns-in-Yours : goal.returns-in-Yours
returns-in-Yours c =
    let o = opening_of c.args.opening.now in
    let r = owing_of c.args.owing.now in
    subst (λ (t : Taking). IsTurned c.args.deeds.now c.args.deeds.now (other_deeds t o r) (Some (left_other t o r)) true o) (sym c.in-Yours.is)
    (record { added = adds_none c.args.deeds.now; left_is = refl })
