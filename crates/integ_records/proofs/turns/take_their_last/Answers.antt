use Rattle.std.proofs.Common.{◌≡◌, ◌∷◌, [], Bool, true, false, Some, refl, sym, ap, subst, ◌∙◌}
use Rattle.depot_rows.specs.depot_model.Deeds.{Got, Open, Shut}
use Rattle.depot_rows.specs.depot_model.Revisions.{is_live_at}
use Rattle.depot_rows.specs.depot_model.Steps.Resolving.{held_of}
use Rattle.depot_rows.specs.depot_model.declared.command.Taking.TheVariants.{Theirs}
use Rattle.depot_rows.specs.Deed.{opening_of, owing_of}
use Rattle.depot_rows.specs.declared.deed.Opening.{Opening}
use Rattle.depot_rows.specs.declared.deed.Source.{Source}
use Rattle.integ_records.specs.Turns.{Adds, IsTurned, left_own}
use Rattle.integ_records.proofs.Adding.{adds_more}
use Rattle.integ_records.proofs.Turning.{own_by}
use Rattle.integ_records.proofs.turns.take_their_last.Goals as goal

pub returns-in_ok-take_last : goal.returns-in_ok-take_last
returns-in_ok-take_last c = λ d has.
    let owing = c.args.owing.now in
    let old = c.args.opening.now in
    let o = opening_of old in
    let r = owing_of owing in
    let live : true ≡ is_live_at d owing.path owing.last = sym c.if-live.true ∙ c.in_ok-live.ensures d has in
    let now : Source → Opening = λ s. record old { base = owing.last; source = Some s } in
    subst (λ (b : Bool). IsTurned c.args.deeds.now c.take_last.new.deeds (own_by b Theirs o r) (left_own b Theirs o r) true (opening_of c.take_last.new.opening)) live
    (record {
      added =
          subst (λ (s : Source). Adds c.args.deeds.now c.take_last.new.deeds (Got (held_of r) owing.last ∷ Open (opening_of (now s)) ∷ [])) c.in_ok-source.ensures c.in_ok-take_last.ensures.deeds;
      left_is = ap (λ (s : Source). Some (opening_of (now s))) (sym c.in_ok-source.ensures) ∙ ap (λ (x : Opening). Some (opening_of x)) (sym c.in_ok-take_last.ensures.opening);
    })

pub returns-in_ok-shut : goal.returns-in_ok-shut
returns-in_ok-shut c = λ d has.
    let owing = c.args.owing.now in
    let o = opening_of c.args.opening.now in
    let r = owing_of owing in
    let live : false ≡ is_live_at d owing.path owing.last = sym c.if-live.false ∙ c.in_ok-live.ensures d has in
    subst (λ (b : Bool). IsTurned c.args.deeds.now c.shut.new.deeds (own_by b Theirs o r) (left_own b Theirs o r) false o) live
    (record {
      added = adds_more c.args.deeds.now c.get.new.deeds c.shut.new.deeds (Got (held_of r) 0 ∷ []) (Shut (held_of r) ∷ []) c.in_ok-get.ensures c.in_ok-shut.ensures;
      left_is = refl;
    })
