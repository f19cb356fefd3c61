use Rattle.std.proofs.Common.{◌∷◌, ℕ, List, [], refl, sym, ap, ◌∙◌, subst}
use Rattle.depot_rows.specs.depot_model.Deeds.{Count}
use Rattle.depot_rows.specs.depot_model.Steps.Counters.{counter_row}
use Rattle.depot_rows.specs.Effects.{Follow}
use Rattle.depot_rows.specs.declared.deed.Deed.TheVariants as deeds
use Rattle.spec_ops.proofs.Made.{does_made}
use Rattle.spec_ops.proofs.counters.count.Goals as goal

pub returns : goal.returns
returns c = λ all d.
    let name = c.args.name.now in
    let value = c.args.value in
    does_made all d (deeds.Count c.in_ok-name.name value) (Count name value) c.in_ok-row.row (counter_row name c.args.shown) c.in_ok-step.step c.count.new.self
    (subst (λ (n : List ℕ). Follow d (deeds.Count n value ∷ []) (Count name value ∷ [])) (sym c.in_ok-name.ensures) (refl, tt, tt))
    (c.in_ok-row.ensures ∙ ap (λ (n : List ℕ). counter_row n c.args.shown) c.as_bytes.ensures.value) refl c.in_ok-step.ensures c.in_ok-count.ensures.done
