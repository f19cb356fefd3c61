use Rattle.std.proofs.Common.{◌≡◌, ◌≤◌, ℕ, ◌+◌, Option, arith, sym, ap, ◌∙◌}
use Rattle.std.specs.Prelude.{unwrap_or}
use Rattle.depot_rows.specs.depot_model.Numbers.{top}
use Rattle.depot_rows.specs.depot_model.Records.{record_of}
use Rattle.depot_rows.specs.depot_model.Rules.{top_in}
use Rattle.depot_rows.proofs.ChangeCounter.{top_value}
use Rattle.change_lists.proofs.saving.number_or_next.Goals as goal

pub returns-in_ok-top-in-None : goal.returns-in_ok-top-in-None
returns-in_ok-top-in-None c = λ d sound has.
    let small : top_in (record_of d) ≤ 2147483647 = sound.rules.top_fits in
    let value : top_in (record_of d) ≡ top d = top_value d in
    let is : c.in_ok-top-in-None.top ≡ top d = c.in_ok-top-in-None.ensures d has in
    let next : c.saturating_add.result ≡ top d + 1 = omega (arith, small, value, is) in
    next ∙ ap (λ (n : Option ℕ). unwrap_or n (top d + 1)) (sym c.in-None.is)
