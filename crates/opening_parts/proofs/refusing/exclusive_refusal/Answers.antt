use Rattle.std.proofs.Common.{ℕ, List, Option, Some, sym, ap, ◌∙◌}
use Rattle.std.specs.Prelude.{option_map}
use Rattle.depot_rows.specs.depot_model.declared.refusal.Refusal.TheVariants.{ExclusiveOpen}
use Rattle.depot_rows.specs.depot_model.declared.reply.Row.{Row}
use Rattle.depot_rows.specs.depot_model.Refusals.{refusal_row}
use Rattle.opening_parts.proofs.refusing.exclusive_refusal.Goals as goal

pub returns-in_ok-row-in-Some : goal.returns-in_ok-row-in-Some
returns-in_ok-row-in-Some c = λ d sound working.
    ap (λ (r : Row). Some r) c.in_ok-row-in-Some.ensures
    ∙ ap (λ (o : Option (List ℕ)). option_map refusal_row (option_map (ExclusiveOpen c.args.path.now) o)) (sym c.in-Some.is ∙ c.in_ok-other.ensures d sound working)

pub returns-in-None : goal.returns-in-None
returns-in-None c = λ d sound working.
    ap (λ (o : Option (List ℕ)). option_map refusal_row (option_map (ExclusiveOpen c.args.path.now) o)) (sym c.in-None.is ∙ c.in_ok-other.ensures d sound working)
