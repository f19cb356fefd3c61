use Rattle.std.proofs.Common.{ℕ, List, Option, true, false, sym, ap, ◌∙◌}
use Rattle.std.specs.Option.{option_map_or}
use Rattle.depot_rows.specs.depot_path.Bytes.{same}
use Rattle.opened_files.proofs.Ends.{partner_by}
use Rattle.opened_files.proofs.partners.partner_of.Goals as goal

pub returns-then-is_end : goal.returns-then-is_end
returns-then-is_end c = λ d sound working.
    let path = c.args.path.now in
    partner_by d c.args.client.now path c.in-Some.other true (sym c.in-Some.is ∙ c.in_ok-other.ensures d sound working)
    (sym c.if-is_end.true ∙ c.is_end.ensures ∙ ap (λ (o : Option (List ℕ)). option_map_or (same path) o false) (c.in_ok-back-in-Some.ensures d sound working))

pub returns-else-is_end : goal.returns-else-is_end
returns-else-is_end c = λ d sound working.
    let path = c.args.path.now in
    partner_by d c.args.client.now path c.in-Some.other false (sym c.in-Some.is ∙ c.in_ok-other.ensures d sound working)
    (sym c.if-is_end.false ∙ c.is_end.ensures ∙ ap (λ (o : Option (List ℕ)). option_map_or (same path) o false) (c.in_ok-back-in-Some.ensures d sound working))
