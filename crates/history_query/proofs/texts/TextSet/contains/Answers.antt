use Rattle.std.proofs.Common.{List, ℕ, ap, ◌∙◌}
use Rattle.std.specs.List.{list_any}
use Rattle.depot_rows.specs.depot_path.Bytes.{same}
use Rattle.history_query.proofs.Taken.{contains_is}
use Rattle.history_query.proofs.texts.TextSet.contains.Goals as goal

pub returns : goal.returns
returns c =
    c.contains.ensures ∙ contains_is c.args.text.now c.self.inside.texts.keys ∙ ap (λ (texts : List (List ℕ)). list_any (same c.args.text.now) texts) c.self.view_is
