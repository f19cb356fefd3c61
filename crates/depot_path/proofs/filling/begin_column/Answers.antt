use Rattle.std.proofs.Common.{true, [], ◌∷◌, ◌++◌, ap, ◌∙◌}
use Rattle.depot_path.proofs.Columns.{begun}
use Rattle.depot_path.proofs.filling.begin_column.Goals as goal

pub returns : goal.returns
returns c = begun c.args.text.now c.push.new.self.items (cc c.in_ok-push.ensures.items ∙ ap (λ xs. xs ++ true ∷ []) (c.in_ok-column.ensures.items_if_clones_equal (λ y h. h)))
