use Rattle.std.proofs.Common.{◌≡◌, ℕ, List, sym, ◌∙◌}
use Rattle.std.specs.Prelude.{Option, Some, None}
use Rattle.depot_rows.specs.view_map.Mapping.{after_deciding, at_path, path_in}
use Rattle.depot_rows.specs.view_map.declared.line.ViewLine.{ViewLine}
use Rattle.depot_rows.specs.view_map.declared.mapped.Mapped.TheVariants.{At}
use Rattle.named_files.proofs.asker.Asker.place.Goals as goal

-- a place that the view gives is that of the file
placed : (later : List ViewLine) (o : Option (List ℕ)) (path : List ℕ) (rivals : List (List ℕ)) → at_path later o ≡ At path rivals → Some path ≡ o
placed later None path rivals e = absurd cc
placed later (Some there) path rivals e = cc

pub returns-in-At : goal.returns-in-At
returns-in-At c =
    let view = c.args.self.now.view in
    let file = c.args.path.now in
    placed (after_deciding view file) (path_in view file) c.in-At.path c.in-At.rivals (sym c.in_ok-path.ensures.value ∙ c.in-At.is)
