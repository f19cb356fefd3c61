use Rattle.std.proofs.Common.{ap, ◌∙◌}
use Rattle.std.specs.Prelude.{filter, flat_map}
use Rattle.depot_rows.specs.protect_table.Rights.{may}
use Rattle.depot_rows.specs.depot_model.Shelves.{kept_paths}
use Rattle.shelf_ops.specs.Kept.{listable_file}
use Rattle.shelf_ops.proofs.Sifted.{sifted}
use Rattle.shelf_ops.proofs.keeping.listable_files.Goals as goal

pub returns : goal.returns
returns c = λ d caller sound asked has.
    let n = c.args.change in
    let asker = c.args.asker.now in
    c.in_ok-files.ensures
    ∙ ap (flat_map (listable_file asker)) (c.as_slice.ensures ∙ c.in_ok-kept.ensures d sound has)
    ∙ sifted (λ path. may asker.protects asker.who path 1) (kept_paths d n)
    ∙ (λ i. filter (λ path. may (asked.protects i) (asked.who i) path 1) (kept_paths d n))
