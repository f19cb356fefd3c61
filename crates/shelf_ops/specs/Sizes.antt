-- The sizes of the blocks in the forms that deeds save.
use Rattle.std.specs.Prelude.{ℕ}
use Rattle.depot_rows.specs.depot_model.Shelves.{block_size}
use Rattle.depot_rows.specs.declared.deed.Deed.{Deed}
use Rattle.depot_rows.specs.declared.deed.Deed.TheVariants.{Spec}

abbrev pub size_by : Deed → ℕ
size_by (Spec kind name form) = block_size form
size_by _ = 0
