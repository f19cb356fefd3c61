-- A file that is kept in a change no more (Command-Line Reference, "p4 shelve", option -d).
use Rattle.std.specs.Prelude.{ℕ, List, [], ◌∷◌, codes}
use Rattle.depot_rows.specs.depot_model.declared.reply.Row.{Row}
use Rattle.depot_rows.specs.depot_model.Deeds.{ShelfForm, Spec}
use Rattle.depot_rows.specs.depot_model.Rows.{path_field, row, text_field}
use Rattle.depot_rows.specs.depot_model.Shelves.{gone_form, shelf_name}
use Rattle.depot_rows.specs.depot_model.Step.{Step, does}

abbrev pub removed_row : List ℕ → Row
removed_row path = row (path_field (codes "depotFile") path ∷ text_field (codes "action") (codes "deleted") ∷ [])

abbrev pub removal : ℕ → List ℕ → Step
removal n path = does (Spec ShelfForm (shelf_name n path) (gone_form n path) ∷ []) (removed_row path)
