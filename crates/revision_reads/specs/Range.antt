-- The change and the moment by which a revision was made, and whether a range asks for it at a choice (Command-Line Reference, "File
-- specifications", on revision ranges).
use Rattle.std.specs.Prelude.{ℕ, Bool, ◌&&◌, List, Option, option_map}
use Rattle.depot_rows.specs.depot_path.declared.revision.Wanted.{Wanted}
use Rattle.depot_rows.specs.depot_model.Choice.{Choice}
use Rattle.depot_rows.specs.depot_model.Deeds.{Deed}
use Rattle.depot_rows.specs.depot_model.Range.{is_begun, is_up_to}
use Rattle.depot_rows.specs.depot_model.Revisions.{Revision}

abbrev pub change_by : Option Revision → Option ℕ
change_by found = option_map (λ (r : Revision). r.landing.change) found

abbrev pub moment_by : Option Revision → Option ℕ
moment_by found = option_map (λ (r : Revision). r.landing.moment) found

abbrev pub is_asked : List Deed → List ℕ → Wanted → Choice → ℕ → Bool
is_asked d path wanted choice n = is_begun d path wanted n && is_up_to n choice
