-- A replica's tables stand for the depot that is cut to its filter.
use Rattle.std.proofs.Common.{List}
use Rattle.cut_depots.proofs.Sound.{cut_sound}
use Rattle.depot_rows.specs.db_records.declared.change.Change.{Change}
use Rattle.depot_rows.specs.depot_model.Cut.{cut}
use Rattle.depot_rows.specs.depot_model.Deeds.{Deed}
use Rattle.depot_rows.specs.depot_model.declared.filter.FilterRule.{FilterRule}
use Rattle.depot_rows.specs.Standing.{Stand}
use Rattle.replica_pull.specs.Prefix.{HasFirst, first_rows}
use Rattle.replica_pull.specs.declared.replica.Replica.{Replica}
use Rattle.replica_pull.proofs.Cutting.{depot_rows}
use Rattle.depot_rows.specs.table_changes.Changed.{rows_of}

pub stands_cut : (rules : List FilterRule) (generations : List (List (List Change))) (r : Replica) (d : List Deed) → HasFirst rules generations r → Stand (first_rows r.changes generations) d
    → Stand (rows_of r.tables) (cut rules d)
stands_cut rules generations r d first stand = record {
  sound = cut_sound rules d stand.sound;
  each = depot_rows rules (first_rows r.changes generations) (rows_of r.tables) d first.rows stand.sound.paths stand.each;
}
