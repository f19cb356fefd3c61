-- The places in which look-ups go on. This project's own choice.
use Rattle.std.specs.Prelude.{◌≡◌}
use Rattle.depot_rows.specs.db_records.declared.table.TableId.TheVariants as table_ids
use Rattle.depot_rows.specs.table_changes.Changed.{AllRows}
use Rattle.newest_revisions.specs.Seen.{AreHeads}
use Rattle.have_sync.specs.Places.{IsPlace}
use Rattle.have_sync.specs.declared.newest.Places.{Places}

-- the places are in these rows
pub record AreOf (rows : AllRows) (places : Places) : Type 0 where
  pub heads : AreHeads (rows table_ids.Rev) places.heads
  pub haves : IsPlace places.haves
  pub haves_are : places.haves.version.now.rows ≡ rows table_ids.Have
