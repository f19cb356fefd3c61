-- What `integrate` reads. This project's own choice.
use Rattle.std.specs.Prelude.{List}
use Rattle.depot_rows.specs.db_records.declared.table.TableId.TheVariants as table_ids
use Rattle.depot_rows.specs.table_changes.Changed.{AllRows}
use Rattle.depot_rows.specs.depot_model.declared.request.Caller.{Caller}
use Rattle.depot_rows.specs.depot_model.Deeds.{Deed}
use Rattle.depot_rows.specs.Standing.{HasRows}
use Rattle.named_files.specs.Sets.{ShownReads}
use Rattle.named_files.specs.declared.asker.Asker.{Asker}
use Rattle.named_files.specs.declared.listing.Listing.TheVariants.{Submitted}
use Rattle.opening_reads.specs.OwnOpenings.{IsOwn}
use Rattle.opening_reads.specs.declared.own_openings.OwnOpenings.{OwnOpenings}

-- what is read by which a file is shown at a choice of revisions, and the rows of integration records and of opened files are the depot's
pub record Reads (caller : Caller) (asker : Asker) (rows : AllRows) (d : List Deed) : Type 0 where
  pub shown : ShownReads caller asker Submitted rows d
  pub integed : HasRows rows d table_ids.Integed
  pub working : HasRows rows d table_ids.Working

-- and the openings of the caller's client are those of the depot after the command's deeds so far
pub record ReadsOwn (caller : Caller) (asker : Asker) (own : OwnOpenings) (rows : AllRows) (d e : List Deed) : Type 0 where
  pub reads : Reads caller asker rows d
  pub is_own : IsOwn own caller.client d e
