-- The rows of the five tables for which a choice of a revision may ask are those for which it asks.
use Rattle.std.proofs.Common.{List}
use Rattle.depot_rows.specs.depot_path.declared.revision.RevSpec.{RevSpec}
use Rattle.depot_rows.specs.depot_path.declared.revision.RevSpec.TheVariants.{Number, Newest, Have, Zero, Change, Only, Moment, Named}
use Rattle.depot_rows.specs.depot_path.declared.revision.Wanted.{Wanted}
use Rattle.depot_rows.specs.depot_path.declared.revision.Wanted.TheVariants.{Head, One, Range}
use Rattle.depot_rows.specs.db_records.declared.table.TableId.TheVariants as tables
use Rattle.depot_rows.specs.table_changes.Changed.{AllRows}
use Rattle.depot_rows.specs.depot_model.Deeds.{Deed}
use Rattle.depot_rows.specs.Standing.{HasRows}
use Rattle.revision_reads.specs.Choice.{HaveRows, end_tables, wanted_tables}

module _ (rows : AllRows) (d : List Deed) (domain : HasRows rows d tables.Domain) (have : HasRows rows d tables.Have) (label : HasRows rows d tables.Label) (change : HasRows rows d tables.Change) (rev : HasRows rows d tables.Rev) where
  end_had : (end : RevSpec) → HaveRows rows d (end_tables end)
  end_had (Number n) = (rev, tt)
  end_had Newest = (rev, tt)
  end_had Have = (have, tt)
  end_had Zero = tt
  end_had (Change n) = (rev, tt)
  end_had (Only n) = (rev, tt)
  end_had (Moment latest) = (rev, (change, tt))
  end_had (Named name) = (domain, (label, (have, tt)))

  pub wanted_had : (wanted : Wanted) → HaveRows rows d (wanted_tables wanted)
  wanted_had Head = (rev, tt)
  wanted_had (One end) = end_had end
  wanted_had (Range first second) = end_had second
