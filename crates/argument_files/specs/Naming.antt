-- What is read to tell which of given files an argument names. This project's own choice.
use Rattle.std.specs.Prelude.{◌≡◌, Bool, false, List}
use Rattle.depot_rows.specs.db_records.declared.table.TableId.TheVariants.{Change, Domain, Have, Label, Rev}
use Rattle.depot_rows.specs.table_changes.Changed.{AllRows}
use Rattle.depot_rows.specs.depot_model.Deeds.{Deed}
use Rattle.depot_rows.specs.depot_model.Rules.{IsSound}
use Rattle.depot_rows.specs.Standing.{HasRows}

-- the rows of the tables by which a file is shown at a choice of revisions are the depot's
pub record ShowsBy (rows : AllRows) (d : List Deed) : Type 0 where
  pub has_domain : HasRows rows d Domain
  pub has_have : HasRows rows d Have
  pub has_label : HasRows rows d Label
  pub has_rev : HasRows rows d Rev
  pub has_change : HasRows rows d Change

-- the depot is sound, and where a file counts as it is shown those rows are its
pub record NamesBy (rows : AllRows) (d : List Deed) (mapped_only : Bool) : Type 0 where
  pub sound : IsSound d
  pub shows : mapped_only ≡ false → ShowsBy rows d
