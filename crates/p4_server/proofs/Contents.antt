-- The contents of files that are opened, and the pairs that are kept.
use Rattle.std.proofs.Common.{◌≡◌, List, refl, sym, subst}
use Rattle.outside_api.specs.Disk.{Files}
use Rattle.depot_rows.specs.db_records.declared.table.TableId.TheVariants.{Rev}
use Rattle.depot_rows.specs.depot_model.Deeds.{Deed}
use Rattle.depot_rows.specs.table_changes.Changed.{AllRows}
use Rattle.recovery.specs.Holding.{Hold}
use Rattle.recovery.specs.Rules.{DeletesAreUnplaced}
use Rattle.recovery.specs.Standing.{StandFor}
use Rattle.recovery.proofs.Held.{rows_once}
use Rattle.party_threads.specs.depot_commit.Holding.{HasItsContents}
use Rattle.party_threads.proofs.depot_commit.Contents.{contents_alike}

-- files that stand for a depot have its contents at the spots of the rows that were read of them
pub contents_opened : (journal archive image : Files) (rows : AllRows) (d : List Deed) → StandFor d journal archive → Hold journal rows → image 0 ≡ archive 0 → HasItsContents rows d image
contents_opened journal archive image rows d stand hold same =
    let own : Hold journal stand.rows = record { was = stand.was; committed = stand.committed; has = stand.has } in
    contents_alike stand.rows rows d d archive image same (rows_once journal stand.rows rows own hold Rev) (λ path n. refl) (record { within = stand.within; contents = stand.contents })

-- and in these rows deleted revisions have no place
pub deletes_opened : (journal archive : Files) (rows : AllRows) (d : List Deed) → StandFor d journal archive → Hold journal rows → DeletesAreUnplaced (rows Rev)
deletes_opened journal archive rows d stand hold =
    let own : Hold journal stand.rows = record { was = stand.was; committed = stand.committed; has = stand.has } in
    subst DeletesAreUnplaced (sym (rows_once journal stand.rows rows own hold Rev)) stand.deletes
