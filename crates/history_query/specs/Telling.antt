-- What the rows of a revision and of its change say (Command-Line Reference, "p4 files"; Helix Core database schema reference, "db.rev",
-- "db.change").
use Rattle.std.specs.Prelude.{List, None, Option, Some, option_map}
use Rattle.depot_rows.specs.db_records.declared.record.Record.{Record}
use Rattle.depot_rows.specs.db_records.declared.record.Record.TheVariants.{Change, Rev}
use Rattle.depot_rows.specs.depot_model.Deeds.{Deed}
use Rattle.depot_rows.specs.depot_model.Records.{change_record, landed_record}
use Rattle.depot_rows.specs.depot_model.Steps.Listing.{Numbered}
use Rattle.revision_reads.specs.History.{numbered_record, seen}
use Rattle.history_query.specs.declared.telling.Told.{Told}

-- the records of a revision and of its change
abbrev pub told_records : Told → Record × Record
told_records t = (seen t.row.now, Change t.change.now)

abbrev pub revision_records : Numbered → Record × Record
revision_records r = (numbered_record r, landed_record r.made.landing)

-- a revision with its change, where that is there
abbrev pub with_landed : List Deed → Option Record → Option (Record × Record)
with_landed d (Some (Rev r)) = option_map (λ (c : Record). (Rev r, c)) (change_record d r.change)
with_landed d _ = None
