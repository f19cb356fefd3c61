use Rattle.std.specs.Prelude.{Option, Some, None}
use Rattle.std.specs.Option.{option_copied}
use Rattle.db_records.specs.declared.record.Record.{Record}
use Rattle.table_store.specs.Places.{Mark, OfChange, OfClient, OfUser, OfFix, Place, at_key}
use Rattle.table_store.specs.declared.search_key.MarkRef.{MarkRef}
use Rattle.table_store.specs.declared.search_key.MarkRef.TheVariants as marks
use Rattle.table_store.specs.declared.search_key.SearchKey.{SearchKey}
use Rattle.table_store.specs.declared.search_key.SearchKey.TheVariants.{Given, OfRow, Marked}

-- the mark that is looked for
abbrev pub sought_mark : MarkRef → Mark
sought_mark (marks.Change change) = OfChange change
sought_mark (marks.Client client) = OfClient client.now
sought_mark (marks.User user) = OfUser user.now
sought_mark (marks.Fix change) = OfFix change.now

abbrev pub mark_found : Option MarkRef → Option Mark
mark_found None = None
mark_found (Some mark) = Some (sought_mark mark)

-- the place that is looked for in an order
abbrev pub sought_place : (Record → Place) → SearchKey → Place
sought_place place (Given key) = at_key key.now
sought_place place (OfRow row) = place row.now
sought_place place (Marked mark key) = record { mark = Some (sought_mark mark); key = option_copied key }
