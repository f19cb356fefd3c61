-- Which rows have a text (System Administrator Guide, "Journal files"): those of sound depots. What the rules of rows leave open is asked for beside
-- them.
use Rattle.std.specs.Prelude.{◌≡◌, ◌≤◌, ◌&&◌, nat_le, ℕ, Bool, true, IsTrue, List, All, Some}
use Rattle.depot_rows.specs.db_records.Record.{key_of}
use Rattle.depot_rows.specs.db_records.declared.change.Change.{Change}
use Rattle.depot_rows.specs.db_records.declared.record.Record.{Record}
use Rattle.depot_rows.specs.db_records.declared.record.Record.TheVariants as rows
use Rattle.record_text.specs.Grammar.{IsRecord, largest_count, largest_wide}
use Rattle.journal_groups.specs.Groups.{AreRecords}
use Rattle.depot_rows.specs.table_changes.Changed.{AllRows}
use Rattle.depot_rows.specs.depot_model.Deeds.{Deed}
use Rattle.depot_rows.specs.depot_model.Records.{record_of, unplaced}
use Rattle.depot_rows.specs.depot_model.Rules.{IsSound}
use Rattle.depot_rows.specs.Standing.{Stand}
use Rattle.row_changes.specs.Differences.{AreDifferences}

-- the numbers of a row that no rule bounds are of 64 bits, as their types in code: a counter's value, a change's moment, and the length of a content
-- and its place
abbrev pub IsOf64Bits : Record → Type 0
IsOf64Bits (rows.Counter r) = r.value ≤ largest_wide
IsOf64Bits (rows.Change r) = r.moment ≤ largest_wide
IsOf64Bits (rows.Rev r) = (r.length ≤ largest_wide) × (r.at ≤ largest_wide)
IsOf64Bits _ = Unit {0}

-- a number that a text says as one of lines, revisions and changes
abbrev pub is_count : ℕ → Bool
is_count n = nat_le n largest_count

-- each such number of a row is no greater than a text may say
abbrev pub is_counted : Record → Bool
is_counted (rows.Counter r) = true
is_counted (rows.Group r) = true
is_counted (rows.Protect r) = is_count r.line
is_counted (rows.Domain r) = true
is_counted (rows.Have r) = is_count r.rev
is_counted (rows.Label r) = is_count r.rev
is_counted (rows.Integed r) = is_count r.start_from && is_count r.end_from && is_count r.start_to && is_count r.end_to && is_count r.change
is_counted (rows.Resolve r) = is_count r.first && is_count r.last
is_counted (rows.Working r) = is_count r.base && is_count r.change && is_count r.lock && is_count r.source_rev
is_counted (rows.Change r) = is_count r.change
is_counted (rows.Rev r) = is_count r.rev && is_count r.change

-- each row of a sound depot with such numbers has a text, wherever its content is placed
abbrev pub RowsHaveTexts : Type 0
RowsHaveTexts = (d : List Deed) (row : Record) → IsSound d → record_of d (key_of row) ≡ Some (unplaced row) → IsOf64Bits row → IsTrue (is_counted row)
    → IsRecord row

-- the changes from the rows that stand for a depot to those of a sound depot have texts, where the numbers of their rows are such
abbrev pub ChangesHaveTexts : Type 0
ChangesHaveTexts = (all : AllRows) (d e : List Deed) (changes : List Change) → Stand all d → IsSound e → AreDifferences all d e changes
    → All (λ (change : Change). IsOf64Bits change.row) changes → All (λ (change : Change). IsTrue (is_counted change.row)) changes → AreRecords changes
