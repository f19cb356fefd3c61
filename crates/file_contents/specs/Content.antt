-- Where the content of a submitted file comes from. This project's own choice.
use Rattle.std.specs.Prelude.{◌≡◌, ℕ, Bool, true, false, List, length, if◌then◌else◌, Option, Some, None}
use Rattle.depot_rows.specs.db_records.Record.{is_live}
use Rattle.depot_rows.specs.db_records.declared.record.Record.{Record}
use Rattle.depot_rows.specs.db_records.declared.record.Record.TheVariants.{Rev}
use Rattle.depot_rows.specs.table_changes.Changed.{AllRows}
use Rattle.depot_rows.specs.depot_model.Deeds.{Deed}
use Rattle.depot_rows.specs.depot_model.Records.{digest}
use Rattle.reply_rows.specs.Made.{IsSpotOf}
use Rattle.file_contents.specs.declared.content.Found.{Found}
use Rattle.file_contents.specs.declared.content.Found.TheVariants.{Old, Block, Absent}

-- a revision's content with its digest, a block, or none
abbrev pub IsFound : AllRows → List Deed → Found → Option (List ℕ) → Type 0
IsFound all d (Old stored) (Some bytes) = IsSpotOf all d bytes stored.spot × ((stored.digest ≡ digest bytes) × (stored.spot.length ≡ length bytes))
IsFound all d (Block text) (Some bytes) = text.now ≡ bytes
IsFound all d Absent None = Unit {0}
IsFound all d _ _ = ⊥

abbrev pub is_absent : Found → Bool
is_absent Absent = true
is_absent _ = false

-- what the row of a revision tells of its content
abbrev pub found_in_row : Option Record → Found
found_in_row (Some (Rev r)) = if is_live (Rev r) then Old (record { digest = r.digest; spot = record { at = r.at; length = r.length } }) else Absent
found_in_row _ = Absent
