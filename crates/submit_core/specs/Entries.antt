-- The files of a submitted change, with the contents that it stores. This project's own choice.
use Rattle.std.specs.Prelude.{◌≡◌, ◌+◌, ℕ, List, [], ◌∷◌, length, map, Option, Some, None}
use Rattle.depot_rows.specs.table_changes.Changed.{AllRows}
use Rattle.depot_rows.specs.depot_model.declared.request.Request.{Request}
use Rattle.depot_rows.specs.depot_model.Deeds.{Deed, Opening}
use Rattle.depot_rows.specs.depot_model.Records.{digest}
use Rattle.depot_rows.specs.depot_model.Steps.Submitting.{entry_of}
use Rattle.depot_rows.specs.Deed.{AreEntries}
use Rattle.depot_rows.specs.declared.deed.Stored.{Stored}
use Rattle.step_stores.specs.Stored.{ArePlaced}
use Rattle.file_contents.specs.declared.content.Found.{Found}
use Rattle.file_contents.specs.declared.content.Found.TheVariants.{Old, Block, Absent}
use Rattle.submit_core.specs.declared.entries.Files.{Files}

-- the bytes of contents
abbrev pub total : List (List ℕ) → ℕ
total [] = 0
total (store ∷ stores) = length store + total stores

-- a block at a place
abbrev pub block_stored : List ℕ → ℕ → Stored
block_stored bytes at = record { digest = digest bytes; spot = record { at = at; length = length bytes } }

-- where a content stands, a block at a place
abbrev pub content_in : Found → ℕ → Option Stored
content_in (Old stored) at = Some stored
content_in (Block text) at = Some (block_stored text.now at)
content_in Absent at = None

-- what is stored of it
abbrev pub stores_of : Found → List (List ℕ)
stores_of (Block text) = text.now ∷ []
stores_of _ = []

-- the files are those of openings, their contents are placed from a place of the archive on, and the archive then ends where the last of them does
pub record AreFiles (all : AllRows) (d : List Deed) (request : Request) (from : ℕ) (openings : List Opening) (files : Files) : Type 0 where
  pub entries : AreEntries d files.entries (map (entry_of d request) openings)
  pub placed : ArePlaced all d files.stores from files.entries (map (entry_of d request) openings)
  pub end : files.end ≡ from + total files.stores
