-- Taking the bytes of a script from a source.
use Rattle.std.specs.Prelude.{◌≡◌, ◌<◌, ◌≤◌, ℕ, ◌+◌, ◌-◌, Bool, true, false, ◌==◌, List, [], ◌∷◌, ◌++◌, length, Option}
use Rattle.outside_api.specs.Count.{HasRisen}
use Rattle.outside_api.specs.Told.{prepended, IsAtEnd}
use Rattle.wire_text.specs.Parts.{IsFree}
use Rattle.wire_text.specs.declared.intake.Stop.{Stop}
use Rattle.wire_text.specs.declared.intake.Stop.TheVariants.{End, Over, Failed}
use Rattle.wire_text.specs.declared.lines.LineRead.{LineRead}
use Rattle.wire_text.specs.declared.lines.LineRead.TheVariants.{Line, TooLong, Stopped as LineStopped}
use Rattle.wire_text.specs.declared.blocks.BytesRead.{BytesRead}
use Rattle.wire_text.specs.declared.blocks.BytesRead.TheVariants.{Bytes, Stopped as BytesStopped}
use Rattle.wire_text.specs.declared.blocks.BlockRead.{BlockRead}
use Rattle.wire_text.specs.declared.blocks.BlockRead.TheVariants.{Block, Bad, Stopped as BlockStopped}

-- bytes that were taken from a source and not read, and how many were read before them
pub record Taken : Type 0 where
  pub held : List ℕ
  pub place : ℕ

-- the parts of a buffer
pub record IsIntake (start end len place : ℕ) : Type 0 where
  pub start_in : start ≤ end
  pub end_in : end ≤ len
  pub most : place + (end - start) ≤ 67108864
  pub some : 0 < len

-- Bytes were read: they are the first of what was held, with what came from the source for them.
pub record Moves (old_left new_left : Option (List ℕ)) (old new : Taken) (read : List ℕ) : Type 0 where
  pub came : List ℕ
  pub source : old_left ≡ prepended came new_left
  pub bytes : old.held ++ came ≡ read ++ new.held
  pub place : new.place ≡ old.place + length read
  pub most : new.place + length new.held ≤ 67108864

-- why no byte came: the source is at its end, or goes on where there is no room for more, or failed
abbrev pub StopCase : Option (List ℕ) → Option (List ℕ) → ℕ → ℕ → ℕ → Stop → Type 0
StopCase old_left new_left room before after End = IsAtEnd old_left
StopCase old_left new_left room before after Over = (room ≡ 0) × ((b : ℕ) × (old_left ≡ prepended (b ∷ []) new_left))
StopCase old_left new_left room before after Failed = HasRisen before after × (old_left ≡ new_left)

-- Bytes were read, and then no further one came.
pub record Stops (old_left new_left : Option (List ℕ)) (before after : ℕ) (old new : Taken) (read : List ℕ) (stop : Stop) : Type 0 where
  pub left : Option (List ℕ)
  pub moves : Moves old_left left old new read
  pub nothing : new.held ≡ []
  pub why : StopCase left new_left (67108864 - new.place) before after stop

-- a line feed is passed, or all that is held
abbrev pub TakesLine : Taken → Taken → List ℕ → Bool → Type 0
TakesLine old new piece true = IsFree 10 piece × (old.held ≡ piece ++ 10 ∷ new.held) × (new.place ≡ old.place + (length piece + 1))
TakesLine old new piece false = IsFree 10 piece × (old.held ≡ piece) × (new.held ≡ []) × (new.place ≡ old.place + length piece)

abbrev pub LineCase : Option (List ℕ) → Option (List ℕ) → ℕ → ℕ → Taken → Taken → LineRead → Type 0
LineCase old_left new_left before after old new (Line line) =
    IsFree 10 line.items × (length line.items ≤ 8192) × Moves old_left new_left old new (line.items ++ 10 ∷ [])
LineCase old_left new_left before after old new TooLong =
    (line : List ℕ) × (rest : List ℕ) × IsFree 10 line × (8192 < length line) × Moves old_left new_left old new (line ++ rest)
LineCase old_left new_left before after old new (LineStopped stop) =
    (line : List ℕ) × IsFree 10 line × (length line ≤ 8192) × Stops old_left new_left before after old new line stop

-- a block of n bytes with the line feed behind it
abbrev pub BlockCase : Option (List ℕ) → Option (List ℕ) → ℕ → ℕ → Taken → Taken → ℕ → BlockRead → Type 0
BlockCase old_left new_left before after old new n (Block block) =
    (length block ≡ n) × Moves old_left new_left old new (block ++ 10 ∷ [])
BlockCase old_left new_left before after old new n Bad =
    (block : List ℕ) × (b : ℕ) × (length block ≡ n) × ((b == 10) ≡ false) × Moves old_left new_left old new (block ++ b ∷ [])
BlockCase old_left new_left before after old new n (BlockStopped stop) =
    (part : List ℕ) × (length part ≤ n) × Stops old_left new_left before after old new part stop

abbrev pub BytesCase : Option (List ℕ) → Option (List ℕ) → ℕ → ℕ → Taken → Taken → ℕ → BytesRead → Type 0
BytesCase old_left new_left before after old new n (Bytes bytes) =
    (length bytes.items ≡ n) × Moves old_left new_left old new bytes.items
BytesCase old_left new_left before after old new n (BytesStopped stop) =
    (part : List ℕ) × (length part < n) × Stops old_left new_left before after old new part stop
