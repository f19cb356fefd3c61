-- When rows keep their rules and suit the files, and what is told where they don't. That of the place of a content it counts there alone that a
-- deleted revision has it at 0, that a counter tells the generation, and which place is told, is this project's own choice.
use Rattle.std.specs.Prelude.{◌≡◌, ◌+◌, ◌*◌, ℕ, IsFalse, List, codes}
use Rattle.std.specs.List.{AllByRecursion}
use Rattle.depot_rows.specs.db_records.Key.{key_table}
use Rattle.depot_rows.specs.db_records.Record.{is_live}
use Rattle.depot_rows.specs.db_records.declared.key.Key.TheVariants as keys
use Rattle.depot_rows.specs.db_records.declared.record.Record.{Record}
use Rattle.depot_rows.specs.db_records.declared.record.Record.TheVariants.{Rev as RevRow}
use Rattle.depot_rows.specs.db_records.declared.table.TableId.TheVariants.{Counter, Rev}
use Rattle.depot_rows.specs.table_changes.Changed.{AllRows}
use Rattle.depot_rows.specs.depot_model.Rules.{KeepRules, value_of}
use Rattle.depot_rows.specs.Standing.{unplaced_at}
use Rattle.recovery.specs.declared.fault.DepotDisk.TheVariants.{Journal}
use Rattle.recovery.specs.declared.fault.OpenFault.{OpenFault}
use Rattle.recovery.specs.declared.fault.OpenFault.TheVariants.{Damaged, Memory}

-- the rows keep their rules
abbrev pub KeepTheirRules : AllRows → Type 0
KeepTheirRules rows = KeepRules (λ key. unplaced_at (rows (key_table key)) key)

-- a deleted revision, which has no content, has its place in the archive at 0
abbrev pub IsUnplacedIfDeleted : Record → Type 0
IsUnplacedIfDeleted (RevRow row) = IsFalse (is_live (RevRow row)) → row.at ≡ 0
IsUnplacedIfDeleted _ = Unit {0}

abbrev pub DeletesAreUnplaced : List Record → Type 0
DeletesAreUnplaced rows = AllByRecursion IsUnplacedIfDeleted rows

-- the generation that rows tell: the value of the counter `journal`, 0 where there is none
abbrev pub told_generation : AllRows → ℕ
told_generation rows = value_of (unplaced_at (rows Counter) (keys.Counter (codes "journal")))

-- The rows suit files of this generation: they keep their rules, deleted revisions have no place, and the counter `journal` tells the generation.
pub record SuitFiles (generation : ℕ) (rows : AllRows) : Type 0 where
  pub rules : KeepTheirRules rows
  pub deletes : DeletesAreUnplaced (rows Rev)
  pub tells : told_generation rows ≡ generation

-- the journal of a generation is damaged where its committed text ends; or memory was wanting
abbrev pub TellsEnd : ℕ → ℕ → OpenFault → Type 0
TellsEnd generation end (Damaged Journal file place) = (file ≡ 1 + 2 * generation) × (place ≡ end)
TellsEnd generation end Memory = Unit {0}
TellsEnd generation end _ = ⊥
