-- What rows are asked beside the rules so that they are those of some depot: that no line of the protections has the number 0, and a content for each
-- live revision, of which its row tells the digest and the length. This project's own choice.
use Rattle.std.specs.Prelude.{◌≡◌, ℕ, IsTrue, List, Some, None, length}
use Rattle.depot_rows.specs.depot_path.Path.{printed}
use Rattle.depot_rows.specs.db_records.Key.{key_table}
use Rattle.depot_rows.specs.db_records.Record.{is_live}
use Rattle.depot_rows.specs.db_records.declared.key.Key.TheVariants as keys
use Rattle.depot_rows.specs.db_records.declared.record.Record.TheVariants.{Rev}
use Rattle.depot_rows.specs.db_records.declared.rows.RevRecord.{RevRecord}
use Rattle.depot_rows.specs.depot_model.Deeds.{Deed}
use Rattle.depot_rows.specs.depot_model.Records.{digest}
use Rattle.depot_rows.specs.depot_model.Revisions.{Revision, revision}
use Rattle.depot_rows.specs.depot_model.Rules.{Rows, KeepRules}
use Rattle.depot_rows.specs.table_changes.Changed.{AllRows}
use Rattle.depot_rows.specs.Standing.{unplaced_at}

-- the rows of all tables by their keys, without places of contents
abbrev pub all_unplaced : AllRows → Rows
all_unplaced rows key = unplaced_at (rows (key_table key)) key

-- a content for the revision of a number of the path that a text spells
abbrev pub Contents : Type 0
Contents = List ℕ → ℕ → List ℕ

-- the rows of live revisions tell of these contents
abbrev pub TellOf : Contents → Rows → Type 0
TellOf contents rows = (text : List ℕ) (n : ℕ) (row : RevRecord) → rows (keys.Rev text n) ≡ Some (Rev row) → IsTrue (is_live (Rev row))
    → (row.digest ≡ digest (contents text n)) × (row.length ≡ length (contents text n))

pub record KeepAllRules (contents : Contents) (rows : Rows) : Type 0 where
  pub rules : KeepRules rows
  pub lines : rows (keys.Protect 0) ≡ None
  pub tell : TellOf contents rows

-- what the revisions of a depot have as content is one of these
abbrev pub HasTheseContents : Contents → List Deed → Type 0
HasTheseContents contents d = (path : List ℕ) (n : ℕ) (r : Revision) (content : List ℕ) → revision d path n ≡ Some r → r.entry.content ≡ Some content
    → content ≡ contents (printed path) n
