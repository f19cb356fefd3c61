-- Damage that is told is there.
use Rattle.std.proofs.Common.{◌≡◌, ℕ, zero, suc, ◌≢◌, ◌+◌, ◌*◌, List, [], ◌∷◌, ◌++◌, length, replicate, Err, refl, sym, ap, subst, ◌∙◌, arith}
use Rattle.std.proofs.lemmas.Bool.Decides.{nat_tests}
use Rattle.outside_api.specs.Disk.{Files}
use Rattle.depot_rows.specs.db_records.declared.table.TableId.TheVariants as tables
use Rattle.disk_journal.specs.Images.{Committed, HasCommitted, IsTail, IsAtRest, generation_of}
use Rattle.disk_journal.specs.Text.{AreGroups, blocks}
use Rattle.depot_rows.specs.table_changes.Changed.{AllRows}
use Rattle.recovery.specs.declared.fault.DepotDisk.TheVariants.{Journal, Archive}
use Rattle.recovery.specs.declared.fault.OpenFault.{OpenFault}
use Rattle.recovery.specs.declared.fault.OpenFault.TheVariants.{Unmade, Damaged, DiskFault, Memory}
use Rattle.recovery.specs.Contents.{IsSpotDamage}
use Rattle.recovery.specs.Damage.{IsJournalDiskDamage, of_rules, IsDamage}
use Rattle.recovery.specs.Faults.{IsOfArchive, IsOfFile, IfDamaged, SaysNothing, Tells}
use Rattle.recovery.specs.Holding.{Hold, HasAllRows}
use Rattle.recovery.specs.Rules.{SuitFiles, TellsEnd}

-- the open bytes of a root count its generation
pub open_bytes : (n : ℕ) (tail : List ℕ) → IsTail tail → generation_of (replicate n 101 ++ tail) ≡ n
open_bytes zero [] shut = refl
open_bytes zero (byte ∷ rest) shut = let other : byte ≢ 101 = shut.0 in grind (arith, nat_tests)
open_bytes (suc n) tail shut = ap suc (open_bytes n tail shut)

-- files at rest hold the rows of what is committed
pub committed_found : (was : Committed) (files : Files) → AreGroups was.groups → IsAtRest was files → HasCommitted was files
committed_found was files are_groups rest = record { rest = rest; root = ap generation_of rest.root.is ∙ open_bytes was.generation rest.root.tail rest.root.shut; are_groups = are_groups }

abbrev pub hold_found : (was : Committed) (rows : AllRows) (files : Files) → HasAllRows was rows → AreGroups was.groups → IsAtRest was files → Hold files rows
hold_found was rows files has are_groups rest = record { was = was; committed = committed_found was files are_groups rest; has = has }

-- the generation that files hold is one
pub one_generation : (files : Files) (rows others : AllRows) (a : Hold files rows) (b : Hold files others) → a.was.generation ≡ b.was.generation
one_generation files rows others a b = sym a.committed.root ∙ b.committed.root

pub archive_damage : (X : Type 0) (files contents : Files) (rows : AllRows) (fault : OpenFault) → (hold : Hold files rows) → SuitFiles hold.was.generation rows → IsOfArchive fault → IfDamaged {X = X} (Err fault) (IsSpotDamage (contents 0) (rows tables.Rev)) → Tells (IsDamage files contents) fault
archive_damage X files contents rows Unmade hold suit of damaged = tt
archive_damage X files contents rows (Damaged Journal file place) hold suit of damaged = absurd of
archive_damage X files contents rows (Damaged Archive file place) hold suit of damaged = (of, record { rows = rows; hold = hold; suit = suit; spot = damaged })
archive_damage X files contents rows DiskFault hold suit of damaged = tt
archive_damage X files contents rows Memory hold suit of damaged = tt

-- damage of a file of the journal's disk
pub journal_damage : (X : Type 0) (files contents : Files) (file : ℕ) (P : ℕ → Type 0) (fault : OpenFault) → IsOfFile file fault → IfDamaged {X = X} (Err fault) P → ((place : ℕ) → P place → IsJournalDiskDamage files file place) → Tells (IsDamage files contents) fault
journal_damage X files contents file P Unmade of damaged leads = tt
journal_damage X files contents file P (Damaged Journal found place) of damaged leads = subst (λ (n : ℕ). IsJournalDiskDamage files n place) (sym of) (leads place damaged)
journal_damage X files contents file P (Damaged Archive found place) of damaged leads = absurd of
journal_damage X files contents file P DiskFault of damaged leads = tt
journal_damage X files contents file P Memory of damaged leads = tt

-- rows that don't suit the files
pub rules_damage : (files contents : Files) (was : Committed) (rows : AllRows) (generation end : ℕ) (fault : OpenFault) → HasAllRows was rows → AreGroups was.groups → IsAtRest was files → generation ≡ was.generation → end ≡ length (blocks was.groups)
    → (SuitFiles generation rows → SaysNothing fault) → TellsEnd generation end fault → Tells (IsDamage files contents) fault
rules_damage files contents was rows generation end Unmade has are rest same long only told = tt
rules_damage files contents was rows generation end (Damaged Journal file place) has are rest same long only told =
    of_rules (record {
      was = was;
      rows = rows;
      committed = committed_found was files are rest;
      has = has;
      broken = λ suit. only (subst (λ (n : ℕ). SuitFiles n rows) (sym same) suit);
      file_is = told.0 ∙ ap (λ (n : ℕ). 1 + 2 * n) same;
      place_is = told.1 ∙ long;
    })
rules_damage files contents was rows generation end (Damaged Archive file place) has are rest same long only told = absurd told
rules_damage files contents was rows generation end DiskFault has are rest same long only told = tt
rules_damage files contents was rows generation end Memory has are rest same long only told = tt
