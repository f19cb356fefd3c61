-- What a place writes to the journal's disk.
use Rattle.std.proofs.Common.{◌≡◌, ◌⊎◌, inl, inr, ℕ, ◌+◌, ◌<◌, Bool, true, false, List, refl, sym, ap, subst, ◌∙◌}
use Rattle.outside_api.specs.Says.{DiskSays}
use Rattle.depot_rows.specs.db_records.declared.change.Change.{Change}
use Rattle.checkpoint_file.specs.Checkpoint.{IsCheckpointOf, puts_of}
use Rattle.checkpoint_file.proofs.NextRows.{next_rows}
use Rattle.checkpoint_file.proofs.Texts.{next_records}
use Rattle.disk_journal.specs.Images.{Committed, with_generation, with_group}
use Rattle.disk_journal.specs.Stands.{Doubtful, IsPrepared, IsStill, Stands, generation_of_journal, group, next_number, nothing, opening}
use Rattle.disk_journal.specs.declared.journal.Journal.{Journal}
use Rattle.journal_groups.specs.Groups.{AreRecords, IsGroup, group_text}
use Rattle.recovery.specs.Holding.{HasAllRows}
use Rattle.depot_rows.specs.table_changes.Changed.{AllFitIn, AllRows, changed_by}
use Rattle.depot_commit.specs.Growing.{HasWritten}
use Rattle.depot_commit.specs.Writing.{CanWrite, IsWritingOf, StandsBy, left_by}
use Rattle.depot_commit.specs.declared.writing.Writing.{Writing}
use Rattle.depot_commit.specs.declared.writing.Writing.TheVariants.{Group, Generation}
use Rattle.recovery.proofs.OneGroup.{group_added}

-- a journal that stands with the same committed has the same generation
pub same_generation : {D : Type 0} (disk_says : DiskSays D) (old new : Journal D) (was : Committed) (one other : Doubtful) → Stands disk_says old was one → Stands disk_says new was other
    → generation_of_journal new ≡ generation_of_journal old
same_generation disk_says old new was one other before now = now.generation ∙ sym before.generation

-- what is in doubt where a writing failed
pub left : {D : Type 0} (disk_says : DiskSays D) (old new : Journal D) (was : Committed) (written : Doubtful)
    → IsStill disk_says old new was ⊎ Stands disk_says new was written → StandsBy disk_says new was written true
left disk_says old new was written (inl still) = (nothing, inl refl, still.stands)
left disk_says old new was written (inr stands) = (written, inr refl, stands)

-- where a journal stands with nothing in doubt, nothing is
pub no_doubt : {D : Type 0} (disk_says : DiskSays D) (journal : Journal D) (was other : Committed) (doubt : Doubtful) → Stands disk_says journal was nothing → Stands disk_says journal other doubt → doubt ≡ nothing
no_doubt disk_says journal was other nothing still stands = refl
no_doubt disk_says journal was other (group text) still stands = absurd (let one = still.known in let two = stands.known.0 in cc)
no_doubt disk_says journal was other (opening text) still stands = absurd (let one = still.known in let two = stands.known in cc)

pub can_write : {D : Type 0} (old new : Journal D) (writing : Writing) → next_number new ≡ next_number old → generation_of_journal new ≡ generation_of_journal old → CanWrite old writing → CanWrite new writing
can_write old new (Group prepared) number generation can = subst (λ (n : ℕ). IsPrepared n prepared) (sym number) can
can_write old new (Generation text) number generation can = subst (λ (n : ℕ). n < 4095) (sym generation) can

module _ (rows now : AllRows) (number generation : ℕ) (changes : List Change) (rows_are : now ≡ changed_by rows changes) where
  pub writes_group : (text : List ℕ) → text ≡ group_text number changes → IsGroup changes → AllFitIn rows changes → IsWritingOf rows now number generation false (group text) changes
  writes_group text text_is is_group fit = record {
    rows_are = rows_are;
    has = λ was number_is generation_is has.
        let Has : List ℕ → Type 0 = λ t. HasAllRows (with_group was t) (changed_by rows changes) in
        subst Has (sym (text_is ∙ ap (λ (n : ℕ). group_text n changes) number_is)) (group_added was rows changes has is_group fit);
  }

  pub writes_generation : (text : List ℕ) → AreRecords changes → (AreRecords (puts_of now) → IsCheckpointOf (generation + 1) now text) → IsWritingOf rows now number generation true (opening text) changes
  writes_generation text records is = record {
    rows_are = rows_are;
    has = λ was number_is generation_is has.
        let texts : AreRecords (puts_of now) = subst (λ (r : AllRows). AreRecords (puts_of r)) (sym rows_are) (next_records was rows changes has records) in
        let Of : ℕ → Type 0 = λ n. IsCheckpointOf (n + 1) now text in
        let Has : AllRows → Type 0 = HasAllRows (with_generation was text) in
        subst Has rows_are (next_rows was now text (subst Of generation_is (is texts)));
  }

-- what was written, by what it is
pub wrote : {D : Type 0} {disk_says : DiskSays D} {was : Committed} {writing it : Writing} {failed : Bool} {old new : Journal D} → writing ≡ it → HasWritten disk_says was (left_by it) failed old new → HasWritten disk_says was (left_by writing) failed old new
wrote {D} {disk_says} {was} {writing} {it} {failed} {old} {new} is has = subst (λ (w : Writing). HasWritten disk_says was (left_by w) failed old new) (sym is) has
