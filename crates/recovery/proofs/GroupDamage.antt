-- Where the text of a journal is damaged.
use Rattle.std.proofs.Common.{◌≡◌, inl, ℕ, ◌+◌, ◌-◌, List, length, Some, refl, ap, subst, ◌∙◌, arith}
use Rattle.outside_api.specs.Disk.{Files}
use Rattle.depot_rows.specs.db_records.declared.change.Change.{Change}
use Rattle.journal_groups.specs.Groups.{groups_text}
use Rattle.depot_rows.specs.table_changes.Changed.{AllRows, AllFitIn, changed_by}
use Rattle.recovery.specs.Damage.{IsJournalDamage}
use Rattle.recovery.specs.Holding.{joined}
use Rattle.recovery.specs.Pieces.{IsFirst, IsBadPlace, IsTextDamage, HasCome, text_left}
use Rattle.recovery.specs.Reading.{SoFar}
use Rattle.recovery.specs.declared.pieces.FileGroups.{FileGroups}
use Rattle.recovery.proofs.Stopped.{bad_record, group_begins}

damage_before : (good : List Change → Type 0) (number same_number at same_at : ℕ) (text same_text : List ℕ) (place : ℕ) → same_number ≡ number → same_at ≡ at → same_text ≡ text → IsTextDamage good same_number same_at same_text place → IsTextDamage good number at text place
damage_before good number same_number at same_at text same_text place numbers places texts is =
    subst (λ (n : ℕ). IsTextDamage good n at text place) numbers (subst (λ (n : ℕ). IsTextDamage good same_number n text place) places (subst (λ (l : List ℕ). IsTextDamage good same_number same_at l place) texts is))

-- the text of a journal behind the groups that were read
module _ (seen : Files → Type 0) (file count : ℕ) (groups : FileGroups) (old now : AllRows) (so_far : SoFar seen file count groups old now) (starts : groups.front ≡ 0) where
  pub journal_text : (files : Files) → seen files → (found place : ℕ) → place ≡ found - groups.front → IsTextDamage (AllFitIn now) groups.reader.number groups.reader.at (text_left groups files) found → IsJournalDamage old (files file) place
  journal_text files read found place is damage =
      let same : found ≡ place = omega (arith, is, starts) in
      let number = 1 + length so_far.done in
      let at = length (groups_text 1 so_far.done) in
      let text = text_left groups files in
      let moved = damage_before (AllFitIn now) number groups.reader.number at groups.reader.at text text found so_far.number so_far.at refl damage in
      record {
        groups = so_far.done;
        are_groups = so_far.are_groups;
        fit = so_far.fit;
        behind = text;
        parts = (so_far.text files read).1;
        next = subst (λ (n : ℕ). IsTextDamage (AllFitIn (changed_by old (joined so_far.done))) number at text n) same (subst (λ (rows : AllRows). IsTextDamage (AllFitIn rows) number at text found) so_far.rows_are moved);
      }

  pub journal_misfit : (next : FileGroups) (changes : List Change) → HasCome groups next (Some changes) → next.front ≡ groups.front → (files : Files) → seen files → IsFirst groups.reader.number (text_left groups files) (text_left next files) (Some changes)
      → (place : ℕ) → IsBadPlace (AllFitIn now) next changes place → IsJournalDamage old (files file) place
  journal_misfit next changes come same files read first place bad =
      let there = group_begins groups.reader.number groups.reader.at next.reader.reached (text_left groups files) (text_left next files) changes come.0 first.1 (come.3 ∙ come.2) in
      let told = bad_record (AllFitIn now) groups.reader.number groups.reader.at (text_left groups files) next changes place there bad in
      journal_text files read told.0 place (told.1.0 ∙ ap (λ (n : ℕ). told.0 - n) same) (inl told.1.1)
