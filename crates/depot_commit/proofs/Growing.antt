-- How the groups of a depot's journal grow, and which contents stay.
use Rattle.std.proofs.Common.{◌≡◌, ◌≢◌, ℕ, ◌+◌, Bool, true, false, List, [], ◌∷◌, ◌++◌, length, refl, sym, ap, subst, ◌∙◌, arith}
use Rattle.std.specs.Prelude.{map}
use Rattle.std.specs.List.{AllByRecursion}
use Rattle.std.proofs.lemmas.List.{map-append}
use Rattle.outside_api.specs.Disk.{NoMore}
use Rattle.outside_api.specs.Says.{DiskSays}
use Rattle.archive_file.specs.Archive.{disk_of, used_of}
use Rattle.archive_file.specs.declared.archive.Archive.{Archive}
use Rattle.depot_rows.specs.db_records.declared.change.Change.{Change}
use Rattle.disk_journal.specs.Images.{Committed}
use Rattle.disk_journal.specs.Keeping.{KeepsOlder}
use Rattle.disk_journal.specs.Stands.{Doubtful, Stands, next_number, nothing}
use Rattle.disk_journal.specs.declared.journal.Journal.{Journal}
use Rattle.journal_groups.specs.Groups.{IsGroup, group_text}
use Rattle.recovery.specs.Holding.{group_texts}
use Rattle.depot_commit.specs.Growing.{Chronicle, HasGroups, HasWritten, IsWritten, KeepsStored, generations_of, grown, landed, older_after, with_changes}
use Rattle.depot_commit.specs.Writing.{next_if, with_doubtful}
use Rattle.recovery.proofs.Held.{length_texts}
use Rattle.recovery.proofs.OneGroup.{all-push, all_but_last, group_texts-push, last_of}
use Rattle.depot_commit.proofs.Stored.{keeps_more, keeps_same}

-- ---- contents

pub stored_same : {D : Type 0} (disk_says : DiskSays D) (archive : Archive D) → KeepsStored disk_says archive archive
stored_same disk_says archive = record { below = keeps_same (disk_says.may_leave (disk_of archive)) (used_of archive); more = omega arith }

pub stored_read : {D : Type 0} (disk_says : DiskSays D) (old new : Archive D) → used_of new ≡ used_of old → NoMore (disk_says.may_leave (disk_of old)) (disk_says.may_leave (disk_of new)) → KeepsStored disk_says old new
stored_read disk_says old new same more = record { below = keeps_more (disk_says.may_leave (disk_of old)) (disk_says.may_leave (disk_of new)) (used_of old) more; more = omega (arith, same) }

pub stored_two : {D : Type 0} (disk_says : DiskSays D) (old mid new : Archive D) → KeepsStored disk_says old mid → KeepsStored disk_says mid new → KeepsStored disk_says old new
stored_two disk_says old mid new first second = record {
  below = λ spot bytes le all. let far = first.more in second.below spot bytes (omega (arith, le, far)) (first.below spot bytes le all);
  more = (let one = first.more in let two = second.more in omega (arith, one, two));
}

-- ---- groups

-- what was written is of the next generation, if one is opened
pub generation_with : (number : ℕ) (opens : Bool) (written : Doubtful) (changes : List Change) → IsWritten number opens written changes → (was : Committed) → (with_doubtful was written).generation ≡ next_if opens was.generation
generation_with number false written changes is was = ap (λ (w : Doubtful). (with_doubtful was w).generation) is.0
generation_with number true written changes is was = ap (λ (w : Doubtful). (with_doubtful was w).generation) is.1

-- with what was written, what is committed has the groups of the journal with the changes
module _ (was : Committed) (c : Chronicle) (written : Doubtful) (changes : List Change) where
  abbrev Written : Bool → Type 0
  Written opens = IsWritten (length was.groups + 1) opens written changes

  pub groups_with : was.groups ≡ group_texts 1 c.newest → (opens : Bool) → Written opens → (with_doubtful was written).groups ≡ group_texts 1 (with_changes opens changes c).newest
  groups_with are true is = ap (λ (w : Doubtful). (with_doubtful was w).groups) is.1
  groups_with are false is =
      let number : length was.groups + 1 ≡ 1 + length c.newest = (let long = ap (length {A = List ℕ}) are ∙ length_texts 1 c.newest in omega (arith, long)) in
      ap (λ (w : Doubtful). (with_doubtful was w).groups) is.0 ∙ ((λ i. are i ++ group_text (number i) changes ∷ []) ∙ sym (group_texts-push 1 c.newest changes))

  pub are_with : AllByRecursion (AllByRecursion IsGroup) (generations_of c) → (opens : Bool) → Written opens → AllByRecursion (AllByRecursion IsGroup) (generations_of (with_changes opens changes c))
  are_with are_groups true is = all-push (AllByRecursion IsGroup) (generations_of c) [] are_groups tt
  are_with are_groups false is =
      all_but_last (AllByRecursion IsGroup) c.closed c.newest (c.newest ++ changes ∷ []) are_groups
      (all-push IsGroup c.newest changes (last_of (AllByRecursion IsGroup) c.closed c.newest are_groups) is.1)

  pub older_with : was.groups ≡ group_texts 1 c.newest → (opens : Bool) → Written opens → older_after was (map (group_texts 1) c.closed) written false ≡ map (group_texts 1) (with_changes opens changes c).closed
  older_with are false is = ap (λ (w : Doubtful). older_after was (map (group_texts 1) c.closed) w false) is.0
  older_with are true is =
      ap (λ (w : Doubtful). older_after was (map (group_texts 1) c.closed) w false) is.1
      ∙ (ap (λ (g : List (List ℕ)). map (group_texts 1) c.closed ++ g ∷ []) are ∙ sym (map-append (group_texts 1) c.closed (c.newest ∷ [])))

module _ {D : Type 0} {disk_says : DiskSays D} {old settled : Journal D} {c : Chronicle} (has : HasGroups disk_says old c) (keeps : (older : List (List (List ℕ))) → KeepsOlder disk_says old older → KeepsOlder disk_says settled older) where
  -- the same groups stand on a disk
  pub groups_kept : {doubt : Doubtful} → Stands disk_says settled has.was doubt → HasGroups disk_says settled c
  groups_kept {doubt} stands = record { was = has.was; doubt = doubt; stands = stands; keeps = keeps (map (group_texts 1) c.closed) has.keeps; are = has.are; are_groups = has.are_groups }

  -- changes were written, or their writing failed
  pub groups_written : (opens : Bool) (changes : List Change) {written : Doubtful} {failed : Bool} {new : Journal D} → changes ≢ [] → IsWritten (next_number old) opens written changes
      → HasWritten disk_says has.was written failed settled new → HasGroups disk_says new (grown opens failed changes c)
  groups_written opens [] some is wrote = absurd (some refl)
  groups_written opens (change ∷ changes) {written} {failed} {new} some is wrote = go failed wrote
    where
      here : IsWritten (length has.was.groups + 1) opens written (change ∷ changes)
      here = let count = has.stands.count in subst (λ (n : ℕ). IsWritten n opens written (change ∷ changes)) (omega arith) is

      go : (failed : Bool) → HasWritten disk_says has.was written failed settled new → HasGroups disk_says new (landed opens failed (change ∷ changes) c)
      go true wrote = record { was = has.was; doubt = wrote.stands.0; stands = wrote.stands.2; keeps = wrote.keeps (map (group_texts 1) c.closed) (keeps (map (group_texts 1) c.closed) has.keeps); are = has.are; are_groups = has.are_groups }
      go false wrote = record {
        was = with_doubtful has.was written;
        doubt = nothing;
        stands = wrote.stands;
        keeps = subst (KeepsOlder disk_says new) (older_with has.was c written (change ∷ changes) has.are opens here) (wrote.keeps (map (group_texts 1) c.closed) (keeps (map (group_texts 1) c.closed) has.keeps));
        are = groups_with has.was c written (change ∷ changes) has.are opens here;
        are_groups = are_with has.was c written (change ∷ changes) has.are_groups opens here;
      }

-- none
pub grown_none : (opens fault : Bool) (changes : List Change) (c : Chronicle) → changes ≡ [] → c ≡ grown opens fault changes c
grown_none opens fault [] c none = refl
grown_none opens fault (change ∷ changes) c none = absurd cc

-- a fault place
pub grown_fault : (opens : Bool) (changes : List Change) (c : Chronicle) → c ≡ grown opens true changes c
grown_fault opens [] c = refl
grown_fault opens (change ∷ changes) c = refl
