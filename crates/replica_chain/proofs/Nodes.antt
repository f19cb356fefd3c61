-- Nodes that stay as they were, and nodes that have one change more.
use Rattle.std.proofs.Common.{◌≡◌, ℕ, ◌+◌, List, [], ◌∷◌, ◌++◌, length, refl, sym, ap, subst, ◌∙◌, arith, length-append}
use Rattle.std.specs.Prelude.{map}
use Rattle.outside_api.specs.Disk.{Files}
use Rattle.outside_api.specs.Says.{DiskSays}
use Rattle.archive_file.specs.Archive.{disk_of as archive_disk_of}
use Rattle.depot_rows.specs.db_records.declared.change.Change.{Change}
use Rattle.depot_rows.specs.table_changes.Changed.{AllRows, AllFitIn, changed_by, rows_of}
use Rattle.disk_journal.specs.Images.{Committed, with_group}
use Rattle.disk_journal.specs.Keeping.{KeepsOlder}
use Rattle.disk_journal.specs.Stands.{Doubtful, nothing, group, opening, Stands}
use Rattle.disk_journal.specs.declared.journal.Doubt.TheVariants.{Nothing, Group, Generation}
use Rattle.disk_journal.specs.declared.journal.Journal.{Journal}
use Rattle.journal_groups.specs.Groups.{IsGroup, group_text}
use Rattle.recovery.specs.Holding.{HasAllRows, group_texts}
use Rattle.replica_chain.specs.Chronicle.{Chronicle, changes_of, rows_made, with_changes}
use Rattle.replica_chain.specs.Ends.{KeepsScanned}
use Rattle.replica_chain.specs.Node.{HasContentsOf, IsNode, IsPending, with_doubt}
use Rattle.replica_chain.specs.Pulling.{HasTakenGroup, IsWhereItWas}
use Rattle.replica_chain.specs.declared.node.Node.{Node}
use Rattle.recovery.proofs.Held.{length_texts}
use Rattle.recovery.proofs.OneGroup.{group_added, group_texts-push}
use Rattle.replica_chain.proofs.Growing.{changes_push, groups_push, rows_push, text_push}

-- nothing is in doubt of a journal that stands with nothing
pub no_doubt : {D : Type 0} (disk_says : DiskSays D) (journal : Journal D) (one other : Committed) (doubt : Doubtful) → Stands disk_says journal one nothing → Stands disk_says journal other doubt → doubt ≡ nothing
no_doubt disk_says journal one other nothing settled stands = refl
no_doubt disk_says journal one other (group text) settled stands = absurd (never (sym settled.known ∙ stands.known.0))
  where
    never : Nothing ≡ Group → ⊥
    never e = cc
no_doubt disk_says journal one other (opening checkpoint) settled stands = absurd (never (sym settled.known ∙ stands.known))
  where
    never : Nothing ≡ Generation → ⊥
    never e = cc

module _ {D : Type 0} (disk_says : DiskSays D) (old new : Node D) (c : Chronicle) (n : IsNode disk_says old c) where
  -- it has the same changes, and perhaps others are in doubt
  unfoldable pub same_node : IsWhereItWas old new → (doubt : Doubtful) (pending : Chronicle) → Stands disk_says new.link.journal n.was doubt
      → ((older : List (List (List ℕ))) → KeepsOlder disk_says old.link.journal older → KeepsOlder disk_says new.link.journal older)
      → KeepsScanned disk_says old.link new.link
      → IsPending c doubt pending → HasAllRows (with_doubt n.was doubt) (rows_made pending)
      → (files : Files) → disk_says.seen (archive_disk_of new.archive) files
      → HasContentsOf disk_says new.archive (rows_made c) → HasContentsOf disk_says new.archive (rows_made pending) → IsNode disk_says new c
  same_node where_is doubt pending stands keeps scanned is_pending pending_has files sees contents pending_contents = record {
    was = n.was;
    doubt = doubt;
    stands = stands;
    keeps = keeps (map (group_texts 1) c.closed) n.keeps;
    scanned = scanned n.scanned;
    are = n.are;
    are_groups = n.are_groups;
    has = n.has;
    pending = pending;
    is_pending = is_pending;
    pending_has = pending_has;
    rows = where_is.rows ∙ n.rows;
    tells = (files, sees);
    contents = contents;
    pending_contents = pending_contents;
    before = where_is.before ∙ n.before;
    at = where_is.at ∙ n.at;
    number = where_is.number ∙ n.number;
    changes = where_is.changes ∙ n.changes;
  }

  -- the number of the next group
  pub next_is : length n.was.groups + 1 ≡ 1 + length c.newest
  next_is = let same = ap (length {A = List ℕ}) n.are ∙ length_texts 1 c.newest in omega (arith, same)

  module _ (changes : List Change) (is_group : IsGroup changes) (fit : AllFitIn (rows_of old.tables) changes) where
    abbrev pub text : List ℕ
    text = group_text (length n.was.groups + 1) changes

    -- the rows with a group that fits
    pub pushed_has : HasAllRows (with_group n.was text) (rows_made (with_changes c changes))
    pushed_has =
        let fits : AllFitIn (rows_made c) changes = subst (λ (rows : AllRows). AllFitIn rows changes) n.rows fit in
        subst (HasAllRows (with_group n.was text)) (sym (rows_push c changes)) (group_added n.was (rows_made c) changes n.has is_group fits)

    -- the group is in doubt
    pub pushed_pending : IsPending c (group text) (with_changes c changes)
    pushed_pending = (changes, is_group, ap (λ (k : ℕ). group_text k changes) next_is, refl)

    -- it was committed
    unfoldable pub grown_node : (end : ℕ) → HasTakenGroup old new changes end → end ≡ old.at + (5 + length (group_text old.number changes))
        → Stands disk_says new.link.journal (with_group n.was text) nothing → KeepsOlder disk_says new.link.journal (map (group_texts 1) c.closed)
        → KeepsScanned disk_says old.link new.link
        → (files : Files) → disk_says.seen (archive_disk_of new.archive) files
        → HasContentsOf disk_says new.archive (rows_made (with_changes c changes)) → IsNode disk_says new (with_changes c changes)
    grown_node end taken end_is stands keeps scanned files sees contents =
        record {
          was = with_group n.was text;
          doubt = nothing;
          stands = stands;
          keeps = keeps;
          scanned = scanned n.scanned;
          are = (λ i. n.are i ++ group_text (next_is i) changes ∷ []) ∙ sym (group_texts-push 1 c.newest changes);
          are_groups = groups_push c changes n.are_groups is_group;
          has = pushed_has;
          pending = with_changes c changes;
          is_pending = refl;
          pending_has = pushed_has;
          rows = taken.rows ∙ ap (λ (rows : AllRows). changed_by rows changes) n.rows ∙ sym (rows_push c changes);
          tells = (files, sees);
          contents = contents;
          pending_contents = contents;
          before = taken.before ∙ n.before;
          at =
              taken.at ∙ end_is ∙ ap (λ (k : ℕ). old.at + (5 + length (group_text k changes))) n.number
              ∙ ap (λ (k : ℕ). k + (5 + length (group_text (1 + length c.newest) changes))) n.at ∙ sym (text_push c.newest changes);
          number = (let more = taken.number in let was = n.number in omega (arith, more, was, length-append c.newest (changes ∷ [])));
          changes = (let more = taken.changes in let was = n.changes in omega (arith, more, was, ap length (changes_push c changes), length-append (changes_of c) (changes ∷ [])));
        }
