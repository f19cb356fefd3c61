-- A node that takes a group: what it has whatever comes of it, and that it goes on behind what it follows.
use Rattle.std.proofs.Common.{◌≡◌, ℕ, ◌+◌, List, length, refl, sym, subst}
use Rattle.std.specs.Prelude.{map}
use Rattle.outside_api.specs.Disk.{Files}
use Rattle.outside_api.specs.Link.{IsEarlier, text_of}
use Rattle.outside_api.specs.Says.{DiskSays}
use Rattle.archive_file.specs.Archive.{Has, disk_of as archive_disk_of, used_of}
use Rattle.archive_file.specs.Contents.{IsFront}
use Rattle.depot_rows.specs.db_records.declared.change.Change.{Change}
use Rattle.depot_rows.specs.table_changes.Changed.{AllFitIn, rows_of}
use Rattle.disk_journal.specs.Images.{with_group}
use Rattle.disk_journal.specs.Keeping.{KeepsOlder}
use Rattle.disk_journal.specs.Stands.{nothing, group, Stands}
use Rattle.journal_groups.specs.Groups.{IsGroup, group_text}
use Rattle.recovery.specs.Holding.{group_texts}
use Rattle.replica_pull.specs.Prefix.{HasNoGroup}
use Rattle.replica_chain.specs.Chronicle.{Chronicle, rows_made, texts_of, with_changes}
use Rattle.replica_chain.specs.Copying.{AreBrought, IsFilled}
use Rattle.replica_chain.specs.Ends.{KeepsScanned}
use Rattle.replica_chain.specs.Masters.{IsBehind, Upstream}
use Rattle.replica_chain.specs.Node.{HasContentsOf, HasFrontTo, IsNode, IsSettled}
use Rattle.replica_chain.specs.Pulling.{HasTakenGroup, IsWhereItWas}
use Rattle.replica_chain.specs.declared.node.Node.{Node}
use Rattle.replica_chain.proofs.Brought.{brought_contents, filled_contents}
use Rattle.replica_chain.proofs.Growing.{rows_push}
use Rattle.replica_chain.proofs.Nodes.{grown_node, no_doubt, pushed_has, pushed_pending, same_node}
use Rattle.replica_chain.proofs.Steps.{all_earlier}

module _ {D : Type 0} (disk_says : DiskSays D) (old : Node D) (c : Chronicle) (n : IsNode disk_says old c) (settled : IsSettled disk_says old) where
  none : n.doubt ≡ nothing
  none = no_doubt disk_says old.link.journal settled.0 n.was n.doubt settled.1 n.stands

  pub settled_stands : Stands disk_says old.link.journal n.was nothing
  settled_stands = subst (Stands disk_says old.link.journal n.was) none n.stands

  module _ (new : Node D) (told_before told_now : List ℕ → Type 0) (filled : IsFilled disk_says told_before told_now old.archive new.archive)
      (older : (before : List (List (List ℕ))) → KeepsOlder disk_says old.link.journal before → KeepsOlder disk_says new.link.journal before) (scanned : KeepsScanned disk_says old.link new.link) where
    pub sees : (files : Files) × disk_says.seen (archive_disk_of new.archive) files
    sees = filled.tells n.tells.0 n.tells.1

    pub contents : HasContentsOf disk_says new.archive (rows_made c)
    contents = filled_contents disk_says told_before told_now old.archive new.archive filled (rows_made c) n.contents

    -- nothing was committed, and nothing is in doubt
    unfoldable pub still_node : IsWhereItWas old new → Stands disk_says new.link.journal n.was nothing → IsNode disk_says new c
    still_node where_is stands = same_node disk_says old new c n where_is nothing c stands older scanned refl n.has sees.0 sees.1 contents contents

    module _ (image : (files : Files) → disk_says.seen (archive_disk_of new.archive) files → disk_says.may_leave (archive_disk_of new.archive) files)
        (changes : List Change) (is_group : IsGroup changes) (fit : AllFitIn (rows_of old.tables) changes) (brought : AreBrought disk_says new.archive changes) where
      abbrev text : List ℕ
      text = group_text (length n.was.groups + 1) changes

      pub more_contents : HasContentsOf disk_says new.archive (rows_made (with_changes c changes))
      more_contents =
          subst (HasContentsOf disk_says new.archive) (sym (rows_push c changes))
          (brought_contents disk_says told_before told_now old.archive new.archive filled (rows_made c) n.contents changes image sees.0 sees.1 brought)

      -- the group is in doubt
      unfoldable pub doubted_node : IsWhereItWas old new → Stands disk_says new.link.journal n.was (group text) → IsNode disk_says new c
      doubted_node where_is stands =
          same_node disk_says old new c n where_is (group text) (with_changes c changes) stands older scanned (pushed_pending disk_says old new c n changes is_group fit) (pushed_has disk_says old new c n changes is_group fit) sees.0 sees.1
          contents more_contents

      -- it was committed
      unfoldable pub taken_node : (end : ℕ) → HasTakenGroup old new changes end → end ≡ old.at + (5 + length (group_text old.number changes)) → Stands disk_says new.link.journal (with_group n.was text) nothing
          → IsNode disk_says new (with_changes c changes)
      taken_node end taken end_is stands = grown_node disk_says old new c n changes is_group fit end taken end_is stands (older (map (group_texts 1) c.closed) n.keeps) scanned sees.0 sees.1 more_contents

-- ---- behind what it follows

module _ {D : Type 0} (disk_says : DiskSays D) (old : Node D) (c : Chronicle) (up : Upstream) (b : IsBehind disk_says old c up) (settled : IsSettled disk_says old)
    (new : Node D) (told_before told_now : List ℕ → Type 0) (filled : IsFilled disk_says told_before told_now old.archive new.archive)
    (older : (before : List (List (List ℕ))) → KeepsOlder disk_says old.link.journal before → KeepsOlder disk_says new.link.journal before) (scanned : KeepsScanned disk_says old.link new.link) (told : told_before up.bytes) where
  abbrev n : IsNode disk_says old c
  n = b.is_node

  -- the bytes that are told now, which have grown
  pub bytes_now : (now : List ℕ) × (told_now now × (IsFront up.bytes now × HasFrontTo (disk_says.may_leave (archive_disk_of new.archive)) (used_of new.archive) now))
  bytes_now = filled.told up.bytes told b.front

  abbrev pub later : Upstream
  later = record { texts = up.texts; bytes = bytes_now.0 }

  module _ (where_is : IsWhereItWas old new) (rest : new.rest ≡ old.rest) where
    same_none : HasNoGroup new.number new.rest
    same_none = subst (λ (number : ℕ). HasNoGroup number new.rest) (sym where_is.number) (subst (HasNoGroup old.number) (sym rest) b.no_group)

    same_rest : Has (text_of up.texts (length c.closed)) (record { at = new.at; length = length new.rest }) new.rest
    same_rest =
        subst (λ (at : ℕ). Has (text_of up.texts (length c.closed)) (record { at = at; length = length new.rest }) new.rest) (sym where_is.at)
        (subst (λ (l : List ℕ). Has (text_of up.texts (length c.closed)) (record { at = old.at; length = length l }) l) (sym rest) b.rest)

    -- nothing was committed
    pub still_behind : Stands disk_says new.link.journal n.was nothing → IsBehind disk_says new c later
    unfolding still_node same_node
    still_behind stands = record {
      is_node = still_node disk_says old c n settled new told_before told_now filled older scanned where_is stands;
      earlier = all_earlier disk_says old c up b;
      rest = same_rest;
      no_group = same_none;
      front = bytes_now.1.1.1;
    }

  module _ (image : (files : Files) → disk_says.seen (archive_disk_of new.archive) files → disk_says.may_leave (archive_disk_of new.archive) files)
      (changes : List Change) (is_group : IsGroup changes) (fit : AllFitIn (rows_of old.tables) changes) (brought : AreBrought disk_says new.archive changes) (next : IsEarlier (texts_of (with_changes c changes)) up.texts) where
    -- the group is in doubt
    pub doubted_behind : IsWhereItWas old new → new.rest ≡ old.rest → Stands disk_says new.link.journal n.was (group (group_text (length n.was.groups + 1) changes)) → IsBehind disk_says new c later
    unfolding doubted_node same_node
    doubted_behind where_is rest stands = record {
      is_node = doubted_node disk_says old c n settled new told_before told_now filled older scanned image changes is_group fit brought where_is stands;
      earlier = next;
      rest = same_rest where_is rest;
      no_group = same_none where_is rest;
      front = bytes_now.1.1.1;
    }

    -- it was committed
    pub taken_behind : (end : ℕ) → HasTakenGroup old new changes end → end ≡ old.at + (5 + length (group_text old.number changes)) → Stands disk_says new.link.journal (with_group n.was (group_text (length n.was.groups + 1) changes)) nothing
        → Has (text_of up.texts (length c.closed)) (record { at = new.at; length = length new.rest }) new.rest → HasNoGroup new.number new.rest → IsBehind disk_says new (with_changes c changes) later
    unfolding taken_node grown_node
    taken_behind end taken end_is stands rest none = record {
      is_node = taken_node disk_says old c n settled new told_before told_now filled older scanned image changes is_group fit brought end taken end_is stands;
      earlier = next;
      rest = rest;
      no_group = none;
      front = bytes_now.1.1.1;
    }
