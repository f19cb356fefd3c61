-- A node whose journal was settled, or wasn't.
use Rattle.std.proofs.Common.{◌≡◌, inl, ℕ, List, refl, arith}
use Rattle.outside_api.specs.Moments.{LeavesOnly, weaker}
use Rattle.outside_api.specs.Says.{DiskSays}
use Rattle.archive_file.specs.Archive.{used_of}
use Rattle.disk_journal.specs.Images.{Committed}
use Rattle.disk_journal.specs.Keeping.{KeepsOlder}
use Rattle.disk_journal.specs.Stands.{Doubtful, HasWithOrWithout, Stands, disk_of, generation_of_journal, nothing}
use Rattle.replica_chain.specs.Chronicle.{Chronicle}
use Rattle.replica_chain.specs.Ends.{KeepsScanned}
use Rattle.replica_chain.specs.Masters.{GoesOnBehind, IsBehind, Upstream}
use Rattle.replica_chain.specs.Node.{CanFollow, IsNode}
use Rattle.replica_chain.specs.Pulling.{IsWhereItWas}
use Rattle.replica_chain.specs.declared.link.NodeLink.{NodeLink}
use Rattle.replica_chain.specs.declared.node.Node.{Node}
use Rattle.replica_chain.proofs.Copied.{front_itself}
use Rattle.replica_chain.proofs.Growing.{earlier_self}
use Rattle.replica_chain.proofs.Nodes.{same_node}
use Rattle.replica_chain.proofs.Rests.{with_link}
use Rattle.replica_chain.proofs.Steps.{all_earlier, some_doubted}

module _ {D : Type 0} (disk_says : DiskSays D) (old : Node D) (link : NodeLink D) where
  pub where_settled : generation_of_journal link.journal ≡ generation_of_journal old.link.journal → IsWhereItWas old (with_link old link)
  where_settled same = record { generation = same; rows = refl; before = refl; at = refl; number = refl; changes = refl }

  pub settled_can : CanFollow disk_says old → generation_of_journal link.journal ≡ generation_of_journal old.link.journal → (was : Committed) (doubt : Doubtful) → Stands disk_says link.journal was doubt
      → CanFollow disk_says (with_link old link)
  settled_can can same was doubt stands = record {
    was = was;
    doubt = doubt;
    stands = stands;
    archive_end = can.archive_end;
    room = can.room;
    short = can.short;
    numbered = can.numbered;
    counted = (let counted = can.counted in omega (arith, counted, same));
  }

  module _ (keeps : (older : List (List (List ℕ))) → KeepsOlder disk_says old.link.journal older → KeepsOlder disk_says link.journal older) (scanned : KeepsScanned disk_says old.link link) (same : generation_of_journal link.journal ≡ generation_of_journal old.link.journal) (c : Chronicle) where
    -- nothing is in doubt any more
    unfoldable pub settled_node : (n : IsNode disk_says old c) → Stands disk_says link.journal n.was nothing → IsNode disk_says (with_link old link) c
    settled_node n stands =
        same_node disk_says old (with_link old link) c n (where_settled same) nothing c stands keeps scanned refl n.has n.tells.0 n.tells.1 n.contents n.contents

    -- it is still in doubt
    unfoldable pub doubted_still : (n : IsNode disk_says old c) → Stands disk_says link.journal n.was n.doubt → IsNode disk_says (with_link old link) c
    doubted_still n stands =
        same_node disk_says old (with_link old link) c n (where_settled same) n.doubt n.pending stands keeps scanned n.is_pending n.pending_has n.tells.0 n.tells.1 n.contents n.pending_contents

    module _ (up : Upstream) (b : IsBehind disk_says old c up) (B : List ℕ → Type 0) (told : B up.bytes) (moments : LeavesOnly disk_says (disk_of old.link.journal) (disk_of link.journal) (HasWithOrWithout b.is_node.was b.is_node.doubt)) where
      settled_behind : Stands disk_says link.journal b.is_node.was nothing → IsBehind disk_says (with_link old link) c up
      unfolding settled_node same_node
      settled_behind stands = record { is_node = settled_node b.is_node stands; earlier = all_earlier disk_says old c up b; rest = b.rest; no_group = b.no_group; front = b.front }

      doubted_behind : Stands disk_says link.journal b.is_node.was b.is_node.doubt → IsBehind disk_says (with_link old link) c up
      unfolding doubted_still same_node
      doubted_behind stands = record { is_node = doubted_still b.is_node stands; earlier = b.earlier; rest = b.rest; no_group = b.no_group; front = b.front }

      goes : IsBehind disk_says (with_link old link) c up → GoesOnBehind disk_says old (with_link old link) c up (λ texts. texts ≡ up.texts) B
      goes behind =
          let n = b.is_node in
          record {
            later = up;
            grown = inl refl;
            more = front_itself up.bytes;
            texts_told = refl;
            bytes_told = told;
            stays = record {
              now = c;
              no_fewer = earlier_self c;
              behind = behind;
              any_moment =
                  weaker disk_says (disk_of old.link.journal) (disk_of link.journal) (HasWithOrWithout n.was n.doubt) _
                  (λ journal. some_doubted disk_says old c n up.texts (used_of old.archive) n.contents.ends journal n.doubt n.pending n.is_pending n.pending_has b.earlier n.pending_contents.ends) moments;
            };
          }

      pub settled_goes : Stands disk_says link.journal b.is_node.was nothing → GoesOnBehind disk_says old (with_link old link) c up (λ texts. texts ≡ up.texts) B
      settled_goes stands = goes (settled_behind stands)

      pub doubted_goes : Stands disk_says link.journal b.is_node.was b.is_node.doubt → GoesOnBehind disk_says old (with_link old link) c up (λ texts. texts ≡ up.texts) B
      doubted_goes stands = goes (doubted_behind stands)
