-- Nodes whose journals were only looked at, and whose archives were only read.
use Rattle.std.proofs.Common.{◌≡◌, ℕ, List, arith, sym, subst}
use Rattle.std.specs.Prelude.{map}
use Rattle.outside_api.specs.Says.{DiskSays}
use Rattle.archive_file.specs.Archive.{disk_of as archive_disk_of, used_of}
use Rattle.archive_file.specs.declared.archive.Archive.{Archive}
use Rattle.depot_rows.specs.table_changes.Changed.{AllRows}
use Rattle.disk_journal.specs.declared.journal.Journal.{Journal}
use Rattle.recovery.specs.Holding.{group_texts}
use Rattle.recovery.specs.Looking.{OnlyReads}
use Rattle.replica_chain.specs.Chronicle.{Chronicle, rows_made}
use Rattle.replica_chain.specs.Ends.{IsLinkLooked, IsLooked}
use Rattle.replica_chain.specs.Masters.{IsBehind, Upstream}
use Rattle.replica_chain.specs.Node.{CanFollow, HasContentsOf, HasFrontTo, IsNode}
use Rattle.replica_chain.specs.declared.link.NodeLink.{NodeLink}
use Rattle.replica_chain.specs.declared.node.Node.{Node}

-- what was scanned of a journal that was looked at since
pub looked_link : {D : Type 0} (disk_says : DiskSays D) (link : NodeLink D) (journal : Journal D) → IsLooked disk_says link.journal journal → IsLinkLooked disk_says link (record link { journal = journal })
looked_link disk_says link journal looked = record { journal = looked; scanned = λ scanned files sees. scanned files (looked.reads.same.no_more files sees) }

module _ {D : Type 0} (disk_says : DiskSays D) (old : Node D) where
  -- ---- the journal

  module _ (link : NodeLink D) (looked : IsLinkLooked disk_says old.link link) where
    pub looked_node : (c : Chronicle) → IsNode disk_says old c → IsNode disk_says (record old { link = link }) c
    looked_node c n = record {
      was = n.was;
      doubt = n.doubt;
      stands = looked.journal.stands n.was n.doubt n.stands;
      keeps = looked.journal.keeps (map (group_texts 1) c.closed) n.keeps;
      scanned = looked.scanned n.scanned;
      are = n.are;
      are_groups = n.are_groups;
      has = n.has;
      pending = n.pending;
      is_pending = n.is_pending;
      pending_has = n.pending_has;
      rows = n.rows;
      tells = n.tells;
      contents = n.contents;
      pending_contents = n.pending_contents;
      before = n.before;
      at = n.at;
      number = n.number;
      changes = n.changes;
    }

    pub looked_behind : (c : Chronicle) (up : Upstream) → IsBehind disk_says old c up → IsBehind disk_says (record old { link = link }) c up
    unfolding looked_node
    looked_behind c up b = record { is_node = looked_node c b.is_node; earlier = b.earlier; rest = b.rest; no_group = b.no_group; front = b.front }

    pub looked_can : CanFollow disk_says old → CanFollow disk_says (record old { link = link })
    looked_can can =
        let stands = looked.journal.stands can.was can.doubt can.stands in
        record {
          was = can.was;
          doubt = can.doubt;
          stands = stands;
          archive_end = can.archive_end;
          room = can.room;
          short = can.short;
          numbered = can.numbered;
          counted = (let before = can.stands.generation in let now = stands.generation in let counted = can.counted in omega (arith, before, now, counted));
        }

  -- ---- the archive

  module _ (archive : Archive D) (reads : OnlyReads disk_says (archive_disk_of old.archive) (archive_disk_of archive)) (used : used_of archive ≡ used_of old.archive) where
    read_front : (bytes : List ℕ) → HasFrontTo (disk_says.may_leave (archive_disk_of old.archive)) (used_of old.archive) bytes → HasFrontTo (disk_says.may_leave (archive_disk_of archive)) (used_of archive) bytes
    read_front bytes front =
        subst (λ (place : ℕ). HasFrontTo (disk_says.may_leave (archive_disk_of archive)) place bytes) (sym used) (record { within = front.within; has = λ image left. front.has image (reads.no_more image left) })

    read_contents : (rows : AllRows) → HasContentsOf disk_says old.archive rows → HasContentsOf disk_says archive rows
    read_contents rows contents = record {
      bytes = contents.bytes;
      front = read_front contents.bytes contents.front;
      ends = (let ends = contents.ends in omega (arith, used, ends));
      whole = contents.whole;
    }

    pub read_node : (c : Chronicle) → IsNode disk_says old c → IsNode disk_says (record old { archive = archive }) c
    read_node c n = record {
      was = n.was;
      doubt = n.doubt;
      stands = n.stands;
      keeps = n.keeps;
      scanned = n.scanned;
      are = n.are;
      are_groups = n.are_groups;
      has = n.has;
      pending = n.pending;
      is_pending = n.is_pending;
      pending_has = n.pending_has;
      rows = n.rows;
      tells = (n.tells.0, reads.same.kept n.tells.0 n.tells.1);
      contents = read_contents (rows_made c) n.contents;
      pending_contents = read_contents (rows_made n.pending) n.pending_contents;
      before = n.before;
      at = n.at;
      number = n.number;
      changes = n.changes;
    }

    pub read_behind : (c : Chronicle) (up : Upstream) → IsBehind disk_says old c up → IsBehind disk_says (record old { archive = archive }) c up
    unfolding read_node
    read_behind c up b = record { is_node = read_node c b.is_node; earlier = b.earlier; rest = b.rest; no_group = b.no_group; front = read_front up.bytes b.front }

    pub read_can : CanFollow disk_says old → CanFollow disk_says (record old { archive = archive })
    read_can can = record {
      was = can.was;
      doubt = can.doubt;
      stands = can.stands;
      archive_end = (let end = can.archive_end in omega (arith, end, used));
      room = λ image left. (let room = can.room image (reads.no_more image left) in omega (arith, room, used));
      short = can.short;
      numbered = can.numbered;
      counted = can.counted;
    }
