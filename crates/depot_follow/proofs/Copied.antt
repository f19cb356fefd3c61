-- What a node has that has taken all, and the depots for which its files stand.
use Rattle.std.proofs.Common.{◌≡◌, ◌⊎◌, inl, inr, ℕ, ◌≤◌, List, length, take, refl, sym, ap, subst, ◌∙◌, arith}
use Rattle.std.proofs.lemmas.List.{length-take-le, take-take, take_all}
use Rattle.outside_api.specs.Disk.{Files}
use Rattle.outside_api.specs.Says.{DiskSays, SinkSays}
use Rattle.archive_file.specs.Archive.{disk_of as archive_disk_of, used_of}
use Rattle.archive_file.specs.Contents.{IsTold}
use Rattle.depot_rows.specs.Standing.{Stand}
use Rattle.depot_rows.specs.db_records.declared.change.Change.{Change}
use Rattle.depot_rows.specs.db_records.declared.table.TableId.TheVariants.{Rev}
use Rattle.depot_rows.specs.depot_model.Deeds.{Deed}
use Rattle.depot_rows.specs.table_changes.Changed.{AllRows, changed_by, no_rows, rows_of}
use Rattle.depot_rows.specs.table_store.declared.tables.Tables.{Tables}
use Rattle.disk_journal.specs.Stands.{Doubtful, HasWithOrWithout, disk_of, generation_of_journal}
use Rattle.recovery.specs.Contents.{IsSpotDamage}
use Rattle.recovery.specs.Holding.{Hold, joined, spots_end}
use Rattle.recovery.specs.Looking.{OnlyReads}
use Rattle.recovery.specs.Rules.{DeletesAreUnplaced}
use Rattle.recovery.specs.Standing.{HasContents, StandFor}
use Rattle.replica_chain.specs.Chronicle.{Chronicle, changes_of, generations_of, rows_made, texts_of}
use Rattle.replica_chain.specs.Copying.{AtBadContent}
use Rattle.replica_chain.specs.Ends.{IsLinkLooked}
use Rattle.replica_chain.specs.Masters.{GoesOnBehindNode, HasAllOf, IsBehind, IsDepotThen}
use Rattle.replica_chain.specs.Node.{IsNode, files_of}
use Rattle.replica_chain.specs.Opening.{IsFresh}
use Rattle.replica_chain.specs.declared.fault.NodeFault.{NodeFault}
use Rattle.replica_chain.specs.declared.node.Node.{Node}
use Rattle.replica_chain.specs.declared.node.Pair.{Pair}
use Rattle.recovery.proofs.Held.{rows_once}
use Rattle.replica_chain.proofs.Copies.{earlier_alike, fresh_behind}
use Rattle.replica_chain.proofs.Following.{closed_texts_long}
use Rattle.replica_chain.proofs.Grouping.{settled_stands}
use Rattle.replica_chain.proofs.Growing.{texts_long}
use Rattle.replica_chain.proofs.Prefixes.{files_stand}
use Rattle.replica_chain.proofs.Reached.{followed_node, goes_looked, goes_read, goes_then}
use Rattle.replica_chain.proofs.Steps.{its_generation}
use Rattle.replica_chain.proofs.Told.{node_tells}
use Rattle.replica_chain.proofs.Whole.{has_all}
use Rattle.depot_follow.specs.Following.{AgreeWith, Follows, HasAll, HasBroken, HasOtherRows, HasStopped, IsPosition, IsSoFar, StandAlike, StandForItsDepots, TakesAll}
use Rattle.depot_follow.specs.declared.ended.ChainCause.TheVariants as causes
use Rattle.depot_follow.specs.declared.ended.ChainEnded.{ChainEnded}

-- Journals that were compared, pulls, and a verification: where the node is then as far as the upstream was, it has taken all.
module _ {D : Type 0} (disk_says : DiskSays D) (only_now : (disk : D) (image : Files) → disk_says.left_since disk (disk_says.moment disk) image → disk_says.may_leave disk image) where
  -- journals that were compared
  pub compared : (up node up_mid node_mid : Node D) → IsLinkLooked disk_says up.link up_mid.link → IsLinkLooked disk_says node.link node_mid.link → up_mid ≡ record up { link = up_mid.link }
      → node_mid ≡ record node { link = node_mid.link } → GoesOnBehindNode disk_says up up_mid node node_mid
  compared up node up_mid node_mid up_looked node_looked up_others node_others =
      subst (λ (n : Node D). GoesOnBehindNode disk_says up up_mid node n) (sym node_others)
      (subst (λ (n : Node D). GoesOnBehindNode disk_says up n node (record node { link = node_mid.link })) (sym up_others) (goes_looked disk_says only_now up node up_mid.link node_mid.link up_looked node_looked))

  -- a verification behind pulls
  pub verified : (up up_last node node_pulled node_last : Node D) → GoesOnBehindNode disk_says up up_last node node_pulled → node_last ≡ record node_pulled { archive = node_last.archive }
      → OnlyReads disk_says (archive_disk_of node_pulled.archive) (archive_disk_of node_last.archive) → used_of node_last.archive ≡ used_of node_pulled.archive → GoesOnBehindNode disk_says up up_last node node_last
  verified up up_last node node_pulled node_last pulled others reads used =
      let last : GoesOnBehindNode disk_says up_last up_last node_pulled node_last = subst (λ (x : Node D). GoesOnBehindNode disk_says up_last up_last node_pulled x) (sym others) (goes_read disk_says only_now up_last node_pulled node_last.archive reads used) in
      goes_then disk_says only_now up up_last up_last node node_pulled node_last pulled last

  -- how far the node is then
  pub as_far : (up up_mid node_pulled node_last : Node D) → ((c : Chronicle) → IsNode disk_says up c → IsNode disk_says up_mid c) → node_last ≡ record node_pulled { archive = node_last.archive }
      → (generation changes : ℕ) → generation ≡ generation_of_journal up_mid.link.journal → changes ≡ up_mid.changes → IsPosition node_pulled generation changes
      → (c : Chronicle) → IsNode disk_says up c → IsSoFar c (generation_of_journal node_last.link.journal) node_last.changes
  as_far up up_mid node_pulled node_last kept others generation changes generation_is changes_are position c n =
      let u = kept c n in
      let stands = u.stands.generation in
      let at : generation_of_journal node_last.link.journal ≡ generation = ap (λ (x : Node D). generation_of_journal x.link.journal) others ∙ position.0 in
      let has : node_last.changes ≡ changes = ap (λ (x : Node D). x.changes) others ∙ position.1 in
      record { generation_is = omega (arith, at, generation_is, stands, its_generation disk_says up_mid c u); changes_are = has ∙ changes_are ∙ u.changes }

  -- and where a content is bad, of those that it had when its archive was read
  pub bad_then : (node_pulled node_last : Node D) → node_last ≡ record node_pulled { archive = node_last.archive } → OnlyReads disk_says (archive_disk_of node_pulled.archive) (archive_disk_of node_last.archive) → (fault : NodeFault)
      → ((a : Files) → disk_says.seen (archive_disk_of node_pulled.archive) a → spots_end (rows_of node_pulled.tables Rev) ≤ length (a 0) → AtBadContent (IsSpotDamage (a 0) (rows_of node_pulled.tables Rev)) fault)
      → (a : Files) → disk_says.seen (archive_disk_of node_last.archive) a → spots_end (rows_of node_last.tables Rev) ≤ length (a 0) → AtBadContent (IsSpotDamage (a 0) (rows_of node_last.tables Rev)) fault
  bad_then node_pulled node_last others reads fault bad a sees within =
      let same : node_last.tables ≡ node_pulled.tables = ap (λ (x : Node D). x.tables) others in
      subst (λ (tables : Tables). AtBadContent (IsSpotDamage (a 0) (rows_of tables Rev)) fault) (sym same)
      (bad a (reads.same.no_more a sees) (subst (λ (tables : Tables). spots_end (rows_of tables Rev) ≤ length (a 0)) same within))

  pub takes_all : (up node up_mid node_mid up_last node_pulled node_last : Node D) → GoesOnBehindNode disk_says up up_mid node node_mid → GoesOnBehindNode disk_says up up_last node node_last
      → node_last ≡ record node_pulled { archive = node_last.archive }
      → (generation changes : ℕ) → generation ≡ generation_of_journal up_mid.link.journal → changes ≡ up_mid.changes → IsPosition node_pulled generation changes → TakesAll disk_says up node node_last
  takes_all up node up_mid node_mid up_last node_pulled node_last first all others generation changes generation_is changes_are position mine theirs bytes n told b =
      let stays = all.behind mine theirs bytes n told b in
      let m = stays.behind.is_node in
      let u = followed_node disk_says only_now up up_mid first.followed theirs n in
      let at : generation_of_journal node_last.link.journal ≡ generation = ap (λ (x : Node D). generation_of_journal x.link.journal) others ∙ position.0 in
      let has : node_last.changes ≡ changes = ap (λ (x : Node D). x.changes) others ∙ position.1 in
      let mine_long = m.keeps.count in
      let theirs_long = u.keeps.count in
      let closed : length stays.now.closed ≡ length theirs.closed = omega (arith, mine_long, at, generation_is, theirs_long, closed_texts_long stays.now.closed, closed_texts_long theirs.closed) in
      let count : length (changes_of stays.now) ≡ length (changes_of theirs) = sym m.changes ∙ has ∙ changes_are ∙ u.changes in
      has_all disk_says node_last stays.now theirs bytes n.are_groups stays.behind closed count

  -- what was compared and pulled leaves the upstream's rows
  pub same_tables : (up up_mid up_last node_mid node_last : Node D) → up_mid ≡ record up { link = up_mid.link } → GoesOnBehindNode disk_says up_mid up_last node_mid node_last → rows_of up_last.tables ≡ rows_of up.tables
  same_tables up up_mid up_last node_mid node_last compared pulled = ap (λ (n : Node D). rows_of n.tables) pulled.followed.others ∙ ap (λ (n : Node D). rows_of n.tables) compared

  -- a node that has taken all has the upstream's rows
  never_behind : (up node node_last : Node D) → TakesAll disk_says up node node_last → (rows_of node_last.tables ≡ rows_of up.tables → ⊥) → (mine theirs : Chronicle) (bytes : List ℕ) → IsNode disk_says up theirs → IsTold disk_says up.archive bytes
      → IsBehind disk_says node mine (record { texts = texts_of theirs; bytes = bytes }) → ⊥
  never_behind up node node_last takes differ mine theirs bytes n told behind = differ ((takes mine theirs bytes n told behind).is_node.rows ∙ sym n.rows)

  -- a node whose rows aren't the upstream's
  pub other_rows : (up node up_mid node_mid up_last node_last : Node D) → ((c : Chronicle) → IsNode disk_says up c → IsNode disk_says up_mid c) → up_mid ≡ record up { link = up_mid.link } → GoesOnBehindNode disk_says up up_mid node node_mid
      → GoesOnBehindNode disk_says up_mid up_last node_mid node_last → (generation changes : ℕ) → generation ≡ generation_of_journal up_mid.link.journal → changes ≡ up_mid.changes → IsPosition node_last generation changes
      → (rows_of node_last.tables ≡ rows_of up_last.tables → ⊥) → HasOtherRows disk_says up node node_last
  other_rows up node up_mid node_mid up_last node_last kept compared first pulled generation changes generation_is changes_are position differ =
      let differs : rows_of node_last.tables ≡ rows_of up.tables → ⊥ = λ same. differ (same ∙ sym (same_tables up up_mid up_last node_mid node_last compared pulled)) in
      let all = goes_then disk_says only_now up up_mid up_last node node_mid node_last first pulled in record {
        as_far = as_far up up_mid node_last node_last kept refl generation changes generation_is changes_are position;
        differ = differs;
        never_behind = never_behind up node node_last (takes_all up node up_mid node_mid up_last node_last node_last first all refl generation changes generation_is changes_are position) differs;
      }

-- The depot of files that have the rows of these changes is that of the changes.
module _ (theirs : Chronicle) (journal archive : Files) (d : List Deed) (stands : StandFor d journal archive) (rows_are : stands.rows ≡ rows_made theirs) where
  all_rows : changed_by no_rows (joined (take (length (changes_of theirs)) (changes_of theirs))) ≡ rows_made theirs
  all_rows = ap (λ (groups : List (List Change)). changed_by no_rows (joined groups)) (take_all (length (changes_of theirs)) (changes_of theirs) (omega arith))

  depot_then : IsDepotThen (generations_of theirs) (archive 0) (length (changes_of theirs)) d
  depot_then =
      let same = rows_are ∙ sym all_rows in
      record {
        stand = subst (λ (rows : AllRows). Stand rows d) same stands.stand;
        deletes = subst (λ (rows : AllRows). DeletesAreUnplaced (rows Rev)) same stands.deletes;
        within = subst (λ (rows : AllRows). spots_end (rows Rev) ≤ length (archive 0)) same stands.within;
        contents = subst (λ (rows : AllRows). HasContents (archive 0) rows d) same stands.contents;
      }

-- A node that has taken all, and began as the upstream, has the depots of its files.
module _ {D : Type 0} (disk_says : DiskSays D) (image_of : (disk : D) (files : Files) → disk_says.seen disk files → disk_says.may_leave disk files) where
  pub stand_alike : (up node node_last : Node D) → IsFresh disk_says node → AgreeWith disk_says up node → TakesAll disk_says up node node_last → StandAlike disk_says up node (files_of node_last)
  stand_alike up node node_last fresh agrees takes theirs journal archive sees n begins d stands rows_are generation_is j a left there =
      let used = used_of up.archive in
      let reach = (n.contents.front.has archive (image_of (archive_disk_of up.archive) archive sees)).within in
      let within : used ≤ length (archive 0) = omega (arith, reach) in
      let bytes = take used (archive 0) in
      let told : IsTold disk_says up.archive bytes = record { files = archive; sees = sees; within = within; are = refl } in
      let m = begins.is_node in
      let mine = begins.mine in
      let place = spots_end (rows_made mine Rev) in
      let ends = n.contents.ends in
      let no_further = begins.no_further in
      let le : place ≤ used = omega (arith, ends, no_further) in
      let alike = agrees (texts_of mine) (texts_of theirs) (node_tells disk_says image_of node mine m).has (node_tells disk_says image_of up theirs n).has in
      let earlier = earlier_alike (texts_of mine) (texts_of theirs) (omega (arith, texts_long mine)) alike in
      let behind : IsBehind disk_says node mine (record { texts = texts_of theirs; bytes = bytes }) =
      fresh_behind disk_says node mine m fresh (texts_of theirs) bytes earlier (omega (arith, le, length-take-le used (archive 0) within)) (λ image here. begins.same image here ∙ sym (take-take place used (archive 0) le)) in
      let all : HasAllOf disk_says node_last theirs bytes = takes mine theirs bytes n told behind in
      let last = all.is_node in
      let used_last = used_of node_last.archive in
      let front = all.front.has a there in
      let within_front = all.front.within in
      let long = length-take-le used (archive 0) within in
      let shorter : used_last ≤ used = omega (arith, within_front, long) in
      let made : stands.rows ≡ rows_made theirs = rows_are ∙ n.rows in
      files_stand (generations_of theirs) (archive 0) (length (changes_of theirs)) d (depot_then theirs journal archive d stands made) theirs (all_rows theirs journal archive d stands made)
      (stands.generation ∙ generation_is ∙ n.stands.generation ∙ its_generation disk_says up theirs n) last.was j a used_last
      (subst (λ (doubt : Doubtful). HasWithOrWithout last.was doubt j) all.nothing_more (last.stands.holds j left)) last.has (its_generation disk_says node_last theirs last)
      (record { within = front.within; is = front.is ∙ take-take used_last used (archive 0) shorter }) (omega (arith, shorter, within)) last.contents.ends

  -- files that an upstream reads have its rows and its generation, where nothing of it is in doubt
  pub its_depots : (up node : Node D) (files : Pair D) → IsFresh disk_says up → StandAlike disk_says up node files → StandForItsDepots disk_says up node files
  its_depots up node files fresh alike theirs journal archive sees there n begins d stands =
      let committed = (settled_stands disk_says up theirs n fresh.settled).holds journal (image_of (disk_of up.link.journal) journal sees) in
      let ours : Hold journal (rows_made theirs) = record { was = n.was; committed = committed; has = n.has } in
      let other : Hold journal stands.rows = record { was = stands.was; committed = stands.committed; has = stands.has } in
      let rows : stands.rows ≡ rows_made theirs = λ i table. rows_once journal (rows_made theirs) stands.rows ours other table i in
      alike theirs journal archive there n begins d stands (rows ∙ sym n.rows) (sym stands.committed.root ∙ committed.root ∙ sym n.stands.generation)

  module _ {K : Type 0} (sink_says : SinkSays K) where
    pub copied_by : (up node : Node D) (old_out new_out : K) (ended : ChainEnded D) → IsFresh disk_says node → Follows disk_says sink_says up node old_out new_out ended → ended.cause ≡ causes.Done → StandAlike disk_says up node ended.node
    copied_by up node old_out new_out ended fresh follows done = go follows.ends
      where
        go : HasBroken disk_says sink_says up node old_out new_out ended follows.up_last follows.node_last ⊎ HasAll disk_says sink_says up node old_out new_out ended follows.node_last → StandAlike disk_says up node ended.node
        go (inl broke) = absurd (subst (HasStopped disk_says up node follows.up_last follows.node_last) done broke.stopped)
        go (inr all) = subst (StandAlike disk_says up node) (sym follows.node_is) (stand_alike up node follows.node_last fresh all.agrees all.all)
