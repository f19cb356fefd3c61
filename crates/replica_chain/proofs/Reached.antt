-- Nodes that others followed: they tell what they told.
use Rattle.std.proofs.Common.{◌≡◌, inl, ℕ, ◌^◌, ◌<◌, List, length, take, refl, sym, ap, subst, ◌∙◌, arith}
use Rattle.outside_api.specs.Disk.{Files}
use Rattle.outside_api.specs.Moments.{started, then, weaker}
use Rattle.outside_api.specs.Reaching.{Reaches, holds, once, stays, then as reach}
use Rattle.outside_api.specs.Says.{DiskSays}
use Rattle.archive_file.specs.Archive.{disk_of as archive_disk_of, used_of}
use Rattle.archive_file.specs.Contents.{IsTold, IsLooked as IsArchiveLooked}
use Rattle.archive_file.specs.declared.archive.Archive.{Archive}
use Rattle.disk_journal.specs.Stands.{disk_of}
use Rattle.recovery.specs.Looking.{OnlyReads}
use Rattle.recovery.specs.Texts.{HasTexts}
use Rattle.replica_chain.specs.Chronicle.{Chronicle, texts_of}
use Rattle.replica_chain.specs.Copying.{KeepsContents}
use Rattle.replica_chain.specs.Ends.{IsLinkLooked, TellsTexts}
use Rattle.replica_chain.specs.Masters.{GoesOnBehind, GoesOnBehindNode, IsBehind, StaysBehind, TellsGroups, Upstream, WasFollowed}
use Rattle.replica_chain.specs.Node.{IsNode}
use Rattle.replica_chain.specs.declared.link.NodeLink.{NodeLink}
use Rattle.replica_chain.specs.declared.node.Node.{Node}
use Rattle.replica_chain.proofs.Looked.{looked_behind, looked_node, read_behind, read_node}
use Rattle.replica_chain.proofs.Growing.{earlier_self}
use Rattle.replica_chain.proofs.Kept.{keeps_first, keeps_on, keeps_read}
use Rattle.replica_chain.proofs.Steps.{some_now, some_on, stays_first, stays_on}
use Rattle.replica_chain.proofs.Told.{looked_on, node_tells, not_looked, told_texts}

module _ {D : Type 0} (disk_says : DiskSays D) (only_now : (disk : D) (image : Files) → disk_says.left_since disk (disk_says.moment disk) image → disk_says.may_leave disk image) where
  -- ---- calls one after another

  -- a link that was looked at call by call was looked at
  pub reached_link : (old new : NodeLink D) → Reaches (λ (before now : NodeLink D). IsLinkLooked disk_says before now) old new → IsLinkLooked disk_says old new
  reached_link old new run =
      holds (λ (now : NodeLink D). IsLinkLooked disk_says old now) (record { journal = not_looked disk_says old.journal (only_now (disk_of old.journal)); scanned = λ scanned. scanned })
      (λ mid next so_far step. record { journal = looked_on disk_says old.journal mid.journal next.journal so_far.journal step.journal; scanned = λ scanned. step.scanned (so_far.scanned scanned) }) run

  not_looked_archive : (archive : Archive D) → IsArchiveLooked disk_says archive archive
  not_looked_archive archive = record {
    same = record { kept = λ files sees. sees; no_more = λ files sees. sees };
    crash = λ image left. left;
    any_moment = started disk_says (archive_disk_of archive) (disk_says.may_leave (archive_disk_of archive)) (only_now (archive_disk_of archive));
    used = omega arith;
  }

  looked_on_archive : (old mid new : Archive D) → IsArchiveLooked disk_says old mid → IsArchiveLooked disk_says mid new → IsArchiveLooked disk_says old new
  looked_on_archive old mid new first second =
      let a = archive_disk_of old in
      let b = archive_disk_of mid in
      let c = archive_disk_of new in
      record {
        same = record { kept = λ files sees. second.same.kept files (first.same.kept files sees); no_more = λ files sees. first.same.no_more files (second.same.no_more files sees) };
        crash = λ image left. first.crash image (second.crash image left);
        any_moment = then disk_says a b c (disk_says.may_leave a) first.any_moment (weaker disk_says b c (disk_says.may_leave b) (disk_says.may_leave a) first.crash second.any_moment);
        used = (let one = first.used in let two = second.used in omega (arith, one, two));
      }

  -- so is an archive
  pub reached_archive : (old new : Archive D) → Reaches (λ (before now : Archive D). IsArchiveLooked disk_says before now) old new → IsArchiveLooked disk_says old new
  reached_archive old new run = holds (λ (now : Archive D). IsArchiveLooked disk_says old now) (not_looked_archive old) (λ mid next so_far step. looked_on_archive old mid next so_far step) run

  pub only_reads : (old new : Archive D) → IsArchiveLooked disk_says old new → OnlyReads disk_says (archive_disk_of old) (archive_disk_of new)
  only_reads old new looked = record { same = looked.same; no_more = looked.crash; any_moment = looked.any_moment }

  -- ---- nodes

  module _ (old new : Node D) (followed : WasFollowed disk_says old new) where
    link_looked : IsLinkLooked disk_says old.link new.link
    link_looked = reached_link old.link new.link followed.link

    archive_looked : IsArchiveLooked disk_says old.archive new.archive
    archive_looked = reached_archive old.archive new.archive followed.archive

    -- it has the changes that it had
    pub followed_node : (c : Chronicle) → IsNode disk_says old c → IsNode disk_says new c
    followed_node c n =
        let mid = record old { link = new.link } in
        let looked : IsNode disk_says mid c = looked_node disk_says old new.link link_looked c n in
        subst (λ (node : Node D). IsNode disk_says node c) (sym followed.others) (read_node disk_says mid new.archive (only_reads old.archive new.archive archive_looked) archive_looked.used c looked)

    -- and tells no other texts and bytes
    pub followed_texts : ((disk : D) (files : Files) → disk_says.seen disk files → disk_says.may_leave disk files) → ((disk : D) (files : Files) (file : ℕ) → disk_says.seen disk files → length (files file) < 2 ^ 63)
        → (c : Chronicle) → IsNode disk_says old c → (texts : List (List ℕ)) → HasTexts disk_says new.link.journal texts → texts ≡ texts_of c
    followed_texts image short c n texts told = told_texts disk_says image short new c (followed_node c n) texts told

    pub followed_bytes : ((disk : D) (one other : Files) → disk_says.seen disk one → disk_says.seen disk other → (file : ℕ) → one file ≡ other file)
        → (before now : List ℕ) → IsTold disk_says old.archive before → IsTold disk_says new.archive now → now ≡ before
    followed_bytes one before now was is =
        now_is ∙ ap (λ (l : List ℕ). take (used_of new.archive) l) (one (archive_disk_of old.archive) is.files was.files (archive_looked.same.no_more is.files is.sees) was.sees 0) ∙ ap (λ (n : ℕ). take n (was.files 0)) archive_looked.used ∙ sym was.are
      where
        now_is : now ≡ take (used_of new.archive) (is.files 0)
        now_is = is.are

    pub followed_told : (bytes : List ℕ) → IsTold disk_says old.archive bytes → IsTold disk_says new.archive bytes
    followed_told bytes told =
        let used = archive_looked.used in
        record {
          files = told.files;
          sees = archive_looked.same.kept told.files told.sees;
          within = (let within = told.within in omega (arith, within, used));
          are = told.are ∙ ap (λ (n : ℕ). take n (told.files 0)) (sym used);
        }

  -- ---- nodes behind it

  pub followed_first : (node : Node D) → WasFollowed disk_says node node
  followed_first node = record { link = stays; archive = stays; others = refl }

  pub followed_on : (old mid new : Node D) → WasFollowed disk_says old mid → WasFollowed disk_says mid new → WasFollowed disk_says old new
  followed_on old mid new first second = record {
    link = reach first.link second.link;
    archive = reach first.archive second.archive;
    others = second.others ∙ ap (λ (node : Node D). record node { link = new.link; archive = new.archive }) first.others;
  }

  pub goes_first : (up node : Node D) → GoesOnBehindNode disk_says up up node node
  goes_first up node = record { followed = followed_first up; keeps = keeps_first disk_says only_now node.archive; behind = λ mine theirs bytes n told b. stays_first disk_says only_now node mine (record { texts = texts_of theirs; bytes = bytes }) b }

  pub goes_then : (up up_mid up_new old mid new : Node D) → GoesOnBehindNode disk_says up up_mid old mid → GoesOnBehindNode disk_says up_mid up_new mid new → GoesOnBehindNode disk_says up up_new old new
  goes_then up up_mid up_new old mid new first second = record {
    followed = followed_on up up_mid up_new first.followed second.followed;
    keeps = keeps_on disk_says old.archive mid.archive new.archive first.keeps second.keeps;
    behind = λ mine theirs bytes n told b.
        let one = first.behind mine theirs bytes n told b in
        let two = second.behind one.now theirs bytes (followed_node up up_mid first.followed theirs n) (followed_told up up_mid first.followed bytes told) one.behind in
        let told_of : Upstream = record { texts = texts_of theirs; bytes = bytes } in
        stays_on disk_says old mid new mine told_of told_of (inl refl) second.keeps.used one two;
  }

  -- both journals were looked at
  pub goes_looked : (up node : Node D) (theirs mine : NodeLink D) → IsLinkLooked disk_says up.link theirs → IsLinkLooked disk_says node.link mine
      → GoesOnBehindNode disk_says up (record up { link = theirs }) node (record node { link = mine })
  goes_looked up node theirs mine up_looked looked = record {
    followed = record { link = once up_looked; archive = stays; others = refl };
    keeps = keeps_first disk_says only_now node.archive;
    behind = λ c d bytes n told b.
        let told_of : Upstream = record { texts = texts_of d; bytes = bytes } in
        record {
          now = c;
          no_fewer = earlier_self c;
          behind = looked_behind disk_says node mine looked c told_of b;
          any_moment =
              weaker disk_says (disk_of node.link.journal) (disk_of mine.journal) (disk_says.may_leave (disk_of node.link.journal)) _ (some_now disk_says node c b.is_node told_of.texts b.earlier) looked.journal.reads.any_moment;
        };
  }

  -- the node's archive was read
  pub goes_read : (up node : Node D) (archive : Archive D) → OnlyReads disk_says (archive_disk_of node.archive) (archive_disk_of archive) → used_of archive ≡ used_of node.archive
      → GoesOnBehindNode disk_says up up node (record node { archive = archive })
  goes_read up node archive reads used = record {
    followed = followed_first up;
    keeps = keeps_read disk_says node.archive archive reads used;
    behind = λ c d bytes n told b.
        let told_of : Upstream = record { texts = texts_of d; bytes = bytes } in
        record {
          now = c;
          no_fewer = earlier_self c;
          behind = read_behind disk_says node archive reads used c told_of b;
          any_moment =
              started disk_says (disk_of node.link.journal) _
              (λ image left. some_on c c told_of.texts told_of.texts (used_of node.archive) (used_of archive) (earlier_self c) (inl refl) (omega (arith, used)) image
              (some_now disk_says node c b.is_node told_of.texts b.earlier image (only_now (disk_of node.link.journal) image left)));
        };
  }

  -- the node has pulled
  module _ (image : (disk : D) (files : Files) → disk_says.seen disk files → disk_says.may_leave disk files) (short : (disk : D) (files : Files) (file : ℕ) → disk_says.seen disk files → length (files file) < 2 ^ 63)
      (one : (disk : D) (files other : Files) → disk_says.seen disk files → disk_says.seen disk other → (file : ℕ) → files file ≡ other file) where
    pub goes_pulled : (up old new : Node D) (link : NodeLink D) (archive : Archive D) → Reaches (λ (before now : NodeLink D). IsLinkLooked disk_says before now) up.link link
        → Reaches (λ (before now : Archive D). IsArchiveLooked disk_says before now) up.archive archive → KeepsContents disk_says old.archive new.archive
        → ((c : Chronicle) (told : Upstream) → TellsTexts disk_says up.link told.texts → IsTold disk_says up.archive told.bytes → TellsGroups (TellsTexts disk_says link) → IsBehind disk_says old c told
        → GoesOnBehind disk_says old new c told (TellsTexts disk_says link) (IsTold disk_says archive))
        → GoesOnBehindNode disk_says up (record up { link = link; archive = archive }) old new
    goes_pulled up old new link archive link_reached archive_reached keeps pulls =
        record { followed = followed; keeps = keeps; behind = behind }
      where
        up_new : Node D
        up_new = record up { link = link; archive = archive }

        followed : WasFollowed disk_says up up_new
        followed = record { link = link_reached; archive = archive_reached; others = refl }

        behind : (mine theirs : Chronicle) (bytes : List ℕ) → IsNode disk_says up theirs → IsTold disk_says up.archive bytes → IsBehind disk_says old mine (record { texts = texts_of theirs; bytes = bytes })
            → StaysBehind disk_says old new mine (record { texts = texts_of theirs; bytes = bytes })
        behind mine theirs bytes n told b =
            let goes = pulls mine (record { texts = texts_of theirs; bytes = bytes }) (node_tells disk_says image up theirs n) told (λ texts tells. (tells.generations, tells.of_groups)) b in
            let later = goes.later in
            let texts_are : later.texts ≡ texts_of theirs = followed_texts up up_new followed image short theirs n later.texts goes.texts_told.has in
            let bytes_are : later.bytes ≡ bytes = followed_bytes up up_new followed one bytes later.bytes told goes.bytes_told in
            let same : later ≡ record { texts = texts_of theirs; bytes = bytes } = λ i. record { texts = texts_are i; bytes = bytes_are i } in
            subst (StaysBehind disk_says old new mine) same goes.stays
