-- A group that a node tries to take: where the node is then, whether it can follow, and what is behind what.
use Rattle.std.proofs.Common.{◌≡◌, ◌⊎◌, inl, inr, ℕ, ◌+◌, ◌-◌, ◌≤◌, ◌<◌, ◌^◌, List, [], ◌++◌, length, refl, sym, ap, subst, ◌∙◌, arith}
use Rattle.outside_api.specs.Disk.{Files}
use Rattle.outside_api.specs.Link.{IsEarlier, text_of}
use Rattle.outside_api.specs.Moments.{LeavesOnly, weaker}
use Rattle.outside_api.specs.Says.{DiskSays}
use Rattle.archive_file.specs.Archive.{Has, disk_of as archive_disk_of, used_of}
use Rattle.depot_rows.specs.db_records.declared.change.Change.{Change}
use Rattle.depot_rows.specs.table_changes.Changed.{AllFitIn, changed_by, rows_of}
use Rattle.depot_rows.specs.table_store.declared.tables.Tables.{Tables}
use Rattle.disk_journal.specs.Images.{Committed, HasCommitted, HasEither, with_group}
use Rattle.disk_journal.specs.Keeping.{KeepsOlder}
use Rattle.disk_journal.specs.Stands.{Doubtful, nothing, group, IsStill, Stands, disk_of, generation_of_journal}
use Rattle.disk_journal.specs.declared.journal.Journal.{Journal}
use Rattle.journal_groups.specs.Groups.{IsGroup, group_text, mark, open_byte}
use Rattle.replica_pull.specs.Prefix.{HasNoGroup}
use Rattle.replica_pull.proofs.Counted.{empty_no_group}
use Rattle.replica_chain.specs.Chronicle.{Chronicle, texts_of, with_changes}
use Rattle.replica_chain.specs.Copying.{AreBrought, IsFilled}
use Rattle.replica_chain.specs.Ends.{KeepsScanned}
use Rattle.replica_chain.specs.Masters.{GoesOnBehind, HasNoFewer, HasSomeOf, IsBehind, StaysBehind, Upstream}
use Rattle.replica_chain.specs.Node.{CanFollow, IsNode, IsSettled}
use Rattle.replica_chain.specs.Pulling.{HasTakenGroup, IsWhereItWas}
use Rattle.replica_chain.specs.declared.node.Node.{Node}
use Rattle.replica_chain.proofs.Following.{earlier_with}
use Rattle.replica_chain.proofs.Grouping.{bytes_now, doubted_behind, doubted_node, later, more_contents, settled_stands, still_behind, still_node, taken_behind, taken_node}
use Rattle.replica_chain.proofs.Growing.{earlier_push, earlier_self}
use Rattle.replica_chain.proofs.Nodes.{pushed_has, pushed_pending}
use Rattle.replica_chain.proofs.Steps.{all_earlier, some_doubted}

-- ---- journals

-- a journal with the same generation committed is of the same generation
pub same_generation : {D : Type 0} (disk_says : DiskSays D) (old new : Journal D) (was now : Committed) (doubt other : Doubtful) → Stands disk_says old was doubt → Stands disk_says new now other → now.generation ≡ was.generation
    → generation_of_journal new ≡ generation_of_journal old
same_generation disk_says old new was now doubt other one two same = let a = one.generation in let b = two.generation in omega (arith, a, b, same)

-- ---- nodes whose journal and archive have changed

module _ {D : Type 0} (disk_says : DiskSays D) (old new : Node D) (others : new ≡ record old { link = new.link; archive = new.archive }) where
  pub where_it_was : generation_of_journal new.link.journal ≡ generation_of_journal old.link.journal → IsWhereItWas old new
  where_it_was generation = record {
    generation = generation;
    rows = ap (λ (node : Node D). rows_of node.tables) others;
    before = ap (λ (node : Node D). node.before) others;
    at = ap (λ (node : Node D). node.at) others;
    number = ap (λ (node : Node D). node.number) others;
    changes = ap (λ (node : Node D). node.changes) others;
  }

  pub same_rest : new.rest ≡ old.rest
  same_rest = ap (λ (node : Node D). node.rest) others

  -- it can still follow
  pub tried_can : CanFollow disk_says old → generation_of_journal new.link.journal ≡ generation_of_journal old.link.journal → (was : Committed) (doubt : Doubtful) → Stands disk_says new.link.journal was doubt
      → (told_before told_now : List ℕ → Type 0) → IsFilled disk_says told_before told_now old.archive new.archive → CanFollow disk_says new
  tried_can can generation was doubt stands told_before told_now filled =
      let before : new.before ≡ old.before = ap (λ (node : Node D). node.before) others in
      let at : new.at ≡ old.at = ap (λ (node : Node D). node.at) others in
      let number : new.number ≡ old.number = ap (λ (node : Node D). node.number) others in
      let changes : new.changes ≡ old.changes = ap (λ (node : Node D). node.changes) others in
      let rest : length new.rest ≡ length old.rest = ap length same_rest in
      record {
        was = was;
        doubt = doubt;
        stands = stands;
        archive_end = filled.small;
        room = filled.reach;
        short = (let short = can.short in omega (arith, short, before, at, rest));
        numbered = (let numbered = can.numbered in omega (arith, numbered, number, at));
        counted = (let counted = can.counted in omega (arith, counted, changes, before, at, generation));
      }

-- ---- what stands where a group wasn't committed

module _ {D : Type 0} (disk_says : DiskSays D) (old new : Node D) (was : Committed) where
  -- nothing is in doubt, or something is
  pub stands_of : (text : List ℕ) (B : Type 0) → IsStill disk_says old.link.journal new.link.journal was ⊎ (Stands disk_says new.link.journal was (group text) × B) → (doubt : Doubtful) × Stands disk_says new.link.journal was doubt
  stands_of text B (inl still) = (nothing, still.stands)
  stands_of text B (inr doubted) = (group text, doubted.0)

  pub uncommitted_generation : Stands disk_says old.link.journal was nothing → (found : (doubt : Doubtful) × Stands disk_says new.link.journal was doubt) → generation_of_journal new.link.journal ≡ generation_of_journal old.link.journal
  uncommitted_generation stands found = same_generation disk_says old.link.journal new.link.journal was was nothing found.0 stands found.1 refl

-- the next group stands upstream
pub next_stands : {D : Type 0} (disk_says : DiskSays D) (old : Node D) (c : Chronicle) (up : Upstream) → IsBehind disk_says old c up → (changes : List Change) (end : ℕ) → end ≡ old.at + (5 + length (group_text old.number changes))
    → Has (text_of up.texts (length c.closed)) (record { at = old.at; length = end - old.at }) (mark open_byte ++ group_text old.number changes) → IsEarlier (texts_of (with_changes c changes)) up.texts
next_stands disk_says old c up b changes end end_is has =
    let n = b.is_node in
    let size : end - old.at ≡ 5 + length (group_text (1 + length c.newest) changes) = (let numbered = ap (λ (k : ℕ). length (group_text k changes)) n.number in omega (arith, end_is, numbered)) in
    earlier_with c changes up.texts old.at (end - old.at) (all_earlier disk_says old c up b) n.at size
    (subst (λ (k : ℕ). Has (text_of up.texts (length c.closed)) (record { at = old.at; length = end - old.at }) (mark open_byte ++ group_text k changes)) n.number has)

-- ---- a group that was tried

module _ {D : Type 0} (disk_says : DiskSays D) (old new : Node D) (settled : IsSettled disk_says old) (told_before told_now : List ℕ → Type 0) (filled : IsFilled disk_says told_before told_now old.archive new.archive)
    (older : (before : List (List (List ℕ))) → KeepsOlder disk_says old.link.journal before → KeepsOlder disk_says new.link.journal before) (scanned : KeepsScanned disk_says old.link new.link)
    (image : (files : Files) → disk_says.seen (archive_disk_of new.archive) files → disk_says.may_leave (archive_disk_of new.archive) files)
    (changes : List Change) (is_group : IsGroup changes) (fit : AllFitIn (rows_of old.tables) changes) where
  -- the images that its journal left since, with the group or without it, have some of the changes upstream
  group_moments : (c : Chronicle) (up : Upstream) (b : IsBehind disk_says old c up) → AreBrought disk_says new.archive changes → (next : IsEarlier (texts_of (with_changes c changes)) up.texts)
      → LeavesOnly disk_says (disk_of old.link.journal) (disk_of new.link.journal) (HasEither b.is_node.was (with_group b.is_node.was (group_text (length b.is_node.was.groups + 1) changes)))
      → LeavesOnly disk_says (disk_of old.link.journal) (disk_of new.link.journal) (HasSomeOf c up.texts (used_of new.archive))
  group_moments c up b brought next moments =
      let n = b.is_node in
      let text = group_text (length n.was.groups + 1) changes in
      let ends = n.contents.ends in
      let used = filled.keeps.used in
      weaker disk_says (disk_of old.link.journal) (disk_of new.link.journal) (HasEither n.was (with_group n.was text)) _
      (λ journal. some_doubted disk_says old c n up.texts (used_of new.archive) (omega (arith, ends, used)) journal (group text) (with_changes c changes) (pushed_pending disk_says old new c n changes is_group fit)
      (pushed_has disk_says old new c n changes is_group fit) next (more_contents disk_says old c n settled new told_before told_now filled older scanned image changes is_group fit brought).ends) moments

  -- what its journal has then, where so much was committed before
  abbrev pub IsUncommitted : Committed → Type 0
  IsUncommitted was =
      IsStill disk_says old.link.journal new.link.journal was ⊎ (Stands disk_says new.link.journal was (group (group_text (length was.groups + 1) changes)) × AreBrought disk_says new.archive changes)

  tried_node : IsWhereItWas old new → (c : Chronicle) (n : IsNode disk_says old c) → IsUncommitted n.was → IsNode disk_says new c
  tried_node where_is c n (inl still) = still_node disk_says old c n settled new told_before told_now filled older scanned where_is still.stands
  tried_node where_is c n (inr doubted) = doubted_node disk_says old c n settled new told_before told_now filled older scanned image changes is_group fit doubted.1 where_is doubted.0

  -- it wasn't taken
  pub tried_fewer : IsWhereItWas old new → (c : Chronicle) (n : IsNode disk_says old c) → IsUncommitted n.was → HasNoFewer disk_says new c
  tried_fewer where_is c n found = record { now = c; no_fewer = earlier_self c; is_node = tried_node where_is c n found }

  module _ (c : Chronicle) (up : Upstream) (b : IsBehind disk_says old c up) (told : told_before up.bytes) (next : IsEarlier (texts_of (with_changes c changes)) up.texts)
      (moments : LeavesOnly disk_says (disk_of old.link.journal) (disk_of new.link.journal) (HasEither b.is_node.was (with_group b.is_node.was (group_text (length b.is_node.was.groups + 1) changes)))) where
    abbrev told_later : Upstream
    told_later = later disk_says old c up b settled new told_before told_now filled older scanned told

    tried_stays : IsWhereItWas old new → new.rest ≡ old.rest → IsUncommitted b.is_node.was → StaysBehind disk_says old new c told_later
    tried_stays where_is rest (inl still) =
        let n = b.is_node in
        let ends = n.contents.ends in
        let used = filled.keeps.used in
        record {
          now = c;
          no_fewer = earlier_self c;
          behind = still_behind disk_says old c up b settled new told_before told_now filled older scanned told where_is rest still.stands;
          any_moment =
              weaker disk_says (disk_of old.link.journal) (disk_of new.link.journal) (HasCommitted n.was) _
              (λ journal. some_doubted disk_says old c n up.texts (used_of new.archive) (omega (arith, ends, used)) journal nothing c refl n.has (all_earlier disk_says old c up b) (omega (arith, ends, used))) still.any_moment;
        }
    tried_stays where_is rest (inr doubted) = record {
      now = c;
      no_fewer = earlier_self c;
      behind = doubted_behind disk_says old c up b settled new told_before told_now filled older scanned told image changes is_group fit doubted.1 next where_is rest doubted.0;
      any_moment = group_moments c up b doubted.1 next moments;
    }

    pub tried_behind : IsWhereItWas old new → new.rest ≡ old.rest → IsUncommitted b.is_node.was → GoesOnBehind disk_says old new c up (λ texts. texts ≡ up.texts) told_now
    tried_behind where_is rest found =
        let bytes = bytes_now disk_says old c up b settled new told_before told_now filled older scanned told in
        record { later = told_later; grown = inl refl; more = bytes.1.1.0; texts_told = refl; bytes_told = bytes.1.0; stays = tried_stays where_is rest found }

-- ---- a group that was taken

-- the node then, by the one whose group was committed
abbrev pub with_group_taken : {D : Type 0} → Node D → Tables → ℕ → Node D
with_group_taken node tables end = record node { tables = tables; at = end; number = node.number + 1; changes = node.changes + 1 }

module _ {D : Type 0} (disk_says : DiskSays D) (old new : Node D) (others : new ≡ record old { link = new.link; archive = new.archive }) (settled : IsSettled disk_says old) (tables : Tables) (changes : List Change) (end : ℕ)
    (committed : (was : Committed) → Stands disk_says old.link.journal was nothing → Stands disk_says new.link.journal (with_group was (group_text (length was.groups + 1) changes)) nothing)
    (fit : AllFitIn (rows_of old.tables) changes) (rows : rows_of tables ≡ changed_by (rows_of old.tables) changes) where
  abbrev kept : Node D
  kept = with_group_taken new tables end

  pub group_taken : HasTakenGroup old kept changes end
  group_taken = record {
    generation = same_generation disk_says old.link.journal new.link.journal settled.0 (with_group settled.0 (group_text (length settled.0.groups + 1) changes)) nothing nothing settled.1 (committed settled.0 settled.1) refl;
    fit = fit;
    rows = rows;
    before = ap (λ (node : Node D). node.before) others;
    at = refl;
    number = ap (λ (node : Node D). node.number + 1) others;
    changes = ap (λ (node : Node D). node.changes + 1) others;
  }

  module _ (told_before told_now : List ℕ → Type 0) (filled : IsFilled disk_says told_before told_now old.archive new.archive) (end_is : end ≡ old.at + (5 + length (group_text old.number changes))) (none : old.rest ≡ []) where
    rest_is : new.rest ≡ []
    rest_is = same_rest disk_says old new others ∙ none

    -- it can follow
    pub taken_can : CanFollow disk_says old → old.before + end < 2 ^ 63 → CanFollow disk_says kept
    taken_can can room =
        let before = group_taken.before in
        let number = group_taken.number in
        let count = group_taken.changes in
        let generation = group_taken.generation in
        let none : length new.rest ≡ 0 = ap length rest_is in
        record {
          was = with_group settled.0 (group_text (length settled.0.groups + 1) changes);
          doubt = nothing;
          stands = committed settled.0 settled.1;
          archive_end = filled.small;
          room = filled.reach;
          short = omega (arith, room, before, none);
          numbered = (let numbered = can.numbered in omega (arith, numbered, number, end_is));
          counted = (let counted = can.counted in omega (arith, counted, count, before, generation, end_is));
        }

    module _ (older : (before : List (List (List ℕ))) → KeepsOlder disk_says old.link.journal before → KeepsOlder disk_says new.link.journal before) (scanned : KeepsScanned disk_says old.link new.link)
        (image : (files : Files) → disk_says.seen (archive_disk_of new.archive) files → disk_says.may_leave (archive_disk_of new.archive) files) (is_group : IsGroup changes) (brought : AreBrought disk_says new.archive changes) where
      pub committed_fewer : (c : Chronicle) → IsNode disk_says old c → HasNoFewer disk_says kept c
      committed_fewer c n = record {
        now = with_changes c changes;
        no_fewer = earlier_push c changes;
        is_node = taken_node disk_says old c n settled kept told_before told_now filled older scanned image changes is_group fit brought end group_taken end_is (committed n.was (settled_stands disk_says old c n settled));
      }

      pub committed_behind : (c : Chronicle) (up : Upstream) → IsBehind disk_says old c up → told_before up.bytes → IsEarlier (texts_of (with_changes c changes)) up.texts
          → ((was : Committed) → Stands disk_says old.link.journal was nothing → LeavesOnly disk_says (disk_of old.link.journal) (disk_of new.link.journal) (HasEither was (with_group was (group_text (length was.groups + 1) changes))))
          → end ≤ length (text_of up.texts (length c.closed)) → GoesOnBehind disk_says old kept c up (λ texts. texts ≡ up.texts) told_now
      committed_behind c up b told next moments within =
          let n = b.is_node in
          let stood = settled_stands disk_says old c n settled in
          let bytes = bytes_now disk_says old c up b settled kept told_before told_now filled older scanned told in
          let there : Has (text_of up.texts (length c.closed)) (record { at = end; length = length new.rest }) new.rest =
          subst (λ (l : List ℕ). Has (text_of up.texts (length c.closed)) (record { at = end; length = length l }) l) (sym rest_is) (record { within = omega (arith, within); is = refl }) in
          record {
            later = later disk_says old c up b settled kept told_before told_now filled older scanned told;
            grown = inl refl;
            more = bytes.1.1.0;
            texts_told = refl;
            bytes_told = bytes.1.0;
            stays = record {
              now = with_changes c changes;
              no_fewer = earlier_push c changes;
              behind = taken_behind disk_says old c up b settled kept told_before told_now filled older scanned told image changes is_group fit brought next end group_taken end_is (committed n.was stood) there
                  (subst (HasNoGroup (new.number + 1)) (sym rest_is) (empty_no_group (new.number + 1)));
              any_moment = group_moments disk_says old new settled told_before told_now filled older scanned image changes is_group fit c up b brought next (moments n.was stood);
            };
          }
