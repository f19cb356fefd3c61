-- Nodes behind nodes, and nodes behind a master, which open to the depots after the first of its changes.
use Rattle.std.proofs.Common.{◌≡◌, ℕ, suc, ◌+◌, ◌^◌, ◌≤◌, ◌<◌, List, [], ◌∷◌, ◌++◌, length, take, drop, refl, sym, ap, subst, ◌∙◌, append_assoc, arith, length-append}
use Rattle.std.specs.Prelude.{codes, map, min}
use Rattle.std.specs.List.{AllByRecursion}
use Rattle.std.proofs.Math.Seq.{take-append_seam}
use Rattle.std.proofs.lemmas.List.{append-nil, take-append-drop, length-map}
use Rattle.outside_api.specs.Disk.{Files}
use Rattle.outside_api.specs.Link.{IsEarlier, text_of}
use Rattle.outside_api.specs.Moments.{LeavesOnly, weaker}
use Rattle.outside_api.specs.Says.{DiskSays}
use Rattle.archive_file.specs.Archive.{Has, disk_of as archive_disk_of, used_of}
use Rattle.archive_file.specs.Contents.{IsTold}
use Rattle.depot_rows.specs.depot_path.Path.{printed}
use Rattle.depot_rows.specs.db_records.declared.change.Change.{Change}
use Rattle.depot_rows.specs.db_records.declared.key.Key.TheVariants as keys
use Rattle.depot_rows.specs.db_records.declared.record.Record.TheVariants.{Rev as RevRow}
use Rattle.depot_rows.specs.db_records.declared.table.TableId.TheVariants.{Rev}
use Rattle.depot_rows.specs.depot_model.Deeds.{Deed}
use Rattle.depot_rows.specs.depot_model.Records.{record_of}
use Rattle.depot_rows.specs.depot_model.Rules.{value_of}
use Rattle.depot_rows.specs.Standing.{Stand}
use Rattle.depot_rows.specs.table_changes.Changed.{AllRows, changed_by, no_rows}
use Rattle.disk_journal.specs.Images.{Committed, HasCommitted}
use Rattle.disk_journal.specs.Stands.{Doubtful, nothing, group, opening, disk_of}
use Rattle.journal_groups.specs.Groups.{IsGroup, groups_text}
use Rattle.recovery.specs.Holding.{HasAllRows, joined, spots_end}
use Rattle.recovery.specs.Rules.{DeletesAreUnplaced}
use Rattle.recovery.specs.Standing.{HasContent, HasContents, StandFor}
use Rattle.replica_pull.specs.Prefix.{begun, changes_from, first_rows}
use Rattle.replica_pull.specs.Replica.{beginning}
use Rattle.replica_pull.proofs.Firsts.{begins}
use Rattle.replica_chain.specs.Chronicle.{Chronicle, changes_of, generations_of, rows_made, texts_of}
use Rattle.replica_chain.specs.Ends.{HasTexts}
use Rattle.replica_chain.specs.Masters.{HasSomeOf, IsBehind, IsDepotThen, IsMaster, OpensToAPrefix, StandsAfter, StaysBehind, Upstream}
use Rattle.replica_chain.specs.Node.{HasFrontTo, IsPending}
use Rattle.replica_chain.specs.declared.node.Node.{Node}
use Rattle.replica_chain.proofs.Chains.{at_spot, earlier_on, front_on}
use Rattle.replica_chain.proofs.Following.{front_of, has_later}
use Rattle.recovery.proofs.GoodSpots.{row_end}
use Rattle.recovery.proofs.OneGroup.{all-push}
use Rattle.replica_chain.proofs.Growing.{changes_begun, changes_push, earlier_self, groups_push}
use Rattle.replica_chain.proofs.Steps.{all_earlier, some_now}
use Rattle.replica_chain.proofs.Told.{told_texts}

-- ---- changes at the front of others

no_text : (n : ℕ) (later : List (List Change)) → [] ≡ groups_text n later → later ≡ []
no_text n [] is = refl
no_text n (x ∷ later) is = absurd cc

-- texts of groups are those of no others
pub one_text : (one other : List (List Change)) → AllByRecursion IsGroup one → AllByRecursion IsGroup other → groups_text 1 other ≡ groups_text 1 one → other ≡ one
one_text one other are both same =
    let on = begins 1 one other [] are both (same ∙ sym (append-nil (groups_text 1 one))) in
    on.is ∙ ap (λ (l : List (List Change)). one ++ l) (no_text (1 + length one) on.later on.text) ∙ append-nil one

first_changes : (g : ℕ) (closed : List (List (List Change))) (newest : List (List Change)) (all : List (List (List Change))) (n : ℕ)
    → AllByRecursion (AllByRecursion IsGroup) (closed ++ newest ∷ []) → AllByRecursion (AllByRecursion IsGroup) all
    → map (groups_text 1) closed ≡ take (length closed) (map (groups_text 1) all) → groups_text 1 newest ≡ take n (text_of (map (groups_text 1) all) (length closed)) → length closed + 1 ≤ length all
    → (more : List (List Change)) × (changes_from g all ≡ changes_from g (closed ++ newest ∷ []) ++ more)
first_changes g [] newest [] n are both same text there = absurd (omega (arith, there))
first_changes g (x ∷ closed) newest [] n are both same text there = absurd (omega (arith, there))
first_changes g [] newest (a ∷ all) n are both same text there =
    let split : groups_text 1 a ≡ groups_text 1 newest ++ drop n (groups_text 1 a) = sym (take-append-drop n (groups_text 1 a)) ∙ ap (λ (l : List ℕ). l ++ drop n (groups_text 1 a)) (sym text) in
    let on = begins 1 newest a (drop n (groups_text 1 a)) are.0 both.0 split in
    let behind = changes_from (suc g) all in (
      on.later ++ behind,
      ap (λ (l : List (List Change)). begun g ++ (l ++ behind)) on.is
          ∙ ap (λ (l : List (List Change)). begun g ++ l) (append_assoc newest on.later behind)
          ∙ sym (append_assoc (begun g) newest (on.later ++ behind))
          ∙ ap (λ (l : List (List Change)). (begun g ++ l) ++ (on.later ++ behind)) (sym (append-nil newest)),
    )
first_changes g (x ∷ closed) newest (a ∷ all) n are both same text there =
    let one : groups_text 1 a ≡ groups_text 1 x = cc in
    let tail : map (groups_text 1) closed ≡ take (length closed) (map (groups_text 1) all) = cc in
    let here : a ≡ x = one_text x a are.0 both.0 one in
    let on = first_changes (suc g) closed newest all n are.1 both.1 tail text (omega (arith, there)) in
    let behind = changes_from (suc g) (closed ++ newest ∷ []) in (
      on.0,
      (λ i. begun g ++ (here i ++ on.1 i))
          ∙ ap (λ (l : List (List Change)). begun g ++ l) (sym (append_assoc x behind on.0))
          ∙ sym (append_assoc (begun g) (x ++ behind) on.0),
    )

-- the changes of an earlier journal are the first ones
pub earlier_changes : (c later : Chronicle) → AllByRecursion (AllByRecursion IsGroup) (generations_of c) → AllByRecursion (AllByRecursion IsGroup) (generations_of later) → IsEarlier (texts_of c) (texts_of later)
    → (more : List (List Change)) × (changes_of later ≡ changes_of c ++ more)
earlier_changes c later are both e =
    let f = front_of c (texts_of later) e in
    first_changes 0 c.closed c.newest (generations_of later) (length (groups_text 1 c.newest)) are both f.closed f.newest
    (let there = f.there in omega (arith, there, length-map (generations_of later) (groups_text 1), length-append later.closed (later.newest ∷ [])))

-- ---- what is in doubt

-- what is in doubt is at most one change more
one_more : (c : Chronicle) (doubt : Doubtful) (pending : Chronicle) → IsPending c doubt pending → length (changes_of pending) ≤ length (changes_of c) + 1
one_more c nothing pending is = omega (arith, ap (λ (p : Chronicle). length (changes_of p)) is)
one_more c (group text) pending of = omega (arith, ap (λ (p : Chronicle). length (changes_of p)) of.3, ap length (changes_push c of.0), length-append (changes_of c) (of.0 ∷ []))
one_more c (opening checkpoint) pending is =
    omega (arith, ap (λ (p : Chronicle). length (changes_of p)) is, ap length (changes_begun c), length-append (changes_of c) ((beginning (1 + length c.closed) ∷ []) ∷ []))

-- and it is whole groups
pending_groups : (c : Chronicle) (doubt : Doubtful) (pending : Chronicle) → IsPending c doubt pending → AllByRecursion (AllByRecursion IsGroup) (generations_of c) → AllByRecursion (AllByRecursion IsGroup) (generations_of pending)
pending_groups c nothing pending is are = subst (λ (p : Chronicle). AllByRecursion (AllByRecursion IsGroup) (generations_of p)) (sym is) are
pending_groups c (group text) pending of are = subst (λ (p : Chronicle). AllByRecursion (AllByRecursion IsGroup) (generations_of p)) (sym of.3) (groups_push c of.0 are of.1)
pending_groups c (opening checkpoint) pending is are =
    subst (λ (p : Chronicle). AllByRecursion (AllByRecursion IsGroup) (generations_of p)) (sym is) (all-push (AllByRecursion IsGroup) (generations_of c) [] are tt)

-- ---- depots after the first changes

-- Files that have these changes, and the first of the bytes as far as the spots of the rows, stand for the depot.
module _ (generations : List (List (List Change))) (bytes : List ℕ) (n : ℕ) (d : List Deed) (then : IsDepotThen generations bytes n d) (c : Chronicle) (rows_are : first_rows n generations ≡ rows_made c)
    (tells : value_of (record_of d (keys.Counter (codes "journal"))) ≡ length c.closed) where
  pub files_stand : (was : Committed) (journal archive : Files) (place : ℕ) → HasCommitted was journal → HasAllRows was (rows_made c) → was.generation ≡ length c.closed
      → Has (archive 0) (record { at = 0; length = place }) (take place bytes) → place ≤ length bytes → spots_end (rows_made c Rev) ≤ place → StandFor d journal archive
  files_stand was journal archive place committed has generation front within ends = record {
    was = was;
    committed = committed;
    rows = rows_made c;
    has = has;
    stand = subst (λ (rows : AllRows). Stand rows d) rows_are then.stand;
    deletes = subst (λ (rows : AllRows). DeletesAreUnplaced (rows Rev)) rows_are then.deletes;
    generation = tells ∙ sym generation;
    within = (let reach = front.within in omega (arith, ends, reach));
    contents = contents;
  }
    where
      there : HasContents bytes (rows_made c) d
      there = subst (λ (rows : AllRows). HasContents bytes rows d) rows_are then.contents

      contents : HasContents (archive 0) (rows_made c) d
      contents path n r content is has_it =
          let found = there path n r content is has_it in
          let row = found.0 in
          let end = row_end (rows_made c Rev) (keys.Rev (printed path) n) (RevRow row) found.1 in (
            row,
            found.1,
            subst (λ (l : List ℕ). HasContent (archive 0) row l) found.2.is (at_spot (archive 0) bytes place row.at row.length front within (omega (arith, end, ends))),
          )

module _ (theirs : Chronicle) (bytes : List ℕ) (after : ℕ → List Deed) (master : IsMaster theirs bytes after) where
  module _ (c : Chronicle) (are : AllByRecursion (AllByRecursion IsGroup) (generations_of c)) (earlier : IsEarlier (texts_of c) (texts_of theirs)) where
    few : length (changes_of c) ≤ length (changes_of theirs)
    few = let first = earlier_changes c theirs are master.are_groups earlier in omega (arith, ap length first.1, length-append (changes_of c) first.0)

    rows_are : first_rows (length (changes_of c)) (generations_of theirs) ≡ rows_made c
    rows_are =
        let first = earlier_changes c theirs are master.are_groups earlier in
        ap (λ (l : List (List Change)). changed_by no_rows (joined l)) (ap (take (length (changes_of c))) first.1 ∙ take-append_seam (changes_of c) first.0)

    stands_then : (was : Committed) (journal archive : Files) (place : ℕ) → HasCommitted was journal → HasAllRows was (rows_made c) → was.generation ≡ length c.closed
        → Has (archive 0) (record { at = 0; length = place }) (take place bytes) → place ≤ length bytes → spots_end (rows_made c Rev) ≤ place → StandFor (after (length (changes_of c))) journal archive
    stands_then =
        let n = length (changes_of c) in
        files_stand (generations_of theirs) bytes n (after n) (master.each n few) c rows_are (master.generation c earlier)

  -- an image of a journal that has some of its changes stands, with one of an archive that has its bytes as far as their spots, for the depot after so many, no more
  -- than those of a chronicle that has all of these
  images_stand : (mine last : Chronicle) → AllByRecursion (AllByRecursion IsGroup) (generations_of mine) → AllByRecursion (AllByRecursion IsGroup) (generations_of last) → IsEarlier (texts_of last) (texts_of theirs) → (images : Files → Type 0) (place : ℕ)
      → HasFrontTo images place bytes → (journal archive : Files) → HasSomeOf mine (texts_of last) place journal → images archive → StandsAfter after (length (changes_of mine)) (min (length (changes_of last)) (length (changes_of theirs))) journal archive
  images_stand mine last are last_are earlier images place front journal archive some there =
      let has = some.has in
      let c = some.then in
      let upstream = earlier_on (texts_of c) (texts_of last) (texts_of theirs) some.earlier earlier in
      let fewer = earlier_changes mine c are has.are_groups some.no_fewer in
      let more = earlier_changes c last has.are_groups last_are some.earlier in
      record {
        changes = length (changes_of c);
        no_fewer = omega (arith, ap length fewer.1, length-append (changes_of mine) fewer.0);
        no_more = omega (arith, ap length more.1, length-append (changes_of c) more.0, few c has.are_groups upstream);
        stands = stands_then c has.are_groups upstream has.was journal archive place has.committed has.rows has.generation (front.has archive there) front.within some.ends;
      }

  module _ {D : Type 0} (disk_says : DiskSays D) (new : Node D) (mine : Chronicle) where
    -- each pair of images of a node behind it does
    pub opens : IsBehind disk_says new mine (record { texts = texts_of theirs; bytes = bytes }) → OpensToAPrefix disk_says new after (length (changes_of theirs)) (length (changes_of mine))
    opens b journal archive left there =
        let m = b.is_node in
        let some = some_now disk_says new mine m (texts_of m.pending) (earlier_self m.pending) journal left in
        let s = images_stand mine m.pending m.are_groups (pending_groups mine m.doubt m.pending m.is_pending m.are_groups) b.earlier (disk_says.may_leave (archive_disk_of new.archive)) (used_of new.archive) b.front journal archive some there in
        let no_more = s.no_more in
        record { changes = s.changes; no_fewer = s.no_fewer; no_more = omega (arith, no_more, one_more mine m.doubt m.pending m.is_pending); stands = s.stands }

    -- and so does each image that its journal left since
    pub opened_since : (old : Node D) → AllByRecursion (AllByRecursion IsGroup) (generations_of mine) → StaysBehind disk_says old new mine (record { texts = texts_of theirs; bytes = bytes })
        → LeavesOnly disk_says (disk_of old.link.journal) (disk_of new.link.journal) (λ journal. (archive : Files) → disk_says.may_leave (archive_disk_of new.archive) archive
        → StandsAfter after (length (changes_of mine)) (length (changes_of theirs)) journal archive)
    opened_since old are s =
        weaker disk_says (disk_of old.link.journal) (disk_of new.link.journal) (HasSomeOf mine (texts_of theirs) (used_of new.archive)) _
        (λ journal some archive there.
        let stands = images_stand mine theirs are master.are_groups (earlier_self theirs) (disk_says.may_leave (archive_disk_of new.archive)) (used_of new.archive) s.behind.front journal archive some there in
        let no_more = stands.no_more in
        record { changes = stands.changes; no_fewer = stands.no_fewer; no_more = omega (arith, no_more); stands = stands.stands }) s.any_moment

-- ---- nodes behind nodes

module _ {D : Type 0} (disk_says : DiskSays D) (image : (disk : D) (files : Files) → disk_says.seen disk files → disk_says.may_leave disk files)
    (short : (disk : D) (files : Files) (file : ℕ) → disk_says.seen disk files → length (files file) < 2 ^ 63) where
  -- behind what a node tells that is behind a master
  pub behind_on : (node up : Node D) (mine theirs : Chronicle) (told master : Upstream) → HasTexts disk_says up.link.journal told.texts → IsTold disk_says up.archive told.bytes
      → IsBehind disk_says node mine told → IsBehind disk_says up theirs master → IsBehind disk_says node mine master
  behind_on node up mine theirs told master texts bytes first second =
      let m = first.is_node in
      let u = second.is_node in
      let disk = archive_disk_of up.archive in
      let used = used_of up.archive in
      let place = used_of node.archive in
      let same : told.texts ≡ texts_of theirs = told_texts disk_says image short up theirs u told.texts texts in
      let later : IsEarlier told.texts master.texts = subst (λ (l : List (List ℕ)). IsEarlier l master.texts) (sym same) (all_earlier disk_says up theirs master second) in
      let same_bytes : take used (bytes.files 0) ≡ take used master.bytes = (second.front.has bytes.files (image disk bytes.files bytes.sees)).is in
      record {
        is_node = m;
        earlier = earlier_on (texts_of m.pending) told.texts master.texts first.earlier later;
        rest = has_later told.texts master.texts (length mine.closed) node.rest node.at (length node.rest) later first.rest;
        no_group = first.no_group;
        front =
            front_on (disk_says.may_leave (archive_disk_of node.archive)) (bytes.files 0) master.bytes place used same_bytes second.front.within
            (subst (HasFrontTo (disk_says.may_leave (archive_disk_of node.archive)) place) bytes.are first.front);
      }
