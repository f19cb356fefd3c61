-- A node that passes to the next generation.
use Rattle.std.proofs.Common.{◌≡◌, ℕ, ◌+◌, ◌<◌, ◌≤◌, List, [], ◌∷◌, ◌++◌, length, refl, sym, ap, subst, ◌∙◌, arith, length-append}
use Rattle.std.specs.Prelude.{map}
use Rattle.std.specs.List.{AllByRecursion, concat}
use Rattle.std.proofs.lemmas.List.{append-nil, map-append}
use Rattle.outside_api.specs.Disk.{Files}
use Rattle.outside_api.specs.Link.{IsEarlier, text_of}
use Rattle.outside_api.specs.Says.{DiskSays}
use Rattle.archive_file.specs.Archive.{Has, disk_of as archive_disk_of, used_of}
use Rattle.archive_file.specs.declared.archive.Archive.{Archive}
use Rattle.checkpoint_file.specs.Checkpoint.{IsCheckpointOf, checkpoint_text, puts_of}
use Rattle.checkpoint_file.proofs.NextRows.{next_rows}
use Rattle.checkpoint_file.proofs.Texts.{next_records}
use Rattle.depot_rows.specs.db_records.declared.change.Change.{Change}
use Rattle.depot_rows.specs.db_records.declared.record.Record.{Record}
use Rattle.depot_rows.specs.db_records.declared.table.TableId.TheVariants.{Rev}
use Rattle.depot_rows.specs.table_changes.Changed.{AllRows, changed_in, rows_of}
use Rattle.disk_journal.specs.Images.{Committed, HasEither, with_generation}
use Rattle.disk_journal.specs.Keeping.{KeepsOlder}
use Rattle.disk_journal.specs.Stands.{nothing, opening, Stands, generation_of_journal}
use Rattle.journal_groups.specs.Groups.{AreRecords, IsGroup, groups_text}
use Rattle.recovery.specs.Contents.{AreWhole}
use Rattle.recovery.specs.Holding.{HasAllRows, group_texts, spots_end}
use Rattle.replica_pull.specs.Prefix.{HasNoGroup}
use Rattle.replica_pull.specs.Replica.{beginning}
use Rattle.replica_pull.proofs.Counted.{empty_no_group}
use Rattle.replica_chain.specs.Chronicle.{Chronicle, changes_of, generations_of, rows_made, texts_of, with_beginning}
use Rattle.replica_chain.specs.Ends.{KeepsScanned}
use Rattle.replica_chain.specs.Masters.{HasSomeOf, IsBehind, Upstream}
use Rattle.replica_chain.specs.Node.{HasContentsOf, HasFrontTo, IsNode}
use Rattle.replica_chain.specs.Pulling.{HasPassed, IsWhereItWas}
use Rattle.replica_chain.specs.declared.node.Node.{Node}
use Rattle.recovery.proofs.OneGroup.{all-push}
use Rattle.replica_chain.proofs.Growing.{changes_begun, rows_begun, texts_are}
use Rattle.replica_chain.proofs.Nodes.{same_node}
use Rattle.replica_chain.proofs.Steps.{all_earlier, its_generation, some_doubted}

-- the counter's change has a text
pub beginning_text : (generation : ℕ) → generation ≤ 4095 → AreRecords (beginning generation ∷ [])
beginning_text generation le = (((refl, ((omega arith, omega (arith, le)), tt)), tt), tt)

-- contents are those of rows with the same revisions
contents_of_same : {D : Type 0} (disk_says : DiskSays D) (archive : Archive D) (before after : AllRows) → after Rev ≡ before Rev → HasContentsOf disk_says archive before → HasContentsOf disk_says archive after
contents_of_same disk_says archive before after same has = record {
  bytes = has.bytes;
  front = has.front;
  ends = subst (λ (l : List Record). spots_end l ≤ used_of archive) (sym same) has.ends;
  whole = subst (AreWhole has.bytes) (sym same) has.whole;
}

pub bytes_joined : (xs ys : List (List ℕ)) → length (concat (xs ++ ys)) ≡ length (concat xs) + length (concat ys)
bytes_joined [] ys = omega arith
bytes_joined (x ∷ xs) ys = omega (arith, bytes_joined xs ys, length-append x (concat (xs ++ ys)), length-append x (concat xs))

-- the bytes of the generations that are closed, with those of the newest
pub bytes_closed : (c : Chronicle) → length (concat (map (groups_text 1) (generations_of c))) ≡ length (concat (map (groups_text 1) c.closed)) + length (groups_text 1 c.newest)
bytes_closed c =
    let texts = ap (λ (l : List (List ℕ)). length (concat l)) (texts_are c) in
    let joined = bytes_joined (map (groups_text 1) c.closed) (groups_text 1 c.newest ∷ []) in
    let last = ap length (append-nil (groups_text 1 c.newest)) in
    omega (arith, texts, joined, last)

-- a generation more has no groups
all_push_last : (generations : List (List (List Change))) → AllByRecursion (AllByRecursion IsGroup) generations → AllByRecursion (AllByRecursion IsGroup) (generations ++ [] ∷ [])
all_push_last generations are = all-push (AllByRecursion IsGroup) generations [] are tt

module _ {D : Type 0} (disk_says : DiskSays D) (old new : Node D) (c : Chronicle) (n : IsNode disk_says old c) (same : new.archive ≡ old.archive) where
  abbrev next : Chronicle
  next = with_beginning c

  its_contents : HasContentsOf disk_says new.archive (rows_made c)
  its_contents = subst (λ (archive : Archive D). HasContentsOf disk_says archive (rows_made c)) (sym same) n.contents

  next_contents : HasContentsOf disk_says new.archive (rows_made next)
  next_contents = contents_of_same disk_says new.archive (rows_made c) (rows_made next) (ap (λ (rows : AllRows). rows Rev) (rows_begun c)) its_contents

  sees : (files : Files) × disk_says.seen (archive_disk_of new.archive) files
  sees = subst (λ (archive : Archive D). (files : Files) × disk_says.seen (archive_disk_of archive) files) (sym same) n.tells

  pub generation_is : generation_of_journal old.link.journal ≡ length c.closed
  generation_is = let one = n.stands.generation in let two = its_generation disk_says old c n in omega (arith, one, two)

  module _ (older : (before : List (List (List ℕ))) → KeepsOlder disk_says old.link.journal before → KeepsOlder disk_says new.link.journal before) (scanned : KeepsScanned disk_says old.link new.link) (where_is : IsWhereItWas old new) where
    -- nothing was written
    pub unpassed_node : Stands disk_says new.link.journal n.was nothing → IsNode disk_says new c
    unpassed_node stands = same_node disk_says old new c n where_is nothing c stands older scanned refl n.has sees.0 sees.1 its_contents its_contents

    -- the next generation is in doubt
    pub opening_node : (text : List ℕ) → Stands disk_says new.link.journal n.was (opening text) → HasAllRows (with_generation n.was text) (rows_made next) → IsNode disk_says new c
    opening_node text stands has =
        same_node disk_says old new c n where_is (opening text) next stands older scanned refl has sees.0 sees.1 its_contents next_contents

  -- it begins
  pub passed_node : (text : List ℕ) → HasPassed old new → Stands disk_says new.link.journal (with_generation n.was text) nothing
      → KeepsOlder disk_says new.link.journal (map (group_texts 1) c.closed ++ n.was.groups ∷ []) → KeepsScanned disk_says old.link new.link → HasAllRows (with_generation n.was text) (rows_made next) → IsNode disk_says new next
  passed_node text passed stands closes scanned has = record {
    was = with_generation n.was text;
    doubt = nothing;
    stands = stands;
    keeps = subst (KeepsOlder disk_says new.link.journal) (ap (λ (groups : List (List ℕ)). map (group_texts 1) c.closed ++ groups ∷ []) n.are ∙ sym (map-append (group_texts 1) c.closed (c.newest ∷ []))) closes;
    scanned = scanned n.scanned;
    are = refl;
    are_groups = all_push_last (generations_of c) n.are_groups;
    has = has;
    pending = next;
    is_pending = refl;
    pending_has = has;
    rows =
        passed.rows
        ∙ ap (λ (g : ℕ). changed_in (rows_of old.tables) (beginning g)) (let g : generation_of_journal old.link.journal + 1 ≡ 1 + length c.closed = omega (arith, generation_is) in g)
        ∙ ap (λ (rows : AllRows). changed_in rows (beginning (1 + length c.closed))) n.rows
        ∙ sym (rows_begun c);
    tells = sees;
    contents = next_contents;
    pending_contents = next_contents;
    before = (let more = passed.before in let before = n.before in let at = n.at in let all = bytes_closed c in omega (arith, more, before, at, all));
    at = passed.at;
    number = passed.number;
    changes = (let more = passed.changes in let was = n.changes in omega (arith, more, was, ap length (changes_begun c), length-append (changes_of c) ((beginning (1 + length c.closed) ∷ []) ∷ [])));
  }

-- ---- behind what it follows

nothing_there : (text : List ℕ) → Has text (record { at = 0; length = 0 }) []
nothing_there text = record { within = omega arith; is = refl }

module _ {D : Type 0} (disk_says : DiskSays D) (old new : Node D) (c : Chronicle) (up : Upstream) (b : IsBehind disk_says old c up) (same : new.archive ≡ old.archive) where
  abbrev n : IsNode disk_says old c
  n = b.is_node

  -- the bytes that it has
  its_front : HasFrontTo (disk_says.may_leave (archive_disk_of new.archive)) (used_of new.archive) up.bytes
  its_front = subst (λ (archive : Archive D). HasFrontTo (disk_says.may_leave (archive_disk_of archive)) (used_of archive) up.bytes) (sym same) b.front

  -- each image of its journal has some of the changes upstream, with the beginning or without it
  pub passed_moment : (text : List ℕ) → IsEarlier (texts_of (with_beginning c)) up.texts → HasAllRows (with_generation n.was text) (rows_made (with_beginning c))
      → (journal : Files) → HasEither n.was (with_generation n.was text) journal → HasSomeOf c up.texts (used_of new.archive) journal
  passed_moment text next has journal =
      some_doubted disk_says old c n up.texts (used_of new.archive) (its_contents disk_says old new c n same).ends journal (opening text) (with_beginning c) refl has next (next_contents disk_says old new c n same).ends

  module _ (older : (before : List (List (List ℕ))) → KeepsOlder disk_says old.link.journal before → KeepsOlder disk_says new.link.journal before) (scanned : KeepsScanned disk_says old.link new.link) (where_is : IsWhereItWas old new) (rest : new.rest ≡ old.rest) where
    its_rest : Has (text_of up.texts (length c.closed)) (record { at = new.at; length = length new.rest }) new.rest
    its_rest =
        subst (λ (at : ℕ). Has (text_of up.texts (length c.closed)) (record { at = at; length = length new.rest }) new.rest) (sym where_is.at)
        (subst (λ (l : List ℕ). Has (text_of up.texts (length c.closed)) (record { at = old.at; length = length l }) l) (sym rest) b.rest)

    its_none : HasNoGroup new.number new.rest
    its_none = subst (λ (number : ℕ). HasNoGroup number new.rest) (sym where_is.number) (subst (HasNoGroup old.number) (sym rest) b.no_group)

    -- nothing was written
    pub unpassed_behind : Stands disk_says new.link.journal n.was nothing → IsBehind disk_says new c up
    unfolding unpassed_node same_node
    unpassed_behind stands = record {
      is_node = unpassed_node disk_says old new c n same older scanned where_is stands;
      earlier = all_earlier disk_says old c up b;
      rest = its_rest;
      no_group = its_none;
      front = its_front;
    }

    -- the next generation is in doubt
    pub opening_behind : (text : List ℕ) → IsEarlier (texts_of (with_beginning c)) up.texts → HasAllRows (with_generation n.was text) (rows_made (with_beginning c))
        → Stands disk_says new.link.journal n.was (opening text) → IsBehind disk_says new c up
    unfolding opening_node same_node
    opening_behind text next has stands = record {
      is_node = opening_node disk_says old new c n same older scanned where_is text stands has;
      earlier = next;
      rest = its_rest;
      no_group = its_none;
      front = its_front;
    }

  -- it begins
  pub passed_behind : (text : List ℕ) → IsEarlier (texts_of (with_beginning c)) up.texts → HasAllRows (with_generation n.was text) (rows_made (with_beginning c)) → HasPassed old new
      → Stands disk_says new.link.journal (with_generation n.was text) nothing → KeepsOlder disk_says new.link.journal (map (group_texts 1) c.closed ++ n.was.groups ∷ []) → KeepsScanned disk_says old.link new.link → IsBehind disk_says new (with_beginning c) up
  unfolding passed_node
  passed_behind text next has passed stands closes scanned = record {
    is_node = passed_node disk_says old new c n same text passed stands closes scanned has;
    earlier = next;
    rest =
        subst (λ (at : ℕ). Has (text_of up.texts (length (generations_of c))) (record { at = at; length = length new.rest }) new.rest) (sym passed.at)
        (subst (λ (l : List ℕ). Has (text_of up.texts (length (generations_of c))) (record { at = 0; length = length l }) l) (sym passed.rest) (nothing_there (text_of up.texts (length (generations_of c)))));
    no_group = subst (HasNoGroup new.number) (sym passed.rest) (empty_no_group new.number);
    front = its_front;
  }

-- ---- the checkpoint

-- what is committed with a checkpoint of the rows has them
checkpoint_rows : (was : Committed) (c : Chronicle) (rows : AllRows) (next : ℕ) → next ≡ was.generation + 1 → rows ≡ rows_made (with_beginning c) → IsCheckpointOf next rows (checkpoint_text next rows)
    → HasAllRows (with_generation was (checkpoint_text next rows)) (rows_made (with_beginning c))
checkpoint_rows was c rows next is made of =
    subst (HasAllRows (with_generation was (checkpoint_text next rows))) made (next_rows was rows (checkpoint_text next rows) (subst (λ (g : ℕ). IsCheckpointOf g rows (checkpoint_text next rows)) is of))

-- the rows of a node with the counter of the next generation
module _ {D : Type 0} (disk_says : DiskSays D) (old : Node D) (c : Chronicle) (n : IsNode disk_says old c) (rows : AllRows) (next : ℕ) (next_is : next ≡ generation_of_journal old.link.journal + 1)
    (last : generation_of_journal old.link.journal < 4095) (made : rows ≡ changed_in (rows_of old.tables) (beginning next)) where
  index : next ≡ 1 + length c.closed
  index = let one = n.stands.generation in let two = its_generation disk_says old c n in omega (arith, next_is, one, two)

  rows_are : rows ≡ rows_made (with_beginning c)
  rows_are = made ∙ (λ i. changed_in (n.rows i) (beginning (index i))) ∙ sym (rows_begun c)

  pub texts_next : AreRecords (puts_of rows)
  texts_next =
      subst (λ (r : AllRows). AreRecords (puts_of r)) (sym (rows_are ∙ rows_begun c))
      (next_records n.was (rows_made c) (beginning (1 + length c.closed) ∷ []) n.has (beginning_text (1 + length c.closed) (omega (arith, index, next_is, last))))

  pub has_next : IsCheckpointOf next rows (checkpoint_text next rows) → HasAllRows (with_generation n.was (checkpoint_text next rows)) (rows_made (with_beginning c))
  has_next of = checkpoint_rows n.was c rows next (let one = n.stands.generation in omega (arith, next_is, one)) rows_are of
