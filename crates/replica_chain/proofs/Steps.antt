-- Nodes that go on behind what they follow, step by step.
use Rattle.std.proofs.Common.{◌≡◌, inl, inr, ℕ, ◌+◌, ◌≤◌, List, [], ◌∷◌, ◌++◌, length, refl, sym, subst, ◌∙◌, arith, length-append}
use Rattle.std.specs.List.{AllByRecursion}
use Rattle.outside_api.specs.Disk.{Files}
use Rattle.outside_api.specs.Link.{IsEarlier}
use Rattle.outside_api.specs.Moments.{started, then, weaker}
use Rattle.outside_api.specs.Says.{DiskSays}
use Rattle.archive_file.specs.Archive.{used_of}
use Rattle.depot_rows.specs.db_records.declared.change.Change.{Change}
use Rattle.depot_rows.specs.db_records.declared.table.TableId.TheVariants.{Rev}
use Rattle.disk_journal.specs.Images.{HasCommitted, HasEither, with_generation, with_group}
use Rattle.disk_journal.specs.Stands.{Doubtful, nothing, group, opening, HasWithOrWithout, disk_of}
use Rattle.journal_groups.specs.Groups.{IsGroup, group_text}
use Rattle.recovery.specs.Holding.{HasAllRows, spots_end}
use Rattle.replica_pull.specs.Prefix.{HasGrown}
use Rattle.replica_chain.specs.Chronicle.{Chronicle, generations_of, rows_made, texts_of, with_beginning, with_changes}
use Rattle.replica_chain.specs.Masters.{GoesOnBehind, HasSomeOf, IsBehind, StaysBehind, Upstream}
use Rattle.replica_chain.specs.Node.{IsNode, IsPending, with_doubt}
use Rattle.replica_chain.specs.declared.node.Node.{Node}
use Rattle.replica_chain.proofs.Chains.{earlier_on}
use Rattle.replica_chain.proofs.Copied.{front_itself, fronts_on}
use Rattle.replica_chain.proofs.Following.{closed_texts_long}
use Rattle.recovery.proofs.OneGroup.{all-push, group_texts-push}
use Rattle.replica_chain.proofs.Growing.{earlier_begun, earlier_push, earlier_self, groups_push}

-- ---- images

-- what has grown twice
pub grown_on : (first middle last : List (List ℕ)) → HasGrown first middle → HasGrown middle last → HasGrown first last
grown_on first middle last one (inl same) = subst (HasGrown first) (sym same) one
grown_on first middle last (inl same) (inr two) = inr (subst (λ (l : List (List ℕ)). IsEarlier l last) same two)
grown_on first middle last (inr one) (inr two) = inr (earlier_on first middle last one two)

-- what is earlier is earlier than what has grown
pub earlier_grown : (first middle last : List (List ℕ)) → IsEarlier first middle → HasGrown middle last → IsEarlier first last
earlier_grown first middle last one (inl same) = subst (IsEarlier first) (sym same) one
earlier_grown first middle last one (inr two) = earlier_on first middle last one two

-- what has some of the changes has some of those that grew out of them, no fewer than fewer ones, before a later place
pub some_on : (c mid : Chronicle) (texts later : List (List ℕ)) (place more : ℕ) → IsEarlier (texts_of c) (texts_of mid) → HasGrown texts later → place ≤ more → (image : Files) → HasSomeOf mid texts place image → HasSomeOf c later more image
some_on c mid texts later place more fewer grown le image some = record {
  then = some.then;
  no_fewer = earlier_on (texts_of c) (texts_of mid) (texts_of some.then) fewer some.no_fewer;
  earlier = earlier_grown (texts_of some.then) texts later some.earlier grown;
  has = some.has;
  ends = (let ends = some.ends in omega (arith, ends, le));
}

module _ {D : Type 0} (disk_says : DiskSays D) (node : Node D) (c : Chronicle) (n : IsNode disk_says node c) where
  pub its_generation : n.was.generation ≡ length c.closed
  its_generation = let keeps = n.keeps.count in let stands = n.stands.generation in omega (arith, keeps, stands, closed_texts_long c.closed)

  module _ (texts : List (List ℕ)) (place : ℕ) (ends : spots_end (rows_made c Rev) ≤ place) (journal : Files) where
    -- an image of what is committed
    some_committed : IsEarlier (texts_of c) texts → HasCommitted n.was journal → HasSomeOf c texts place journal
    some_committed e committed = record {
      then = c;
      no_fewer = earlier_self c;
      earlier = e;
      has = record { was = n.was; committed = committed; are_groups = n.are_groups; generation = its_generation; are = n.are; rows = n.has };
      ends = ends;
    }

    -- and of a group more
    some_with_group : (changes : List Change) (text : List ℕ) → IsGroup changes → text ≡ group_text (1 + length c.newest) changes → HasAllRows (with_group n.was text) (rows_made (with_changes c changes))
        → IsEarlier (texts_of (with_changes c changes)) texts → spots_end (rows_made (with_changes c changes) Rev) ≤ place → HasEither n.was (with_group n.was text) journal → HasSomeOf c texts place journal
    some_with_group changes text is_group is rows e after (inl without) = some_committed (earlier_on (texts_of c) (texts_of (with_changes c changes)) texts (earlier_push c changes) e) without
    some_with_group changes text is_group is rows e after (inr with_it) = record {
      then = with_changes c changes;
      no_fewer = earlier_push c changes;
      earlier = e;
      has = record {
        was = with_group n.was text;
        committed = with_it;
        are_groups = groups_push c changes n.are_groups is_group;
        generation = its_generation;
        are = (λ i. n.are i ++ is i ∷ []) ∙ sym (group_texts-push 1 c.newest changes);
        rows = rows;
      };
      ends = after;
    }

    -- and of a generation more
    some_begun : (checkpoint : List ℕ) → HasAllRows (with_generation n.was checkpoint) (rows_made (with_beginning c)) → IsEarlier (texts_of (with_beginning c)) texts → spots_end (rows_made (with_beginning c) Rev) ≤ place
        → HasEither n.was (with_generation n.was checkpoint) journal → HasSomeOf c texts place journal
    some_begun checkpoint rows e after (inl without) = some_committed (earlier_on (texts_of c) (texts_of (with_beginning c)) texts (earlier_begun c) e) without
    some_begun checkpoint rows e after (inr with_it) = record {
      then = with_beginning c;
      no_fewer = earlier_begun c;
      earlier = e;
      has = record {
        was = with_generation n.was checkpoint;
        committed = with_it;
        are_groups = all-push (AllByRecursion IsGroup) (generations_of c) [] n.are_groups tt;
        generation = (let generation = its_generation in omega (arith, generation, length-append c.closed (c.newest ∷ [])));
        are = refl;
        rows = rows;
      };
      ends = after;
    }

    -- with what is in doubt or without it
    pub some_doubted : (doubt : Doubtful) (pending : Chronicle) → IsPending c doubt pending → HasAllRows (with_doubt n.was doubt) (rows_made pending) → IsEarlier (texts_of pending) texts → spots_end (rows_made pending Rev) ≤ place
        → HasWithOrWithout n.was doubt journal → HasSomeOf c texts place journal
    some_doubted nothing pending is rows e after = some_committed (subst (λ (p : Chronicle). IsEarlier (texts_of p) texts) is e)
    some_doubted (group text) pending of rows e after =
        some_with_group of.0 text of.1 of.2 (subst (λ (p : Chronicle). HasAllRows (with_group n.was text) (rows_made p)) of.3 rows) (subst (λ (p : Chronicle). IsEarlier (texts_of p) texts) of.3 e)
        (subst (λ (p : Chronicle). spots_end (rows_made p Rev) ≤ place) of.3 after)
    some_doubted (opening checkpoint) pending is rows e after =
        some_begun checkpoint (subst (λ (p : Chronicle). HasAllRows (with_generation n.was checkpoint) (rows_made p)) is rows) (subst (λ (p : Chronicle). IsEarlier (texts_of p) texts) is e)
        (subst (λ (p : Chronicle). spots_end (rows_made p Rev) ≤ place) is after)

  -- each image of its journal's disk has some of its changes, with those in doubt
  pub some_now : (texts : List (List ℕ)) → IsEarlier (texts_of n.pending) texts → (journal : Files) → disk_says.may_leave (disk_of node.link.journal) journal → HasSomeOf c texts (used_of node.archive) journal
  some_now texts e journal left =
      some_doubted texts (used_of node.archive) n.contents.ends journal n.doubt n.pending n.is_pending n.pending_has e n.pending_contents.ends (n.stands.holds journal left)

-- ---- steps

module _ {D : Type 0} (disk_says : DiskSays D) where
  -- the changes that are in doubt are no fewer
  pub earlier_pending : (c : Chronicle) (doubt : Doubtful) (pending : Chronicle) → IsPending c doubt pending → IsEarlier (texts_of c) (texts_of pending)
  earlier_pending c nothing pending is = subst (λ (p : Chronicle). IsEarlier (texts_of c) (texts_of p)) (sym is) (earlier_self c)
  earlier_pending c (group text) pending of = subst (λ (p : Chronicle). IsEarlier (texts_of c) (texts_of p)) (sym of.3) (earlier_push c of.0)
  earlier_pending c (opening checkpoint) pending is = subst (λ (p : Chronicle). IsEarlier (texts_of c) (texts_of p)) (sym is) (earlier_begun c)

  -- its changes are upstream
  pub all_earlier : (node : Node D) (c : Chronicle) (up : Upstream) → IsBehind disk_says node c up → IsEarlier (texts_of c) up.texts
  all_earlier node c up b = let n = b.is_node in earlier_on (texts_of c) (texts_of n.pending) up.texts (earlier_pending c n.doubt n.pending n.is_pending) b.earlier

  -- before the first step
  pub stays_first : ((disk : D) (image : Files) → disk_says.left_since disk (disk_says.moment disk) image → disk_says.may_leave disk image) → (node : Node D) (c : Chronicle) (up : Upstream) → IsBehind disk_says node c up
      → StaysBehind disk_says node node c up
  stays_first only_now node c up b = record {
    now = c;
    no_fewer = earlier_self c;
    behind = b;
    any_moment = started disk_says (disk_of node.link.journal) _ (λ image left. some_now disk_says node c b.is_node up.texts b.earlier image (only_now (disk_of node.link.journal) image left));
  }

  -- one step behind another
  pub stays_on : (old mid new : Node D) (c : Chronicle) (up later : Upstream) → HasGrown up.texts later.texts → used_of mid.archive ≤ used_of new.archive → (first : StaysBehind disk_says old mid c up)
      → StaysBehind disk_says mid new first.now later → StaysBehind disk_says old new c later
  stays_on old mid new c up later grown used first second = record {
    now = second.now;
    no_fewer = earlier_on (texts_of c) (texts_of first.now) (texts_of second.now) first.no_fewer second.no_fewer;
    behind = second.behind;
    any_moment =
        then disk_says (disk_of old.link.journal) (disk_of mid.link.journal) (disk_of new.link.journal) (HasSomeOf c later.texts (used_of new.archive))
        (weaker disk_says (disk_of old.link.journal) (disk_of mid.link.journal) (HasSomeOf c up.texts (used_of mid.archive)) _
        (some_on c c up.texts later.texts (used_of mid.archive) (used_of new.archive) (earlier_self c) grown used) first.any_moment)
        (weaker disk_says (disk_of mid.link.journal) (disk_of new.link.journal) (HasSomeOf first.now later.texts (used_of new.archive)) _
        (some_on c first.now later.texts later.texts (used_of new.archive) (used_of new.archive) first.no_fewer (inl refl) (omega arith)) second.any_moment);
  }

  pub at_first : ((disk : D) (image : Files) → disk_says.left_since disk (disk_says.moment disk) image → disk_says.may_leave disk image) → (node : Node D) (c : Chronicle) (up : Upstream) (B : List ℕ → Type 0) → B up.bytes
      → IsBehind disk_says node c up → GoesOnBehind disk_says node node c up (λ texts. texts ≡ up.texts) B
  at_first only_now node c up B told b = record { later = up; grown = inl refl; more = front_itself up.bytes; texts_told = refl; bytes_told = told; stays = stays_first only_now node c up b }

  pub behind_on : (old mid new : Node D) (c : Chronicle) (up : Upstream) (T S R : List (List ℕ) → Type 0) (B E : List ℕ → Type 0) → used_of mid.archive ≤ used_of new.archive → (first : GoesOnBehind disk_says old mid c up T B)
      → GoesOnBehind disk_says mid new first.stays.now first.later S E → ((texts : List (List ℕ)) → T first.later.texts → S texts → R texts) → GoesOnBehind disk_says old new c up R E
  behind_on old mid new c up T S R B E used first second leads =
      let last = second.later in
      record {
        later = last;
        grown = grown_on up.texts first.later.texts last.texts first.grown second.grown;
        more = fronts_on up.bytes first.later.bytes last.bytes first.more second.more;
        texts_told = leads last.texts first.texts_told second.texts_told;
        bytes_told = second.bytes_told;
        stays = stays_on old mid new c first.later last second.grown used first.stays second.stays;
      }
