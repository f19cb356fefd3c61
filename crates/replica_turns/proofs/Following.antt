-- A pull of a run follows the journal of a depot that has been, as it is then.
use Rattle.std.proofs.Common.{◌≡◌, ◌⊎◌, ◌+◌, ◌++◌, ◌∷◌, [], ℕ, List, length, inl, inr, refl, sym, ap, subst, ◌∙◌, arith}
use Rattle.std.specs.Prelude.{map, take}
use Rattle.std.proofs.Math.Seq.{get_or-append_seam, take-append_seam, take-length}
use Rattle.std.proofs.lemmas.List.{length-append, map-append}
use Rattle.outside_api.specs.Disk.{Files}
use Rattle.outside_api.specs.Link.{IsEarlier, text_of}
use Rattle.outside_api.specs.Says.{DiskSays}
use Rattle.depot_rows.specs.db_records.declared.change.Change.{Change}
use Rattle.disk_journal.specs.Text.{blocks}
use Rattle.disk_journal.specs.declared.journal.Journal.{Journal}
use Rattle.journal_groups.specs.Groups.{groups_text}
use Rattle.recovery.specs.Holding.{group_texts}
use Rattle.recovery.proofs.Held.{blocks_of}
use Rattle.replica_pull.specs.Prefix.{HasPulled}
use Rattle.replica_pull.specs.declared.replica.Replica.{Replica}
use Rattle.depot_commit.specs.Fetching.{HasTexts}
use Rattle.depot_commit.specs.Growing.{Chronicle, HasGroups, generations_of}
use Rattle.serial_depot.specs.declared.depot.SerialDepot.{SerialDepot}
use Rattle.replica_turns.specs.Master.{texts_in}
use Rattle.replica_turns.specs.Replying.{Follows, HasPulledOf, IsPulled}

-- a journal is the journal as it is
pub earlier_self : (front : List (List ℕ)) (last : List ℕ) → IsEarlier (front ++ last ∷ []) (front ++ last ∷ [])
earlier_self front last =
    let texts = front ++ last ∷ [] in
    let here : text_of texts (length front) ≡ last = get_or-append_seam front last [] [] in
    let whole : take (length last) (text_of texts (length front)) ≡ last = ap (take (length last)) here ∙ take-length last in
    let front_is : take (length front) texts ≡ front = take-append_seam front (last ∷ []) in
    let many : length texts ≡ length front + 1 = length-append front (last ∷ []) in
    record {
      newest = length front;
      bytes = length last;
      there = omega (arith, many);
      is = λ i. sym front_is i ++ sym whole i ∷ [];
    }

-- the texts of groups, generation by generation
texts_of_all : (generations : List (List (List Change))) → map (groups_text 1) generations ≡ map blocks (map (group_texts 1) generations)
texts_of_all [] = refl
texts_of_all (groups ∷ generations) = λ i. sym (blocks_of 1 groups) i ∷ texts_of_all generations i

-- a journal has the texts of its groups
pub has_texts : {D : Type 0} (disk_says : DiskSays D) (reads : (disk : D) (files : Files) → disk_says.seen disk files → disk_says.may_leave disk files) (journal : Journal D) (c : Chronicle)
    → HasGroups disk_says journal c → HasTexts disk_says journal (texts_in c)
has_texts disk_says reads journal c g =
    let count = g.keeps.count in
    let generation = g.stands.generation in
    record {
      was = g.was;
      doubt = g.doubt;
      before = map (group_texts 1) c.closed;
      files = g.keeps.tells.0;
      stands = g.stands;
      sees = g.keeps.tells.1;
      as_many = count ∙ generation;
      older = g.keeps.each g.keeps.tells.0 (reads journal.disk g.keeps.tells.0 g.keeps.tells.1);
      are = texts_of_all (generations_of c)
          ∙ ap (map blocks) (map-append (group_texts 1) c.closed (c.newest ∷ []) ∙ ap (λ (groups : List (List ℕ)). map (group_texts 1) c.closed ++ groups ∷ []) (sym g.are));
    }

pub follows_journal : {D : Type 0} (HasBeen : SerialDepot D → Type 0) (disk_says : DiskSays D) (old new : Replica) (number : ℕ) (text : List ℕ)
    → (pull : IsPulled HasBeen disk_says old new number text) (texts : List (List ℕ)) → HasTexts disk_says pull.depot.journal texts → HasPulled texts old new
follows_journal HasBeen disk_says old new number text pull texts has = go pull.follows
  where
    go : Follows old new pull.fetched pull.piece → HasPulled texts old new
    go (inl did) = inr (record {
      fetched = pull.fetched;
      piece = pull.piece;
      moved = did.0;
      earlier = texts;
      has = did.1;
      was =
          subst (λ (j : List (List ℕ)). IsEarlier j j) (sym (has.are ∙ map-append blocks has.before (has.was.groups ∷ []))) (earlier_self (map blocks has.before) (blocks has.was.groups));
      answers = pull.answers texts has;
    })
    go (inr stopped) = inl stopped.0

-- it takes of it as it is, or it doesn't change
pub takes_journal : {D : Type 0} (HasBeen : SerialDepot D → Type 0) (disk_says : DiskSays D) (old new : Replica) (number : ℕ) (text : List ℕ)
    → (pull : IsPulled HasBeen disk_says old new number text) (texts : List (List ℕ)) → HasTexts disk_says pull.depot.journal texts → (new ≡ old) ⊎ HasPulledOf texts old new
takes_journal HasBeen disk_says old new number text pull texts has = go pull.follows
  where
    go : Follows old new pull.fetched pull.piece → (new ≡ old) ⊎ HasPulledOf texts old new
    go (inl did) = inr (record { fetched = pull.fetched; piece = pull.piece; moved = did.0; answers = pull.answers texts has; has = did.1 })
    go (inr stopped) = inl stopped.0
