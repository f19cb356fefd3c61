-- Nodes that were opened, where their journals don't depart, and the depots of what they follow.
use Rattle.std.proofs.Common.{◌≡◌, ◌≢◌, inl, inr, ⊎_elim, ◌⊎◌, ℕ, zero, suc, ◌+◌, ◌≤◌, ◌<◌, List, [], ◌∷◌, length, take, drop, refl, sym, ap, subst, ◌∙◌, arith}
use Rattle.std.proofs.lemmas.List.{length-take-le, take-take, take_all}
use mathlib.Core.Logic.{dite}
use native.Mathlib.Decide.{ℕ_discrete}
use Rattle.outside_api.specs.Disk.{Files}
use Rattle.outside_api.specs.Link.{IsEarlier, text_of}
use Rattle.outside_api.specs.Says.{DiskSays}
use Rattle.archive_file.specs.Archive.{Has, disk_of as archive_disk_of, used_of}
use Rattle.depot_rows.specs.depot_path.Path.{printed}
use Rattle.depot_rows.specs.db_records.declared.key.Key.TheVariants as keys
use Rattle.depot_rows.specs.db_records.declared.record.Record.TheVariants.{Rev as RevRow}
use Rattle.depot_rows.specs.db_records.declared.table.TableId.TheVariants.{Rev}
use Rattle.depot_rows.specs.depot_model.Deeds.{Deed}
use Rattle.depot_rows.specs.Standing.{Stand}
use Rattle.depot_rows.specs.table_changes.Changed.{AllRows, changed_by, no_rows}
use Rattle.disk_journal.specs.Stands.{Doubtful, nothing, group, opening, Knows}
use Rattle.disk_journal.specs.declared.journal.Doubt.{Doubt}
use Rattle.disk_journal.specs.declared.journal.Doubt.TheVariants.{Nothing}
use Rattle.recovery.specs.Holding.{joined, spots_end}
use Rattle.recovery.specs.Rules.{DeletesAreUnplaced}
use Rattle.recovery.specs.Standing.{HasContents, StandFor}
use Rattle.recovery.proofs.GoodSpots.{row_end}
use Rattle.replica_pull.specs.Prefix.{HasNoGroup, first_rows}
use Rattle.replica_pull.proofs.Counted.{empty_no_group}
use Rattle.replica_chain.specs.Apart.{AreAlike, IsClosedIn}
use Rattle.replica_chain.specs.Chronicle.{Chronicle, changes_of, generations_of, rows_made, texts_of}
use Rattle.replica_chain.specs.Masters.{IsBehind, IsDepotOf}
use Rattle.replica_chain.specs.Node.{IsNode, IsPending}
use Rattle.replica_chain.specs.Opening.{AreWritten, IsFresh}
use Rattle.replica_chain.specs.declared.node.Node.{Node}
use Rattle.replica_chain.proofs.Chains.{same_at}
use Rattle.replica_chain.proofs.Following.{front_of}

-- ---- texts that don't depart

first_byte : {a b : ℕ} → a ∷ [] ≡ b ∷ [] → a ≡ b
first_byte e = cc

-- a text that departs nowhere from another is its front
is_front : (one other : List ℕ) → ((place : ℕ) → place < length one → place ≤ length other → take place one ≡ take place other → take 1 (drop place one) ≢ take 1 (drop place other) → ⊥)
    → (length one ≤ length other) × (one ≡ take (length one) other)
is_front [] other never = (omega arith, refl)
is_front (x ∷ one) [] never = absurd (never 0 (omega arith) (omega arith) refl (λ e. absurd cc))
is_front (x ∷ one) (y ∷ other) never =
    dite (ℕ_discrete x y)
    (λ e. (let rest = is_front one other (λ place lt le same differ. never (suc place) (omega (arith, lt)) (omega (arith, le)) (λ i. e i ∷ same i) differ) in (omega (arith, rest.0), λ i. e i ∷ rest.1 i)))
    (λ differ. absurd (never 0 (omega arith) (omega arith) refl (λ e. differ (first_byte e))))

not_over : (n m : ℕ) → ((n < m → ⊥) → ⊥) → n < m
not_over n zero twice = absurd (twice (λ lt. absurd (omega (arith, lt))))
not_over zero (suc m) twice = omega arith
not_over (suc n) (suc m) twice = let lt = not_over n m (λ never. twice (λ lt. never (omega (arith, lt)))) in omega (arith, lt)

module _ (node up : List (List ℕ)) (generation : ℕ) (alike : AreAlike node up generation) where
  text_front : (length (text_of node generation) ≤ length (text_of up generation)) × (text_of node generation ≡ take (length (text_of node generation)) (text_of up generation))
  text_front = is_front (text_of node generation) (text_of up generation)
      (λ place lt le same differ. alike place (record { alike = record { within_node = omega (arith, lt); within_up = le; same = same }; departs = inl (lt, differ) }))

  at_end : IsClosedIn node generation → ((length (text_of node generation) < length (text_of up generation)) ⊎ (IsClosedIn up generation → ⊥)) → ⊥
  at_end closed why =
      let text = text_of node generation in
      alike (length text) (record {
        alike = record { within_node = omega arith; within_up = text_front.0; same = take_all (length text) text (omega arith) ∙ text_front.1 };
        departs = inr (refl, closed, why);
      })

  -- where it is closed so is the other, with the same text
  closed_same : IsClosedIn node generation → (text_of node generation ≡ text_of up generation) × IsClosedIn up generation
  closed_same closed =
      let text = text_of node generation in
      let other = text_of up generation in
      let ends : length other ≤ length text = not_longer (length text) (length other) (λ lt. at_end closed (inl lt)) in (
        text_front.1 ∙ take_all (length text) other ends,
        not_over (generation + 1) (length up) (λ never. at_end closed (inr never)),
      )
    where
      not_longer : (n m : ℕ) → (n < m → ⊥) → m ≤ n
      not_longer n zero never = omega arith
      not_longer zero (suc m) never = absurd (never (omega arith))
      not_longer (suc n) (suc m) never = let le = not_longer n m (λ lt. never (omega (arith, lt))) in omega (arith, le)

-- the generations behind the first
alike_behind : (t u : List ℕ) (node up : List (List ℕ)) (generation : ℕ) → AreAlike (t ∷ node) (u ∷ up) (suc generation) → AreAlike node up generation
alike_behind t u node up generation alike place apart = alike place (record { alike = record { within_node = apart.alike.within_node; within_up = apart.alike.within_up; same = apart.alike.same }; departs = there apart.departs })
  where
    there : ((place < length (text_of node generation)) × (take 1 (drop place (text_of node generation)) ≢ take 1 (drop place (text_of up generation))))
        ⊎ ((place ≡ length (text_of node generation)) × IsClosedIn node generation × ((place < length (text_of up generation)) ⊎ (IsClosedIn up generation → ⊥)))
        → ((place < length (text_of node generation)) × (take 1 (drop place (text_of node generation)) ≢ take 1 (drop place (text_of up generation))))
        ⊎ ((place ≡ length (text_of node generation)) × IsClosedIn (t ∷ node) (suc generation) × ((place < length (text_of up generation)) ⊎ (IsClosedIn (u ∷ up) (suc generation) → ⊥)))
    there (inl differ) = inl differ
    there (inr ended) = let closed = ended.1 in inr (ended.0, omega (arith, closed), ⊎_elim (λ longer. inl longer) (λ never. inr (λ (is : IsClosedIn (u ∷ up) (suc generation)). never (omega (arith, is)))) ended.2)

-- a journal that departs nowhere is an earlier one
pub earlier_alike : (node up : List (List ℕ)) → 0 < length node → ((generation : ℕ) → generation < length node → AreAlike node up generation) → IsEarlier node up
earlier_alike [] up some all = absurd (omega (arith, some))
earlier_alike (t ∷ []) up some all = record { newest = 0; bytes = length t; there = omega arith; is = ap (λ (l : List ℕ). l ∷ []) (text_front (t ∷ []) up 0 (all 0 some)).1 }
earlier_alike (t ∷ s ∷ node) [] some all = let closed = (closed_same (t ∷ s ∷ node) [] 0 (all 0 some) (omega arith)).1 in absurd (omega (arith, closed))
earlier_alike (t ∷ s ∷ node) (u ∷ up) some all =
    let first = closed_same (t ∷ s ∷ node) (u ∷ up) 0 (all 0 some) (omega arith) in
    let closed = first.1 in
    let deeper = earlier_alike (s ∷ node) up (omega arith) (λ generation lt. alike_behind t u (s ∷ node) up generation (all (suc generation) (omega (arith, lt)))) in
    record { newest = suc deeper.newest; bytes = deeper.bytes; there = omega (arith, deeper.there, closed); is = λ i. first.0 i ∷ deeper.is i }

-- ---- a node that was opened

none_doubted : (doubt : Doubtful) (number : ℕ) (known : Doubt) → known ≡ Nothing → Knows doubt number known → doubt ≡ nothing
none_doubted nothing number known is knows = refl
none_doubted (group text) number known is knows = let e = sym is ∙ knows.0 in absurd cc
none_doubted (opening checkpoint) number known is knows = let e = sym is ∙ knows in absurd cc

module _ {D : Type 0} (disk_says : DiskSays D) (node : Node D) (c : Chronicle) (n : IsNode disk_says node c) (fresh : IsFresh disk_says node) (texts : List (List ℕ)) (bytes : List ℕ) (earlier : IsEarlier (texts_of c) texts) where
  abbrev pub place : ℕ
  place = spots_end (rows_made c Rev)

  pending_is : n.pending ≡ c
  pending_is = subst (λ (doubt : Doubtful). IsPending c doubt n.pending) (none_doubted n.doubt (node.link.journal.end.groups + 1) node.link.journal.doubt fresh.settled.1.known n.stands.known) n.is_pending

  used_is : used_of node.archive ≡ place
  used_is = fresh.used ∙ ap (λ (rows : AllRows). spots_end (rows Rev)) n.rows

  -- where its journal is an earlier one, and its archive begins with the bytes as far as the spots of its rows, it is behind
  pub fresh_behind : place ≤ length bytes → ((image : Files) → disk_says.may_leave (archive_disk_of node.archive) image → take place (image 0) ≡ take place bytes) → IsBehind disk_says node c (record { texts = texts; bytes = bytes })
  fresh_behind within same = record {
    is_node = n;
    earlier = subst (λ (p : Chronicle). IsEarlier (texts_of p) texts) (sym pending_is) earlier;
    rest = subst (λ (l : List ℕ). Has (text_of texts (length c.closed)) (record { at = node.at; length = length l }) l) (sym fresh.rest) (record { within = (let front = (front_of c texts earlier).within in let at = n.at in omega (arith, front, at)); is = refl });
    no_group = subst (HasNoGroup node.number) (sym fresh.rest) (empty_no_group node.number);
    front = record {
      within = omega (arith, used_is, within);
      has = λ image left. record { within = (n.contents.front.has image left).within; is = ap (λ (k : ℕ). take k (image 0)) used_is ∙ same image left ∙ ap (λ (k : ℕ). take k bytes) (sym used_is) };
    };
  }

-- ---- the depot of what is followed

-- Files that were written from the first change on, and stand for a depot, have it by their changes and by the bytes that are used.
pub depot_of : (c : Chronicle) (journal archive : Files) (d : List Deed) (used : ℕ) (bytes : List ℕ) → AreWritten c journal → StandFor d journal archive → spots_end (rows_made c Rev) ≤ used → used ≤ length (archive 0)
    → bytes ≡ take used (archive 0) → IsDepotOf c bytes d
depot_of c journal archive d used bytes written s ends within is = record {
  depot = record {
    stand = subst (λ (rows : AllRows). Stand rows d) rows_are s.stand;
    deletes = subst (λ (rows : AllRows). DeletesAreUnplaced (rows Rev)) rows_are s.deletes;
    within = (let same = ap (λ (rows : AllRows). spots_end (rows Rev)) all in omega (arith, same, ends, long));
    contents = subst (λ (rows : AllRows). HasContents bytes rows d) rows_are contents;
  };
  generation = s.generation ∙ written.generation s.was s.committed;
}
  where
    made : s.rows ≡ rows_made c
    made = written.rows s.rows (record { was = s.was; committed = s.committed; has = s.has })

    all : first_rows (length (changes_of c)) (generations_of c) ≡ rows_made c
    all = ap (λ (l : List (List _)). changed_by no_rows (joined l)) (take_all (length (changes_of c)) (changes_of c) (omega arith))

    rows_are : s.rows ≡ first_rows (length (changes_of c)) (generations_of c)
    rows_are = made ∙ sym all

    long : length bytes ≡ used
    long = ap length is ∙ length-take-le used (archive 0) within

    front : take used bytes ≡ take used (archive 0)
    front = ap (take used) is ∙ take-take used used (archive 0) (omega arith)

    contents : HasContents bytes s.rows d
    contents path n r content is_there has_it =
        let found = s.contents path n r content is_there has_it in
        let row = found.0 in
        let end = row_end (s.rows Rev) (keys.Rev (printed path) n) (RevRow row) found.1 in
        let same = ap (λ (rows : AllRows). spots_end (rows Rev)) made in
        let le : row.at + row.length ≤ used = omega (arith, end, same, ends) in (
          row,
          found.1,
          record { within = omega (arith, le, long); is = same_at (archive 0) bytes used row.at row.length front le ∙ found.2.is },
        )
