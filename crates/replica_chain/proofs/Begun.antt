-- A node before which the next generation was begun, or wasn't.
use Rattle.std.proofs.Common.{◌≡◌, ◌⊎◌, inl, inr, ℕ, ◌+◌, ◌<◌, List, [], ◌∷◌, ◌++◌, length, refl, sym, ap, subst, ◌∙◌, arith}
use Rattle.std.specs.Prelude.{map}
use Rattle.outside_api.specs.Link.{IsEarlier}
use Rattle.outside_api.specs.Moments.{LeavesOnly, weaker}
use Rattle.outside_api.specs.Says.{DiskSays}
use Rattle.archive_file.specs.Archive.{used_of}
use Rattle.checkpoint_file.specs.Checkpoint.{IsCheckpointOf, checkpoint_text, puts_of}
use Rattle.depot_rows.specs.table_changes.Changed.{AllRows, changed_in, rows_of}
use Rattle.depot_rows.specs.table_store.declared.tables.Tables.{Tables}
use Rattle.disk_journal.specs.Images.{Committed, HasCommitted, HasEither, with_generation}
use Rattle.disk_journal.specs.Keeping.{KeepsOlder}
use Rattle.disk_journal.specs.Stands.{Doubtful, IsStill, Stands, disk_of, generation_of_journal, nothing, opening}
use Rattle.journal_groups.specs.Groups.{AreRecords}
use Rattle.recovery.specs.Holding.{HasAllRows, group_texts}
use Rattle.replica_pull.specs.Replica.{beginning}
use Rattle.replica_chain.specs.Chronicle.{Chronicle, rows_made, texts_of, with_beginning}
use Rattle.replica_chain.specs.Ends.{KeepsScanned}
use Rattle.replica_chain.specs.Masters.{GoesOnBehind, HasNoFewer, HasSomeOf, IsBehind, Upstream}
use Rattle.replica_chain.specs.Node.{CanFollow, IsNode, IsSettled}
use Rattle.replica_chain.specs.Pulling.{HasPassed, IsUnpassed, IsWhereItWas}
use Rattle.replica_chain.specs.declared.fault.NodeFault.{NodeFault}
use Rattle.replica_chain.specs.declared.fault.NodeFault.TheVariants.{DiskFault, Memory}
use Rattle.replica_chain.specs.declared.link.NodeLink.{NodeLink}
use Rattle.replica_chain.specs.declared.node.Node.{Node}
use Rattle.replica_chain.proofs.Copied.{front_itself}
use Rattle.replica_chain.proofs.Generations.{has_next, opening_behind, opening_node, passed_behind, passed_moment, passed_node, texts_next, unpassed_behind, unpassed_node}
use Rattle.replica_chain.proofs.Grouping.{settled_stands}
use Rattle.replica_chain.proofs.Growing.{earlier_begun, earlier_self}
use Rattle.replica_chain.proofs.Rests.{with_link}
use Rattle.replica_chain.proofs.Settled.{settled_can, where_settled}
use Rattle.replica_chain.proofs.Steps.{all_earlier, some_doubted}

-- what was written of a checkpoint is still as it was, or in doubt
pub in_doubt : {A : Type 0} (S K : List ℕ → Type 0) {text other : List ℕ} → text ≡ other → A ⊎ S text → K text → A ⊎ (S other × K other)
in_doubt S K is (inl as_it_was) of = inl as_it_was
in_doubt S K is (inr stands) of = inr (subst S is stands, subst K is of)

-- after a fault of writing
pub unpassed : {D : Type 0} (old new : Node D) (fault : NodeFault) → (fault ≡ DiskFault) ⊎ (fault ≡ Memory) → IsWhereItWas old new → IsUnpassed old new fault
unpassed old new fault (inl is) where_is = subst (IsUnpassed old new) (sym is) where_is
unpassed old new fault (inr is) where_is = subst (IsUnpassed old new) (sym is) where_is

module _ {D : Type 0} (disk_says : DiskSays D) (old : Node D) (settled : IsSettled disk_says old) (link : NodeLink D) (rows : AllRows) (next : ℕ) (next_is : next ≡ generation_of_journal old.link.journal + 1)
    (last : generation_of_journal old.link.journal < 4095) (made : rows ≡ changed_in (rows_of old.tables) (beginning next)) where
  abbrev text : List ℕ
  text = checkpoint_text next rows

  -- ---- it wasn't begun

  -- what is told of the journal after an error
  abbrev pub IsUnwritten : Committed → Type 0
  IsUnwritten was = IsStill disk_says old.link.journal link.journal was ⊎ (Stands disk_says link.journal was (opening text) × (AreRecords (puts_of rows) → IsCheckpointOf next rows text))

  unwritten_stands : (was : Committed) → IsUnwritten was → (doubt : Doubtful) × Stands disk_says link.journal was doubt
  unwritten_stands was (inl still) = (nothing, still.stands)
  unwritten_stands was (inr doubted) = (opening text, doubted.0)

  unwritten_generation : (was : Committed) → Stands disk_says old.link.journal was nothing → IsUnwritten was → generation_of_journal link.journal ≡ generation_of_journal old.link.journal
  unwritten_generation was stands found = let before = stands.generation in let now = (unwritten_stands was found).1.generation in omega (arith, before, now)

  module _ (found : (was : Committed) → Stands disk_says old.link.journal was nothing → IsUnwritten was) where
    same : generation_of_journal link.journal ≡ generation_of_journal old.link.journal
    same = unwritten_generation settled.0 settled.1 (found settled.0 settled.1)

    pub unwritten_where : IsWhereItWas old (with_link old link)
    unwritten_where = where_settled disk_says old link same

    pub unwritten_can : CanFollow disk_says old → CanFollow disk_says (with_link old link)
    unwritten_can can =
        let now = unwritten_stands settled.0 (found settled.0 settled.1) in
        settled_can disk_says old link can same settled.0 now.0 now.1

    module _ (older : (before : List (List (List ℕ))) → KeepsOlder disk_says old.link.journal before → KeepsOlder disk_says link.journal before) (scanned : KeepsScanned disk_says old.link link) where
      unwritten_node : (c : Chronicle) (n : IsNode disk_says old c) → IsUnwritten n.was → IsNode disk_says (with_link old link) c
      unwritten_node c n (inl still) = unpassed_node disk_says old (with_link old link) c n refl older scanned unwritten_where still.stands
      unwritten_node c n (inr doubted) =
          opening_node disk_says old (with_link old link) c n refl older scanned unwritten_where text doubted.0
          (has_next disk_says old c n rows next next_is last made (doubted.1 (texts_next disk_says old c n rows next next_is last made)))

      pub unwritten_fewer : (c : Chronicle) → IsNode disk_says old c → HasNoFewer disk_says (with_link old link) c
      unwritten_fewer c n = record { now = c; no_fewer = earlier_self c; is_node = unwritten_node c n (found n.was (settled_stands disk_says old c n settled)) }

      unwritten_behind : (c : Chronicle) (up : Upstream) (b : IsBehind disk_says old c up) → IsEarlier (texts_of (with_beginning c)) up.texts → IsUnwritten b.is_node.was → IsBehind disk_says (with_link old link) c up
      unwritten_behind c up b e (inl still) = unpassed_behind disk_says old (with_link old link) c up b refl older scanned unwritten_where refl still.stands
      unwritten_behind c up b e (inr doubted) =
          opening_behind disk_says old (with_link old link) c up b refl older scanned unwritten_where refl text e
          (has_next disk_says old c b.is_node rows next next_is last made (doubted.1 (texts_next disk_says old c b.is_node rows next next_is last made))) doubted.0

      -- each image of its journal since has some of the changes upstream
      unwritten_moments : (c : Chronicle) (up : Upstream) (b : IsBehind disk_says old c up) → IsEarlier (texts_of (with_beginning c)) up.texts → IsUnwritten b.is_node.was
          → LeavesOnly disk_says (disk_of old.link.journal) (disk_of link.journal) (HasEither b.is_node.was (with_generation b.is_node.was text)) → LeavesOnly disk_says (disk_of old.link.journal) (disk_of link.journal) (HasSomeOf c up.texts (used_of old.archive))
      unwritten_moments c up b e (inl still) moments =
          let n = b.is_node in
          weaker disk_says (disk_of old.link.journal) (disk_of link.journal) (HasCommitted n.was) _
          (λ journal. some_doubted disk_says old c n up.texts (used_of old.archive) n.contents.ends journal nothing c refl n.has (all_earlier disk_says old c up b) n.contents.ends) still.any_moment
      unwritten_moments c up b e (inr doubted) moments =
          let n = b.is_node in
          weaker disk_says (disk_of old.link.journal) (disk_of link.journal) (HasEither n.was (with_generation n.was text)) _
          (passed_moment disk_says old (with_link old link) c up b refl text e (has_next disk_says old c n rows next next_is last made (doubted.1 (texts_next disk_says old c n rows next next_is last made)))) moments

      pub unwritten_goes : ((was : Committed) → Stands disk_says old.link.journal was nothing → LeavesOnly disk_says (disk_of old.link.journal) (disk_of link.journal) (HasEither was (with_generation was text)))
          → (c : Chronicle) (up : Upstream) → IsBehind disk_says old c up → IsEarlier (texts_of (with_beginning c)) up.texts
          → GoesOnBehind disk_says old (with_link old link) c up (λ texts. texts ≡ up.texts) (λ bytes. bytes ≡ up.bytes)
      unwritten_goes moments c up b e =
          let n = b.is_node in
          let stands = settled_stands disk_says old c n settled in
          record {
            later = up;
            grown = inl refl;
            more = front_itself up.bytes;
            texts_told = refl;
            bytes_told = refl;
            stays = record { now = c; no_fewer = earlier_self c; behind = unwritten_behind c up b e (found n.was stands); any_moment = unwritten_moments c up b e (found n.was stands) (moments n.was stands) };
          }

  -- ---- it was begun

  module _ (tables : Tables) (is : rows_of tables ≡ rows) (rest : List ℕ) (none : rest ≡ []) where
    abbrev pub begun : Node D
    begun = record old { link = link; tables = tables; before = old.before + old.at; at = 0; rest = rest; number = 1; changes = old.changes + 1 }

    pub begun_passed : generation_of_journal link.journal ≡ next → HasPassed old begun
    begun_passed generation = record {
      generation = generation ∙ next_is;
      rows = is ∙ made ∙ ap (λ (n : ℕ). changed_in (rows_of old.tables) (beginning n)) next_is;
      before = refl;
      at = refl;
      rest = none;
      number = refl;
      changes = refl;
    }

    module _ (generation : generation_of_journal link.journal ≡ next) (written : (was : Committed) → Stands disk_says old.link.journal was nothing → Stands disk_says link.journal (with_generation was text) nothing) where
      pub begun_can : CanFollow disk_says old → CanFollow disk_says begun
      begun_can can = record {
        was = with_generation settled.0 text;
        doubt = nothing;
        stands = written settled.0 settled.1;
        archive_end = can.archive_end;
        room = can.room;
        short = (let short = can.short in omega (arith, short, ap length none));
        numbered = omega arith;
        counted = (let counted = can.counted in omega (arith, counted, generation, next_is));
      }

      module _ (of : AreRecords (puts_of rows) → IsCheckpointOf next rows text)
          (closes : (was : Committed) (older : List (List (List ℕ))) → Stands disk_says old.link.journal was nothing → KeepsOlder disk_says old.link.journal older → KeepsOlder disk_says link.journal (older ++ was.groups ∷ [])) (scanned : KeepsScanned disk_says old.link link) where
        begun_has : (c : Chronicle) (n : IsNode disk_says old c) → HasAllRows (with_generation n.was text) (rows_made (with_beginning c))
        begun_has c n = has_next disk_says old c n rows next next_is last made (of (texts_next disk_says old c n rows next next_is last made))

        pub begun_fewer : (c : Chronicle) → IsNode disk_says old c → HasNoFewer disk_says begun c
        begun_fewer c n =
            let stands = settled_stands disk_says old c n settled in
            record {
              now = with_beginning c;
              no_fewer = earlier_begun c;
              is_node = passed_node disk_says old begun c n refl text (begun_passed generation) (written n.was stands) (closes n.was (map (group_texts 1) c.closed) stands n.keeps) scanned (begun_has c n);
            }

        pub begun_goes : ((was : Committed) → Stands disk_says old.link.journal was nothing → LeavesOnly disk_says (disk_of old.link.journal) (disk_of link.journal) (HasEither was (with_generation was text)))
            → (c : Chronicle) (up : Upstream) → IsBehind disk_says old c up → IsEarlier (texts_of (with_beginning c)) up.texts
            → GoesOnBehind disk_says old begun c up (λ texts. texts ≡ up.texts) (λ bytes. bytes ≡ up.bytes)
        begun_goes moments c up b e =
            let n = b.is_node in
            let stands = settled_stands disk_says old c n settled in
            record {
              later = up;
              grown = inl refl;
              more = front_itself up.bytes;
              texts_told = refl;
              bytes_told = refl;
              stays = record {
                now = with_beginning c;
                no_fewer = earlier_begun c;
                behind = passed_behind disk_says old begun c up b refl text e (begun_has c n) (begun_passed generation) (written n.was stands) (closes n.was (map (group_texts 1) c.closed) stands n.keeps) scanned;
                any_moment = weaker disk_says (disk_of old.link.journal) (disk_of link.journal) (HasEither n.was (with_generation n.was text)) _ (passed_moment disk_says old begun c up b refl text e (begun_has c n)) (moments n.was stands);
              };
            }
