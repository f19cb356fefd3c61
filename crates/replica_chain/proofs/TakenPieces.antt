-- A piece that a node takes behind its rest.
use Rattle.std.proofs.Common.{◌≡◌, ℕ, ◌+◌, ◌-◌, ◌<◌, ◌^◌, List, [], ◌++◌, length, drop, refl, sym, subst}
use Rattle.outside_api.specs.Link.{text_of}
use Rattle.outside_api.specs.Says.{DiskSays}
use Rattle.archive_file.specs.Archive.{Has}
use Rattle.depot_rows.specs.db_records.declared.change.Change.{Change}
use Rattle.depot_rows.specs.table_changes.Changed.{AllFitIn, rows_of}
use Rattle.journal_groups.specs.Causes.{GoesOn}
use Rattle.journal_groups.specs.Reader.{BeginsAt, State}
use Rattle.recovery.specs.Pieces.{AreAllGood}
use Rattle.replica_pull.specs.Prefix.{HasNoGroup}
use Rattle.replica_pull.proofs.Counted.{goes_no_group}
use Rattle.replica_chain.specs.Chronicle.{Chronicle}
use Rattle.replica_chain.specs.Masters.{GoesOnBehind, IsBehind, Upstream}
use Rattle.replica_chain.specs.Pulling.{HasTakenGroups, HasTakenPiece, IsCutShort, with_piece}
use Rattle.replica_chain.specs.declared.fault.NodeFault.{NodeFault}
use Rattle.replica_chain.specs.declared.fault.NodeFault.TheVariants.{Memory}
use Rattle.replica_chain.specs.declared.node.Node.{Node}
use Rattle.replica_chain.proofs.Pieces.{StandsLeft, feed_stands, left_stands, stands_still}
use Rattle.replica_chain.proofs.Rests.{from_rested, to_rested, with_rest}
use Rattle.replica_chain.proofs.Taking.{last_left, no_group}

module _ {D : Type 0} (old : Node D) (none : List ℕ) (piece : List ℕ) where
  -- groups were taken from the rest and the piece, by a node that has put its rest aside
  groups_taken : (new : Node D) (feed left : State) (groups : List (List Change)) → feed ≡ with_piece old piece → HasTakenGroups (with_rest old none) new feed groups left → HasTakenGroups old new (with_piece old piece) groups left
  groups_taken new feed left groups same taken =
      let t = subst (λ (s : State). HasTakenGroups (with_rest old none) new s groups left) same taken in
      record { generation = t.generation; before = t.before; are = t.are; at = t.at; number = t.number; changes = t.changes }

  pub piece_taken : (new : Node D) (feed left : State) (groups : List (List Change)) (count : ℕ) (rest : List ℕ) → feed ≡ with_piece old piece → HasTakenGroups (with_rest old none) new feed groups left → count ≡ length groups → rest ≡ left.left
      → GoesOn left.number left.left → AreAllGood (AllFitIn (rows_of new.tables)) (BeginsAt left.number left.at left.left) → HasTakenPiece old (with_rest new rest) piece count
  piece_taken new feed left groups count rest same taken count_is rest_is waits fit =
      let t = groups_taken new feed left groups same taken in
      record {
        groups = groups;
        left = left;
        taken = record { generation = t.generation; before = t.before; are = t.are; at = t.at; number = t.number; changes = t.changes };
        count_is = count_is;
        rest = rest_is;
        waits = waits;
        fit = fit;
      }

  -- what is left are the last bytes of both
  pub last_is : (new : Node D) (feed left : State) (groups : List (List Change)) → feed ≡ with_piece old piece → HasTakenGroups (with_rest old none) new feed groups left
      → drop (length (old.rest ++ piece) - length left.left) (old.rest ++ piece) ≡ left.left
  last_is new feed left groups same taken =
      let t = groups_taken new feed left groups same taken in
      last_left (with_piece old piece) left (rows_of old.tables) (rows_of new.tables) groups t.are

  pub left_short : (new : Node D) (feed left : State) (groups : List (List Change)) → feed ≡ with_piece old piece → HasTakenGroups (with_rest old none) new feed groups left → left.at + length left.left ≡ old.at + length (old.rest ++ piece)
  left_short new feed left groups same taken = let t = groups_taken new feed left groups same taken in t.are.place

  module _ (disk_says : DiskSays D) (told : List ℕ → Type 0) where
    -- it wasn't taken to its end
    pub piece_cut : (new : Node D) (feed : State) (fault : NodeFault) → feed ≡ with_piece old piece → IsCutShort disk_says told (with_rest old none) new feed fault → IsCutShort disk_says told old new (with_piece old piece) fault
    piece_cut new feed fault same cut = record { groups = cut.groups; left = cut.left; taken = groups_taken new feed cut.left cut.groups same cut.taken; why = cut.why }

    -- there was no memory for both
    pub piece_unread : IsCutShort disk_says told old (with_rest old none) (with_piece old piece) Memory
    piece_unread =
        let t = no_group old (with_piece old piece) refl refl in
        record {
          groups = [];
          left = with_piece old piece;
          taken = record { generation = t.generation; before = t.before; are = t.are; at = t.at; number = t.number; changes = t.changes };
          why = tt;
        }

    -- nor for the rest
    pub rest_unread : (new : Node D) (feed left : State) (groups : List (List Change)) → feed ≡ with_piece old piece → HasTakenGroups (with_rest old none) new feed groups left → IsCutShort disk_says told old new (with_piece old piece) Memory
    rest_unread new feed left groups same taken = record { groups = groups; left = left; taken = groups_taken new feed left groups same taken; why = tt }

    module _ (c : Chronicle) (up : Upstream) (b : IsBehind disk_says old c up) (has : Has (text_of up.texts (length c.closed)) (record { at = old.at + length old.rest; length = length piece }) piece) where
      -- both stand upstream
      pub both_stand : (feed : State) → feed ≡ with_piece old piece → StandsLeft (text_of up.texts (length c.closed)) feed
      both_stand feed same = subst (StandsLeft (text_of up.texts (length c.closed))) (sym same) (feed_stands (text_of up.texts (length c.closed)) old.rest piece old.at b.rest has)

      -- a node with the rest that is left goes on
      pub piece_goes : (new : Node D) (feed left : State) (groups : List (List Change)) (rest : List ℕ) (E : List ℕ → Type 0) → feed ≡ with_piece old piece → HasTakenGroups (with_rest old none) new feed groups left → rest ≡ left.left
          → GoesOn left.number left.left → left.number < 2 ^ 64 → GoesOnBehind disk_says (with_rest old none) new c up (λ texts. texts ≡ up.texts) E
          → GoesOnBehind disk_says old (with_rest new rest) c up (λ texts. texts ≡ up.texts) E
      piece_goes new feed left groups rest E same taken rest_is waits few step =
          let text = text_of up.texts (length c.closed) in
          let t = groups_taken new feed left groups same taken in
          let first = from_rested disk_says old new c up none (λ texts. texts ≡ up.texts) E step in
          let there : Has text (record { at = left.at; length = length left.left }) left.left = left_stands (with_rest old none) new feed left groups text taken (both_stand feed same) in
          let rest_there : Has text (record { at = new.at; length = length rest }) rest =
          subst (λ (at : ℕ). Has text (record { at = at; length = length rest }) rest) (sym t.at) (subst (λ (l : List ℕ). Has text (record { at = left.at; length = length l }) l) (sym rest_is) there) in
          let none_there : HasNoGroup new.number rest =
          subst (λ (n : ℕ). HasNoGroup n rest) (sym t.number) (subst (HasNoGroup left.number) (sym rest_is) (goes_no_group left.number left.left few waits)) in
          to_rested disk_says old new c up rest (λ texts. texts ≡ up.texts) E first (stands_still disk_says old new new c up E E b.is_node first t.generation new.at (length rest) rest rest_there) none_there
