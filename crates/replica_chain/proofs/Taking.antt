-- Groups that a node takes one after another.
use Rattle.std.proofs.Common.{◌≡◌, ℕ, ◌+◌, ◌-◌, ◌*◌, ◌≤◌, List, [], ◌∷◌, ◌++◌, length, drop, Some, refl, sym, ◌∙◌, ap, subst, arith, append_assoc, length-append}
use Rattle.std.proofs.Math.Seq.{drop-append_seam}
use Rattle.std.proofs.lemmas.List.{append-nil}
use Rattle.depot_rows.specs.db_records.declared.change.Change.{Change}
use Rattle.depot_rows.specs.table_changes.Changed.{AllRows, AllFitIn, changed_by, rows_of}
use Rattle.journal_groups.specs.Groups.{IsGroup, group_text, groups_text, mark, open_byte}
use Rattle.journal_groups.specs.Reader.{State, HasTaken, IsLeft}
use Rattle.recovery.specs.Holding.{joined}
use Rattle.recovery.proofs.Fits.{changed_joined, fits_joined, joined_append}
use Rattle.replica_pull.proofs.Taking.{all_joined, groups_joined, many}
use Rattle.replica_chain.specs.Feed.{AreTaken}
use Rattle.replica_chain.specs.Pulling.{HasTakenGroup, HasTakenGroups, IsWhereItWas}
use Rattle.replica_chain.specs.declared.node.Node.{Node}

-- none
none_taken : (now : State) (rows : AllRows) → AreTaken now rows [] now rows
none_taken now rows = record { are_groups = tt; text = refl; number = omega arith; place = refl; fit = tt; rows = refl }

-- some, and others behind them
taken_on : (old mid new : State) (before between after : AllRows) (xs ys : List (List Change)) → AreTaken old before xs mid between → AreTaken mid between ys new after → AreTaken old before (xs ++ ys) new after
taken_on old mid new before between after xs ys first behind = record {
  are_groups = all_joined IsGroup xs ys first.are_groups behind.are_groups;
  text = first.text
      ∙ ap (λ (l : List ℕ). groups_text old.number xs ++ l) (behind.text ∙ ap (λ (n : ℕ). groups_text n ys ++ new.left) first.number)
      ∙ sym (append_assoc (groups_text old.number xs) (groups_text (old.number + length xs) ys) new.left)
      ∙ ap (λ (l : List ℕ). l ++ new.left) (sym (groups_joined old.number xs ys));
  number = omega (arith, first.number, behind.number, length-append xs ys);
  place = behind.place ∙ first.place;
  fit = subst (AllFitIn before) (sym (joined_append xs ys)) (fits_joined before (joined xs) (joined ys) first.fit (subst (λ (rows : AllRows). AllFitIn rows (joined ys)) first.rows behind.fit));
  rows = behind.rows ∙ ap (λ (rows : AllRows). changed_by rows (joined ys)) first.rows ∙ sym (changed_joined before (joined xs) (joined ys)) ∙ ap (changed_by before) (sym (joined_append xs ys));
}

-- one
one_taken : (old new : State) (before after : AllRows) (changes : List Change) → HasTaken old new (Some changes) → AllFitIn before changes → after ≡ changed_by before changes → AreTaken old before (changes ∷ []) new after
one_taken old new before after changes has fit made = record {
  are_groups = (has.0, tt);
  text = has.1
      ∙ ap (λ (l : List ℕ). mark open_byte ++ l) (ap (λ (l : List ℕ). l ++ new.left) (sym (append-nil (group_text old.number changes))))
      ∙ sym (append_assoc (mark open_byte) (group_text old.number changes ++ []) new.left);
  number = has.3;
  place = has.2;
  fit = subst (AllFitIn before) (sym (append-nil changes)) fit;
  rows = made ∙ ap (changed_by before) (sym (append-nil changes));
}

-- where a reader stands behind a group
pub behind_group : (old new : State) (changes : List Change) → HasTaken old new (Some changes) → new.at ≡ old.at + (5 + length (group_text old.number changes))
behind_group old new changes has = omega (arith, has.2, ap length has.1, length-append (group_text old.number changes) new.left)

module _ (old new : State) (before after : AllRows) (groups : List (List Change)) (taken : AreTaken old before groups new after) where
  -- the last bytes are those that are left
  pub last_left : drop (length old.left - length new.left) old.left ≡ new.left
  last_left =
      let front = groups_text old.number groups in
      let count : length old.left - length new.left ≡ length front = omega (arith, ap length taken.text, length-append front new.left) in
      ap (λ (n : ℕ). drop n old.left) count ∙ ap (drop (length front)) taken.text ∙ drop-append_seam front new.left

  -- each group has its mark
  pub many_taken : 5 * length groups + length new.left ≤ length old.left
  many_taken = omega (arith, many old.number groups, ap length taken.text, length-append (groups_text old.number groups) new.left)

module _ {D : Type 0} where
  -- a node that has taken none
  pub no_group : (node : Node D) (feed : State) → feed.at ≡ node.at → feed.number ≡ node.number → HasTakenGroups node node feed [] feed
  no_group node feed at number = record { generation = refl; before = refl; are = none_taken feed (rows_of node.tables); at = sym at; number = sym number; changes = omega arith }

  -- one more
  pub group_more : (old mid new : Node D) (feed left behind : State) (groups : List (List Change)) (changes : List Change) (end : ℕ) → HasTakenGroups old mid feed groups left → HasTaken left behind (Some changes)
      → HasTakenGroup mid new changes end → end ≡ behind.at → HasTakenGroups old new feed (groups ++ changes ∷ []) behind
  group_more old mid new feed left behind groups changes end first has taken end_is = record {
    generation = taken.generation ∙ first.generation;
    before = taken.before ∙ first.before;
    are = taken_on feed left behind (rows_of old.tables) (rows_of mid.tables) (rows_of new.tables) groups (changes ∷ []) first.are (one_taken left behind (rows_of mid.tables) (rows_of new.tables) changes has taken.fit taken.rows);
    at = taken.at ∙ end_is;
    number = (let one = taken.number in let so_far = first.number in omega (arith, one, so_far, has.3));
    changes = (let one = taken.changes in let so_far = first.changes in omega (arith, one, so_far, length-append groups (changes ∷ [])));
  }

  -- none more, of a node that is where it was
  pub groups_still : (old mid new : Node D) (feed left : State) (groups : List (List Change)) → HasTakenGroups old mid feed groups left → IsWhereItWas mid new → HasTakenGroups old new feed groups left
  groups_still old mid new feed left groups first where_is = record {
    generation = where_is.generation ∙ first.generation;
    before = where_is.before ∙ first.before;
    are = subst (AreTaken feed (rows_of old.tables) groups left) (sym where_is.rows) first.are;
    at = where_is.at ∙ first.at;
    number = where_is.number ∙ first.number;
    changes = where_is.changes ∙ first.changes;
  }

  -- of a reader that has the same left
  pub groups_left : (old new : Node D) (feed left later : State) (groups : List (List Change)) → HasTakenGroups old new feed groups left → IsLeft left later → HasTakenGroups old new feed groups later
  groups_left old new feed left later groups first same = record {
    generation = first.generation;
    before = first.before;
    are = record {
      are_groups = first.are.are_groups;
      text = first.are.text ∙ ap (λ (l : List ℕ). groups_text feed.number groups ++ l) (sym same.0);
      number = same.2 ∙ first.are.number;
      place = (let place = first.are.place in omega (arith, place, same.1, ap length same.0));
      fit = first.are.fit;
      rows = first.are.rows;
    };
    at = first.at ∙ sym same.1;
    number = first.number ∙ sym same.2;
    changes = first.changes;
  }
