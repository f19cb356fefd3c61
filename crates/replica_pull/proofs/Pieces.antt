-- What is left of a rest and a piece.
use Rattle.std.proofs.Common.{◌≡◌, ℕ, ◌+◌, ◌-◌, ◌*◌, ◌≤◌, List, ◌++◌, length, drop, sym, subst, ◌∙◌, ap, arith, length-append}
use Rattle.std.proofs.Math.Seq.{drop-append_seam}
use Rattle.depot_rows.specs.db_records.declared.change.Change.{Change}
use Rattle.depot_rows.specs.depot_model.declared.filter.FilterRule.{FilterRule}
use Rattle.depot_rows.specs.table_changes.Changed.{AllRows}
use Rattle.journal_groups.specs.Groups.{groups_text}
use Rattle.journal_groups.specs.Causes.{GoesOn}
use Rattle.journal_groups.specs.Reader.{State, BeginsAt}
use Rattle.recovery.specs.Pieces.{AreAllGood}
use Rattle.replica_pull.specs.Feed.{AreTaken, Fit}
use Rattle.replica_pull.specs.Replica.{Waits}
use Rattle.replica_pull.proofs.Taking.{many}

module _ (rules : List FilterRule) (old new : State) (before after : AllRows) (groups : List (List Change)) (taken : AreTaken rules old before groups new after) where
  -- the last bytes are those that are left
  pub last_left : drop (length old.left - length new.left) old.left ≡ new.left
  last_left =
      let front = groups_text old.number groups in
      let count : length old.left - length new.left ≡ length front = omega (arith, ap length taken.text, length-append front new.left) in
      ap (λ (n : ℕ). drop n old.left) count ∙ ap (drop (length front)) taken.text ∙ drop-append_seam front new.left

  -- each group has its mark
  pub many_taken : 5 * length groups + length new.left ≤ length old.left
  many_taken = omega (arith, many old.number groups, ap length taken.text, length-append (groups_text old.number groups) new.left)

module _ (rules : List FilterRule) (now later : State) (left : now.left ≡ later.left) (number : now.number ≡ later.number) (at : now.at ≡ later.at) where
  -- the same, said of what is kept
  pub rest_taken : (old : State) (before after : AllRows) (groups : List (List Change)) → AreTaken rules old before groups now after → AreTaken rules old before groups later after
  rest_taken old before after groups taken = record {
    are_groups = taken.are_groups;
    text = taken.text ∙ ap (λ (l : List ℕ). groups_text old.number groups ++ l) left;
    number = sym number ∙ taken.number;
    place = omega (arith, at, ap length left, taken.place);
    fit = taken.fit;
    rows = taken.rows;
  }

  pub rest_waits : (rows : AllRows) → Waits rules rows now → Waits rules rows later
  rest_waits rows waits = (
    subst (λ (n : ℕ). GoesOn n later.left) number (subst (GoesOn now.number) left waits.0),
    subst (λ (n : ℕ). AreAllGood (Fit rules rows) (BeginsAt n later.at later.left)) number (subst (λ (n : ℕ). AreAllGood (Fit rules rows) (BeginsAt now.number n later.left)) at (subst (λ (l : List ℕ). AreAllGood (Fit rules rows) (BeginsAt now.number now.at l)) left waits.1)),
  )
