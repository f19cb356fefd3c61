-- Groups that are taken one after another.
use Rattle.std.proofs.Common.{◌≡◌, inl, ℕ, suc, ◌+◌, ◌*◌, ◌<◌, ◌≤◌, List, [], ◌∷◌, ◌++◌, length, Some, sym, ◌∙◌, ap, subst, arith, append_assoc, length-append}
use Rattle.std.specs.List.{AllByRecursion}
use Rattle.std.proofs.lemmas.List.{append-nil}
use Rattle.depot_rows.specs.db_records.declared.change.Change.{Change}
use Rattle.depot_rows.specs.depot_model.declared.filter.FilterRule.{FilterRule}
use Rattle.depot_rows.specs.table_changes.Changed.{AllRows}
use Rattle.journal_groups.specs.Groups.{IsGroup, group_text, groups_text, mark, open_byte}
use Rattle.journal_groups.specs.Reader.{State, HasTaken}
use Rattle.recovery.specs.Holding.{joined}
use Rattle.recovery.proofs.Fits.{joined_append}
use Rattle.recovery.proofs.Stopped.{group_begins}
use Rattle.replica_pull.specs.Feed.{Fit, changed_cut, AreTaken, IsFirstMisfit, IsBadPlace}
use Rattle.replica_pull.proofs.Fitting.{changed_cut_joined, fit_joined}
use Rattle.replica_pull.proofs.Misfits.{misfit_record}

pub groups_joined : (n : ℕ) (xs ys : List (List Change)) → groups_text n (xs ++ ys) ≡ groups_text n xs ++ groups_text (n + length xs) ys
groups_joined n [] ys = let same : n ≡ n + 0 = omega arith in ap (λ (k : ℕ). groups_text k ys) same
groups_joined n (x ∷ xs) ys =
    let shift : suc n + length xs ≡ n + suc (length xs) = omega arith in
    let tail = groups_text (n + suc (length xs)) ys in
    ap (λ (l : List ℕ). mark open_byte ++ (group_text n x ++ l)) (groups_joined (suc n) xs ys ∙ ap (λ (k : ℕ). groups_text (suc n) xs ++ groups_text k ys) shift)
    ∙ ap (λ (l : List ℕ). mark open_byte ++ l) (sym (append_assoc (group_text n x) (groups_text (suc n) xs) tail))
    ∙ sym (append_assoc (mark open_byte) (group_text n x ++ groups_text (suc n) xs) tail)

pub all_joined : (P : List Change → Type 0) (xs ys : List (List Change)) → AllByRecursion P xs → AllByRecursion P ys → AllByRecursion P (xs ++ ys)
all_joined P [] ys are more = more
all_joined P (x ∷ xs) ys are more = (are.0, all_joined P xs ys are.1 more)

module _ (rules : List FilterRule) where
  -- some, and others behind them
  pub taken_on : (old mid new : State) (before between after : AllRows) (xs ys : List (List Change)) → AreTaken rules old before xs mid between → AreTaken rules mid between ys new after → AreTaken rules old before (xs ++ ys) new after
  taken_on old mid new before between after xs ys first behind = record {
    are_groups = all_joined IsGroup xs ys first.are_groups behind.are_groups;
    text = first.text
        ∙ ap (λ (l : List ℕ). groups_text old.number xs ++ l) (behind.text ∙ ap (λ (n : ℕ). groups_text n ys ++ new.left) first.number)
        ∙ sym (append_assoc (groups_text old.number xs) (groups_text (old.number + length xs) ys) new.left)
        ∙ ap (λ (l : List ℕ). l ++ new.left) (sym (groups_joined old.number xs ys));
    number = omega (arith, first.number, behind.number, length-append xs ys);
    place = behind.place ∙ first.place;
    fit = subst (Fit rules before) (sym (joined_append xs ys)) (fit_joined rules before (joined xs) (joined ys) first.fit (subst (λ (rows : AllRows). Fit rules rows (joined ys)) first.rows behind.fit));
    rows = behind.rows ∙ ap (λ (rows : AllRows). changed_cut rules rows (joined ys)) first.rows ∙ sym (changed_cut_joined rules before (joined xs) (joined ys)) ∙ ap (changed_cut rules before) (sym (joined_append xs ys));
  }

  -- one
  pub one_taken : (old new : State) (before after : AllRows) (changes : List Change) → HasTaken old new (Some changes) → Fit rules before changes → after ≡ changed_cut rules before changes → AreTaken rules old before (changes ∷ []) new after
  one_taken old new before after changes has fit made = record {
    are_groups = (has.0, tt);
    text = has.1
        ∙ ap (λ (l : List ℕ). mark open_byte ++ l) (ap (λ (l : List ℕ). l ++ new.left) (sym (append-nil (group_text old.number changes))))
        ∙ sym (append_assoc (mark open_byte) (group_text old.number changes ++ []) new.left);
    number = has.3;
    place = has.2;
    fit = subst (Fit rules before) (sym (append-nil changes)) fit;
    rows = made ∙ ap (changed_cut rules before) (sym (append-nil changes));
  }

-- a group has a byte
pub goes_down : (old new : State) (changes : List Change) → HasTaken old new (Some changes) → length new.left < length old.left
goes_down old new changes has = omega (arith, ap length has.1, length-append (group_text old.number changes) new.left)

-- a change of a group that doesn't fit
pub group_misfit : (good : List Change → Type 0) (old new : State) (changes : List Change) (place : ℕ) → HasTaken old new (Some changes) → IsFirstMisfit good changes new.reached place → IsBadPlace good old place
group_misfit good old new changes place has bad =
    let end : new.reached ≡ old.at + (5 + length (group_text old.number changes)) =
    has.4 ∙ omega (arith, has.2, ap length has.1, length-append (group_text old.number changes) new.left) in
    inl (misfit_record good old.number old.at old.left changes new.reached place (group_begins old.number old.at new.reached old.left new.left changes has.0 has.1 end) bad)

-- a group has more bytes than its mark
pub many : (n : ℕ) (done : List (List Change)) → 5 * length done ≤ length (groups_text n done)
many n [] = omega arith
many n (d ∷ done) = omega (arith, many (suc n) done, length-append (group_text n d) (groups_text (suc n) done))
