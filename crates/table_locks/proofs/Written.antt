-- Held tables that were written through a slice of their list.
use Rattle.std.proofs.Common.{◌≡◌, ℕ, suc, List, [], ◌∷◌, ◌++◌, length, take, drop, refl, ap, ◌∙◌, append-nil, arith}
use Rattle.std.proofs.lemmas.List.{drop_all, take_all}
use Rattle.depot_model.specs.db_records.declared.change.Change.{Change}
use Rattle.locked_tables.specs.Held.{AllHaveLearnt}
use Rattle.locked_tables.specs.declared.held_table.HeldTable.{HeldTable}
use Rattle.locked_tables.specs.declared.taken.Taken.{Taken}
use Rattle.table_changes.specs.Changed.{AllRows}
use Rattle.table_locks.specs.Prepared.{AllFollow}

-- as many as there were stand in their place
pub rewritten : {X : Type 0} (n : ℕ) (olds news : List X) → n ≡ length olds → length news ≡ length olds → take n (news ++ drop (length news) olds) ≡ news
rewritten n olds news full same =
    ap (λ rest. take n (news ++ rest)) (drop_all (length news) olds (omega arith)) ∙ (ap (take n) (append-nil news) ∙ take_all n news (omega arith))

module _ {N : Type 0} where
  pub length_learnt : (order : List Taken) (olds news : List (HeldTable N)) → AllHaveLearnt order olds news → length news ≡ length olds
  length_learnt order [] [] learnt = refl
  length_learnt order [] (n ∷ news) learnt = absurd learnt
  length_learnt order (o ∷ olds) [] learnt = absurd learnt
  length_learnt order (o ∷ olds) (n ∷ news) learnt = ap suc (length_learnt order olds news learnt.1)

  pub length_follow : (after : AllRows) (changes : List Change) (olds news : List (HeldTable N)) → AllFollow after changes olds news → length news ≡ length olds
  length_follow after changes [] [] follow = refl
  length_follow after changes [] (n ∷ news) follow = absurd follow
  length_follow after changes (o ∷ olds) [] follow = absurd follow
  length_follow after changes (o ∷ olds) (n ∷ news) follow = ap suc (length_follow after changes olds news follow.1)
