-- The changes of a journal go on fitting when it grows.
use Rattle.std.proofs.Common.{◌≡◌, ◌∙◌, ℕ, suc, List, [], ◌∷◌, ◌++◌, append-nil, append_assoc, sym, ap, subst}
use Rattle.depot_rows.specs.db_records.declared.change.Change.{Change}
use Rattle.depot_rows.specs.table_changes.Changed.{AllFitIn, AllRows, changed_by}
use Rattle.recovery.specs.Holding.{joined}
use Rattle.recovery.proofs.Fits.{changed_joined, fits_joined, joined_append}
use Rattle.replica_pull.specs.Prefix.{FitFrom, begun, changes_from}

-- groups more of the last generation
pub fit_with : (g : ℕ) (rows : AllRows) (generations : List (List (List Change))) (groups more : List (List Change)) → FitFrom rows g (generations ++ groups ∷ [])
    → AllFitIn (changed_by rows (joined (changes_from g (generations ++ groups ∷ [])))) (joined more) → FitFrom rows g (generations ++ (groups ++ more) ∷ [])
fit_with g rows [] groups more fit last =
    let first = changed_by rows (joined (begun g)) in
    let made : changed_by rows (joined (changes_from g (groups ∷ []))) ≡ changed_by first (joined groups) =
    ap (λ (l : List (List Change)). changed_by rows (joined (begun g ++ l))) (append-nil groups)
    ∙ ap (changed_by rows) (joined_append (begun g) groups)
    ∙ changed_joined rows (joined (begun g)) (joined groups) in
    (subst (AllFitIn first) (sym (joined_append groups more)) (fits_joined first (joined groups) (joined more) fit.0 (subst (λ (r : AllRows). AllFitIn r (joined more)) made last)), tt)
fit_with g rows (x ∷ generations) groups more fit last =
    let others = changes_from (suc g) (generations ++ groups ∷ []) in
    let made : changed_by rows (joined (begun g ++ (x ++ others))) ≡ changed_by (changed_by rows (joined (begun g ++ x))) (joined others) =
    ap (λ (l : List (List Change)). changed_by rows (joined l)) (sym (append_assoc (begun g) x others))
    ∙ ap (changed_by rows) (joined_append (begun g ++ x) others)
    ∙ changed_joined rows (joined (begun g ++ x)) (joined others) in
    (fit.0, fit_with (suc g) (changed_by rows (joined (begun g ++ x))) generations groups more fit.1 (subst (λ (r : AllRows). AllFitIn r (joined more)) made last))

-- one generation more, without groups
pub fit_next : (g : ℕ) (rows : AllRows) (generations : List (List (List Change))) → FitFrom rows g generations → FitFrom rows g (generations ++ [] ∷ [])
fit_next g rows [] fit = (tt, tt)
fit_next g rows (x ∷ generations) fit = (fit.0, fit_next (suc g) (changed_by rows (joined (begun g ++ x))) generations fit.1)
