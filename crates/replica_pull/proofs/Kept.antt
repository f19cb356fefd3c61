-- A replica has its master's rows cut to its filter.
use Rattle.std.proofs.Common.{◌≡◌, ℕ, ◌+◌, Bool, true, false, cond, List, [], ◌∷◌, None, refl, sym, subst}
use Rattle.std.specs.Prelude.{option_map}
use Rattle.depot_rows.specs.depot_model.declared.filter.FilterRule.{FilterRule}
use Rattle.depot_rows.specs.Cut.{is_left, cut_row}
use Rattle.recovery.specs.Holding.{joined}
use Rattle.depot_rows.specs.table_changes.Changed.{AllRows, changed_by, changed_in, no_rows, rows_of}
use Rattle.replica_pull.specs.Cut.{AreCut}
use Rattle.replica_pull.specs.Replica.{HasPassed, HasTakenPiece, IsNew, beginning}
use Rattle.replica_pull.specs.declared.replica.Replica.{Replica}
use Rattle.replica_pull.proofs.Cutting.{rows_after}

none_left : (rules : List FilterRule) (b : Bool) → None ≡ cond b (option_map (cut_row rules) None) None
none_left rules true = refl
none_left rules false = refl

pub begun : (rules : List FilterRule) (r : Replica) → IsNew rules r → AreCut rules no_rows (rows_of r.tables)
begun rules r new = subst (AreCut rules no_rows) (sym new.rows) (λ key. none_left rules (is_left rules key))

pub taken : (old new : Replica) (piece : List ℕ) (count : ℕ) (whole : AllRows) (has : HasTakenPiece old piece count new) → AreCut old.filter whole (rows_of old.tables) → AreCut new.filter (changed_by whole (joined has.groups)) (rows_of new.tables)
taken old new piece count whole has are =
    subst (λ (rules : List FilterRule). AreCut rules (changed_by whole (joined has.groups)) (rows_of new.tables)) (sym has.filter)
    (subst (AreCut old.filter (changed_by whole (joined has.groups))) (sym has.are.rows) (rows_after old.filter whole (rows_of old.tables) (joined has.groups) are))

pub passed : (old new : Replica) (whole : AllRows) → HasPassed old new → AreCut old.filter whole (rows_of old.tables) → AreCut new.filter (changed_in whole (beginning (old.generation + 1))) (rows_of new.tables)
passed old new whole has are =
    let next = beginning (old.generation + 1) in
    subst (λ (rules : List FilterRule). AreCut rules (changed_in whole next) (rows_of new.tables)) (sym has.filter)
    (subst (AreCut old.filter (changed_in whole next)) (sym has.rows) (rows_after old.filter whole (rows_of old.tables) (next ∷ []) are))
