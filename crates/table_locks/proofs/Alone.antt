-- A set that is held whole.
use Rattle.std.proofs.Common.{◌≡◌, Bool, true, false, cond, not, List, [], ◌∷◌, map, refl, ap, ◌∙◌}
use Rattle.std.specs.Prelude.{◌&&◌, ◌||◌, filter}
use Rattle.command_needs.specs.Sets.{has_table}
use Rattle.command_needs.specs.declared.needs.Needs.{Needs}
use Rattle.depot_model.specs.db_records.Table.{all_tables}
use Rattle.locked_tables.specs.Known.{TableKnown}
use Rattle.table_locks.specs.Gathered.{tables_seen}
use Rattle.table_locks.specs.Ways.{looks_at}
use Rattle.table_locks.specs.declared.gathered.Gathered.{Gathered}

all_taken : (a b : Bool) → ((a || b) && not (b || (true && a))) ≡ false
all_taken true true = refl
all_taken true false = refl
all_taken false true = refl
all_taken false false = refl

-- where none passes a test, none is left
none_passes : {X : Type 0} (p : X → Bool) → ((x : X) → p x ≡ false) → (xs : List X) → filter p xs ≡ []
none_passes p none [] = refl
none_passes p none (x ∷ xs) = ap (λ (b : Bool). cond b (x ∷ filter p xs) (filter p xs)) (none x) ∙ none_passes p none xs

none_mapped : {X Y : Type 0} (f : X → Y) (xs : List X) → map f xs ≡ [] → xs ≡ []
none_mapped f [] e = refl
none_mapped f (x ∷ xs) e = cc

module _ {N : Type 0} where
  -- no table is only looked at
  pub none_seen : (g : Gathered N) (whole : Bool) (needs : Needs) → tables_seen g ≡ filter (looks_at whole needs) all_tables → whole ≡ true → g.peeks.items ≡ []
  none_seen g whole needs seen is =
      none_mapped (λ (known : TableKnown). known.table) g.peeks.items
      (seen ∙ none_passes (looks_at whole needs) (λ table. ap (λ (w : Bool). looks_at w needs table) is ∙ all_taken (has_table needs.reads table) (has_table needs.writes table)) all_tables)
