-- The groups of a depot's journal, generation by generation.
use Rattle.std.specs.Prelude.{List, [], ◌∷◌, ◌++◌}
use Rattle.depot_rows.specs.db_records.declared.change.Change.{Change}

-- the groups of the generations that are closed, from 0 on, and those of the newest
pub record Chronicle : Type 0 where
  pub closed : List (List (List Change))
  pub newest : List (List Change)

abbrev pub generations_of : Chronicle → List (List (List Change))
generations_of c = c.closed ++ c.newest ∷ []
