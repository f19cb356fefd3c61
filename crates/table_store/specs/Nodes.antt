-- Nodes of a tree, pages or branches of them, each seen as its rows.
use Rattle.std.specs.Prelude.{◌≡◌, ℕ, ◌+◌, ◌-◌, ◌<◌, ◌≤◌, List, [], ◌∷◌, ◌++◌, length, take, drop, slice_index_or}
use Rattle.db_records.specs.declared.record.Record.{Record}
use Rattle.db_records.specs.declared.change.Op.{Op}
use Rattle.table_store.specs.Places.{Place, AllStandBelow, AllStandAbove, StandsRising, placed_once}

-- the rows of the nodes, one node after another
abbrev pub rows_of : List (List Record) → List Record
rows_of [] = []
rows_of (node ∷ nodes) = node ++ rows_of nodes

-- each node has rows
abbrev pub AllFilled : List (List Record) → Type 0
AllFilled [] = Unit {0}
AllFilled (node ∷ nodes) = (0 < length node) × AllFilled nodes

pub record AreNodes (place : Record → Place) (nodes : List (List Record)) : Type 0 where
  pub filled : AllFilled nodes
  pub rising : StandsRising place (rows_of nodes)

-- all rows before the node at n - 1 are below the place, and all from the node at n on are above it
pub record IsNodeCount (place : Record → Place) (at : Place) (nodes : List (List Record)) (n : ℕ) : Type 0 where
  pub in_range : n ≤ length nodes
  pub below : AllStandBelow place at (rows_of (take (n - 1) nodes))
  pub above : AllStandAbove place at (rows_of (drop n nodes))

-- rows stand in the place of those of the node at place i
pub record ReplacesNode (old : List (List Record)) (i : ℕ) (rows : List Record) (new : List (List Record)) : Type 0 where
  pub same_rows : rows_of new ≡ rows_of (take i old) ++ (rows ++ rows_of (drop (i + 1) old))
  pub filled : AllFilled old → AllFilled new

-- the node at place i has its rows after a change
pub record ChangesNode (place : Record → Place) (old : List (List Record)) (i : ℕ) (op : Op) (row : Record) (new : List (List Record)) : Type 0 where
  pub replaces : (d : List Record) → ReplacesNode old i (placed_once place (slice_index_or old i d) op row) new
