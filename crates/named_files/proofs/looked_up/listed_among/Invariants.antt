use Rattle.std.proofs.Common.{◌≡◌, ℕ, Bool, List, [], length}
use Rattle.depot_rows.specs.table_changes.Changed.{rows_of}
use Rattle.depot_rows.specs.Rising.{Rise}
use Rattle.named_files.proofs.LookedUp.{known}
use Rattle.named_files.proofs.looked_up.listed_among.Given as goal

pub record IsLookedUp (has : List ℕ → Bool) (files found rest : List (List ℕ)) : Type 0 where
  pub rise : Rise found
  pub all_known : (q : List ℕ) → known has found rest q ≡ known has [] files q

abbrev pub invariant-loop-file : goal.invariant-loop-file
invariant-loop-file g l = IsLookedUp (g.L.FileList.lists l.list (rows_of l.tables)) l.fn.files l.found l.rest.items

abbrev pub decreases-loop-file : goal.decreases-loop-file
decreases-loop-file g l = length l.rest.items
