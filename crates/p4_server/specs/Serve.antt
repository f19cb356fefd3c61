-- What the mode `serve` promises.
use Rattle.std.specs.Prelude.{ℕ, List}
use Rattle.p4_server.specs.Headline.{Ordering}
use Rattle.p4_server.specs.Outside.{After, Before, Outside}
use Rattle.p4_server.specs.Runs.{RunsParties}

-- the order to which the threads come: nothing more is said of it
abbrev pub AnyOrder : Ordering
AnyOrder sessions replicas start order turn_counts runs = Unit {0}

module _ {D S K H : Type 0} (outside : Outside D S K H) (old_doors new_doors : H) (before : Before D K) (after : After D S K) (names : List (List ℕ)) where
  -- The parties are run, whatever order their threads come to.
  abbrev pub Serves : Type 0
  Serves = RunsParties outside old_doors new_doors before after AnyOrder names
