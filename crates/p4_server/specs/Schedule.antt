-- What the mode `schedule` promises.
use Rattle.std.specs.Prelude.{ℕ, List}
use Rattle.session_turns.specs.Drawn.{IsDrawn}
use Rattle.p4_server.specs.Runs.{RunsParties}
use Rattle.p4_server.specs.Outside.{After, Before, Outside}

module _ {D S K H : Type 0} (outside : Outside D S K H) (old_doors new_doors : H) (before : Before D K) (after : After D S K) (seed : ℕ) (names : List (List ℕ)) where
  -- The parties are run, and the order is that of the machine with the turns that the seed draws, where a party whose sink failed takes no further turn. Each
  -- command of a replica is answered over as many places as the order had at its turn.
  abbrev pub Schedules : Type 0
  Schedules = RunsParties outside old_doors new_doors before after (IsDrawn outside.may_give seed) names
