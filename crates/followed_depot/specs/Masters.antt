-- From which depots that replicas follow it a depot in files began.
use Rattle.std.specs.Prelude.{List}
use Rattle.depot_rows.specs.depot_model.Deeds.{Deed}
use Rattle.replica_turns.specs.Master.{Past}
use Rattle.replica_turns.specs.depot_commit.Growing.{Chronicle}

-- by what had been done before, the depot, and the groups of its journal
abbrev pub Masters : Type 1
Masters = Past → List Deed → Chronicle → Type 0
