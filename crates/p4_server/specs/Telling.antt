-- What `out` gets of the end of a run.
use Rattle.std.specs.Prelude.{◌≡◌, ◌⊎◌, Bool, List, []}
use Rattle.outside_api.specs.Count.{HasRisen}
use Rattle.outside_api.specs.Says.{SinkSays}
use Rattle.outside_api.specs.Told.{extended}
use Rattle.depot_rows.specs.depot_model.declared.order.Place.{Place}
use Rattle.wire_text.specs.Giving.{GotFront}
use Rattle.end_lines.specs.Lines.{cause_line}
use Rattle.end_lines.specs.Telling.{OutGot}
use Rattle.end_lines.specs.declared.cause.Cause.TheVariants as causes
use Rattle.p4_server.specs.declared.ended.Ended.{Ended}
use Rattle.p4_server.specs.declared.ended.PartyEnd.{PartyEnd}
use Rattle.p4_server.specs.Ends.{ends_cause}
use Rattle.p4_server.specs.Lines.{run_lines}

-- nothing was run
pub record IsUnrun {D S K : Type 0} (ended : Ended D S K) : Type 0 where
  pub order_is : ended.order ≡ []
  pub parties_are : ended.parties ≡ []
  pub sources_are : ended.sources ≡ []

module _ {D S K : Type 0} (sink_says : SinkSays K) (old_out new_out : K) (ended : Ended D S K) where
  -- Nothing was run, and `out` got the line of the cause.
  pub record IsToldAlone : Type 0 where
    pub unrun : IsUnrun ended
    pub lines : OutGot (sink_says.given old_out) (sink_says.given new_out) (sink_says.faults old_out) (sink_says.faults new_out) (cause_line ended.cause)

  -- The cause is that of the places and of the parties' ends, and of whether a replica was answered that a disk failed, and `out` got all lines; or `out`
  -- failed, which is a fault, and got a front of them.
  pub record IsTold (lost : Bool) : Type 0 where
    pub is : ((ended.cause ≡ ends_cause ended.order ended.parties lost) × (sink_says.given new_out ≡ extended (sink_says.given old_out) (run_lines ended.order ended.parties ended.cause)))
        ⊎ ((ended.cause ≡ causes.Fault) × HasRisen (sink_says.faults old_out) (sink_says.faults new_out) × GotFront (sink_says.given old_out) (sink_says.given new_out) (run_lines ended.order ended.parties causes.Fault))

  -- these parties were run, and told
  pub record IsReport (order : List Place) (parties : List (PartyEnd K)) (sources : List S) (lost : Bool) : Type 0 where
    pub order_is : ended.order ≡ order
    pub parties_are : ended.parties ≡ parties
    pub sources_are : ended.sources ≡ sources
    pub told : IsTold lost

-- There was no memory to tell the parties, and their ends are lacking.
pub record IsUntold {D S K : Type 0} (ended : Ended D S K) : Type 0 where
  pub cause_is : ended.cause ≡ causes.Memory
  pub parties_are : ended.parties ≡ []
  pub sources_are : ended.sources ≡ []
