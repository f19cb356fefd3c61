-- What the parties of a run are given. This project's own choice.
use Rattle.std.specs.Prelude.{◌≡◌, ℕ, Bool, true, false, List, [], ◌∷◌, length, Option, Result, Ok, Err}
use Rattle.depot_model.specs.Deeds.{Deed}
use Rattle.depot_model.specs.Places.{Placed}
use Rattle.depot_model.specs.Printed.{printed}
use Rattle.depot_model.specs.Rows.{memory_row}
use Rattle.outside_api.specs.Says.{DiskSays}
use Rattle.outside_api.specs.Told.{extended}
use Rattle.replica_turns.specs.Going.{HasGotTexts, IsGoing}
use Rattle.replica_turns.specs.declared.party.ReplicaParty.{ReplicaParty}
use Rattle.session_loop.specs.declared.reading.ReplicaScript.{ReplicaScript}
use Rattle.session_loop.specs.declared.session.SessionRun.{SessionRun}
use Rattle.wire_text.specs.Giving.{GotFront}

-- ---- one reply

-- what is given of a reply: the reply, or, where there is none, that of a command that found no memory
abbrev pub text_of : {E : Type 0} → Result (List ℕ) E → ℕ → List ℕ
text_of (Ok text) number = text
text_of (Err error) number = printed (memory_row ∷ []) number

-- what a sink got of a reply: the whole, or, where it failed, a front that isn't the whole
abbrev pub Got : Bool → List ℕ → Option (List ℕ) → Option (List ℕ) → Type 0
Got false text before now = now ≡ extended before text
Got true text before now = GotFront before now text

-- ---- a replica

-- The sink has the replies of a replica to the commands that its run tells of, each over as many places as its count. So many of them tell that a disk failed.
pub record HasGiven {D : Type 0} (disk_says : DiskSays D) (since : ℕ) (start : List Deed) (places : List Placed) (may_give : ℕ → Type 0) (party : ℕ) (script : ReplicaScript) (p : ReplicaParty) (run : SessionRun) (counts : List ℕ) (lost : ℕ) (before now : Option (List ℕ)) : Type 0 where
  pub texts : List (List ℕ)
  pub count : length texts ≡ run.commands
  pub going : IsGoing disk_says since start places may_give party script p counts texts lost
  pub got : HasGotTexts run.failed texts before now
