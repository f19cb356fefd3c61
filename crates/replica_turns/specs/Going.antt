-- How far a replica among the parties of a run is. This project's own choice.
use Rattle.std.specs.Prelude.{◌≡◌, ◌≤◌, ◌+◌, ℕ, Bool, true, false, List, [], ◌∷◌, ◌++◌, reverse, length, take, Option, IfSome, Result, Ok, Err, if◌then◌else◌}
use Rattle.std.specs.List.{flat_map}
use Rattle.outside_api.specs.Says.{DiskSays}
use Rattle.outside_api.specs.Told.{extended}
use Rattle.depot_rows.specs.depot_model.Deeds.{Deed}
use Rattle.depot_rows.specs.depot_model.Places.{Placed}
use Rattle.depot_rows.specs.depot_model.Printed.{printed}
use Rattle.depot_rows.specs.depot_model.Rows.{memory_row}
use Rattle.depot_rows.specs.depot_model.declared.request.Request.{Request}
use Rattle.replica_pull.specs.Replica.{IsNew}
use Rattle.replica_pull.specs.declared.replica.Replica.{Replica}
use Rattle.depot_commit.specs.command_core.Outcomes.{IsFormedBy}
use Rattle.session_loop.specs.Asking.{AreWellFormed}
use Rattle.session_loop.specs.Requests.{AreRequests}
use Rattle.session_loop.specs.declared.reading.ReplicaScript.{ReplicaScript}
use Rattle.serial_depot.specs.Running.{HasRun}
use Rattle.serial_depot.specs.declared.depot.SerialDepot.{SerialDepot}
use Rattle.wire_text.specs.Giving.{IsProperFront}
use Rattle.replica_turns.specs.Replying.{IsAnswered}
use Rattle.replica_turns.specs.declared.party.Answered.{Answered}
use Rattle.replica_turns.specs.declared.party.ReplicaParty.{ReplicaParty}

-- ---- commands one after another

-- what a reply adds to the number of those that tell that a disk failed
abbrev pub one_if : Bool → ℕ
one_if lost = if lost then 1 else 0

-- a depot has run the first of these places, so many
abbrev pub HasRunFirst : {D : Type 0} → DiskSays D → ℕ → List Deed → List Placed → ℕ → SerialDepot D → Type 0
HasRunFirst disk_says since start places count depot = HasRun disk_says depot since start (take count places)

-- These commands were answered with these texts, one after another, each over a depot that had run the first of these places, as many as its count, which is no
-- less than that of the command before; and so many of the texts tell that a disk failed.
abbrev pub AreAnswered : {D : Type 0} → DiskSays D → ℕ → List Deed → List Placed → ℕ → Replica → Replica → List ℕ → List Request → List (List ℕ) → ℕ → Type 0
AreAnswered disk_says since start places before old new [] [] [] lost = (new ≡ old) × (lost ≡ 0)
AreAnswered disk_says since start places before old new (count ∷ counts) (request ∷ requests) (text ∷ texts) lost =
    (next : Replica) × (first : Bool) × (later : ℕ) × (before ≤ count) × (count ≤ length places) × (lost ≡ one_if first + later)
    × IsAnswered (HasRunFirst disk_says since start places count) disk_says old next request text first × AreAnswered disk_says since start places count next new counts requests texts later
AreAnswered disk_says since start places before old new _ _ _ lost = ⊥

-- The party has answered the first commands of its script, as many as there are texts, with these printed replies, from a new replica with the script's
-- filter on, over depots that had run more and more of these places, as many as these counts; the others are left, the next one last. So many of the
-- replies tell that a disk failed.
pub record IsGoing {D : Type 0} (disk_says : DiskSays D) (since : ℕ) (start : List Deed) (places : List Placed) (may_give : ℕ → Type 0) (party : ℕ) (script : ReplicaScript) (p : ReplicaParty) (counts : List ℕ) (texts : List (List ℕ)) (lost : ℕ) : Type 0 where
  pub formed : AreWellFormed script.session.commands
  pub answered : List Request
  pub asked : AreRequests may_give party 1 script.session.caller script.session.commands (answered ++ reverse p.left.items)
  pub first : Replica
  pub is_new : IsNew script.filter first
  pub are : AreAnswered disk_says since start places 0 first p.replica counts answered texts lost

-- a party that has answered nothing yet
pub record IsFresh (may_give : ℕ → Type 0) (party : ℕ) (script : ReplicaScript) (p : ReplicaParty) : Type 0 where
  pub asked : AreRequests may_give party 1 script.session.caller script.session.commands (reverse p.left.items)
  pub is_new : IsNew script.filter p.replica

-- ---- a turn

-- the printed reply that a turn gives; the caller gives that of a command without memory
abbrev pub reply_text : {E : Type 0} → Result Answered E → ℕ → List ℕ
reply_text (Ok answered) number = answered.text
reply_text (Err error) number = printed (memory_row ∷ []) number

abbrev pub is_lost : {E : Type 0} → Result Answered E → Bool
is_lost (Ok answered) = answered.lost
is_lost (Err error) = false

-- One turn over a depot: the next command was answered.
pub record IsTurned {D E : Type 0} (disk_says : DiskSays D) (depot : SerialDepot D) (old new : ReplicaParty) (result : Result Answered E) : Type 0 where
  pub request : Request
  pub left : old.left.items ≡ new.left.items ++ request ∷ []
  pub answered : IsFormedBy request → IsAnswered (λ been. been ≡ depot) disk_says old.replica new.replica request (reply_text result request.number) (is_lost result)

-- ---- the sink

abbrev pub all_of : List (List ℕ) → List ℕ
all_of texts = flat_map (λ (text : List ℕ). text) texts

-- The sink got all texts; or, where it failed, all before the last, and a front of the last that isn't the whole.
abbrev pub HasGotTexts : Bool → List (List ℕ) → Option (List ℕ) → Option (List ℕ) → Type 0
HasGotTexts false texts before now = now ≡ extended before (all_of texts)
HasGotTexts true texts before now =
    (given : List (List ℕ)) × (last : List ℕ) × (texts ≡ given ++ last ∷ []) × (front : List ℕ) × IsProperFront front last × (now ≡ extended before (all_of given ++ front))

-- A replica's first commands were answered so, as many, over as many places as these counts, where they are told; and its sink got the replies, so many of which
-- tell that a disk failed.
pub record IsReplicaOutput {D : Type 0} (disk_says : DiskSays D) (since : ℕ) (start : List Deed) (places : List Placed) (may_give : ℕ → Type 0) (party : ℕ) (script : ReplicaScript) (at_turns : Option (List ℕ)) (commands : ℕ) (failed : Bool) (lost : ℕ) (before now : Option (List ℕ)) : Type 0 where
  pub replica : ReplicaParty
  pub texts : List (List ℕ)
  pub count : length texts ≡ commands
  pub counts : List ℕ
  pub counted : IfSome at_turns (λ told. counts ≡ told)
  pub going : IsGoing disk_says since start places may_give party script replica counts texts lost
  pub got : HasGotTexts failed texts before now
