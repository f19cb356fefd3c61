-- What a replica's replies are by the depot that it follows (Server Administrator Guide, on filtered replicas, which answer from their own rows).
use Rattle.std.specs.Prelude.{◌≡◌, ◌≤◌, ◌<◌, ◌⊎◌, ◌++◌, ◌^◌, ℕ, Bool, true, false, IsTrue, List, [], ◌∷◌, length, reverse, take, Option, IfSome}
use Rattle.depot_rows.specs.depot_model.Cut.{cut}
use Rattle.depot_rows.specs.depot_model.Deeds.{Deed}
use Rattle.depot_rows.specs.depot_model.Places.{Placed}
use Rattle.depot_rows.specs.depot_model.Printed.{printed}
use Rattle.depot_rows.specs.depot_model.Rows.{disk_row, memory_row}
use Rattle.depot_rows.specs.depot_model.declared.filter.FilterRule.{FilterRule}
use Rattle.depot_rows.specs.depot_model.declared.request.Request.{Request}
use Rattle.depot_runs.specs.Replica.{position_row, replica_reply}
use Rattle.replica_pull.specs.Prefix.{HasFollowed, Moment, bytes_of}
use Rattle.replica_pull.specs.Replica.{IsNew}
use Rattle.replica_pull.specs.declared.replica.Replica.{Replica}
use Rattle.replica_replies.specs.Prints.{prints}
use Rattle.depot_commit.specs.Growing.{Chronicle}
use Rattle.session_loop.specs.Asking.{AreWellFormed}
use Rattle.session_loop.specs.Requests.{AreRequests}
use Rattle.session_loop.specs.declared.reading.ReplicaScript.{ReplicaScript}
use Rattle.replica_turns.specs.Going.{HasGotTexts}
use Rattle.replica_turns.specs.Master.{AllFit, IsJournalAfter, IsNth, Past, texts_in}
use Rattle.replica_turns.specs.Replying.{HasPulledOf, pulls}
use Rattle.replica_turns.specs.declared.party.ReplicaParty.{ReplicaParty}

-- ---- one reply

-- of a replica whose depot is the one after the first n changes, cut to the filter
abbrev pub IsCutReply : (ℕ → List Deed → Type 0) → List FilterRule → ℕ → Request → List ℕ → Type 0
IsCutReply IsNth rules n request text = (d : List Deed) × IsNth n d × (text ≡ printed (replica_reply (cut rules d) request) request.number)

-- the same, or a disk failed for a `print`, or no memory was left
abbrev pub IsReplyAt : (ℕ → List Deed → Type 0) → List FilterRule → ℕ → Request → List ℕ → Type 0
IsReplyAt IsNth rules n request text =
    IsCutReply IsNth rules n request text
    ⊎ ((IsTrue (prints request.command) × (text ≡ printed (disk_row ∷ []) request.number)) ⊎ (text ≡ printed (memory_row ∷ []) request.number))

-- What a `pull` does whose reply tells a position, over the journal as it is after the places: the replica took at least one byte of it, or it passed to the
-- next generation, or all of its generation was taken; or it stays as it was, but not where the changes before the run fit, one after another, and the journal
-- has fewer than 2 ^ 63 bytes.
pub record HasPulledAfter (past : Past) (start : List Deed) (places : List Placed) (old new : Replica) : Type 0 where
  pub journal : Chronicle
  pub is : IsJournalAfter past start places journal
  pub follows : (new ≡ old) ⊎ HasPulledOf (texts_in journal) old new
  pub moves : AllFit past.journal → bytes_of (texts_in journal) < 2 ^ 63 → HasPulledOf (texts_in journal) old new
  pub no_fewer : old.changes ≤ new.changes

-- Of `pull`: it tells where the replica is then; or a disk failed or no memory was left, and the replica stays as it was.
abbrev pub IsPosition : Past → List Deed → List Placed → Replica → Replica → Request → List ℕ → Type 0
IsPosition past start places old new request text =
    (HasPulledAfter past start places old new × (text ≡ printed (position_row new.generation new.changes ∷ []) request.number))
    ⊎ ((new ≡ old) × ((text ≡ printed (disk_row ∷ []) request.number) ⊎ (text ≡ printed (memory_row ∷ []) request.number)))

-- to a command
abbrev pub IsToldAs : Past → List Deed → List Placed → List FilterRule → Replica → Replica → Request → List ℕ → Bool → Type 0
IsToldAs past start places rules old new request text true = IsPosition past start places old new request text
IsToldAs past start places rules old new request text false = (new ≡ old) × IsReplyAt (IsNth past start places) rules old.changes request text

-- ---- replies one after another

-- To commands of a replica, one after another, each when so many of the places were taken as its count says, which is no less than that of the command before.
-- Each reply other than to `pull` is for the number of changes that the last `pull` told.
abbrev pub AreTold : Past → List Deed → List Placed → List FilterRule → ℕ → Replica → List ℕ → List Request → List (List ℕ) → Replica → Type 0
AreTold past start places rules before old [] [] [] new = new ≡ old
AreTold past start places rules before old (count ∷ counts) (request ∷ requests) (text ∷ texts) new =
    (next : Replica) × (before ≤ count) × (count ≤ length places) × IsToldAs past start (take count places) rules old next request text (pulls request.command)
    × AreTold past start places rules count next counts requests texts new
AreTold past start places rules before old _ _ _ new = ⊥

-- The party has answered the first commands of its script, as many as there are texts, with these replies, from a new replica on, when as many places were taken
-- as these counts say. It has pulled of journals that grew to the one with these groups.
pub record IsAlong (past : Past) (start : List Deed) (places : List Placed) (may_give : ℕ → Type 0) (party : ℕ) (script : ReplicaScript) (p : ReplicaParty) (c : Chronicle) (counts : List ℕ) (texts : List (List ℕ)) : Type 0 where
  pub formed : AreWellFormed script.session.commands
  pub answered : List Request
  pub asked : AreRequests may_give party 1 script.session.caller script.session.commands (answered ++ reverse p.left.items)
  pub moments : List Moment
  pub followed : HasFollowed script.filter (texts_in c) p.replica moments
  pub first : Replica
  pub is_new : IsNew script.filter first
  pub told : AreTold past start places script.filter 0 first counts answered texts p.replica

-- A replica's first commands were answered so, as many, when as many places were taken as these counts say, where they are told; and its sink got the replies.
pub record IsToldOutput (past : Past) (start : List Deed) (places : List Placed) (may_give : ℕ → Type 0) (party : ℕ) (script : ReplicaScript) (at_turns : Option (List ℕ)) (commands : ℕ) (failed : Bool) (before now : Option (List ℕ)) : Type 0 where
  pub replica : ReplicaParty
  pub journal : Chronicle
  pub texts : List (List ℕ)
  pub count : length texts ≡ commands
  pub counts : List ℕ
  pub counted : IfSome at_turns (λ told. counts ≡ told)
  pub along : IsAlong past start places may_give party script replica journal counts texts
  pub got : HasGotTexts failed texts before now
