-- A replica's answer, and the turn that it is.
use Rattle.std.proofs.Common.{◌≡◌, ◌∙◌, ℕ, Bool, false, List, [], ◌∷◌, ◌++◌, Result, Ok, Err, Vec, Global, inl, inr, refl, sym, ap, subst}
use Rattle.std.specs.Prelude.{IfOk, OnErr}
use Rattle.depot_rows.specs.depot_model.Deeds.{Deed}
use Rattle.depot_rows.specs.depot_model.declared.request.Request.{Request}
use Rattle.locked_tables.specs.Known.{PartyKnown}
use Rattle.outside_api.specs.Disk.{Files}
use Rattle.outside_api.specs.Says.{DiskSays}
use Rattle.party_marks.specs.Known.{PassKnown}
use Rattle.replica_turns.specs.Going.{is_lost, reply_text}
use Rattle.replica_turns.specs.Replying.{IsAnswered, IsAnsweredBy}
use Rattle.replica_turns.specs.declared.party.Answered.{Answered}
use Rattle.replica_turns.specs.declared.party.ReplicaParty.{ReplicaParty}
use Rattle.depot_commit.specs.command_core.Outcomes.{IsFormedBy}
use Rattle.serial_depot.specs.declared.depot.SerialDepot.{SerialDepot}
use Rattle.shared_depot.specs.Common.{Masters}
use Rattle.shared_depot.specs.Replicas.{IsAnsweredAlone, IsReplicaAnswer, IsReplicaTurn}

module _ {D : Type 0} (disk_says : DiskSays D) (depot : SerialDepot D) (old new : ReplicaParty) (request : Request) where
  abbrev Been : SerialDepot D → Type 0
  Been been = been ≡ depot

  abbrev AnsweredSo : List ℕ → Bool → Type 0
  AnsweredSo text lost = IsAnswered Been disk_says old.replica new.replica request text lost

  abbrev AnsweredBy : {E : Type 0} → Result Answered E → Type 0
  AnsweredBy answer = AnsweredSo (reply_text answer request.number) (is_lost answer)

  -- a command was answered
  pub answered_so : {E : Type 0} (answer : Result Answered E) → IfOk answer (λ answered. IsAnsweredBy Been disk_says old.replica new.replica request answered.text answered.lost) → OnErr answer (new.replica ≡ old.replica) → AnsweredBy answer
  answered_so (Ok answered) is kept = inl is
  answered_so (Err error) is kept = inr (record { same = kept; reply = refl; kept = refl })

-- the next command of a replica was taken off its list and answered
module _ (before mid after : ReplicaParty) (request : Request) (taken : before.left.items ≡ mid.left.items ++ request ∷ []) (left : after.left ≡ mid.left) where
  left_so : before.left.items ≡ after.left.items ++ request ∷ []
  left_so = taken ∙ ap (λ (rest : Vec Request Global). rest.items ++ request ∷ []) (sym left)

  module _ {D E : Type 0} (disk_says : DiskSays D) (end : ℕ) (images : Files → Type 0) (begins : ℕ → List Deed → Type 0) (masters : Masters) (old new : PartyKnown) (old_marks new_marks : PassKnown)
      (same : mid.replica ≡ before.replica) where
    pub turn_so : (result : Result Answered E) → IsReplicaAnswer disk_says end images begins masters old new old_marks new_marks request mid after result
        → IsReplicaTurn disk_says end images begins masters old new old_marks new_marks before after result
    turn_so result is = record {
      turned = λ archive all.
          let over = is.answered archive all in
          let answered = λ (formed : IsFormedBy request). subst (λ first. IsAnswered (λ been. been ≡ over.0) disk_says first after.replica request (reply_text result request.number) (is_lost result)) same (over.1.2 formed) in
          (over.0, (over.1.0, over.1.1, record { request = request; left = left_so; answered = answered }, over.1.3));
      heard = is.heard;
    }

-- an answer from a replica's own rows tells of no failed disk
pub never_lost : {E : Type 0} (answer : Result Answered E) → IfOk answer (λ answered. answered.lost ≡ false) → is_lost answer ≡ false
never_lost (Ok answered) is = is
never_lost (Err error) is = refl

-- a replica that stays is as it was
pub kept_so : {A T E : Type 0} (answer : Result T E) (replica : A) → OnErr answer (replica ≡ replica)
kept_so (Ok answered) replica = tt
kept_so (Err error) replica = refl

-- no memory was left, and no disk was asked
pub without_memory : {D E : Type 0} (disk_says : DiskSays D) (request : Request) (replica : ReplicaParty) (error : E) → IsAnsweredAlone disk_says request replica (Err error)
without_memory disk_says request replica error = record { answered = λ depot formed. inr (record { same = refl; reply = refl; kept = refl }); kept = refl }
