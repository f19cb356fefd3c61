-- The answers to commands, case by case.
use Rattle.std.proofs.Common.{◌≡◌, ◌++◌, ◌∷◌, [], ℕ, List, Bool, true, false, Result, Ok, Err, inl, inr, refl, sym, ap, subst, ◌∙◌}
use Rattle.std.proofs.lemmas.Bool.{true≢false}
use Rattle.std.specs.Prelude.{IfOk, OnErr}
use Rattle.outside_api.specs.Says.{DiskSays}
use Rattle.archive_file.specs.Contents.{IsTold}
use Rattle.depot_commit.specs.command_core.Outcomes.{IsFormedBy}
use Rattle.depot_rows.specs.depot_model.Deeds.{Deed}
use Rattle.depot_rows.specs.depot_model.Printed.{printed}
use Rattle.depot_rows.specs.depot_model.Refusals.{refusal_row}
use Rattle.depot_rows.specs.depot_model.declared.refusal.Refusal.TheVariants.{BadArchive}
use Rattle.depot_rows.specs.depot_model.declared.reply.Row.{Row}
use Rattle.depot_rows.specs.depot_model.declared.command.Command.{Command}
use Rattle.depot_rows.specs.depot_model.declared.command.Command.TheVariants.{Print}
use Rattle.depot_rows.specs.depot_model.declared.request.Request.{Request}
use Rattle.depot_rows.specs.depot_model.declared.request.WordFault.{WordFault}
use Rattle.depot_rows.specs.Standing.{Stand}
use Rattle.depot_runs.specs.Replica.{replica_reply}
use Rattle.recovery.specs.Standing.{HasContents}
use Rattle.replica_answers.specs.Printing.{AreDigested, AreGiven, AreRowsOf, EndsBehind, IsBadPrint, IsLacking}
use Rattle.replica_pull.specs.declared.replica.Replica.{Replica}
use Rattle.replica_replies.specs.Prints.{prints}
use Rattle.serial_depot.specs.declared.depot.SerialDepot.{SerialDepot}
use Rattle.depot_rows.specs.table_changes.Changed.{rows_of}
use Rattle.replica_turns.specs.Going.{IsTurned}
use Rattle.replica_turns.specs.Replying.{IsAnsweredAs, IsAnsweredBy, IsPullAnswer, IsReply, pulls}
use Rattle.replica_turns.specs.declared.party.Answered.{Answered}
use Rattle.replica_turns.specs.declared.party.ReplicaParty.{ReplicaParty}

module _ {D : Type 0} (depot : SerialDepot D) (disk_says : DiskSays D) (replica : Replica) (request : Request) where
  abbrev Replies : List ℕ → Bool → Type 0
  Replies text lost = IsReply (λ been. been ≡ depot) disk_says replica request text lost

  -- with contents
  pub of_print : prints request.command ≡ true → (rows : List Row) (text : List ℕ) → text ≡ printed rows request.number → ((d : List Deed) → Stand (rows_of replica.tables) d → AreRowsOf d request rows)
      → AreDigested (rows_of replica.tables) rows → ((bytes : List ℕ) → IsTold disk_says depot.archive bytes → AreGiven (rows_of replica.tables) bytes rows)
      → ((d : List Deed) (bytes : List ℕ) → Stand (rows_of replica.tables) d → IsTold disk_says depot.archive bytes → HasContents bytes (rows_of replica.tables) d → rows ≡ replica_reply d request)
      → Replies text false
  of_print prints_it rows text is are digested given told = inl (record {
    depot = depot;
    been = refl;
    reply = λ d stand has. let there = has prints_it in is ∙ ap (λ (l : List Row). printed l request.number) (told d there.0 stand there.1 there.2);
    digested = λ _. record { rows = rows; is = is; are = are; digested = digested; given = given };
  })

  -- without one of the contents
  pub of_bad : {E : Type 0} → prints request.command ≡ true → (at : ℕ) → ((bytes : List ℕ) → IsTold disk_says depot.archive bytes → IsBadPrint (rows_of replica.tables) request bytes at)
      → (result : Result Answered E) → IfOk result (λ answered. answered ≡ record { text = printed (refusal_row (BadArchive at) ∷ []) request.number; lost = false })
      → IfOk result (λ answered. Replies answered.text answered.lost)
  of_bad prints_it at bad (Ok answered) is = subst (λ (a : Answered). Replies a.text a.lost) (sym is) (inr (record { prints_it = prints_it; depot = depot; been = refl; at = at; reply = refl; bad = bad }))
  of_bad prints_it at bad (Err error) is = is

  -- the spot of one ends behind the archive
  pub behind_bad : (bytes : List ℕ) (at : ℕ) → IsLacking (rows_of replica.tables) request bytes (EndsBehind bytes) at → IsBadPrint (rows_of replica.tables) request bytes at
  behind_bad bytes at lacking = record {
    before = lacking.before;
    row = lacking.row;
    after = lacking.after;
    are = lacking.are;
    given = lacking.given;
    waits = lacking.waits;
    unfit = record { revision = lacking.unfit.revision; is = lacking.unfit.is; place = lacking.unfit.place; such = inl lacking.unfit.such };
  }

  -- without contents
  pub of_bare : {E : Type 0} (result : Result Answered E) → prints request.command ≡ false → IfOk result (λ answered. answered.lost ≡ false)
      → ((d : List Deed) → Stand (rows_of replica.tables) d → IfOk result (λ answered. answered.text ≡ printed (replica_reply d request) request.number))
      → IfOk result (λ answered. Replies answered.text answered.lost)
  of_bare (Err error) bare kept told = kept
  of_bare (Ok answered) bare kept told =
      subst (Replies answered.text) (sym kept)
      (inl (record { depot = depot; been = refl; reply = λ d stand has. told d stand; digested = λ prints_it. absurd (true≢false (sym prints_it ∙ bare)) }))

-- a command that prints doesn't pull
pub prints_no_pull : (command : Result Command WordFault) → prints command ≡ true → pulls command ≡ false
prints_no_pull (Ok (Print files)) is = refl
prints_no_pull (Ok _) is = absurd cc
prints_no_pull (Err fault) is = refl

module _ {D E : Type 0} (HasBeen : SerialDepot D → Type 0) (disk_says : DiskSays D) (old new : Replica) (request : Request) (result : Result Answered E) where
  pub by_pull : pulls request.command ≡ true → IfOk result (λ answered. IsPullAnswer HasBeen disk_says old new request.number answered.text answered.lost)
      → IfOk result (λ answered. IsAnsweredBy HasBeen disk_says old new request answered.text answered.lost)
  by_pull is answered = go result answered
    where
      go : (r : Result Answered E) → IfOk r (λ answered. IsPullAnswer HasBeen disk_says old new request.number answered.text answered.lost)
          → IfOk r (λ answered. IsAnsweredBy HasBeen disk_says old new request answered.text answered.lost)
      go (Err error) h = tt
      go (Ok a) h = subst (IsAnsweredAs HasBeen disk_says old new request a.text a.lost) (sym is) h

  pub by_other : pulls request.command ≡ false → new ≡ old → IfOk result (λ answered. IsReply HasBeen disk_says old request answered.text answered.lost)
      → IfOk result (λ answered. IsAnsweredBy HasBeen disk_says old new request answered.text answered.lost)
  by_other is same answered = go result answered
    where
      go : (r : Result Answered E) → IfOk r (λ answered. IsReply HasBeen disk_says old request answered.text answered.lost)
          → IfOk r (λ answered. IsAnsweredBy HasBeen disk_says old new request answered.text answered.lost)
      go (Err error) h = tt
      go (Ok a) h = subst (IsAnsweredAs HasBeen disk_says old new request a.text a.lost) (sym is) (same, h)

-- a turn
pub turned_by : {D E : Type 0} (disk_says : DiskSays D) (depot : SerialDepot D) (old new : ReplicaParty) (request : Request) (result : Result Answered E)
    → old.left.items ≡ new.left.items ++ request ∷ []
    → (IsFormedBy request → IfOk result (λ answered. IsAnsweredBy (λ been. been ≡ depot) disk_says old.replica new.replica request answered.text answered.lost))
    → OnErr result (new.replica ≡ old.replica) → IsTurned disk_says depot old new result
turned_by disk_says depot old new request (Ok a) left answered kept = record { request = request; left = left; answered = λ formed. inl (answered formed) }
turned_by disk_says depot old new request (Err error) left answered kept =
    record { request = request; left = left; answered = λ formed. inr (record { same = kept; reply = refl; kept = refl }) }
