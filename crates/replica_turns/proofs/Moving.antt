-- A pull over a good journal moves.
use Rattle.std.proofs.Common.{◌≡◌, ◌≢◌, ◌⊎◌, ◌≤◌, ◌∷◌, [], ℕ, List, Bool, true, false, Result, length, inl, inr, refl, sym, subst, arith, length-append}
use Rattle.std.specs.Prelude.{map}
use Rattle.std.proofs.lemmas.List.{length-map, map-append}
use Rattle.outside_api.specs.Disk.{Files}
use Rattle.outside_api.specs.Link.{Answers, IsEarlier}
use Rattle.outside_api.specs.Says.{DiskSays}
use Rattle.outside_api.specs.declared.link.Fetched.{Fetched}
use Rattle.outside_api.specs.declared.link.Fetched.TheVariants.{Bytes, End, Next}
use Rattle.depot_rows.specs.depot_model.Printed.{printed}
use Rattle.depot_rows.specs.depot_model.Rows.{memory_row}
use Rattle.depot_rows.specs.depot_model.declared.filter.FilterRule.{FilterRule}
use Rattle.depot_rows.specs.depot_model.declared.request.Request.{Request}
use Rattle.journal_groups.specs.Groups.{groups_text}
use Rattle.recovery.specs.Holding.{group_texts}
use Rattle.replica_pull.specs.Prefix.{HasFollowed, IsGoodJournal, Moment}
use Rattle.replica_pull.specs.Replica.{IsStopped}
use Rattle.replica_pull.specs.declared.fault.PullFault.{PullFault}
use Rattle.replica_pull.specs.declared.fault.PullFault.TheVariants as faults
use Rattle.replica_pull.specs.declared.replica.Replica.{Replica}
use Rattle.replica_pull.proofs.Followed.{has_prefix}
use Rattle.replica_pull.proofs.GoodFeeds.{never_bad}
use Rattle.depot_commit.specs.command_core.Outcomes.{IsFormedBy}
use Rattle.depot_commit.specs.Growing.{Chronicle, HasGroups, generations_of}
use Rattle.serial_depot.specs.declared.depot.SerialDepot.{SerialDepot}
use Rattle.replica_turns.specs.Going.{IsTurned, is_lost, reply_text}
use Rattle.replica_turns.specs.Master.{texts_in}
use Rattle.replica_turns.specs.Replying.{Follows, HasPulledOf, IsAnsweredAs, IsPulled, IsWithoutMemory, pulls}
use Rattle.replica_turns.specs.declared.party.Answered.{Answered}
use Rattle.replica_turns.specs.declared.party.ReplicaParty.{ReplicaParty}
use Rattle.replica_turns.proofs.Following.{earlier_self, has_texts}

module _ {D : Type 0} (disk_says : DiskSays D) (reads : (disk : D) (files : Files) → disk_says.seen disk files → disk_says.may_leave disk files) (depot : SerialDepot D) (c : Chronicle)
    (groups : HasGroups disk_says depot.journal c) (good : IsGoodJournal (texts_in c) (generations_of c)) (rules : List FilterRule) (moments : List Moment) (old new : Replica)
    (followed : HasFollowed rules (texts_in c) old moments) where
  itself : IsEarlier (texts_in c) (texts_in c)
  itself = subst (λ (j : List (List ℕ)). IsEarlier j j) (sym (map-append (groups_text 1) c.closed (c.newest ∷ []))) (earlier_self (map (groups_text 1) c.closed) (groups_text 1 c.newest))

  -- there are no more generations than there can be
  few : length (texts_in c) ≤ 4096
  few =
      let last = depot.journal.end.last in
      let count = groups.keeps.count in
      omega (arith, last, count, length-map c.closed (group_texts 1), length-map (generations_of c) (groups_text 1), length-append c.closed (c.newest ∷ []))

  -- what was fetched of it can be taken, unless there is no memory
  never_stopped : (fetched : Fetched) (piece : List ℕ) (fault : PullFault) → Answers (texts_in c) old.generation old.at fetched piece → fault ≢ faults.Memory → IsStopped old fetched piece fault → ⊥
  never_stopped (Bytes n) piece (faults.BadFeed place) answers other stopped =
      never_bad rules (texts_in c) (texts_in c) (generations_of c) old (has_prefix rules (texts_in c) old moments followed) good itself n place piece answers stopped
  never_stopped (Bytes n) piece faults.LinkFault answers other stopped = stopped
  never_stopped (Bytes n) piece faults.NoGeneration answers other stopped = stopped
  never_stopped (Bytes n) piece faults.Memory answers other stopped = other refl
  never_stopped End piece (faults.BadFeed place) answers other stopped = stopped
  never_stopped End piece faults.LinkFault answers other stopped = stopped
  never_stopped End piece faults.NoGeneration answers other stopped = stopped
  never_stopped End piece faults.Memory answers other stopped = other refl
  never_stopped Next piece (faults.BadFeed place) answers other stopped = stopped
  never_stopped Next piece faults.LinkFault answers other stopped = stopped
  never_stopped Next piece faults.NoGeneration answers other stopped = let most = few in omega (arith, stopped, answers.1, most)
  never_stopped Next piece faults.Memory answers other stopped = other refl

  pub pulled_of : (number : ℕ) (text : List ℕ) → IsPulled (λ been. been ≡ depot) disk_says old new number text → HasPulledOf (texts_in c) old new
  pulled_of number text pull = go pull.follows
    where
      answers : Answers (texts_in c) old.generation old.at pull.fetched pull.piece
      answers = pull.answers (texts_in c) (has_texts disk_says reads pull.depot.journal c (subst (λ (d : SerialDepot D). HasGroups disk_says d.journal c) (sym pull.been) groups))

      go : Follows old new pull.fetched pull.piece → HasPulledOf (texts_in c) old new
      go (inl did) = record { fetched = pull.fetched; piece = pull.piece; moved = did.0; answers = answers; has = did.1 }
      go (inr stopped) = absurd (never_stopped pull.fetched pull.piece stopped.1 answers stopped.2 stopped.3)

  abbrev Moves : Bool → List ℕ → ℕ → Type 0
  Moves lost text number = (lost ≡ true) ⊎ ((text ≡ printed (memory_row ∷ []) number) ⊎ HasPulledOf (texts_in c) old new)

  moves : (request : Request) (text : List ℕ) (lost pull : Bool) → pull ≡ true → IsAnsweredAs (λ been. been ≡ depot) disk_says old new request text lost pull ⊎ IsWithoutMemory old new request text lost
      → Moves lost text request.number
  moves request text lost pull is (inr none) = inr (inl none.reply)
  moves request text true true is (inl answered) = inl refl
  moves request text false true is (inl answered) = inr (inr (pulled_of request.number text answered))
  moves request text lost false is (inl answered) = absurd cc

pub pulls_move : {D E : Type 0} (disk_says : DiskSays D) (reads : (disk : D) (files : Files) → disk_says.seen disk files → disk_says.may_leave disk files) (depot : SerialDepot D) (c : Chronicle) (rules : List FilterRule)
    (moments : List Moment) (old new : ReplicaParty) (result : Result Answered E) → HasGroups disk_says depot.journal c → IsGoodJournal (texts_in c) (generations_of c)
    → HasFollowed rules (texts_in c) old.replica moments → (turn : IsTurned disk_says depot old new result) → IsFormedBy turn.request → pulls turn.request.command ≡ true
    → (is_lost result ≡ true) ⊎ ((reply_text result turn.request.number ≡ printed (memory_row ∷ []) turn.request.number) ⊎ HasPulledOf (texts_in c) old.replica new.replica)
pulls_move disk_says reads depot c rules moments old new result groups good followed turn formed is =
    moves disk_says reads depot c groups good rules moments old.replica new.replica followed turn.request (reply_text result turn.request.number) (is_lost result) (pulls turn.request.command) is (turn.answered formed)
