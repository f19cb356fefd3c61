-- An outcome that was found over gathered tables is the request's over the tables after the order.
use Rattle.std.proofs.Common.{◌≡◌, ◌⊎◌, ◌∙◌, ℕ, true, List, [], Option, Some, None, inl, inr, refl, sym, ap, subst}
use Rattle.std.specs.Prelude.{IfSome}
use Rattle.std.specs.Sync.Mutex.{mutex_guard_value}
use Rattle.std.specs.declared.sync.MutexGuard.{MutexGuard}
use Rattle.depot_commit.specs.command_core.Outcomes.{IsFormedBy, IsOutcome}
use Rattle.depot_commit.specs.command_core.declared.outcome.Outcome.{Outcome}
use Rattle.depot_rows.specs.depot_model.Deeds.{Deed}
use Rattle.depot_rows.specs.depot_model.declared.request.Request.{Request}
use Rattle.depot_rows.specs.Standing.{Stand}
use Rattle.locked_tables.specs.Taken.{end_after, rows_after}
use Rattle.locked_tables.specs.declared.taken.Taken.{Taken}
use Rattle.needed_tables.proofs.Whole.{have_needed, outcome_alike, outcome_anywhere}
use Rattle.needed_tables.specs.Needed.{AgreeOnNeeded}
use Rattle.depot_rows.specs.table_changes.Changed.{AllRows, rows_of}
use Rattle.table_locks.specs.Gathered.{Covers, HasSet}
use Rattle.table_locks.specs.Prepared.{are_held}
use Rattle.table_locks.specs.declared.gathered.Gathered.{Gathered}
use Rattle.shared_depot.specs.Asked.{IsToldOver}
use Rattle.outside_api.specs.Disk.{Files}
use Rattle.depot_commit.specs.Committing.{IsOutcomeOf}
use Rattle.depot_commit.specs.Holding.{KeepContents}
use Rattle.depot_commit.specs.Telling.{IsReplyOf}
use Rattle.depot_commit.specs.declared.telling.Told.{Told}
use Rattle.depot_commit.proofs.Laws.{formed_of}
use Rattle.depot_commit.specs.Storing.{HasStored, stores_end}
use Rattle.shared_depot.specs.Room.{IsDueAfter, IsToldAfter}
use Rattle.shared_depot.specs.Stored.{images_after, stored_end, stores_of}
use Rattle.shared_depot.proofs.Sets.{changes_in_set}

-- ---- the reply

-- where an outcome is due after the order, its reply is that of the depot that has run it
pub reply_here : (rows : AllRows) (end : ℕ) (images : Files → Type 0) (begins : ℕ → List Deed → Type 0) (order now : List Taken) → order ≡ now → (request : Request) (told : Told) → IsDueAfter rows end images begins now request told
    → (since : ℕ) (start : List Deed) → begins since start → (d : List Deed) (all : AllRows) → all ≡ rows_after rows order → Stand all d → KeepContents (images_after images end order) (stored_end end order) all d → IsReplyOf d request told
reply_here rows end images begins order now here request told due since start at d all rows_are stand kept =
    due.reply since start at all (end_after end now) d stand
    (subst (λ (r : AllRows). IsOutcomeOf r (end_after end now) request due.outcome) (ap (rows_after rows) (sym here) ∙ sym rows_are) (due.stands since start at))
    (subst (λ (l : List Taken). KeepContents (images_after images end l) (stored_end end l) all d) here kept)

-- what was printed over the places that were known behind the lock of the archive is told after the whole order, behind which its lane wasn't touched
told_after : (end : ℕ) (images : Files → Type 0) (begins : ℕ → List Deed → Type 0) (archive : Option (MutexGuard (List Taken))) (order : List Taken) (request : Request) (outcome : Outcome) (told : Told)
    → IfSome archive (λ guard. stores_of order ≡ stores_of (mutex_guard_value guard))
    → ((known : List Taken) → IfSome archive (λ guard. known ≡ mutex_guard_value guard) → IsToldAfter end images begins known request outcome told) → IsToldAfter end images begins order request outcome told
told_after end images begins None order request outcome told same found = found order tt
told_after end images begins (Some guard) order request outcome told same found = λ since start at rows from d stand is kept.
    found (mutex_guard_value guard) refl since start at rows from d stand is (subst (λ (stores : List (List ℕ)). KeepContents (HasStored images end stores) (stores_end stores end) rows d) same kept)

-- what was found over gathered tables that are still so after an order is due after it
module _ {N : Type 0} {rows : AllRows} {end : ℕ} {images : Files → Type 0} {begins : ℕ → List Deed → Type 0} {g : Gathered N} {archive : Option (MutexGuard (List Taken))} {told : Told} {request : Request}
    (over : IsToldOver rows end images begins g archive told request) (order : List Taken) (set : (request : Request) → Covers g request → HasSet (rows_after rows order) (rows_of g.tables) request)
    (held : are_held g.held.items told.changes ≡ true) (ends : (told.stores ≡ []) ⊎ (g.tables.archive_end ≡ end_after end order)) where
  abbrev all : AllRows
  all = rows_after rows order

  agree : AgreeOnNeeded (rows_of g.tables) all request
  agree = set request (over.set.covers request over.words)

  over_all : (d : List Deed) → Stand all d → IsFormedBy request → IsOutcome all g.tables.archive_end d request over.outcome
  over_all d stand formed =
      outcome_alike (rows_of g.tables) all g.tables.archive_end d request over.outcome stand agree
      (changes_in_set g over.whole over.needs over.set.held request over.words over.outcome.changes (ap (are_held g.held.items) (sym over.tells.changes) ∙ held))
      (over.found d stand.sound formed (have_needed (rows_of g.tables) all d request stand agree))

  at_end : (d : List Deed) → (told.stores ≡ []) ⊎ (g.tables.archive_end ≡ end_after end order) → IsOutcome all g.tables.archive_end d request over.outcome → IsOutcome all (end_after end order) d request over.outcome
  at_end d (inl none) is = outcome_anywhere all g.tables.archive_end (end_after end order) d request over.outcome is (sym over.tells.stores ∙ none)
  at_end d (inr same) is = subst (λ (from : ℕ). IsOutcome all from d request over.outcome) same is

  pub due_after : IfSome archive (λ guard. stores_of order ≡ stores_of (mutex_guard_value guard)) → IsDueAfter rows end images begins order request told
  due_after same = record {
    outcome = over.outcome;
    tells = over.tells;
    stands = λ since start at d stand. at_end d ends (over_all d stand (formed_of request (over.proper since start at)));
    reply = told_after end images begins archive order request over.outcome told same over.reply;
  }
