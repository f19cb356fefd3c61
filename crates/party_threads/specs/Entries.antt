-- What a party on a thread of its own is answered, as far as the entries tell that it knows of the order. This project's own choice.
use Rattle.std.specs.Prelude.{◌≡◌, ◌<◌, ◌≤◌, ◌+◌, ◌-◌, ◌⊎◌, ℕ, Bool, List, [], ◌∷◌, map, slice_get, Option, Some}
use Rattle.std.specs.List.{AllByRecursion}
use Rattle.depot_model.specs.Deeds.{Deed}
use Rattle.depot_model.specs.Printed.{printed}
use Rattle.depot_model.specs.Rows.{memory_row}
use Rattle.depot_model.specs.declared.order.Answer.{Answer}
use Rattle.depot_model.specs.declared.request.Request.{Request}
use Rattle.depot_model.specs.declared.request.Session.{Session}
use Rattle.depot_runs.specs.Run.{placed}
use Rattle.locked_tables.specs.Known.{PartyKnown}
use Rattle.locked_tables.specs.Taken.{of_party, place_of, placed_of}
use Rattle.locked_tables.specs.declared.taken.Taken.{Taken}
use Rattle.run_parties.specs.Giving.{Got}
use Rattle.session_loop.specs.Served.{IsOutput}
use Rattle.session_loop.specs.declared.session.SessionRun.{SessionRun}
use Rattle.shared_depot.specs.Sharing.{IsTakenAt}

-- ---- entries and requests

-- the request that a command makes when it is taken: that of its party's list, at another moment
abbrev pub at_moment : Request → ℕ → Request
at_moment request moment = record request { moment = moment }

-- the place of an entry names what the entry asks, among the commands of these sessions
abbrev pub Names : List (Option Session) → Taken → Type 0
Names sessions entry = placed sessions (place_of entry) ≡ placed_of entry

-- an entry is of one of the first n of a party's requests, at a moment that the clock may give
pub record IsOneOf (may_give : ℕ → Type 0) (requests : List Request) (n : ℕ) (entry : Taken) : Type 0 where
  pub first : 0 < entry.request.number
  pub last : entry.request.number ≤ n
  pub request : Request
  pub asks : slice_get requests (entry.request.number - 1) ≡ Some request
  pub given : may_give entry.request.moment
  pub is : entry.request ≡ at_moment request entry.request.moment

-- the numbers of entries rise
abbrev pub AreRising : List Taken → Type 0
AreRising [] = Unit {0}
AreRising (entry ∷ entries) = AllByRecursion (λ (later : Taken). entry.request.number < later.request.number) entries × AreRising entries

-- requests are those of one party, numbered from 1
abbrev pub AreNumbered : ℕ → List Request → Type 0
AreNumbered party requests = (n : ℕ) (request : Request) → slice_get requests n ≡ Some request → (request.party ≡ party) × (request.number ≡ n + 1)

-- ---- one command

-- a command was taken, and this is its reply; or it found no memory, and is answered so
abbrev pub IsTold : (ℕ → List Deed → Type 0) → PartyKnown → PartyKnown → Request → List ℕ → Type 0
IsTold begins old new request text =
    ((answer : Answer) × IsTakenAt begins old new request answer × (text ≡ answer.reply)) ⊎ ((new ≡ old) × (text ≡ printed (memory_row ∷ []) request.number))

-- it was taken at a moment that the clock gave then, and its reply went to the party's sink
pub record IsAnswered (may_give : ℕ → Type 0) (begins : ℕ → List Deed → Type 0) (old new : PartyKnown) (request : Request) (before now : Option (List ℕ)) (failed : Bool) : Type 0 where
  pub moment : ℕ
  pub given : may_give moment
  pub text : List ℕ
  pub told : IsTold begins old new (at_moment request moment) text
  pub got : Got failed text before now

-- ---- all commands of a party

-- A party's first commands were taken, as many as its run tells: its own entries are those of them that have a place, in order. Its sink got what one
-- thread replies that takes the commands of all these entries, from each depot from which the run may have begun.
pub record HasTaken (may_give : ℕ → Type 0) (begins : ℕ → List Deed → Type 0) (party : ℕ) (requests : List Request) (run : SessionRun) (before now : Option (List ℕ)) (entries : List Taken) : Type 0 where
  pub own : AllByRecursion (IsOneOf may_give requests run.commands) (of_party party entries)
  pub rising : AreRising (of_party party entries)
  pub output : (since : ℕ) (start : List Deed) (sessions : List (Option Session)) → begins since start → AllByRecursion (Names sessions) entries
      → IsOutput sessions start (map place_of entries) party run.commands run.failed before now
