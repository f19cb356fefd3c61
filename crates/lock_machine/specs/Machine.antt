-- The machine of locks: which event a party may take next, and what it does. A party begins its next command and goes through the command's set in
-- order: it locks each table that the command writes, and looks at each that the command only reads. With the journal it judges: where a
-- table that it looked at was changed since, it gives all back and locks its whole set in a second attempt. Then it commits, and gives all back.
-- This project's own choice.
use Rattle.std.specs.Prelude.{ℕ, ◌==◌, nat_lt, Bool, true, false, not, ◌&&◌, ◌||◌, List, [], ◌∷◌, ◌++◌, length, drop, slice_get, slice_set, if◌then◌else◌, Option, Some, None}
use Rattle.std.specs.List.{list_any}
use Rattle.depot_model.specs.db_records.Table.{table_number}
use Rattle.depot_model.specs.db_records.declared.table.TableId.{TableId}
use Rattle.depot_model.specs.Tables.{Need, is_in}
use Rattle.depot_model.specs.Places.{Placed}
use Rattle.depot_model.specs.declared.lock.LockId.{LockId}
use Rattle.depot_model.specs.declared.lock.LockId.TheVariants.{Table, Archive, Journal}
use Rattle.depot_model.specs.declared.request.Request.{Request}
use Rattle.lock_machine.specs.declared.stage.Stage.{Stage}
use Rattle.lock_machine.specs.declared.stage.Stage.TheVariants.{Gathering, Judged, Committed}

-- the place of a lock in the order in which locks are taken: the tables, the archive, the journal
abbrev pub lock_number : LockId → ℕ
lock_number (Table table) = table_number table
lock_number Archive = 11
lock_number Journal = 12

abbrev pub is_lock : LockId → LockId → Bool
is_lock lock other = lock_number lock == lock_number other

-- a lock is that of one of some tables
abbrev pub guards : List TableId → LockId → Bool
guards tables (Table table) = is_in tables table
guards tables Archive = false
guards tables Journal = false

-- a table of the set of a command, as of so many places of the order
pub record Seen : Type 0 where
  pub need : Need
  pub places : ℕ

-- the command that a party has at hand: whether this is its second attempt, what it saw, and what is left of its set
pub record Work : Type 0 where
  pub request : Request
  pub stage : Stage
  pub second : Bool
  pub seen : List Seen
  pub rest : List Need

-- the commands that it hasn't begun, and the one at hand
pub record Party : Type 0 where
  pub left : List Request
  pub work : Option Work

-- a place of the order, and the tables that it changed
pub record Commit : Type 0 where
  pub place : Placed
  pub changed : List TableId

pub record State : Type 0 where
  pub parties : List Party
  pub order : List Commit

-- how a commit ends: done, with the tables that it changed; failed at a disk; or without memory, and then without a place
pub data Finish : Type 0 where
  Done : List TableId → Finish
  Fault : Finish
  NoMemory : Finish

-- ---- who owns a lock

-- a table that is written is locked; in a second attempt each table is
abbrev pub is_owned : Bool → Seen → Bool
is_owned second s = second || s.need.writes

abbrev pub owns_seen : Bool → LockId → Seen → Bool
owns_seen second lock s = is_owned second s && is_lock s.need.lock lock

abbrev pub has_judged : Stage → Bool
has_judged Gathering = false
has_judged Judged = true
has_judged Committed = true

abbrev pub owns_at : LockId → Work → Bool
owns_at lock w = (has_judged w.stage && is_lock lock Journal) || list_any (owns_seen w.second lock) w.seen

abbrev pub owns_by : LockId → Option Work → Bool
owns_by lock None = false
owns_by lock (Some w) = owns_at lock w

abbrev pub owns : LockId → Party → Bool
owns lock p = owns_by lock p.work

abbrev pub is_free : List Party → LockId → Bool
is_free parties lock = not (list_any (owns lock) parties)

-- ---- which event is next

-- the lock that a party that gathers takes next
abbrev pub next_lock : List Need → LockId
next_lock [] = Journal
next_lock (need ∷ rest) = need.lock

abbrev pub may_work : List Party → Stage → List Need → Bool
may_work parties Gathering rest = is_free parties (next_lock rest)
may_work parties Judged rest = true
may_work parties Committed rest = true

abbrev pub may_go : List Party → List Request → Option Work → Bool
may_go parties left (Some w) = may_work parties w.stage w.rest
may_go parties [] None = false
may_go parties (request ∷ left) None = true

abbrev pub may_party : List Party → Option Party → Bool
may_party parties None = false
may_party parties (Some p) = may_go parties p.left p.work

-- whether a party's next event is enabled
abbrev pub is_enabled : State → ℕ → Bool
is_enabled s i = may_party s.parties (slice_get s.parties i)

-- whether it has a command at hand or left
abbrev pub is_unfinished : Party → Bool
is_unfinished p = elim p.work [ Some w ↦ true | None ↦ nat_lt 0 (length p.left) ]

-- ---- what it does

-- a table was changed by a place after it was seen
abbrev pub is_touched : List Commit → Seen → Bool
is_touched order s = list_any (λ (c : Commit). guards c.changed s.need.lock) (drop s.places order)

abbrev pub is_stale : List Commit → Bool → Seen → Bool
is_stale order second s = not (is_owned second s) && is_touched order s

-- the place that a commit adds
abbrev pub placed : Request → Finish → List Commit
placed request (Done changed) = record { place = record { request = Some request; fault = false }; changed = changed } ∷ []
placed request Fault = record { place = record { request = Some request; fault = true }; changed = [] } ∷ []
placed request NoMemory = []

abbrev pub added_at : Request → Stage → Finish → List Commit
added_at request Judged how = placed request how
added_at request _ how = []

abbrev pub added : Option Work → Finish → List Commit
added (Some w) how = added_at w.request w.stage how
added None how = []

module _ (needs : Request → List Need) where
  -- Begin
  abbrev pub begun : Request → Work
  begun request = record { request = request; stage = Gathering; second = false; seen = []; rest = needs request }

  -- Judge
  abbrev pub judged : List Commit → Work → Work
  judged order w =
      if list_any (is_stale order w.second) w.seen then record { request = w.request; stage = Gathering; second = true; seen = []; rest = needs w.request }
      else record w { stage = Judged }

  -- Lock or Peek of the next table, or else Judge
  abbrev pub gathered : List Commit → Work → List Need → Work
  gathered order w [] = judged order w
  gathered order w (need ∷ rest) = record w { seen = w.seen ++ record { need = need; places = length order } ∷ []; rest = rest }

  -- what a party has at hand after its event: Commit leaves it with its locks, and Unlock gives all back
  abbrev pub worked : List Commit → Work → Stage → Option Work
  worked order w Gathering = Some (gathered order w w.rest)
  worked order w Judged = Some (record w { stage = Committed })
  worked order w Committed = None

  abbrev pub moved : List Commit → List Request → Option Work → Party
  moved order left (Some w) = record { left = left; work = worked order w w.stage }
  moved order [] None = record { left = []; work = None }
  moved order (request ∷ left) None = record { left = left; work = Some (begun request) }

  -- the event of the party at a place
  abbrev pub acted : State → ℕ → Party → Finish → State
  acted s i p how = record { parties = slice_set s.parties i (moved s.order p.left p.work); order = s.order ++ added p.work how }

  abbrev pub acts : State → ℕ → Finish → Option Party → State
  acts s i how None = s
  acts s i how (Some p) = if may_go s.parties p.left p.work then acted s i p how else s

  -- An event of a party, where Commit ends so. One that isn't enabled changes nothing.
  abbrev pub event : State → ℕ → Finish → State
  event s i how = acts s i how (slice_get s.parties i)

-- a party gives up the commands that it hasn't begun
abbrev pub stops : State → ℕ → Option Party → State
stops s i None = s
stops s i (Some p) = record s { parties = slice_set s.parties i (record p { left = [] }) }

abbrev pub stopped : State → ℕ → State
stopped s i = stops s i (slice_get s.parties i)
