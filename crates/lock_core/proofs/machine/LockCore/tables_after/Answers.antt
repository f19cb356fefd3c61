use Rattle.std.proofs.Common.{◌≡◌, ℕ, List, Option, Some, None, Result, Ok, Err, sym, ap, ◌∙◌}
use Rattle.std.specs.Prelude.{IfOk, slice_get}
use Rattle.std.specs.Option.{option_copied}
use Rattle.depot_rows.specs.table_changes.Changed.{rows_of}
use Rattle.command_core.specs.declared.outcome.Outcome.{Outcome}
use Rattle.depot_rows.specs.depot_model.Deeds.{Deed}
use Rattle.depot_rows.specs.depot_model.declared.request.Request.{Request}
use Rattle.lock_machine.specs.Machine.{State}
use Rattle.lock_machine.proofs.Places.{some_is}
use Rattle.lock_core.specs.Core.{IsReady}
use Rattle.lock_core.specs.Finished.{room_at, room_in}
use Rattle.lock_core.specs.declared.machine.LockCore.{LockCore}
use Rattle.lock_core.specs.declared.work.Room.{Room}
use Rattle.lock_core.specs.declared.work.Work.{Work}
use Rattle.lock_core.proofs.machine.LockCore.tables_after.Goals as goal

-- the room that a commit has
room_is : (start : List Deed) (s : State) (core : LockCore) (i : ℕ) (request : Request) (outcome : Outcome) (ready : IsReady start s core i request outcome)
    → room_at (slice_get core.parties.items i) ≡ Some ready.room.room
room_is start s core i request outcome ready =
    ap room_at ready.room.there ∙ (ap (λ (work : Option Work). room_in work) ready.room.has ∙ ready.room.with_room)

if_ok : {T E : Type 0} (r : Result T E) (P Q : T → Type 0) → ((x : T) → P x → Q x) → IfOk r P → IfOk r Q
if_ok (Ok x) P Q f is = f x is
if_ok (Err e) P Q f is = tt

pub returns-in-None : goal.returns-in-None
returns-in-None c =
    let core = c.args.self.now in
    if_ok c.share_tables.result _ _ (λ after is start s request outcome ready.
    absurd (let none : None ≡ Some ready.room.room = sym (ap option_copied c.in-None.is) ∙ (c.room_of.ensures ∙ room_is start s core c.args.party request outcome ready) in cc)) c.share_tables.ensures.rows

pub returns-in-Some : goal.returns-in-Some
returns-in-Some c =
    let core = c.args.self.now in
    if_ok c.share_tables-in-Some.result _ _ (λ after is start s request outcome ready.
    let same : c.in-Some.room.now ≡ ready.room.room = some_is (sym (ap option_copied c.in-Some.is) ∙ (c.room_of.ensures ∙ room_is start s core c.args.party request outcome ready)) in
    is ∙ (ap (λ (room : Room). rows_of room.tables) same ∙ ready.room.is.after)) c.share_tables-in-Some.ensures.rows
