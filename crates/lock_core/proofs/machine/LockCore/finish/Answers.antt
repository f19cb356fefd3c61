use Rattle.std.proofs.Common.{◌≡◌, ◌<◌, ◌≤◌, Some, length, refl, sym, subst, arith}
use Rattle.std.specs.Prelude.{slice_get}
use Rattle.std.specs.Vec.{with_item}
use Rattle.std.proofs.lemmas.Option.{slice_get_read}
use Rattle.lock_core.specs.Finished.{Finishes}
use Rattle.lock_core.specs.declared.machine.LockCore.{LockCore}
use Rattle.lock_core.specs.declared.turn.Finish.{Finish}
use Rattle.lock_core.proofs.Ended.{finished_done, finished_fault, finished_none, never_past}
use Rattle.lock_core.proofs.machine.LockCore.finish.Goals as goal

pub returns-then-at-len-clause-finishes : goal.returns-then-at-len-clause-finishes
returns-then-at-len-clause-finishes c =
    let core = c.args.self.now in
    let past : length core.parties.items ≤ c.args.party = omega (arith, c.if-at-len.true, c.len.ensures, core.parties.ok.0) in
    never_past core _ c.args.party past c.args.how

pub returns-in-Done-clause-finishes : goal.returns-in-Done-clause-finishes
returns-in-Done-clause-finishes c =
    let core = c.args.self.now in
    let p = c.index_mut.result.now in
    let i = c.args.party in
    let within : i < length core.parties.items = omega (arith, c.if-at-len.false, c.len.ensures, core.parties.ok.0) in
    let at_i : slice_get core.parties.items i ≡ Some p = slice_get_read core.parties.items (length core.parties.items) i p refl within c.index_mut.ensures.value in
    let new : LockCore = record { tables = c.set_archive_end-in-Done.new.self; parties = c.put.new.self.parties } in
    let P : Finish → Type 0 = Finishes core new i in
    subst P (sym c.in-Done.is) (λ start s request outcome ready.
    finished_done start s core new i request p c.commit-room.new.self at_i c.commit-room.ensures.party ready.commit outcome ready c.put.new.self c.commit-room.result c.commit-room.ensures.room c.put.ensures
    c.set_archive_end-in-Done.ensures.versions refl)

pub returns-in-Fault-clause-finishes : goal.returns-in-Fault-clause-finishes
returns-in-Fault-clause-finishes c =
    let core = c.args.self.now in
    let p = c.index_mut.result.now in
    let i = c.args.party in
    let within : i < length core.parties.items = omega (arith, c.if-at-len.false, c.len.ensures, core.parties.ok.0) in
    let at_i : slice_get core.parties.items i ≡ Some p = slice_get_read core.parties.items (length core.parties.items) i p refl within c.index_mut.ensures.value in
    let new : LockCore = record { tables = c.set_archive_end-in-Fault.new.self; parties = with_item core.parties i c.commit-room.new.self } in
    let P : Finish → Type 0 = Finishes core new i in
    subst P (sym c.in-Fault.is) (λ start s request commit.
    finished_fault start s core new i request p c.commit-room.new.self at_i c.commit-room.ensures.party commit c.set_archive_end-in-Fault.ensures.versions refl)

pub returns-in-NoMemory-clause-finishes : goal.returns-in-NoMemory-clause-finishes
returns-in-NoMemory-clause-finishes c =
    let core = c.args.self.now in
    let p = c.index_mut.result.now in
    let i = c.args.party in
    let within : i < length core.parties.items = omega (arith, c.if-at-len.false, c.len.ensures, core.parties.ok.0) in
    let at_i : slice_get core.parties.items i ≡ Some p = slice_get_read core.parties.items (length core.parties.items) i p refl within c.index_mut.ensures.value in
    let new : LockCore = record { tables = c.set_archive_end-in-NoMemory.new.self; parties = with_item core.parties i c.commit-room.new.self } in
    let P : Finish → Type 0 = Finishes core new i in
    subst P (sym c.in-NoMemory.is) (λ start s request commit.
    finished_none start s core new i request p c.commit-room.new.self at_i c.commit-room.ensures.party commit c.set_archive_end-in-NoMemory.ensures.versions refl)
