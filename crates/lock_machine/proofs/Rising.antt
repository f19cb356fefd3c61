-- The sets of commands rise.
use Rattle.std.proofs.Common.{ℕ, suc, ◌≤◌, Bool, true, false, List, [], ◌∷◌, map, Result, Ok, Err, arith}
use Rattle.std.specs.Prelude.{filter, cond}
use Rattle.depot_model.specs.Tables.{Need, needs_of, need_for, set_locks, takes}
use Rattle.depot_model.specs.declared.command.Command.{Command}
use Rattle.depot_model.specs.declared.lock.LockId.{LockId}
use Rattle.depot_model.specs.declared.lock.LockId.TheVariants.{Journal}
use Rattle.depot_model.specs.declared.request.Request.{Request}
use Rattle.depot_model.specs.declared.request.WordFault.{WordFault}
use Rattle.lock_machine.specs.Machine.{lock_number}
use Rattle.lock_machine.specs.Orderly.{Rises}

-- locks that rise
abbrev RiseFrom : ℕ → List LockId → Type 0
RiseFrom n [] = n ≤ lock_number Journal
RiseFrom n (lock ∷ locks) = (n ≤ lock_number lock) × RiseFrom (suc (lock_number lock)) locks

lower : (n m : ℕ) (needs : List Need) → n ≤ m → Rises m needs → Rises n needs
lower n m [] h rises = omega arith
lower n m (need ∷ needs) h rises = let here = rises.0 in (omega arith, rises.1)

-- those of a set do
taken_rise : (command : Command) (n : ℕ) (locks : List LockId) → RiseFrom n locks → Rises n (map (need_for command) (filter (takes command) locks))
taken_rise command n [] up = up
taken_rise command n (lock ∷ locks) up = go (takes command lock) (taken_rise command (suc (lock_number lock)) locks up.1)
  where
    needs : List LockId → List Need
    needs ls = map (need_for command) ls

    go : (b : Bool) → Rises (suc (lock_number lock)) (needs (filter (takes command) locks)) → Rises n (needs (cond b (lock ∷ filter (takes command) locks) (filter (takes command) locks)))
    go true rest = (up.0, rest)
    go false rest = let here = up.0 in lower n (suc (lock_number lock)) (needs (filter (takes command) locks)) (omega arith) rest

all_rise : RiseFrom 0 set_locks
all_rise = (omega arith, (omega arith, (omega arith, (omega arith, (omega arith, (omega arith, (omega arith, (omega arith, (omega arith, (omega arith, (omega arith, (omega arith, omega arith))))))))))))

pub sets_rise : (request : Request) → Rises 0 (needs_of request)
sets_rise request = go request.command
  where
    go : (asked : Result Command WordFault) → Rises 0 (elim asked [ Err fault ↦ [] | Ok command ↦ map (need_for command) (filter (takes command) set_locks) ])
    go (Err fault) = omega arith
    go (Ok command) = taken_rise command 0 set_locks all_rise
