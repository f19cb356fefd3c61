use Rattle.std.proofs.Common.{◌≡◌, ◌<◌, length, refl, arith}
use Rattle.std.specs.Prelude.{slice_get, Some, None}
use Rattle.std.proofs.lemmas.Option.{slice_get_past, slice_get_read}
use Rattle.lock_core.specs.declared.party.Party.{Party}
use Rattle.lock_core.proofs.Stopped.{stopped_none, stopped_some}
use Rattle.lock_core.proofs.machine.LockCore.stop.Goals as goal

pub returns-then-at-len-clause-shows : goal.returns-then-at-len-clause-shows
returns-then-at-len-clause-shows c = λ start s shows.
    let parties = c.args.self.now.parties in
    let past : slice_get parties.items c.args.party ≡ None = slice_get_past parties.items c.args.party (omega (arith, c.if-at-len.true, c.len.ensures, parties.ok.0)) in
    stopped_none start s c.args.self.now c.args.self.now c.args.party shows refl past refl

pub returns-clause-shows : goal.returns-clause-shows
returns-clause-shows c = λ start s shows.
    let core = c.args.self.now in
    let p = c.index_mut.result.now in
    let i = c.args.party in
    let within : i < length core.parties.items = omega (arith, c.if-at-len.false, c.len.ensures, core.parties.ok.0) in
    let at_i : slice_get core.parties.items i ≡ Some p = slice_get_read core.parties.items (length core.parties.items) i p refl within c.index_mut.ensures.value in
    let left : Party = record { left = c.clear.new.self; work = p.work } in
    stopped_some start s core _ i shows refl p left at_i c.clear.ensures.items refl refl
