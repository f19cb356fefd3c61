use Rattle.std.proofs.Common.{◌≡◌, ◌≤◌, ◌+◌, List, [], ◌∷◌, ◌++◌, Option, length, sym, ap, subst, ◌∙◌, append_assoc, append-nil, arith}
use Rattle.std.specs.Vec.Iter.{into_iter_items}
use Rattle.std.proofs.lemmas.List.{length_push, nil_from_length}
use Rattle.replica_turns.specs.declared.party.ReplicaParty.{ReplicaParty}
use Rattle.run_parties.proofs.Fresh.{fresh_push}
use Rattle.run_parties.proofs.Making.{holds_next}
use Rattle.run_parties.specs.Asking.{AreFresh}
use Rattle.session_loop.specs.Asking.{replica_commands}
use Rattle.session_loop.specs.declared.reading.ReplicaScript.{ReplicaScript}
use Rattle.run_parties.proofs.asking.replica_parties.Goals as goal

pub loop-script-preserved : goal.loop-script-preserved
loop-script-preserved g c =
    let at = c.loop-script in
    let script = c.in-Some.script in
    let replica = c.in_ok-replica.replica in
    let rest = into_iter_items c.next.new.self in
    let steps : into_iter_items at.script-iterator ≡ script ∷ rest = c.in-Some.ensures.steps.0 in
    let parts : at.yielded ++ script ∷ rest ≡ c.args.scripts.items = rw (← steps) at.invariant.items in
    let may_give = g.C.Clock.says.may_give c.args.clock.now in
    let Made : List (Option ReplicaParty) → Type 0 = AreFresh may_give 1 (at.yielded ++ script ∷ []) in
    let count = at.invariant.count in
    record {
      made = subst Made (sym c.in_ok-push.ensures.items)
          (fresh_push may_give 1 (at.party + 1) at.yielded at.parties.items script replica (omega (arith, count)) at.invariant.made c.in_ok-replica.ensures);
      items = append_assoc at.yielded (script ∷ []) rest ∙ parts;
      left =
          let was = at.invariant.left in
          let gone = c.in-Some.ensures.steps.1 in
          let short = ap length steps in
          omega arith;
      count = let longer = length_push at.yielded script in omega (arith, longer, count);
    }

pub returns : goal.returns
returns g c =
    let at = c.loop-script in
    let none : into_iter_items at.script-iterator ≡ [] = nil_from_length (into_iter_items at.script-iterator) (sym at.invariant.left ∙ c.in-None.ensures.steps.0) in
    let all : at.yielded ≡ c.args.scripts.items = sym (append-nil at.yielded) ∙ rw (← none) at.invariant.items in
    let Made : List (Option ReplicaScript) → Type 0 = λ scripts. AreFresh (g.C.Clock.says.may_give c.args.clock.now) 1 scripts at.parties.items in
    subst Made all at.invariant.made

pub replica_party-requires : goal.replica_party-requires
replica_party-requires g c =
    let at = c.loop-script in
    let script = c.in-Some.script in
    let rest = into_iter_items c.next.new.self in
    let steps : into_iter_items at.script-iterator ≡ script ∷ rest = c.in-Some.ensures.steps.0 in
    let parts : at.yielded ++ script ∷ rest ≡ c.args.scripts.items = rw (← steps) at.invariant.items in
    holds_next (λ (s : Option ReplicaScript). length (replica_commands s) ≤ 67108864) c.args.scripts.items at.yielded rest script parts c.requires.few
