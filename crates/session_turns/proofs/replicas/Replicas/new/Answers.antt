use Rattle.std.proofs.Common.{◌≤◌, List, Option, length, map, sym, ap, subst, ◌∙◌}
use Rattle.std.specs.Prelude.{All}
use Rattle.std.proofs.lemmas.List.Elements.{All-from_recursion, recursion_from_All}
use Rattle.run_parties.proofs.Fresh.{few_left}
use Rattle.run_parties.specs.Asking.{left_in}
use Rattle.run_parties.specs.replica_turns.declared.party.ReplicaParty.{ReplicaParty}
use Rattle.session_loop.specs.Asking.{replica_commands}
use Rattle.session_loop.specs.declared.reading.ReplicaScript.{ReplicaScript}
use Rattle.session_turns.proofs.Fresh.{lefts_are}
use Rattle.session_turns.proofs.replicas.Replicas.new.Goals as goal

pub left_counts-requires : goal.left_counts-requires
left_counts-requires g c =
    let Few : List (Option ReplicaParty) → Type 0 = All (λ (p : Option ReplicaParty). length (left_in p) ≤ 67108864) in
    let few = few_left (g.C.Clock.says.may_give c.args.clock.now) 1 c.args.scripts.items c.in_ok-parties.parties.items c.in_ok-parties.ensures
    (recursion_from_All (λ (script : Option ReplicaScript). length (replica_commands script) ≤ 67108864) c.args.scripts.items c.requires.few) in
    subst Few (sym c.deref.ensures.value) (All-from_recursion (λ (p : Option ReplicaParty). length (left_in p) ≤ 67108864) c.in_ok-parties.parties.items few)

pub returns-clause-others : goal.returns-clause-others
returns-clause-others g c =
    c.in_ok-others.ensures ∙ (ap (map (λ (p : Option ReplicaParty). length (left_in p))) c.deref.ensures.value
    ∙ lefts_are (g.C.Clock.says.may_give c.args.clock.now) 1 c.args.scripts.items c.in_ok-parties.parties.items c.in_ok-parties.ensures)
