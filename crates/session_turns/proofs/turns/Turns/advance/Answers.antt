use Rattle.std.proofs.Common.{◌≡◌, false, List, ℕ, sym, ap, ◌∙◌, inl}
use Rattle.lock_core.specs.Drawing.{has_other}
use Rattle.lock_machine.specs.Machine.{is_enabled}
use Rattle.session_turns.proofs.Advancing.{session_advances}
use Rattle.session_turns.proofs.Drawing.{either_first}
use Rattle.session_turns.specs.declared.replicas.Replicas.{Replicas}
use Rattle.session_turns.proofs.turns.Turns.advance.Goals as goal

pub returns-then-has_left-clause-turn : goal.returns-then-has_left-clause-turn
returns-then-has_left-clause-turn g c = λ scene p r may.
    c.take_replica_turn.ensures.turn scene p r (ap (λ (os : List ℕ). has_other os c.args.party) r.others ∙ (sym c.has_left.ensures ∙ c.if-has_left.true))

pub returns-else-has_left-clause-turn : goal.returns-else-has_left-clause-turn
returns-else-has_left-clause-turn g c = λ scene p r may.
    let party = c.args.party in
    let none : has_other p.others party ≡ false = ap (λ (os : List ℕ). has_other os party) r.others ∙ (sym c.has_left.ensures ∙ c.if-has_left.false) in
    let enabled = either_first (is_enabled p.machine party) (has_other p.others party) may none in
    let taken = c.take_turn.ensures.turn scene p.machine r.running enabled in
    (taken.0, session_advances _ _ _ scene p c.args.self.now _ r party none c.take_turn.ensures.replicas c.take_turn.ensures.counted.faults taken.1)

pub returns-then-has_left-clause-within : goal.returns-then-has_left-clause-within
returns-then-has_left-clause-within g c = c.take_replica_turn.ensures.within

pub returns-else-has_left-clause-within : goal.returns-else-has_left-clause-within
returns-else-has_left-clause-within g c = c.take_turn.ensures.within

pub returns-then-has_left-clause-faults : goal.returns-then-has_left-clause-faults
returns-then-has_left-clause-faults g c = c.take_replica_turn.ensures.faults

pub returns-else-has_left-clause-faults : goal.returns-else-has_left-clause-faults
returns-else-has_left-clause-faults g c = c.take_turn.ensures.counted.faults

pub returns-then-has_left-clause-told : goal.returns-then-has_left-clause-told
returns-then-has_left-clause-told g c = c.take_replica_turn.ensures.told

pub returns-else-has_left-clause-told : goal.returns-else-has_left-clause-told
returns-else-has_left-clause-told g c = record {
  before_too = λ none. ap (λ (rs : Replicas). rs.lost) (sym c.take_turn.ensures.replicas) ∙ none;
  stand = λ none. c.take_turn.ensures.counted.stand;
}

pub returns-then-has_left-clause-lost : goal.returns-then-has_left-clause-lost
returns-then-has_left-clause-lost g c = c.take_replica_turn.ensures.lost

pub returns-else-has_left-clause-lost : goal.returns-else-has_left-clause-lost
returns-else-has_left-clause-lost g c = λ is. inl (ap (λ (rs : Replicas). rs.lost) (sym c.take_turn.ensures.replicas) ∙ is)
