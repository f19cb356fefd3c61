use Rattle.std.proofs.Common.{◌≡◌, [], ◌∷◌, length, ap, subst, ◌∙◌, append_assoc, arith}
use Rattle.std.specs.Vec.Iter.{into_iter_items}
use Rattle.party_marks.specs.Marks.{marks_of}
use Rattle.shared_depot.specs.Common.{OpenedKnown}
use Rattle.party_threads.proofs.Collecting.{collected_more}
use Rattle.party_threads.specs.Parties.{IsHeard}
use Rattle.party_threads.proofs.threads.collect.Goals as goal

pub loop-party-preserved : goal.loop-party-preserved
loop-party-preserved g c =
    let at = c.loop-party in
    let was = at.invariant in
    let party = c.in-Some.party in
    let next = c.hear_party-told.ensures in
    let new = c.hear_party-told.new in
    let rest = into_iter_items c.next.new.self in
    let steps : into_iter_items at.party-iterator ≡ party ∷ rest = c.in-Some.ensures.steps.0 in
    let gone = c.in-Some.ensures.steps.1 in
    let short = ap length steps in
    let was_left = was.left in
    let room = was.room in
    let room_for_sinks = was.room_for_sinks in
    let runs_len = next.runs_len in
    let runs_room = next.runs_room in
    let sinks_len = next.sinks_len in
    let sinks_room = next.sinks_room in
    let known : at.depot ≡ c.args.depot.now = was.same in
    record {
      same = next.same ∙ known;
      collected = collected_more c.args.depot.now at.yielded party at.runs.items new.runs.items at.sinks.items new.sinks.items at.lost c.hear_party-told.result c.either-lost.result was.collected
          (subst (λ (o : OpenedKnown). IsHeard o.order party.pass) known next.heard) next.runs next.sinks next.told (subst (λ (o : OpenedKnown). marks_of party.marks.party o.marks ≡ marks_of party.marks.party party.marks.list) known next.marked) c.either-lost.ensures;
      items = append_assoc at.yielded (party ∷ []) rest ∙ rw (← steps) was.items;
      left = omega arith;
      room = omega (arith, room, short, runs_len, runs_room);
      room_for_sinks = omega (arith, room_for_sinks, short, sinks_len, sinks_room);
    }
