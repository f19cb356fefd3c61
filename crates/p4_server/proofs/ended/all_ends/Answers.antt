use Rattle.std.proofs.Common.{◌≡◌, ◌+◌, List, [], ◌∷◌, ◌++◌, drop, length, sym, ap, ◌∙◌, append-nil, arith}
use Rattle.std.proofs.lemmas.List.{length_push, nil_from_length}
use Rattle.std.specs.Vec.Iter.{into_iter_items}
use Rattle.p4_server.specs.declared.ended.PartyEnd.{PartyEnd}
use Rattle.p4_server.specs.Ends.{ended_parties}
use Rattle.p4_server.proofs.Ending.{next_of, ended_none}
use Rattle.p4_server.proofs.ended.all_ends.Goals as goal

pub loop-sink-preserved : goal.loop-sink-preserved
loop-sink-preserved g c =
    let at = c.loop-sink in
    let rest = into_iter_items c.next.new.self in
    let steps : into_iter_items at.sink-iterator ≡ c.in-Some.sink ∷ rest = c.in-Some.ensures.steps.0 in
    let short = ap length steps in
    record {
      ended = next_of (λ n xs. ended_parties (n + 1) (drop n c.args.runs.now) (drop n c.args.ends.now) xs) at.parties _ _ c.in-Some.sink rest _ _ c.len.result c.len.ensures c.in_ok-push.ensures.ok steps
          (c.end_at-party.ensures rest) at.invariant.ended;
      count = let was = at.invariant.count in let more = ap length c.in_ok-push.ensures.ok ∙ length_push at.parties _ in omega (arith, was, short, more);
      left = let was = at.invariant.left in let gone = c.in-Some.ensures.steps.1 in omega arith;
    }

pub returns : goal.returns
returns g c =
    let at = c.loop-sink in
    let none : into_iter_items at.sink-iterator ≡ [] = nil_from_length (into_iter_items at.sink-iterator) (sym at.invariant.left ∙ c.in-None.ensures.steps.0) in
    let n = length at.parties in
    let left : List g.row.K.Denot → List (PartyEnd g.row.K.Denot) = λ xs. at.parties ++ ended_parties (n + 1) (drop n c.args.runs.now) (drop n c.args.ends.now) xs in
    sym (append-nil at.parties)
    ∙ (ap (λ (ps : List (PartyEnd g.row.K.Denot)). at.parties ++ ps) (sym (ended_none (n + 1) (drop n c.args.runs.now) (drop n c.args.ends.now))) ∙ (ap left (sym none) ∙ at.invariant.ended))
