use Rattle.std.proofs.Common.{◌≡◌, List, [], ◌∷◌, length, sym, ap, subst, ◌∙◌, append_assoc, append-nil, arith, rules}
use Rattle.std.proofs.lemmas.List.{nil_from_length}
use Rattle.std.specs.Vec.Iter.{into_iter_items}
use Rattle.p4_server.specs.Parties.{AreRead}
use Rattle.p4_server.proofs.Readings.{read_none}
use Rattle.p4_server.proofs.party.read_scripts.Goals as goal

pub loop-source-init : goal.loop-source-init
loop-source-init g c = record {
  items = search rules;
  left = search rules;
  read = rw (c.new.ensures.items, c.new-2.ensures.items, c.new-3.ensures.items, c.new-4.ensures.items) (read_none _);
  formed = rw (c.new-2.ensures.items, c.new-3.ensures.items) (record { sessions_formed = λ k d lt. absurd (omega (arith, lt)); replicas_formed = λ k d lt. absurd (omega (arith, lt)) });
  few = rw (c.new-2.ensures.items, c.new-3.ensures.items) (record { sessions_few = λ k d lt. absurd (omega (arith, lt)); replicas_few = λ k d lt. absurd (omega (arith, lt)) });
}

pub loop-source-preserved : goal.loop-source-preserved
loop-source-preserved g c =
    let at = c.loop-source in
    let source = c.in-Some.source in
    let rest = into_iter_items c.next.new.self in
    let steps : into_iter_items at.source-iterator ≡ source ∷ rest = c.in-Some.ensures.steps.0 in
    let more = c.in_ok-read_one.ensures in
    record {
      items = append_assoc at.yielded (source ∷ []) rest ∙ rw (← steps) at.invariant.items;
      left =
          let was = at.invariant.left in
          let gone = c.in-Some.ensures.steps.1 in
          let short = ap length steps in
          omega arith;
      read = more.read at.yielded at.invariant.read;
      formed = more.formed at.invariant.formed;
      few = more.few at.invariant.few;
    }

pub returns-clause-read : goal.returns-clause-read
returns-clause-read g c =
    let at = c.loop-source in
    let none : into_iter_items at.source-iterator ≡ [] = nil_from_length (into_iter_items at.source-iterator) (sym at.invariant.left ∙ c.in-None.ensures.steps.0) in
    let all : at.yielded ≡ c.args.sources.items = sym (append-nil at.yielded) ∙ rw (← none) at.invariant.items in
    let P : List _ → Type 0 = λ sources. AreRead g.S.Source.says sources at.scripts.sources.items at.scripts.sessions.items at.scripts.replicas.items at.scripts.ends.items in
    subst P all at.invariant.read
