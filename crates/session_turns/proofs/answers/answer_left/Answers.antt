use Rattle.std.proofs.Common.{◌≡◌, List, true, refl, sym, ap, ◌∙◌, arith}
use Rattle.std.specs.Prelude.{slice_get}
use Rattle.session_loop.specs.declared.session.SessionRun.{SessionRun}
use Rattle.session_turns.proofs.Within.{as_many_more, count_more, fewer, left_more, none_left_at, none_more, none_same, none_then, not_done, others_same, within_more}
use Rattle.session_turns.specs.Answering.{has_left_at}
use Rattle.session_turns.proofs.answers.answer_left.Goals as goal

pub left-init : goal.left-init
left-init g c = record {
  there = c.requires.sink;
  as_many = c.requires.as_many;
  same = refl;
  none = none_same (g.C.Clock.says.may_give c.args.clock.now) g.K.Sink.says c.args.runs.now.items c.args.sinks.now.items;
  within = λ before h. h;
  others = λ j apart. (refl, refl);
  still = λ done. (refl, refl);
}

pub left-preserved : goal.left-preserved
left-preserved g c =
    let at = c.args.at in
    let totals = c.args.totals.now in
    let was = c.left.invariant in
    let a = c.answer_party.ensures in
    let left : has_left_at (slice_get c.left.runs.items at) (slice_get totals at) ≡ true =
    ap (λ (rs : List SessionRun). has_left_at (slice_get rs at) (slice_get totals at)) (sym c.deref.ensures.value) ∙ (sym c.has_left.ensures.left ∙ c.left-test.true) in
    let more = left_more (slice_get c.left.runs.items at) (slice_get totals at) left in
    let as_many = as_many_more g.K.Sink.says totals _ _ _ _ at _ _ a was.as_many in
    let count = count_more g.K.Sink.says totals _ _ _ _ at _ _ a in
    let there = was.there in
    record {
      there = omega (arith, there, count);
      as_many = as_many;
      same = count ∙ was.same;
      none = none_then (g.C.Clock.says.may_give c.args.clock.now) g.K.Sink.says _ _ _ _ _ _ was.none (none_more (g.C.Clock.says.may_give c.args.clock.now) g.K.Sink.says _ _ _ _ at _ (λ number. refl) _ a (more.1 a.run a.at_run));
      within = λ before h. within_more g.K.Sink.says totals _ _ _ _ at _ _ a before (was.within before h) more.0;
      others = λ j apart.
          let one = others_same g.K.Sink.says totals _ _ _ _ at _ _ a j apart in
          let before = was.others j apart in
          (one.0 ∙ before.0, one.1 ∙ before.1);
      still = λ done. absurd (not_done c.args.runs.now.items c.left.runs.items totals at (was.still done).0 left done);
    }

pub left-smaller : goal.left-smaller
left-smaller g c =
    let at = c.args.at in
    let totals = c.args.totals.now in
    let left : has_left_at (slice_get c.left.runs.items at) (slice_get totals at) ≡ true =
    ap (λ (rs : List SessionRun). has_left_at (slice_get rs at) (slice_get totals at)) (sym c.deref.ensures.value) ∙ (sym c.has_left.ensures.left ∙ c.left-test.true) in
    let more = left_more (slice_get c.left.runs.items at) (slice_get totals at) left in
    fewer g.K.Sink.says totals _ _ _ _ at _ _ c.answer_party.ensures more.0

pub returns-clause-done : goal.returns-clause-done
returns-clause-done g c =
    let at = c.args.at in
    let totals = c.args.totals.now in
    none_left_at c.left.runs.items totals at
    (ap (λ (rs : List SessionRun). has_left_at (slice_get rs at) (slice_get totals at)) (sym c.deref.ensures.value) ∙ (sym c.has_left.ensures.left ∙ c.left-test.false))
