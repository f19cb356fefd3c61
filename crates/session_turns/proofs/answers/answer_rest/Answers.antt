use Rattle.std.proofs.Common.{◌≢◌, ℕ, refl, sym, subst, ◌∙◌, arith, inl, inr}
use Rattle.std.proofs.lemmas.Option.{slice_get_within}
use Rattle.lock_machine.proofs.Places.{one_or_apart}
use Rattle.session_turns.proofs.Within.{done_same, none_same, none_then}
use Rattle.session_turns.specs.Answering.{IsDoneAt, IsSameAt}
use Rattle.session_turns.proofs.answers.answer_rest.Goals as goal

pub loop-at-init : goal.loop-at-init
loop-at-init g c = record {
  as_many = c.requires.as_many;
  same = refl;
  none = none_same (g.C.Clock.says.may_give c.args.clock.now) g.K.Sink.says c.args.runs.now.items c.args.sinks.now.items;
  within = λ before h. h;
  still = λ i done. (refl, refl);
  done = λ j lt. absurd (omega (arith, lt));
}

pub loop-at-preserved : goal.loop-at-preserved
loop-at-preserved g c =
    let was = c.loop-at.invariant in
    let next = c.answer_left.ensures in
    let at = c.loop-at.at in
    record {
      as_many = next.as_many;
      same = next.count ∙ was.same;
      none = none_then (g.C.Clock.says.may_give c.args.clock.now) g.K.Sink.says _ _ _ _ _ _ was.none next.none;
      within = λ before h. next.within before (was.within before h);
      still = λ i done.
          let before = was.still i done in
          elim (one_or_apart i at) [
            | inl same ↦
                let Same : ℕ → Type 0 = λ k. IsSameAt k c.loop-at.runs.items c.answer_left.new.runs.items c.loop-at.sinks.items c.answer_left.new.sinks.items in
                let Done : ℕ → Type 0 = IsDoneAt c.loop-at.runs.items c.args.totals.now in
                let next_same : Same i = subst Same (sym same) (next.same (subst Done same (done_same c.args.runs.now.items c.loop-at.runs.items c.args.totals.now i before.0 done))) in
                (next_same.0 ∙ before.0, next_same.1 ∙ before.1)
            | inr apart ↦ let one = next.others i apart in (one.0 ∙ before.0, one.1 ∙ before.1)
          ];
      done = λ j lt.
          elim (one_or_apart at j) [
            | inl same ↦ let P : ℕ → Type 0 = IsDoneAt c.answer_left.new.runs.items c.args.totals.now in subst P same next.done
            | inr apart ↦ λ run total at_run at_total whole. was.done j (let other : at ≢ j = apart in omega (arith, lt, other)) run total (sym (next.others j (λ e. apart (sym e))).0 ∙ at_run) at_total whole
          ];
    }

pub returns-clause-done : goal.returns-clause-done
returns-clause-done g c = λ i run total at_run at_total whole.
    let was = c.loop-at.invariant in
    let within = slice_get_within c.loop-at.runs.items i run at_run in
    let as_many = was.as_many in
    let same = was.same in
    was.done i (omega (arith, within, as_many, same)) run total at_run at_total whole

pub returns-clause-same : goal.returns-clause-same
returns-clause-same g c = c.loop-at.invariant.still
