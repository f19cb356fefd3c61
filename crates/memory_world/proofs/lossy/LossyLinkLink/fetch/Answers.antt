use Rattle.std.proofs.Common.{◌≡◌, ◌∙◌, ◌++◌, List, ℕ, length, drop, max, Some, subst, sym, ap, arith, rules, length-take}
use Rattle.std.specs.Prelude.{slice_get}
use Rattle.memory_world.specs.declared.link.MemoryLink.{MemoryLink}
use Rattle.outside_api.specs.Link.{IsEarlier, Answers, Fits}
use Rattle.memory_world.specs.declared.lossy.Loss.TheVariants.{Short}
use Rattle.memory_world.specs.Link.{journal_of, journal_then}
use Rattle.memory_world.specs.Lossy.{lossy_journal, losses_left}
use Rattle.memory_world.proofs.Journals.{grows_none, earlier_then}
use Rattle.memory_world.proofs.Losses.{fits_more, answers_front, passes_short}
use Rattle.memory_world.proofs.lossy.LossyLinkLink.fetch.Goals as goal

pub returns-then-call_fails-clause-grows : goal.returns-then-call_fails-clause-grows
returns-then-call_fails-clause-grows c = λ before is.
    grows_none c.args.self.now.inner.texts.items c.next_loss-loss.new.self.inner.texts.items before (ap (λ (l : MemoryLink). l.texts.items) c.next_loss-loss.ensures.inner) is

pub returns-in-Some-Fail-clause-grows : goal.returns-in-Some-Fail-clause-grows
returns-in-Some-Fail-clause-grows c = λ before is.
    grows_none c.args.self.now.inner.texts.items c.next_loss-loss.new.self.inner.texts.items before (ap (λ (l : MemoryLink). l.texts.items) c.next_loss-loss.ensures.inner) is

pub returns-in-Some-Short-clause-grows : goal.returns-in-Some-Short-clause-grows
returns-in-Some-Short-clause-grows c = λ before is.
    grows_none c.args.self.now.inner.texts.items c.next_loss-loss.new.self.inner.texts.items before (ap (λ (l : MemoryLink). l.texts.items) c.next_loss-loss.ensures.inner) is

pub returns-in-Some-Old-clause-grows : goal.returns-in-Some-Old-clause-grows
returns-in-Some-Old-clause-grows c = λ before is.
    grows_none c.args.self.now.inner.texts.items c.next_loss-loss.new.self.inner.texts.items before (ap (λ (l : MemoryLink). l.texts.items) c.next_loss-loss.ensures.inner) is

pub returns-in-Some-Short-clause-answer : goal.returns-in-Some-Short-clause-answer
returns-in-Some-Short-clause-answer c = λ now is.
    let texts = c.next_loss-loss.new.self.inner.texts.items in
    let moment = c.now-in-Some-Short.result in
    let earlier = earlier_then texts moment.newest moment.bytes c.now-in-Some-Short.ensures.newest in
    let front = c.answer-in-Some-Short.new.buffer in
    let rest = drop c.min-most.result c.args.buffer.now in
    let fits : Fits c.answer-in-Some-Short.result (length front) = fits_more c.answer-in-Some-Short.result _ (length front) (omega (arith, c.answer-in-Some-Short.auto.buffer)) c.answer-in-Some-Short.ensures.fits in (
      journal_then texts moment.newest moment.bytes,
      subst (λ (j : List (List ℕ)). IsEarlier (journal_then texts moment.newest moment.bytes) j) (sym is) earlier,
      answers_front (journal_then texts moment.newest moment.bytes) c.args.generation c.args.at c.answer-in-Some-Short.result front rest fits c.answer-in-Some-Short.ensures.answer,
    )

pub returns-in-Some-Short-clause-loss : goal.returns-in-Some-Short-clause-loss
returns-in-Some-Short-clause-loss c =
    let texts = c.next_loss-loss.new.self.inner.texts.items in
    let fetched = c.answer-in-Some-Short.result in
    let front = c.answer-in-Some-Short.new.buffer in
    let rest = drop c.min-most.result c.args.buffer.now in
    let fits : Fits fetched (length front) = fits_more fetched _ (length front) (omega (arith, c.answer-in-Some-Short.auto.buffer)) c.answer-in-Some-Short.ensures.fits in
    let few : Fits fetched (max 1 c.in-Some-Short.most) = fits_more fetched _ _ (omega (arith, c.min-most.ensures, c.max.ensures, length-take c.min-most.result c.args.buffer.now)) c.answer-in-Some-Short.ensures.fits in
    let whole = c.now-in-Some-Short.ensures.whole ∙ ap (λ (l : MemoryLink). journal_of l.texts.items) c.next_loss-loss.ensures.inner in
    let answers = subst (λ (j : List (List ℕ)). Answers j c.args.generation c.args.at fetched (front ++ rest)) whole
    (answers_front _ c.args.generation c.args.at fetched front rest fits c.answer-in-Some-Short.ensures.answer) in
    let losses = losses_left c.args.self.now in
    let short : c.next_loss-loss.result ≡ Some (Short c.in-Some-Short.most) = search rules in
    let first : slice_get losses 0 ≡ Some (Short c.in-Some-Short.most) = sym c.next_loss-loss.ensures.loss ∙ short in
    passes_short losses c.in-Some-Short.most (lossy_journal c.args.self.now) c.args.generation c.args.at fetched (front ++ rest) first answers few
