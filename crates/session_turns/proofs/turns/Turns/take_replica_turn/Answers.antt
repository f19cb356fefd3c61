use Rattle.std.proofs.Common.{◌≡◌, List, [], true, false, refl, sym, ap, ◌∙◌, arith, inl}
use Rattle.std.specs.Prelude.{get_or, slice_get, slice_set}
use Rattle.run_parties.specs.Giving.{text_of}
use Rattle.session_loop.proofs.Faults.{caused_same}
use Rattle.session_turns.proofs.Advancing.{replica_advances, replica_here}
use Rattle.session_turns.proofs.Losing.{untold_same}
use Rattle.session_turns.proofs.Within.{as_many_more, has_more_here, more_there, within_more}
use Rattle.session_turns.specs.Drawn.{left_after_turn}
use Rattle.session_turns.proofs.turns.Turns.take_replica_turn.Goals as goal

pub answer_party-failed-requires-clause-run : goal.answer_party-failed-requires-clause-run
answer_party-failed-requires-clause-run g c =
    more_there c.args.self.now.runs.items c.args.party _ (has_more_here c.args.party _ _ _ _ _ c.deref.ensures.value c.deref-2.ensures.value c.has_more.ensures.more c.if-not-has_more.false)

pub answer_party-failed-requires-clause-sink : goal.answer_party-failed-requires-clause-sink
answer_party-failed-requires-clause-sink g c =
    let there = more_there c.args.self.now.runs.items c.args.party _ (has_more_here c.args.party _ _ _ _ _ c.deref.ensures.value c.deref-2.ensures.value c.has_more.ensures.more c.if-not-has_more.false) in
    let same = c.requires.can.1 in
    omega (arith, there, same)

pub answer_party-failed-requires-clause-few : goal.answer_party-failed-requires-clause-few
answer_party-failed-requires-clause-few g c = λ run at_run.
    c.has_more.ensures.few c.if-not-has_more.false run (ap (λ (rs : List _). slice_get rs c.args.party) c.deref.ensures.value ∙ at_run)

pub returns-then-not-has_more-clause-turn : goal.returns-then-not-has_more-clause-turn
returns-then-not-has_more-clause-turn g c = λ scene p r has.
    let here = replica_here _ _ _ scene p c.args.self.now r c.args.party has in
    let none = has_more_here c.args.party _ _ _ _ false c.deref.ensures.value c.deref-2.ensures.value c.has_more.ensures.more c.if-not-has_more.true in
    absurd (let both : true ≡ false = sym here.more ∙ none in cc)

pub returns-then-not-has_more-clause-within : goal.returns-then-not-has_more-clause-within
returns-then-not-has_more-clause-within g c = (refl, λ before h. h)

pub returns-then-not-has_more-clause-faults : goal.returns-then-not-has_more-clause-faults
returns-then-not-has_more-clause-faults g c = let order = c.args.self.now.order.items in caused_same _ _ _ _ order order refl (omega arith) (omega arith)

pub returns-then-not-has_more-clause-told : goal.returns-then-not-has_more-clause-told
returns-then-not-has_more-clause-told g c = untold_same _ _ _ c.args.self.now.order.items

pub returns-then-not-has_more-clause-lost : goal.returns-then-not-has_more-clause-lost
returns-then-not-has_more-clause-lost g c = λ is. inl is

pub returns-clause-can : goal.returns-clause-can
returns-clause-can g c = (
  c.reply-reply.ensures.can,
  as_many_more g.K.Sink.says [] c.args.self.now.runs.items _ c.args.self.now.sinks.items _ c.args.party _ c.answer_party-failed.result c.answer_party-failed.ensures c.requires.can.1,
)

pub returns-clause-turn : goal.returns-clause-turn
returns-clause-turn g c = λ scene p r has.
    let old = c.args.self.now in
    let here = replica_here _ _ _ scene p old r c.args.party has in
    let reply = c.reply-reply.ensures in (
      refl,
      replica_advances _ g.K.Sink.says _ scene p old
          (record old { replicas = c.count_turn.new.self; runs = c.answer_party-failed.new.runs; sinks = c.answer_party-failed.new.sinks; depot = c.reply-reply.new.depot }) r c.args.party here has (record {
            mid = c.reply-reply.new.self;
            text = text_of c.reply-reply.result;
            failed = c.answer_party-failed.result;
            stepped = reply.stepped here.left.p here.left.at_party here.party_left;
            parties = ap (λ v. v.items) c.count_turn.ensures.parties;
            lost = c.count_turn.ensures.lost;
            others = c.count_turn.ensures.others ∙ ap (λ v. slice_set v.items c.args.party (left_after_turn (get_or v.items c.args.party 0) c.answer_party-failed.result)) reply.others;
            answered = c.answer_party-failed.ensures;
            tables = reply.tables;
            core = refl;
            totals = refl;
            order = refl;
          }) (λ places ran. reply.ran scene.since scene.start places ran) g.met.D.Disk.reads_an_image reply.groups reply.stored c.requires.can.0,
    )

pub returns-clause-within : goal.returns-clause-within
returns-clause-within g c =
    let old = c.args.self.now in
    let at = c.args.party in (
      refl,
      λ before h.
          within_more g.K.Sink.says old.totals.items old.runs.items _ old.sinks.items _ at _ c.answer_party-failed.result c.answer_party-failed.ensures before h
          (has_more_here at _ _ _ _ _ c.deref.ensures.value c.deref-2.ensures.value c.has_more.ensures.more c.if-not-has_more.false),
    )

pub returns-clause-faults : goal.returns-clause-faults
returns-clause-faults g c = let order = c.args.self.now.order.items in caused_same _ _ _ _ order order refl c.reply-reply.ensures.never_falls c.reply-reply.ensures.never_falls_contents

pub returns-clause-told : goal.returns-clause-told
returns-clause-told g c = record {
  before_too = λ none. (c.reply-reply.ensures.told (sym c.count_turn.ensures.lost ∙ none)).0;
  stand = λ none same. let stood = (c.reply-reply.ensures.told (sym c.count_turn.ensures.lost ∙ none)).1 in (stood.journal, stood.archive);
}

pub returns-clause-lost : goal.returns-clause-lost
returns-clause-lost g c = λ is. c.reply-reply.ensures.lost (sym c.count_turn.ensures.lost ∙ is)
