use Rattle.std.proofs.Common.{◌≡◌, List, [], true, false, refl, sym, ap, subst, ◌∙◌, arith}
use Rattle.std.specs.Prelude.{slice_get}
use Rattle.depot_rows.specs.table_store.declared.tables.Tables.{Tables}
use Rattle.lock_core.specs.Core.{IsTurn}
use Rattle.lock_core.specs.Finished.{Finishes}
use Rattle.session_turns.proofs.Committing.{counted_same, hand_more, made}
use Rattle.session_turns.proofs.Moving.{IsReached, idle_turn, moved_turn, reached, turn_from}
use Rattle.session_turns.proofs.Within.{as_many_more, has_more_here, more_there, reply_answered, within_more}
use Rattle.session_turns.proofs.turns.Turns.take_turn.Goals.{in-Ok-Ready, in-Err}
use Rattle.session_turns.proofs.turns.Turns.take_turn.Goals as goal

-- ---- its event is no commit

pub returns-in-Ok-Idle : goal.returns-in-Ok-Idle
returns-in-Ok-Idle g c = record {
  can = c.requires.can;
  turn = λ scene s r enabled.
      let did = subst (IsTurn scene.start s c.args.self.now.core c.turn.new.self c.args.party) c.in-Ok-Idle.field-0-is (c.in-Ok-Idle.ensures.turn scene.start s r.shows) in
      idle_turn _ _ _ scene s c.args.self.now r c.turn.new.self c.args.party enabled did;
  replicas = refl;
  within = (refl, λ before h. h);
  counted = counted_same refl;
}

pub returns-in-Ok-Moved : goal.returns-in-Ok-Moved
returns-in-Ok-Moved g c = record {
  can = c.requires.can;
  turn = λ scene s r enabled.
      let did = subst (IsTurn scene.start s c.args.self.now.core c.turn.new.self c.args.party) c.in-Ok-Moved.field-0-is (c.in-Ok-Moved.ensures.turn scene.start s r.shows) in
      (refl, moved_turn _ _ _ scene s c.args.self.now r c.turn.new.self c.args.party enabled did);
  replicas = refl;
  within = (refl, λ before h. h);
  counted = counted_same refl;
}

-- ---- it is one

pub returns-then-not-has_more : goal.returns-then-not-has_more
returns-then-not-has_more g c = record {
  can = c.requires.can;
  turn = λ scene s r enabled.
      let reaches : IsReached scene.start s c.args.self.now.core c.turn.new.self c.args.party c.match-turn.outcome = elim c.match-turn.branch [
        | in-Ok-Ready w ↦
            let did = subst (IsTurn scene.start s c.args.self.now.core c.turn.new.self c.args.party) w.in-Ok-Ready.field-0-is (w.in-Ok-Ready.ensures.turn scene.start s r.shows) in
            subst (IsReached scene.start s c.args.self.now.core c.turn.new.self c.args.party) (sym w.outcome-is) (record { hand = did.0; tables = did.1 })
        | in-Err w ↦ subst (IsReached scene.start s c.args.self.now.core c.turn.new.self c.args.party) (sym w.outcome-is) (record { hand = w.in-Err.ensures.commit scene.start s r.shows; tables = w.in-Err.ensures.same.0 })
      ] in
      let more = hand_more _ _ _ scene s _ (reached _ _ _ scene s c.args.self.now r c.turn.new.self reaches) c.args.party c.match-turn.outcome reaches.hand in
      let none = has_more_here c.args.party _ _ _ _ false c.deref.ensures.value c.deref-2.ensures.value c.has_more.ensures.more c.if-not-has_more.true in
      absurd (let both : true ≡ false = sym more ∙ none in cc);
  replicas = refl;
  within = (refl, λ before h. h);
  counted = counted_same refl;
}

pub answer_party-failed-requires : goal.answer_party-failed-requires
answer_party-failed-requires g c =
    let there = more_there c.args.self.now.runs.items c.args.party _ (has_more_here c.args.party _ _ _ _ _ c.deref.ensures.value c.deref-2.ensures.value c.has_more.ensures.more c.if-not-has_more.false) in
    let same = c.requires.can.1 in
    record {
      run = there;
      sink = omega (arith, there, same);
      few = λ run at_run. c.has_more.ensures.few c.if-not-has_more.false run (ap (λ (rs : List _). slice_get rs c.args.party) c.deref.ensures.value ∙ at_run);
    }

pub finish-requires : goal.finish-requires
finish-requires g c = let fits = c.archive_end.ensures.fits in omega (arith, fits)

pub returns : goal.returns
returns g c =
    let says = g.K.Sink.says in
    let at = c.args.party in
    let old = c.args.self.now in
    let place = c.place_commit-answer in
    let failed = c.answer_party-failed in
    record {
      can = (place.ensures.can, as_many_more says [] old.runs.items _ old.sinks.items _ at _ failed.result failed.ensures c.requires.can.1);
      turn = λ scene s r enabled.
          let reaches : IsReached scene.start s old.core c.turn.new.self at c.match-turn.outcome = elim c.match-turn.branch [
            | in-Ok-Ready w ↦
                let did = subst (IsTurn scene.start s old.core c.turn.new.self at) w.in-Ok-Ready.field-0-is (w.in-Ok-Ready.ensures.turn scene.start s r.shows) in
                subst (IsReached scene.start s old.core c.turn.new.self at) (sym w.outcome-is) (record { hand = did.0; tables = did.1 })
            | in-Err w ↦ subst (IsReached scene.start s old.core c.turn.new.self at) (sym w.outcome-is) (record { hand = w.in-Err.ensures.commit scene.start s r.shows; tables = w.in-Err.ensures.same.0 })
          ] in
          let taken = made _ says _ scene s _ (reached _ _ _ scene s old r c.turn.new.self reaches) at c.finish.new.self _ failed.result c.match-turn.outcome place.result reaches.hand
          (λ request due. place.ensures.placed scene.since scene.start _ s request r.ran due) place.ensures.behind place.ensures.unplaced (subst (Finishes c.turn.new.self c.finish.new.self at) c.how_of.ensures c.finish.ensures.finishes)
          (reply_answered says at place.result c.reply_in.result old.runs.items _ old.sinks.items _ failed.result c.reply_in.ensures failed.ensures)
          c.stop_if.ensures.tables (c.finish.ensures.end ∙ (c.archive_end.ensures.end ∙ ap (λ (t : Tables). t.archive_end) c.tables.ensures)) (λ t shows. c.stop_if.ensures.shows scene.start t shows) refl in
          (refl, turn_from _ _ _ scene s old r c.turn.new.self at _ taken);
      replicas = refl;
      within = (
        refl,
        λ before h. within_more says old.totals.items old.runs.items _ old.sinks.items _ at _ failed.result failed.ensures before h
            (has_more_here at _ _ _ _ _ c.deref.ensures.value c.deref-2.ensures.value c.has_more.ensures.more c.if-not-has_more.false),
      );
      counted = place.ensures.counted;
    }
