use Rattle.std.proofs.Common.{◌≡◌, ℕ, ◌<◌, List, length, get_or, Some, ap, ◌∙◌, arith}
use Rattle.std.specs.Prelude.{slice_get, option_map}
use Rattle.std.specs.Borrow.{Bor}
use Rattle.std.proofs.lemmas.Option.{slice_get-get_or, slice_get-map}
use Rattle.std.proofs.lemmas.List.{length-map}
use Rattle.program_words.specs.Words.{words_of}
use Rattle.p4_server.proofs.Coming.{firsts_none, firsts_more, only_more, have_come}
use Rattle.p4_server.proofs.party.open_doors.Goals as goal

-- the name at a place
name_at : (names : List (Bor (List ℕ))) (i : ℕ) (d : Bor (List ℕ)) → i < length names → slice_get (words_of names) i ≡ Some (get_or names i d).now
name_at names i d lt = slice_get-map (λ (word : Bor (List ℕ)). word.now) names i ∙ ap (option_map (λ (word : Bor (List ℕ)). word.now)) (slice_get-get_or names i d lt)

pub loop-name-init : goal.loop-name-init
loop-name-init g c = record {
  firsts = rw (c.new.ensures.items, c.new-2.ensures.items) (firsts_none _ _ _ _ _);
  counts = omega arith;
}

pub returns-in-Err-clause-only : goal.returns-in-Err-clause-only
returns-in-Err-clause-only g c =
    let at = c.loop-name in
    only_more _ _ _ _ _ _ _ at.name-index _ (name_at c.args.names.now at.name-index _ c.loop-name-test.true) c.come.ensures.other_inputs c.come.ensures.other_outputs at.invariant.firsts.only

pub returns-in-Err-clause-cause : goal.returns-in-Err-clause-cause
returns-in-Err-clause-cause g c = λ is. omega (arith, c.loop-name.invariant.counts, c.come.ensures.cause.never_falls, c.in-Err.ensures.cause.risen)

pub returns-in-Err-add_pair-clause-only : goal.returns-in-Err-add_pair-clause-only
returns-in-Err-add_pair-clause-only g c =
    let at = c.loop-name in
    only_more _ _ _ _ _ _ _ at.name-index _ (name_at c.args.names.now at.name-index _ c.loop-name-test.true) c.come.ensures.other_inputs c.come.ensures.other_outputs at.invariant.firsts.only

pub loop-name-preserved : goal.loop-name-preserved
loop-name-preserved g c =
    let at = c.loop-name in
    let came = c.in-Ok.ensures in
    record {
      firsts = rw (c.in-Ok-add_pair.ensures.sources, c.in-Ok-add_pair.ensures.sinks)
          (firsts_more _ _ _ _ _ _ _ _ _ at.name-index _ (name_at c.args.names.now at.name-index _ c.loop-name-test.true) came.other_inputs came.other_outputs _ _ _ _
          c.requires.different at.invariant.firsts came.source came.sink came.new_source came.new_sink);
      counts = omega (arith, at.invariant.counts, c.come.ensures.cause.never_falls);
    }

pub returns-clause-came : goal.returns-clause-came
returns-clause-came g c =
    let at = c.loop-name in
    let same = length-map c.args.names.now (λ (word : Bor (List ℕ)). word.now) in
    let whole : at.name-index ≡ length (words_of c.args.names.now) = omega (arith, same, c.loop-name-test.false, at.auto.name-index-end) in
    have_come _ _ _ _ _ _ _ at.name-index _ _ whole at.invariant.firsts

pub returns-clause-only : goal.returns-clause-only
returns-clause-only g c = c.loop-name.invariant.firsts.only
