use Rattle.std.proofs.Common.{◌≡◌, ◌<◌, ◌+◌, List, [], ◌∷◌, ◌++◌, length, take, set, sym, subst, ◌∙◌, ap, arith, length-take}
use Rattle.std.proofs.lemmas.List.{take_more, take_more_set}
use Rattle.outside_api.specs.Moments.{started}
use Rattle.db_records.specs.declared.change.Change.{Change}
use Rattle.disk_journal.specs.Images.{HasCommitted}
use Rattle.journal_runs.specs.declared.landing.Landing.{Landing}
use Rattle.journal_runs.specs.Runs.{after}
use Rattle.journal_runs.proofs.Prefixes.{Progress, started_run, one_more, all_of, caused_more}
use Rattle.journal_runs.proofs.runs.commit_all.Goals as goal

pub loop-place-init : goal.loop-place-init
loop-place-init g c = record {
  never_falls = omega arith;
  cause = λ k lt. absurd (omega (arith, lt));
  so_far = λ was stands.
      started_run g.D.Disk.says c.args.journal.now was stands
      (started g.D.Disk.says c.args.journal.now.disk (HasCommitted was) (λ f left. stands.holds f (g.met.D.Disk.only_now c.args.journal.now.disk f left)));
}

pub commit_changes-requires : goal.commit_changes-requires
commit_changes-requires g c =
    let was = c.requires.stands.0 in
    let so_far = c.loop-place.invariant.so_far was c.requires.stands.1 in
    (after was (take c.loop-place.place c.args.batch.now) (take c.loop-place.place c.loop-place.landings), (so_far.doubt, so_far.stands))

pub loop-place-preserved : goal.loop-place-preserved
loop-place-preserved g c =
    let i = c.loop-place.place in
    let changes = c.as_slice.result.now in
    let landing = c.commit_changes.result in
    let batch = take i c.args.batch.now in
    let landings = take i c.loop-place.landings in
    let within : i < length c.loop-place.landings = omega (arith, c.loop-place.auto.landings, c.requires.room, c.loop-place-test.true) in
    let long : length batch ≡ length landings = omega (arith, length-take i c.args.batch.now, length-take i c.loop-place.landings, within, c.loop-place-test.true) in
    let grown : take (i + 1) c.args.batch.now ≡ batch ++ changes ∷ [] = take_more c.args.batch.now i c.index-batch-place.result c.loop-place-test.true ∙ ap (λ (l : List Change). batch ++ l ∷ []) (sym (c.as_slice.ensures ∙ c.index-batch-place.is)) in
    let filled : take (i + 1) (set c.loop-place.landings i landing) ≡ landings ++ landing ∷ [] = take_more_set c.loop-place.landings i landing within in
    record {
      never_falls = omega (arith, c.loop-place.invariant.never_falls, c.commit_changes.ensures.never_falls);
      cause = caused_more (g.D.Disk.says.faults c.args.journal.now.disk) (g.D.Disk.says.faults c.loop-place.journal.disk) (g.D.Disk.says.faults c.commit_changes.new.journal.disk) c.loop-place.landings i landing c.loop-place.invariant.never_falls c.commit_changes.ensures.never_falls within c.loop-place.invariant.cause c.commit_changes.ensures.cause;
      so_far = λ was stands.
          let so_far = c.loop-place.invariant.so_far was stands in
          let now = after was batch landings in
          let next = one_more g.D.Disk.says c.args.journal.now c.loop-place.journal c.commit_changes.new.journal batch landings was changes landing long so_far (c.commit_changes.ensures.stands now so_far.doubt so_far.stands) (c.commit_changes.ensures.any_moment now so_far.doubt so_far.stands) in
          subst (λ (b : List (List Change)). Progress g.D.Disk.says c.args.journal.now c.commit_changes.new.journal b (take (i + 1) (set c.loop-place.landings i landing)) was) (sym grown)
          (subst (λ (l : List Landing). Progress g.D.Disk.says c.args.journal.now c.commit_changes.new.journal (batch ++ changes ∷ []) l was) (sym filled) next);
    }

pub returns-clause-stands : goal.returns-clause-stands
returns-clause-stands g c = λ was stands.
    let all = all_of g.D.Disk.says c.args.journal.now c.loop-place.journal c.loop-place.place c.args.batch.now c.loop-place.landings was c.loop-place-test.false (omega (arith, c.loop-place.auto.landings, c.requires.room, c.loop-place-test.false)) (c.loop-place.invariant.so_far was stands) in
    (all.doubt, all.stands)

pub returns-clause-any_moment : goal.returns-clause-any_moment
returns-clause-any_moment g c = λ was stands.
    let all = all_of g.D.Disk.says c.args.journal.now c.loop-place.journal c.loop-place.place c.args.batch.now c.loop-place.landings was c.loop-place-test.false (omega (arith, c.loop-place.auto.landings, c.requires.room, c.loop-place-test.false)) (c.loop-place.invariant.so_far was stands) in
    all.any_moment

pub returns-clause-cause : goal.returns-clause-cause
returns-clause-cause g c = λ k lt. c.loop-place.invariant.cause k (omega (arith, lt, c.loop-place.auto.landings, c.requires.room, c.loop-place-test.false))
