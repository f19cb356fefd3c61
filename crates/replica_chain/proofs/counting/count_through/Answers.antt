use Rattle.std.proofs.Common.{◌≡◌, [], ◌∙◌, ap, arith, get_or, refl, take}
use Rattle.disk_journal.specs.Stands.{disk_of}
use Rattle.replica_chain.specs.Chronicle.{generations_of, texts_of}
use Rattle.replica_chain.proofs.Counts.{bytes_in, bytes_in_more, counted_journal, groups_at, groups_in, groups_in_more, last_within, newest_groups, newest_text, older_text}
use Rattle.replica_chain.proofs.Told.{kept_texts, looked_on, not_looked}
use Rattle.replica_chain.proofs.counting.count_through.Goals as goal

pub loop-generation-init : goal.loop-generation-init
loop-generation-init g c = record {
  counted = λ chronicle told is are. (refl, refl);
  few = omega arith;
  short = omega arith;
  looked = not_looked g.D.Disk.says c.args.journal.now (g.met.D.Disk.only_now (disk_of c.args.journal.now));
  faults = omega arith;
  room = c.requires.room;
}

pub loop-generation-preserved : goal.loop-generation-preserved
loop-generation-preserved g c =
    let so_far = c.loop-generation.invariant in
    let generation = c.loop-generation.generation in
    record {
      counted = λ chronicle told is are.
          let last = c.generation-last.ensures ∙ is in
          let below = c.loop-generation-test.true in
          let within = last_within chronicle c.generation-last.result last generation below in
          let before = so_far.counted chronicle told is are in
          let more = c.in_ok-more.ensures.counted (texts_of chronicle) (get_or (generations_of chronicle) generation [])
          (kept_texts g.D.Disk.says c.args.journal.now c.loop-generation.journal so_far.looked (texts_of chronicle) told) (older_text chronicle c.generation-last.result last generation below) (groups_at (generations_of chronicle) generation are) in
          let groups = groups_in_more (generations_of chronicle) generation within in
          let bytes = bytes_in_more (generations_of chronicle) generation within in
          let added = c.in_ok-before.ensures in
          (omega (arith, before.0, more.0, groups, added.0), omega (arith, before.1, more.1, bytes, added.1));
      few = c.in_ok-before.before.few;
      short = c.in_ok-before.before.short;
      looked = looked_on g.D.Disk.says c.args.journal.now c.loop-generation.journal c.count_generation.new.journal so_far.looked c.count_generation.ensures.looked;
      faults = omega (arith, so_far.faults, c.count_generation.ensures.cause.never_falls);
      room = omega (arith, so_far.room);
    }

pub returns-clause-counted : goal.returns-clause-counted
returns-clause-counted g c = λ chronicle told is are.
    let so_far = c.loop-generation.invariant in
    let last = c.generation-last.result in
    let same = c.generation-last.ensures ∙ is in
    let ended : c.loop-generation.generation ≡ last = omega (arith, c.loop-generation-test.false, c.loop-generation.auto.generation-end) in
    let before = so_far.counted chronicle told is are in
    let newest = c.in_ok-newest.ensures.counted (texts_of chronicle) chronicle.newest
    (kept_texts g.D.Disk.says c.args.journal.now c.loop-generation.journal so_far.looked (texts_of chronicle) told) (newest_text chronicle last same) (newest_groups chronicle last same are) in
    counted_journal chronicle last same c.loop-generation.before.0 c.loop-generation.before.1.0 c.in_ok-newest.newest.groups c.in_ok-newest.newest.bytes
    (before.0 ∙ ap (λ n. groups_in (take n (generations_of chronicle))) ended) (before.1 ∙ ap (λ n. bytes_in (take n (generations_of chronicle))) ended) newest.0 newest.1

pub returns-in_err-more-clause-looked : goal.returns-in_err-more-clause-looked
returns-in_err-more-clause-looked g c = looked_on g.D.Disk.says c.args.journal.now c.loop-generation.journal c.count_generation.new.journal c.loop-generation.invariant.looked c.count_generation.ensures.looked

pub returns-in_err-before-clause-looked : goal.returns-in_err-before-clause-looked
returns-in_err-before-clause-looked g c = looked_on g.D.Disk.says c.args.journal.now c.loop-generation.journal c.count_generation.new.journal c.loop-generation.invariant.looked c.count_generation.ensures.looked

pub returns-in_err-newest-clause-looked : goal.returns-in_err-newest-clause-looked
returns-in_err-newest-clause-looked g c = looked_on g.D.Disk.says c.args.journal.now c.loop-generation.journal c.count_generation-2.new.journal c.loop-generation.invariant.looked c.count_generation-2.ensures.looked

pub returns-in_err-counted_on-clause-looked : goal.returns-in_err-counted_on-clause-looked
returns-in_err-counted_on-clause-looked g c = looked_on g.D.Disk.says c.args.journal.now c.loop-generation.journal c.count_generation-2.new.journal c.loop-generation.invariant.looked c.count_generation-2.ensures.looked

pub returns-clause-looked : goal.returns-clause-looked
returns-clause-looked g c = looked_on g.D.Disk.says c.args.journal.now c.loop-generation.journal c.count_generation-2.new.journal c.loop-generation.invariant.looked c.count_generation-2.ensures.looked

pub invariant_of-before : goal.invariant_of-before
invariant_of-before g c = record { few = c.loop-generation.invariant.few; short = c.loop-generation.invariant.short }

pub invariant_of-before-2 : goal.invariant_of-before-2
invariant_of-before-2 g c = record { few = c.loop-generation.invariant.few; short = c.loop-generation.invariant.short }
