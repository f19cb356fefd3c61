use Rattle.std.proofs.Common.{◌<◌, ◌≤◌, ℕ, List, length, length-take, take, Option, arith, subst, sym}
use Rattle.std.specs.Prelude.{IfSome}
use Rattle.outside_api.specs.Link.{text_of}
use Rattle.disk_journal.specs.Stands.{disk_of}
use Rattle.replica_chain.specs.Counting.{HasCounted, IsFound}
use Rattle.replica_chain.specs.Ends.{HasTexts}
use Rattle.replica_chain.proofs.Counts.{counted_piece, counted_text}
use Rattle.replica_chain.proofs.Told.{kept_texts, looked_on, not_looked}
use Rattle.replica_chain.proofs.counting.count_generation.Goals as goal

pub loop-counter-init : goal.loop-counter-init
loop-counter-init g c =
    let new = c.new-counter.ensures in
    record {
      counted = λ texts told. subst (λ (n : ℕ). HasCounted (take n (text_of texts c.args.generation)) c.new-counter.result.reader c.new-counter.result.groups) (sym new.bytes) new.counted;
      within = λ texts told. subst (λ (n : ℕ). n ≤ length (text_of texts c.args.generation)) (sym new.bytes) (omega arith);
      none = new.none;
      scanned = λ files read. c.nothing-scanned.ensures _;
      looked = not_looked g.D.Disk.says c.args.journal.now (g.met.D.Disk.only_now (disk_of c.args.journal.now));
      faults = omega arith;
      room = c.requires.room;
    }

pub loop-counter-smaller : goal.loop-counter-smaller
loop-counter-smaller g c =
    let some = subst (λ (found : Option ℕ). IfSome found (λ n. (0 < n) × (n ≤ length c.fetch_some.new.buffer))) c.in-Some.is c.in_ok-count.ensures.some in
    omega (arith, c.in_ok-take.ensures.bytes, some.0, some.1, length-take c.in-Some.count c.fetch_some.new.buffer, c.take.new.self.short)

pub loop-counter-preserved : goal.loop-counter-preserved
loop-counter-preserved g c =
    let so_far = c.loop-counter.invariant in
    let buffer = c.fetch_some.new.buffer in
    let at = c.loop-counter.counter.bytes in
    let some = subst (λ (found : Option ℕ). IfSome found (λ n. (0 < n) × (n ≤ length buffer))) c.in-Some.is c.in_ok-count.ensures.some in
    let both : (texts : List (List ℕ)) → HasTexts g.D.Disk.says c.args.journal.now texts
    → HasCounted (take c.take.new.self.bytes (text_of texts c.args.generation)) c.take.new.self.reader c.take.new.self.groups × (c.take.new.self.bytes ≤ length (text_of texts c.args.generation)) =
    λ texts told.
    let found = subst (IsFound (text_of texts c.args.generation) at buffer) c.in-Some.is (c.in_ok-count.ensures.told texts (kept_texts g.D.Disk.says c.args.journal.now c.loop-counter.journal so_far.looked texts told) so_far.scanned) in
    counted_piece (text_of texts c.args.generation) buffer at c.in-Some.count c.take.new.self.bytes c.take.new.self.reader c.take.new.self.groups some.1 found.0 found.1 (so_far.within texts told) c.in_ok-take.ensures.bytes
    (c.in_ok-take.ensures.counted (take at (text_of texts c.args.generation)) (so_far.counted texts told)) in
    record {
      counted = λ texts told. (both texts told).0;
      within = λ texts told. (both texts told).1;
      none = c.in_ok-take.ensures.none;
      scanned = c.fetch_some.ensures.scanned so_far.scanned;
      looked = looked_on g.D.Disk.says c.args.journal.now c.loop-counter.journal c.fetch_some.new.journal so_far.looked c.fetch_some.ensures.looked;
      faults = omega (arith, so_far.faults, c.fetch_some.ensures.cause.never_falls);
      room = omega (arith, some.0, some.1);
    }

pub returns-clause-counted : goal.returns-clause-counted
returns-clause-counted g c = λ texts groups told is are.
    let so_far = c.loop-counter.invariant in
    let counter = c.loop-counter.counter in
    let ends = subst (IsFound (text_of texts c.args.generation) counter.bytes c.fetch_some.new.buffer) c.in_default.is (c.in_ok-count.ensures.told texts (kept_texts g.D.Disk.says c.args.journal.now c.loop-counter.journal so_far.looked texts told) so_far.scanned) in
    counted_text (text_of texts c.args.generation) groups counter.reader counter.groups counter.bytes is are so_far.none (so_far.counted texts told) (so_far.within texts told) ends

pub returns-in_err-count-clause-looked : goal.returns-in_err-count-clause-looked
returns-in_err-count-clause-looked g c = looked_on g.D.Disk.says c.args.journal.now c.loop-counter.journal c.fetch_some.new.journal c.loop-counter.invariant.looked c.fetch_some.ensures.looked

pub returns-in_err-take-clause-looked : goal.returns-in_err-take-clause-looked
returns-in_err-take-clause-looked g c = looked_on g.D.Disk.says c.args.journal.now c.loop-counter.journal c.fetch_some.new.journal c.loop-counter.invariant.looked c.fetch_some.ensures.looked

pub returns-clause-looked : goal.returns-clause-looked
returns-clause-looked g c = looked_on g.D.Disk.says c.args.journal.now c.loop-counter.journal c.fetch_some.new.journal c.loop-counter.invariant.looked c.fetch_some.ensures.looked
