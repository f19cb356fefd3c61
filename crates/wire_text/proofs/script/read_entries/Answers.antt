use Rattle.std.proofs.Common.{◌≤◌, ◌+◌, ◌++◌, List, length, Option, Some, None, ap, arith}
use Rattle.std.specs.Option.{option_to_list}
use Rattle.std.proofs.lemmas.List.{length_push, append-nil}
use Rattle.wire_text.proofs.Scripts.{goes_none, goes_then, entries_end, entries_break, number_most}
use Rattle.wire_text.proofs.Short.{goes_short}
use Rattle.wire_text.proofs.script.read_entries.Goals as goal

-- an entry more, or none
one_more : {X : Type 0} (xs : List X) (x : Option X) → length (xs ++ option_to_list x) ≤ length xs + 1
one_more xs None = let same = ap length (append-nil xs) in omega arith
one_more xs (Some x) = let longer = length_push xs x in omega arith

pub loop-input-init : goal.loop-input-init
loop-input-init g c =
    rw c.new-entries.ensures (record {
      goes = goes_none _ _ _;
      number = omega (arith, c.requires.some);
      few = c.requires.some;
      most = c.requires.most;
      counts = omega arith;
    })

pub returns-in-Ended-clause-read : goal.returns-in-Ended-clause-read
returns-in-Ended-clause-read g c =
    rw c.end_of.ensures (entries_end _ _ _ _ _ _ _ _ _ _ c.in-Ended.fault c.loop-input.invariant.goes (rw c.in-Ended.is at c.in_ok-entry.ensures.part))

pub returns-in-Failed-clause-read : goal.returns-in-Failed-clause-read
returns-in-Failed-clause-read g c =
    entries_break _ _ _ _ _ _ _ _ _ _ _ c.loop-input.invariant.counts c.loop-input.invariant.goes (rw c.in-Failed.is at c.in_ok-entry.ensures.part)

pub returns-in-Ended-clause-few : goal.returns-in-Ended-clause-few
returns-in-Ended-clause-few g c = omega (arith, c.loop-input.invariant.few, c.loop-input.invariant.most)

pub returns-in-Failed-clause-few : goal.returns-in-Failed-clause-few
returns-in-Failed-clause-few g c = omega (arith, c.loop-input.invariant.few, c.loop-input.invariant.most)

pub loop-input-preserved : goal.loop-input-preserved
loop-input-preserved g c =
    let k = rw c.in-Read.is at c.in_ok-entry.ensures.part in
    record {
      goes = rw (c.in_ok-number-in-Read.ensures.number, c.in_ok-number-in-Read.ensures.entries) (goes_then _ _ _ _ _ _ _ _ _ _ _ c.loop-input.invariant.goes k.2);
      number = omega (arith, c.in_ok-number-in-Read.ensures.number, number_most c.loop-input.number c.in-Read.entry, c.loop-input.invariant.number, k.0);
      few =
          let grows = one_more c.loop-input.entries c.in-Read.entry in
          let is = ap length c.in_ok-number-in-Read.ensures.entries in
          omega (arith, c.loop-input.invariant.few, k.0);
      most = k.1;
      counts = omega (arith, c.loop-input.invariant.counts, c.in_ok-entry.ensures.counts);
    }

pub returns-in-Ended-clause-short : goal.returns-in-Ended-clause-short
returns-in-Ended-clause-short g c = goes_short c.loop-input.invariant.goes

pub returns-in-Failed-clause-short : goal.returns-in-Failed-clause-short
returns-in-Failed-clause-short g c = goes_short c.loop-input.invariant.goes
