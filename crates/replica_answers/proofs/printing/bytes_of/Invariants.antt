use Rattle.std.proofs.Common.{◌≡◌, ◌≤◌, ◌+◌, ◌-◌, ℕ, List, length}
use Rattle.outside_api.specs.Reaching.{Reaches}
use Rattle.archive_file.specs.Archive.{Has}
use Rattle.archive_file.specs.Contents.{IsFront}
use Rattle.replica_answers.proofs.printing.bytes_of.Given as goal

abbrev pub invariant-loop-at : goal.invariant-loop-at
invariant-loop-at g l = record {
  above : l.revision.at ≤ l.at;
  within : l.at ≤ l.end;
  long : length l.bytes.items + l.revision.at ≡ l.at;
  told : (before : List ℕ) → g.C.Contents.tells l.fn.contents before →
      (now : List ℕ) × (g.C.Contents.tells l.contents now × (IsFront before now × ((l.end ≤ length now) × Has now (record { at = l.revision.at; length = l.at - l.revision.at }) l.bytes.items)));
  reached : Reaches g.C.Contents.keeps l.fn.contents l.contents;
  count : g.C.Contents.faults l.contents ≡ g.C.Contents.faults l.fn.contents;
}

abbrev pub decreases-loop-at : goal.decreases-loop-at
decreases-loop-at g l = l.end - l.at
