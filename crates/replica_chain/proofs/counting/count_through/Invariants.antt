use Rattle.std.proofs.Common.{◌≡◌, ◌*◌, ◌^◌, ◌≤◌, ◌<◌, length, take}
use Rattle.std.specs.List.{AllByRecursion}
use Rattle.disk_journal.specs.Stands.{disk_of, generation_of_journal}
use Rattle.journal_groups.specs.Groups.{IsGroup}
use Rattle.replica_chain.specs.Chronicle.{Chronicle, generations_of, texts_of}
use Rattle.replica_chain.specs.Ends.{HasTexts, IsLooked}
use Rattle.replica_chain.proofs.Counts.{bytes_in, groups_in}
use Rattle.replica_chain.proofs.counting.count_through.Given as goal

abbrev pub invariant-loop-generation : goal.invariant-loop-generation
invariant-loop-generation g l = record {
  counted : (c : Chronicle) → HasTexts g.D.Disk.says l.fn.journal (texts_of c) → generation_of_journal l.fn.journal ≡ length c.closed → AllByRecursion (AllByRecursion IsGroup) (generations_of c) →
      (l.before.0 ≡ groups_in (take l.generation (generations_of c))) × (l.before.1.0 ≡ bytes_in (take l.generation (generations_of c)));
  few : 5 * l.before.0 ≤ l.before.1.0;
  short : l.before.1.0 < 2 ^ 63;
  looked : IsLooked g.D.Disk.says l.fn.journal l.journal;
  faults : g.D.Disk.says.faults (disk_of l.fn.journal) ≤ g.D.Disk.says.faults (disk_of l.journal);
  room : 0 < length l.buffer;
}
