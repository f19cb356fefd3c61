use Rattle.std.proofs.Common.{◌≤◌, ◌<◌, ℕ, get_or, take}
use Rattle.disk_journal.specs.Images.{Committed}
use Rattle.disk_journal.specs.Stands.{nothing, Stands}
use Rattle.journal_runs.specs.declared.landing.Landing.TheVariants.{NoMemory}
use Rattle.journal_runs.specs.Runs.{IsCaused}
use Rattle.journal_runs.proofs.Prefixes.{Progress}
use Rattle.journal_runs.proofs.runs.commit_all.Given as goal

abbrev pub invariant-loop-place : goal.invariant-loop-place
invariant-loop-place g l = record {
  never_falls : g.D.Disk.says.faults l.fn.journal.disk ≤ g.D.Disk.says.faults l.journal.disk;
  cause : (k : ℕ) → k < l.place → IsCaused (g.D.Disk.says.faults l.fn.journal.disk) (g.D.Disk.says.faults l.journal.disk) (get_or l.landings k NoMemory);
  so_far : (was : Committed) → Stands g.D.Disk.says l.fn.journal was nothing → Progress g.D.Disk.says l.fn.journal l.journal (take l.place l.batch) (take l.place l.landings) was;
}
