use Rattle.std.proofs.Common.{◌≡◌, ◌++◌, take}
use Rattle.std.specs.Prelude.{flat_map}
use Rattle.submit_core.specs.Landing.{ends_of}
use Rattle.submit_core.proofs.landing.end_files.Given as goal

abbrev pub invariant-loop-entry : goal.invariant-loop-entry
invariant-loop-entry l = l.deeds ≡ l.fn.deeds ++ flat_map (ends_of l.client) (take l.entry-index l.entries)
