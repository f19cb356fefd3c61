use Rattle.std.proofs.Common.{◌≡◌, length}
use Rattle.record_text.specs.declared.fault.Part.TheVariants.{Field}
use Rattle.record_text.specs.Machine.{run}
use Rattle.record_text.specs.Spelling.{number_step, number_at}
use Rattle.record_text.proofs.number.number_of.Given as goal

abbrev pub invariant-loop-rest : goal.invariant-loop-rest
invariant-loop-rest l = run (number_step l.least l.most l.ender) Field l.value l.rest ≡ number_at l.least l.most l.ender l.bytes

abbrev pub decreases-loop-rest : goal.decreases-loop-rest
decreases-loop-rest l = length l.rest
