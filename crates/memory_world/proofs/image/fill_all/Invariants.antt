use Rattle.std.proofs.Common.{◌≡◌, length, drop}
use Rattle.memory_world.specs.Files.{contents}
use Rattle.memory_world.specs.Ranges.{is_in, open_before}
use Rattle.memory_world.proofs.Filled.{FilledBelow}
use Rattle.memory_world.proofs.image.fill_all.Given as goal

abbrev pub invariant-loop-number : goal.invariant-loop-number
invariant-loop-number l = record {
  count : length l.files.items ≡ length l.initial.files.items;
  rest : l.rest ≡ drop (open_before (is_in l.ranges) (contents l.initial.files.items) l.number) l.pick;
  filled : FilledBelow (is_in l.ranges) l.pick (contents l.initial.files.items) (contents l.files.items) l.number;
}
