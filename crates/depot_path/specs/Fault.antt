-- The numbers by which replies name the faults of paths, this project's own choice.
use Rattle.std.specs.Prelude.{ℕ}
use Rattle.depot_path.specs.declared.fault.PathFault.{PathFault}
use Rattle.depot_path.specs.declared.fault.PathFault.TheVariants.{NoSlashes, EmptyPart, BadEscape, BadByte, TooLong, Dots, BadRevision, BadRange, BadDate, Memory}

abbrev pub code_of : PathFault → ℕ
code_of NoSlashes = 1
code_of EmptyPart = 2
code_of BadEscape = 3
code_of BadByte = 4
code_of TooLong = 5
code_of Dots = 6
code_of BadRevision = 7
code_of BadRange = 8
code_of BadDate = 9
code_of Memory = 0
