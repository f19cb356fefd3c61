-- What doors in memory lead to, how often they have failed, and which of their calls fail.
use Rattle.std.specs.Prelude.{ℕ, Bool, List, Option, is_none}
use Rattle.memory_world.specs.declared.doors.MemoryDoors.{MemoryDoors}
use Rattle.memory_world.specs.Door.{door_among, input_among, output_among}
use Rattle.memory_world.specs.Failing.{Calls, calls_of}

abbrev pub doors_input : MemoryDoors → List ℕ → Option (List ℕ)
doors_input doors name = input_among doors.doors.items name

abbrev pub doors_output : MemoryDoors → List ℕ → Option (List ℕ)
doors_output doors name = output_among doors.doors.items name

abbrev pub doors_faults : MemoryDoors → ℕ
doors_faults doors = doors.calls.faults

abbrev pub doors_calls : MemoryDoors → Calls
doors_calls doors = calls_of doors.calls

-- no door of the name is left
abbrev pub is_gone : MemoryDoors → List ℕ → Bool
is_gone doors name = is_none (door_among doors.doors.items name)
