-- A door in memory, and the first door of a name among several.
use Rattle.std.specs.Prelude.{ℕ, Bool, List, Option, option_and_then, find}
use Rattle.std.specs.Str.{bytes_eq}
use Rattle.memory_world.specs.declared.door.Door.{Door}
use Rattle.memory_world.specs.Stream.{source_left, sink_given}

abbrev pub door_name : Door → List ℕ
door_name door = door.name

abbrev pub door_input : Door → Option (List ℕ)
door_input door = source_left door.source

abbrev pub door_output : Door → Option (List ℕ)
door_output door = sink_given door.sink

abbrev pub bears : List ℕ → Door → Bool
bears name door = bytes_eq door.name name

abbrev pub door_among : List Door → List ℕ → Option Door
door_among doors name = find (bears name) doors

abbrev pub input_among : List Door → List ℕ → Option (List ℕ)
input_among doors name = option_and_then door_input (door_among doors name)

abbrev pub output_among : List Door → List ℕ → Option (List ℕ)
output_among doors name = option_and_then door_output (door_among doors name)
