-- What sources and sinks in memory hold, how often they have failed, and which of their calls fail.
use Rattle.std.specs.Prelude.{ℕ, List, drop, Option, Some}
use Rattle.memory_world.specs.Failing.{Calls, calls_of}
use Rattle.memory_world.specs.declared.stream.MemorySource.{MemorySource}
use Rattle.memory_world.specs.declared.stream.MemorySink.{MemorySink}

abbrev pub source_left : MemorySource → Option (List ℕ)
source_left source = Some (drop source.at source.bytes)

abbrev pub source_faults : MemorySource → ℕ
source_faults source = source.calls.faults

abbrev pub sink_given : MemorySink → Option (List ℕ)
sink_given sink = Some sink.given

abbrev pub sink_faults : MemorySink → ℕ
sink_faults sink = sink.calls.faults

abbrev pub source_calls : MemorySource → Calls
source_calls source = calls_of source.calls

abbrev pub sink_calls : MemorySink → Calls
sink_calls sink = calls_of sink.calls
