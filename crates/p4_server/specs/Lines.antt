-- The lines that tell the order and the ends.
use Rattle.std.specs.Prelude.{ℕ, List, [], ◌++◌, codes, decimal, if◌then◌else◌}
use Rattle.std.specs.List.{flat_map}
use Rattle.depot_rows.specs.depot_model.declared.order.Place.{Place}
use Rattle.wire_text.specs.declared.fault.ScriptFaultKind.{ScriptFaultKind}
use Rattle.wire_text.specs.declared.fault.ScriptFaultKind.TheVariants.{BadHead, LongLine, BadData, Cut, LongData}
use Rattle.end_lines.specs.declared.cause.Cause.{Cause}
use Rattle.end_lines.specs.declared.cause.Cause.TheVariants as causes
use Rattle.p4_server.specs.declared.ended.PartyEnd.{PartyEnd}
use Rattle.p4_server.specs.declared.ended.PartyCause.{PartyCause}
use Rattle.p4_server.specs.declared.ended.PartyCause.TheVariants as ends

abbrev pub faulted_line : Place → List ℕ
faulted_line place = codes "fault " ++ decimal place.party ++ codes " " ++ decimal place.number ++ codes "\n"

abbrev pub placed_line : Place → List ℕ
placed_line place = codes "place " ++ decimal place.party ++ codes " " ++ decimal place.number ++ codes " " ++ decimal place.moment ++ codes "\n"

-- `place PARTY K MOMENT`, or `fault PARTY K`
abbrev pub place_line : Place → List ℕ
place_line place = if place.fault then faulted_line place else placed_line place

abbrev pub place_lines : List Place → List ℕ
place_lines order = flat_map place_line order

abbrev pub fault_code : ScriptFaultKind → ℕ
fault_code BadHead = 1
fault_code LongLine = 2
fault_code BadData = 3
fault_code Cut = 4
fault_code LongData = 5

-- `script PARTY FAULT PLACE` for an end by a fault of the script
abbrev pub end_line : ℕ → PartyCause → List ℕ
end_line party (ends.Script fault) =
    codes "script " ++ decimal party ++ codes " " ++ decimal (fault_code fault.what) ++ codes " " ++ decimal fault.place ++ codes "\n"
end_line party ends.Whole = []
end_line party ends.ReadFault = []
end_line party ends.WriteFault = []

abbrev pub end_lines : {K : Type 0} → List (PartyEnd K) → List ℕ
end_lines parties = flat_map (λ party. end_line party.party party.end) parties

-- `fault` where the outside failed
abbrev pub fault_line : Cause → List ℕ
fault_line causes.Fault = codes "fault\n"
fault_line _ = []

-- the lines of a run: its places, the faults of its scripts, and whether the outside failed
abbrev pub run_lines : {K : Type 0} → List Place → List (PartyEnd K) → Cause → List ℕ
run_lines order parties cause = place_lines order ++ end_lines parties ++ fault_line cause
