-- How the ends of parties and the places of an order lead to the end of the program.
use Rattle.std.specs.Prelude.{ℕ, ◌+◌, Bool, true, false, List, [], ◌∷◌, if◌then◌else◌, ◌||◌}
use Rattle.std.specs.List.{list_any}
use Rattle.depot_rows.specs.depot_model.declared.order.Place.{Place}
use Rattle.session_loop.specs.declared.session.SessionRun.{SessionRun}
use Rattle.wire_text.specs.declared.script.ScriptEnd.{ScriptEnd}
use Rattle.wire_text.specs.declared.script.ScriptEnd.TheVariants as scripts
use Rattle.end_lines.specs.declared.cause.Cause.{Cause}
use Rattle.end_lines.specs.declared.cause.Cause.TheVariants as causes
use Rattle.p4_server.specs.declared.ended.PartyEnd.{PartyEnd}
use Rattle.p4_server.specs.declared.ended.PartyCause.{PartyCause}
use Rattle.p4_server.specs.declared.ended.PartyCause.TheVariants as ends

-- a failed sink ends the party, whatever the reading of its script found
abbrev pub party_end : Bool → ScriptEnd → PartyCause
party_end true end = ends.WriteFault
party_end false scripts.Whole = ends.Whole
party_end false (scripts.Fault fault) = ends.Script fault
party_end false scripts.ReadFault = ends.ReadFault

-- the end of a party by its number: how far it came, how its script was read, and its sink
abbrev pub ended_party : {K : Type 0} → ℕ → SessionRun → ScriptEnd → K → PartyEnd K
ended_party number run end sink = record { party = number; sink = sink; commands = run.commands; end = party_end run.failed end }

-- the ends of parties, the first of which has this number
abbrev pub ended_parties : {K : Type 0} → ℕ → List SessionRun → List ScriptEnd → List K → List (PartyEnd K)
ended_parties number (run ∷ runs) (end ∷ ends) (sink ∷ sinks) = ended_party number run end sink ∷ ended_parties (number + 1) runs ends sinks
ended_parties number _ _ _ = []

-- the party's sink failed
abbrev pub has_lost_sink : PartyCause → Bool
has_lost_sink ends.WriteFault = true
has_lost_sink ends.Whole = false
has_lost_sink (ends.Script fault) = false
has_lost_sink ends.ReadFault = false

-- how far a party came
abbrev pub run_of : {K : Type 0} → PartyEnd K → SessionRun
run_of party = record { commands = party.commands; failed = has_lost_sink party.end }

-- the party's source or sink failed
abbrev pub is_failed : PartyCause → Bool
is_failed ends.Whole = false
is_failed (ends.Script fault) = false
is_failed ends.ReadFault = true
is_failed ends.WriteFault = true

-- the party's script has a fault
abbrev pub is_faulty : PartyCause → Bool
is_faulty ends.Whole = false
is_faulty (ends.Script fault) = true
is_faulty ends.ReadFault = false
is_faulty ends.WriteFault = false

-- a commit of the run failed
abbrev pub has_fault_place : List Place → Bool
has_fault_place order = list_any (λ place. place.fault) order

-- a party's source or sink failed
abbrev pub has_failed_party : {K : Type 0} → List (PartyEnd K) → Bool
has_failed_party parties = list_any (λ party. is_failed party.end) parties

-- a party's script has a fault
abbrev pub has_faulty_party : {K : Type 0} → List (PartyEnd K) → Bool
has_faulty_party parties = list_any (λ party. is_faulty party.end) parties

-- A fault of the outside counts before one of a script. `lost` says that a replica was answered that a disk failed.
abbrev pub ends_cause : {K : Type 0} → List Place → List (PartyEnd K) → Bool → Cause
ends_cause order parties lost =
    if lost || (has_fault_place order || has_failed_party parties) then causes.Fault else
    (if has_faulty_party parties then causes.Script else causes.Done)
