-- What reading a script from a source gives.
use Rattle.std.specs.Prelude.{◌≡◌, ◌<◌, ◌≤◌, ℕ, ◌+◌, Bool, ◌||◌, nat_lt, if◌then◌else◌, List, [], ◌++◌, Option, Some, None, IfSome}
use Rattle.std.specs.Option.{option_to_list}
use Rattle.outside_api.specs.Count.{HasRisen}
use Rattle.outside_api.specs.Told.{prepended}
use Rattle.wire_text.specs.Intake.{Taken}
use Rattle.wire_text.specs.Script.{Point, headed, headless, script_of, rest_of, with_front, ends_with, number_after, fault_at, too_long}
use Rattle.wire_text.specs.declared.fault.ScriptFault.{ScriptFault}
use Rattle.wire_text.specs.declared.entry.Entry.{Entry}
use Rattle.wire_text.specs.declared.fault.ScriptFaultKind.TheVariants.{Cut}
use Rattle.wire_text.specs.declared.intake.Stop.{Stop}
use Rattle.wire_text.specs.declared.intake.Stop.TheVariants.{End, Over, Failed as Broken}
use Rattle.wire_text.specs.Head.{client_of}
use Rattle.wire_text.specs.declared.head.Head.{Head as HeadOf}
use Rattle.wire_text.specs.declared.script.HeadRead.{HeadRead}
use Rattle.wire_text.specs.declared.script.HeadRead.TheVariants.{Head, Fault as HeadFault, Failed as HeadFailed}
use Rattle.wire_text.specs.declared.script.ReadScript.{ReadScript}
use Rattle.wire_text.specs.declared.script.ScriptEnd.{ScriptEnd}
use Rattle.wire_text.specs.declared.script.ScriptEnd.TheVariants.{Whole, Fault, ReadFault}
use Rattle.wire_text.specs.declared.part.PartRead.{PartRead}
use Rattle.wire_text.specs.declared.part.PartRead.TheVariants.{Read, Ended, Failed}

-- the point at which a reader is
abbrev pub point_at : List ℕ → ℕ → ℕ → Option (List ℕ) → Point
point_at client place number input = record { client = client; place = place; number = number; input = input }

-- Reading goes on: the bytes that were ready, with what came from the source, say these entries, and then what the rest says, whatever follows.
-- The first bytes of a line may have been read before.
pub record GoesOn (begun : List ℕ) (old_left new_left : Option (List ℕ)) (old_held new_held : List ℕ) (old new : Point) (entries : List Entry) : Type 0 where
  pub came : List ℕ
  pub source : old_left ≡ prepended came new_left
  pub says : (more : List ℕ) → rest_of old (begun ++ (old_held ++ (came ++ more))) ≡ with_front entries (rest_of new (new_held ++ more))

-- Reading ends: the bytes that were ready, with all that the source has, say no entry, and end so.
abbrev pub Ends : List ℕ → Option (List ℕ) → List ℕ → Point → Option ScriptFault → Type 0
Ends begun left held point fault = IfSome left (λ bytes. rest_of point (begun ++ (held ++ bytes)) ≡ ends_with fault)

-- The source failed: the bytes that were ready, with what came from it, say no entry.
pub record Breaks (begun : List ℕ) (old_left new_left : Option (List ℕ)) (before after : ℕ) (held : List ℕ) (point : Point) : Type 0 where
  pub risen : HasRisen before after
  pub came : List ℕ
  pub source : old_left ≡ prepended came new_left
  pub says : (rest_of point (begun ++ (held ++ came))).entries ≡ []

-- what bytes end that were read between two places, behind which no further one comes: a part that is cut, an input that waits, or nothing
abbrev pub end_between : Bool → ℕ → ℕ → Option ScriptFault
end_between waits start end = if nat_lt start end || waits then Some (fault_at Cut end) else None

abbrev pub stopped_of : Stop → Bool → ℕ → ℕ → PartRead
stopped_of End waits start end = Ended (end_between waits start end)
stopped_of Over waits start end = Ended (Some too_long)
stopped_of Broken waits start end = Failed

abbrev pub PartCase : List ℕ → Option (List ℕ) → Option (List ℕ) → ℕ → ℕ → Taken → Taken → Point → Option (List ℕ) → PartRead → Type 0
PartCase begun old_left new_left before after old new point input (Read entry) =
    (point.place < new.place) × (new.place ≤ 67108864) × GoesOn begun old_left new_left old.held new.held point (point_at point.client new.place (number_after point.number entry) input) (option_to_list entry)
PartCase begun old_left new_left before after old new point input (Ended fault) = Ends begun old_left old.held point fault
PartCase begun old_left new_left before after old new point input Failed = Breaks begun old_left new_left before after old.held point

-- ---- whole scripts

-- a head was read, and the script goes on from the point behind it; or there is none, for a fault or as the source failed
abbrev pub HeadCase : Option (List ℕ) → Option (List ℕ) → ℕ → ℕ → Taken → HeadRead → Type 0
HeadCase old_left new_left before after new (Head head) =
    (0 < new.place) × (new.place ≤ 67108864) × ((came : List ℕ) × (old_left ≡ prepended came new_left) × ((more : List ℕ) → script_of (came ++ more) ≡ headed head (rest_of (point_at (client_of head) new.place 1 None) (new.held ++ more))))
HeadCase old_left new_left before after new (HeadFault fault) = IfSome old_left (λ bytes. script_of bytes ≡ headless fault)
HeadCase old_left new_left before after new HeadFailed =
    HasRisen before after × ((came : List ℕ) × (old_left ≡ prepended came new_left) × ((script_of came).head ≡ None) × ((script_of came).entries ≡ []))

-- what a stop makes of a head of which the bytes up to a place were read
abbrev pub head_stopped : Stop → ℕ → HeadRead
head_stopped End place = HeadFault (fault_at Cut place)
head_stopped Over place = HeadFault (fault_at Cut place)
head_stopped Broken place = HeadFailed

abbrev pub end_by : Option ScriptFault → ScriptEnd
end_by None = Whole
end_by (Some fault) = Fault fault

-- what is said from a point on
abbrev pub EntriesCase : Option (List ℕ) → Option (List ℕ) → ℕ → ℕ → List ℕ → Point → List Entry → ScriptEnd → Type 0
EntriesCase old_left new_left before after held point entries Whole =
    IfSome old_left (λ bytes. rest_of point (held ++ bytes) ≡ record { entries = entries; fault = None })
EntriesCase old_left new_left before after held point entries (Fault fault) =
    IfSome old_left (λ bytes. rest_of point (held ++ bytes) ≡ record { entries = entries; fault = Some fault })
EntriesCase old_left new_left before after held point entries ReadFault =
    HasRisen before after × ((came : List ℕ) × (old_left ≡ prepended came new_left) × ((rest_of point (held ++ came)).entries ≡ entries))

-- The script that the bytes of the source say, where they are told. Where the source failed, the head and the entries are those of the bytes that
-- came from it.
abbrev pub IsRead : Option (List ℕ) → Option (List ℕ) → ℕ → ℕ → Option HeadOf → List Entry → ScriptEnd → Type 0
IsRead old_left new_left before after head entries Whole =
    IfSome old_left (λ bytes. script_of bytes ≡ record { head = head; entries = entries; fault = None })
IsRead old_left new_left before after head entries (Fault fault) =
    IfSome old_left (λ bytes. script_of bytes ≡ record { head = head; entries = entries; fault = Some fault })
IsRead old_left new_left before after head entries ReadFault =
    HasRisen before after × ((came : List ℕ) × (old_left ≡ prepended came new_left) × ((script_of came).head ≡ head) × ((script_of came).entries ≡ entries))

abbrev pub IsReadScript : Option (List ℕ) → Option (List ℕ) → ℕ → ℕ → ReadScript → Type 0
IsReadScript old_left new_left before after read = IsRead old_left new_left before after read.head read.entries read.end
