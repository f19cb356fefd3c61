-- What the ends of the parties give to the promise.
use Rattle.std.proofs.Common.{◌≡◌, ◌≢◌, ℕ, ◌+◌, Bool, true, false, cond, ◌||◌, List, [], ◌++◌, length, Option, Some, None, refl, sym, ap, ◌∙◌, arith, inl, inr, ◌⊎◌}
use Rattle.std.specs.Prelude.{All, slice_get}
use Rattle.std.proofs.lemmas.List.{append-nil}
use Rattle.std.proofs.lemmas.List.Folds.{Any-from_list_any, list_any_none}
use Rattle.std.proofs.lemmas.Option.{slice_get_within, slice_get_read}
use Rattle.outside_api.specs.Count.{HasRisen}
use Rattle.outside_api.specs.Says.{SinkSays}
use Rattle.outside_api.specs.Told.{extended}
use Rattle.depot_rows.specs.depot_model.declared.order.Place.{Place}
use Rattle.depot_rows.specs.depot_model.declared.request.Session.{Session}
use Rattle.wire_text.specs.declared.script.ScriptEnd.{ScriptEnd}
use Rattle.wire_text.specs.declared.script.ScriptEnd.TheVariants as scripts
use Rattle.wire_text.specs.Giving.{GotFront}
use Rattle.session_loop.specs.Asking.{Asking}
use Rattle.session_loop.specs.Reading.{IsAsked}
use Rattle.session_loop.specs.declared.reading.ReplicaScript.{ReplicaScript}
use Rattle.wire_text.proofs.Pieces.{front_before}
use Rattle.end_lines.specs.declared.cause.Cause.{Cause}
use Rattle.end_lines.specs.declared.cause.Cause.TheVariants as causes
use Rattle.p4_server.specs.declared.ended.Ended.{Ended}
use Rattle.p4_server.specs.declared.ended.PartyEnd.{PartyEnd}
use Rattle.p4_server.specs.declared.party.NotRun.{NotRun}
use Rattle.p4_server.specs.declared.party.NotRun.TheVariants.{Doors, Memory}
use Rattle.p4_server.specs.Ends.{ends_cause, is_failed, is_faulty, party_end, has_fault_place, has_failed_party, has_faulty_party}
use Rattle.p4_server.specs.Files.{DisksStand}
use Rattle.p4_server.specs.Headline.{IsPartyEnd, Ordering}
use Rattle.p4_server.specs.Lines.{run_lines, place_lines, end_lines, fault_line}
use Rattle.p4_server.specs.Opening.{IsUnopened}
use Rattle.p4_server.specs.Outside.{After, Before, Outside}
use Rattle.p4_server.specs.Parties.{OnlyTheseCome}
use Rattle.p4_server.specs.Runs.{IsShut, IsRun, IsWhole, RunsParties, SomeRose, unrun_cause}
use Rattle.p4_server.proofs.FaultPlaces.{place_rose}
use Rattle.p4_server.proofs.Openings.{fault_of_unopened, complete_of_unopened}
use Rattle.p4_server.proofs.Together.{all_at, all_of, any_of, there}
use Rattle.p4_server.specs.Telling.{IsReport, IsTold, IsUntold}

-- ---- lines

more_lines : (before now : Option (List ℕ)) (lines : List ℕ) → GotFront before now (lines ++ []) → GotFront before now (lines ++ fault_line causes.Fault)
more_lines before now lines got = front_before before now lines (fault_line causes.Fault) (rw append-nil at got)

-- a front of the lines is one of those with the line of a fault
got_fault : {K : Type 0} (before now : Option (List ℕ)) (order : List Place) (parties : List (PartyEnd K)) (cause : Cause) → GotFront before now (run_lines order parties cause) → GotFront before now (run_lines order parties causes.Fault)
got_fault before now order parties causes.Done got = more_lines before now (place_lines order ++ end_lines parties) got
got_fault before now order parties causes.Usage got = more_lines before now (place_lines order ++ end_lines parties) got
got_fault before now order parties causes.Made got = more_lines before now (place_lines order ++ end_lines parties) got
got_fault before now order parties causes.Unmade got = more_lines before now (place_lines order ++ end_lines parties) got
got_fault before now order parties (causes.Damaged disk file place) got = more_lines before now (place_lines order ++ end_lines parties) got
got_fault before now order parties causes.Script got = more_lines before now (place_lines order ++ end_lines parties) got
got_fault before now order parties causes.Fault got = got
got_fault before now order parties causes.Memory got = more_lines before now (place_lines order ++ end_lines parties) got

pub told_of : {D S K : Type 0} (sink_says : SinkSays K) (old_out new_out : K) (text : List ℕ) (cause : Cause) (lost : Bool) (ended : Ended D S K) → text ≡ run_lines ended.order ended.parties cause → cause ≡ ends_cause ended.order ended.parties lost
    → ((ended.cause ≡ cause) × (sink_says.given new_out ≡ extended (sink_says.given old_out) text)) ⊎ ((ended.cause ≡ causes.Fault) × HasRisen (sink_says.faults old_out) (sink_says.faults new_out) × GotFront (sink_says.given old_out) (sink_says.given new_out) text)
    → IsTold sink_says old_out new_out ended lost
told_of sink_says old_out new_out text cause lost ended is leads (inl whole) =
    record { is = inl (whole.0 ∙ leads, whole.1 ∙ ap (extended (sink_says.given old_out)) (is ∙ ap (run_lines ended.order ended.parties) (sym whole.0))) }
told_of sink_says old_out new_out text cause lost ended is leads (inr front) =
    record { is = inr (front.0, front.1, got_fault (sink_says.given old_out) (sink_says.given new_out) ended.order ended.parties cause (rw is at front.2)) }

-- ---- causes

-- a fault is that of a replica, that of a place or that of a party
of_fault : (lost place failed faulty : Bool) → cond (lost || (place || failed)) causes.Fault (cond faulty causes.Script causes.Done) ≡ causes.Fault → (lost ≡ true) ⊎ ((place ≡ true) ⊎ (failed ≡ true))
of_fault true place failed faulty e = inl refl
of_fault false true failed faulty e = inr (inl refl)
of_fault false false true faulty e = inr (inr refl)
of_fault false false false true e = absurd cc
of_fault false false false false e = absurd cc

-- without any of these all is done
all_done : (lost place failed faulty : Bool) → lost ≡ false → place ≡ false → failed ≡ false → faulty ≡ false → cond (lost || (place || failed)) causes.Fault (cond faulty causes.Script causes.Done) ≡ causes.Done
all_done lost place failed faulty a b c d = rw (a, b, c, d) refl

not_fault : (cause : Cause) → (cause ≡ causes.Done) ⊎ (cause ≡ causes.Script) → cause ≢ causes.Fault
not_fault cause (inl done) is = let clash : causes.Done ≡ causes.Fault = sym done ∙ is in cc
not_fault cause (inr script) is = let clash : causes.Script ≡ causes.Fault = sym script ∙ is in cc

none_failed : (lost place failed faulty : Bool) (cause : Cause) → cause ≡ cond (lost || (place || failed)) causes.Fault (cond faulty causes.Script causes.Done) → (cause ≡ causes.Done) ⊎ (cause ≡ causes.Script) → (lost ≡ false) × (place ≡ false)
none_failed true place failed faulty cause is whole = absurd (not_fault cause whole is)
none_failed false true failed faulty cause is whole = absurd (not_fault cause whole is)
none_failed false false failed faulty cause is whole = (refl, refl)

-- where all is done, or no more than a script has a fault, no replica was told of a failed disk and no place is a fault
pub whole_told : {D S K : Type 0} (sink_says : SinkSays K) (old_out new_out : K) (ended : Ended D S K) (order : List Place) (parties : List (PartyEnd K)) (sources : List S) (lost : Bool)
    → IsReport sink_says old_out new_out ended order parties sources lost ⊎ IsUntold ended → (ended.cause ≡ causes.Done) ⊎ (ended.cause ≡ causes.Script) → (lost ≡ false) × (has_fault_place ended.order ≡ false)
whole_told sink_says old_out new_out ended order parties sources lost (inl report) whole = elim report.told.is [
  | inl all ↦ none_failed lost (has_fault_place ended.order) (has_failed_party ended.parties) (has_faulty_party ended.parties) ended.cause all.0 whole
  | inr front ↦ absurd (not_fault ended.cause whole front.0)
]
whole_told sink_says old_out new_out ended order parties sources lost (inr untold) (inl done) = let clash : causes.Memory ≡ causes.Done = sym untold.cause_is ∙ done in absurd cc
whole_told sink_says old_out new_out ended order parties sources lost (inr untold) (inr script) = let clash : causes.Memory ≡ causes.Script = sym untold.cause_is ∙ script in absurd cc

-- parties that weren't run end so nowhere
never_whole : (cause : Cause) (why : NotRun) → cause ≡ unrun_cause why → ¬ ((cause ≡ causes.Done) ⊎ (cause ≡ causes.Script))
never_whole cause Doors is whole = not_fault cause whole is
never_whole cause Memory is (inl done) = let clash : causes.Memory ≡ causes.Done = sym is ∙ done in cc
never_whole cause Memory is (inr script) = let clash : causes.Memory ≡ causes.Script = sym is ∙ script in cc

-- a party whose source or sink failed
of_failed : (failed : Bool) (end : ScriptEnd) (input left : Option (List ℕ)) (before now : ℕ) (session : Option Session) (replica : Option ReplicaScript) → is_failed (party_end failed end) ≡ true → IsAsked input left before now session replica end → (failed ≡ true) ⊎ HasRisen before now
of_failed true end input left before now session replica e read = inl refl
of_failed false scripts.Whole input left before now session replica e read = absurd cc
of_failed false (scripts.Fault fault) input left before now session replica e read = absurd cc
of_failed false scripts.ReadFault input left before now session replica e read = inr read.0

-- a whole script ends a party so only where its sink failed
of_whole : (failed : Bool) (end : ScriptEnd) (input left : Option (List ℕ)) (before now : ℕ) (session : Option Session) (replica : Option ReplicaScript) → IsAsked input left before now session replica end → IsWhole input → ¬ (failed ≡ true) → ¬ HasRisen before now
    → (is_failed (party_end failed end) ≡ false) × (is_faulty (party_end failed end) ≡ false)
of_whole true end input left before now session replica read whole sink source = absurd (sink refl)
of_whole false scripts.Whole input left before now session replica read whole sink source = (refl, refl)
of_whole false scripts.ReadFault input left before now session replica read whole sink source = absurd (source read.0)
of_whole false (scripts.Fault fault) None left before now session replica read whole sink source = absurd whole
of_whole false (scripts.Fault fault) (Some bytes) left before now session replica read whole sink source =
    let clash : None ≡ Some fault = sym whole ∙ ap (λ (s : Asking). s.fault) read in
    absurd cc

not_true : (b : Bool) → ¬ (b ≡ true) → b ≡ false
not_true true h = absurd (h refl)
not_true false h = refl

module _ {D S K H : Type 0} (outside : Outside D S K H) (old_doors new_doors : H) (before : Before D K) (after : After D S K) (IsOrdered : Ordering) (names : List (List ℕ)) where
  abbrev pub Promised : Type 0
  Promised = RunsParties outside old_doors new_doors before after IsOrdered names

  abbrev pub Ran : Type 0
  Ran = IsRun outside old_doors new_doors before after IsOrdered names

  abbrev Rose : Type 0
  Rose = SomeRose outside old_doors new_doors before after IsOrdered names

  abbrev pub Only : Type 0
  Only = OnlyTheseCome (outside.doors.input old_doors) (outside.doors.output old_doors) (outside.doors.input new_doors) (outside.doors.output new_doors) names

  disk_rose : Ran → has_fault_place after.ended.order ≡ true → Rose
  disk_rose run e = inr (inr (inl (place_rose after.ended.order (outside.disk.faults before.journal) (outside.disk.faults after.ended.journal) (outside.disk.faults before.archive) (outside.disk.faults after.ended.archive) run.fault_places e)))

  lost_rose : (run : Ran) → run.lost ≡ true → Rose
  lost_rose run e = inr (inr (inl (run.lost_rose e)))

  sink_rose : (run : Ran) → after.ended.parties ≡ run.parties → (i : ℕ) (party : PartyEnd K) → slice_get run.parties i ≡ Some party → HasRisen 0 (outside.sink.faults party.sink) → Rose
  sink_rose run are i party at risen = inr (inr (inr (inr (rw are (any_of (λ (p : PartyEnd K). HasRisen 0 (outside.sink.faults p.sink)) run.parties i party at risen)))))

  source_rose : (run : Ran) → after.ended.sources ≡ run.sources → (i : ℕ) (source : S) → slice_get run.sources i ≡ Some source → HasRisen 0 (outside.source.faults source) → Rose
  source_rose run are i source at risen = inr (inr (inr (inl (rw are (any_of (λ (x : S). HasRisen 0 (outside.source.faults x)) run.sources i source at risen)))))

  -- the party at a place, with its name and its source
  record IsOne (run : Ran) (i : ℕ) (party : PartyEnd K) : Type 0 where
    name : List ℕ
    source : S
    name_at : slice_get names i ≡ Some name
    source_at : slice_get run.sources i ≡ Some source
    end : IsPartyEnd outside.source outside.sink (outside.doors.input old_doors name) (i + 1) source party

  one_at : (run : Ran) (i : ℕ) (party : PartyEnd K) → slice_get run.parties i ≡ Some party → IsOne run i party
  one_at run i party at =
      let lt = slice_get_within run.parties i party at in
      let name = there names i (omega (arith, lt, run.ends.parties_count)) in
      let source = there run.sources i (omega (arith, lt, run.ends.parties_count, run.ends.sources_count)) in
      record { name = name.0; source = source.0; name_at = name.1; source_at = source.1; end = run.ends.each i name.0 source.0 party name.1 source.1 at }

  failed_rose : (run : Ran) → after.ended.parties ≡ run.parties → after.ended.sources ≡ run.sources → (i : ℕ) (party : PartyEnd K) → slice_get run.parties i ≡ Some party → is_failed party.end ≡ true → Rose
  failed_rose run are sources_are i party at failed =
      let one = one_at run i party at in
      let end = one.end in
      let why = of_failed end.failed end.read.end (outside.doors.input old_doors one.name) (outside.source.left one.source) 0 (outside.source.faults one.source) end.read.session end.read.replica (ap is_failed (sym end.end) ∙ failed) end.read_is in
      elim why [ inl sink ↦ sink_rose run are i party at (end.cause sink) | inr risen ↦ source_rose run sources_are i one.source one.source_at risen ]

  any_failed_rose : (run : Ran) → after.ended.parties ≡ run.parties → after.ended.sources ≡ run.sources → has_failed_party run.parties ≡ true → Rose
  any_failed_rose run are sources_are e =
      let some = Any-from_list_any (λ (p : PartyEnd K). is_failed p.end) run.parties e in
      failed_rose run are sources_are some.0 some.1 (slice_get_read run.parties (length run.parties) some.0 some.1 refl some.2 (sym some.3)) some.4

  -- the cause to which the places and the parties lead
  leads : (run : Ran) → after.ended.parties ≡ run.parties → after.ended.cause ≡ ends_cause after.ended.order after.ended.parties run.lost → after.ended.cause ≡ ends_cause after.ended.order run.parties run.lost
  leads run are e = e ∙ ap (λ (ps : List (PartyEnd K)). ends_cause after.ended.order ps run.lost) are

  fault_of : Ran → after.ended.cause ≡ causes.Fault → Rose
  fault_of run is = elim run.told [
    | inl told ↦ elim told.2.is [
      | inl whole ↦
          let why = of_fault run.lost (has_fault_place after.ended.order) (has_failed_party run.parties) (has_faulty_party run.parties) (sym (leads run told.0 whole.0) ∙ is) in
          elim why [
            | inl lost ↦ lost_rose run lost
            | inr other ↦ elim other [ inl place ↦ disk_rose run place | inr failed ↦ any_failed_rose run told.0 told.1 failed ]
          ]
      | inr front ↦ inr (inl front.1)
    ]
    | inr untold ↦ let clash : causes.Memory ≡ causes.Fault = sym untold.cause_is ∙ is in absurd cc
  ]

  whole_party : (run : Ran) → after.ended.parties ≡ run.parties → after.ended.sources ≡ run.sources → All (λ name. IsWhole (outside.doors.input old_doors name)) names → ¬ Rose → (i : ℕ) (party : PartyEnd K) → slice_get run.parties i ≡ Some party
      → (is_failed party.end ≡ false) × (is_faulty party.end ≡ false)
  whole_party run are sources_are whole none i party at =
      let one = one_at run i party at in
      let end = one.end in
      let is = of_whole end.failed end.read.end (outside.doors.input old_doors one.name) (outside.source.left one.source) 0 (outside.source.faults one.source) end.read.session end.read.replica end.read_is
      (all_at (λ (name : List ℕ). IsWhole (outside.doors.input old_doors name)) names whole i one.name one.name_at) (λ failed. none (sink_rose run are i party at (end.cause failed))) (λ risen. none (source_rose run sources_are i one.source one.source_at risen)) in
      (ap is_failed end.end ∙ is.0, ap is_faulty end.end ∙ is.1)

  complete_of : Ran → All (λ name. IsWhole (outside.doors.input old_doors name)) names → ¬ Rose → (after.ended.cause ≡ causes.Done) ⊎ (after.ended.cause ≡ causes.Memory)
  complete_of run whole none = elim run.told [
    | inl told ↦ elim told.2.is [
      | inl all ↦
          let each = whole_party run told.0 told.1 whole none in
          let not_lost = not_true run.lost (λ lost. none (lost_rose run lost)) in
          let no_place = not_true (has_fault_place after.ended.order) (λ place. none (disk_rose run place)) in
          let no_failed = list_any_none (λ (p : PartyEnd K). is_failed p.end) run.parties (all_of (λ (p : PartyEnd K). is_failed p.end ≡ false) run.parties (λ i party at. (each i party at).0)) in
          let no_faulty = list_any_none (λ (p : PartyEnd K). is_faulty p.end) run.parties (all_of (λ (p : PartyEnd K). is_faulty p.end ≡ false) run.parties (λ i party at. (each i party at).1)) in
          inl (leads run told.0 all.0 ∙ all_done run.lost (has_fault_place after.ended.order) (has_failed_party run.parties) (has_faulty_party run.parties) not_lost no_place no_failed no_faulty)
      | inr front ↦ absurd (none (inr (inl front.1)))
    ]
    | inr untold ↦ inr untold.cause_is
  ]

  -- where all is done, or a script has a fault and nothing failed, no count of the disks rose
  abbrev Stood : Type 0
  Stood = (after.ended.cause ≡ causes.Done) ⊎ (after.ended.cause ≡ causes.Script) → DisksStand outside.disk before after

  pub parties_run : Only → Ran → Stood → Promised
  parties_run only run stood = record {
    ends = inr (inr run);
    doors = only;
    fault = fault_of run;
    stand = stood;
    complete = λ d start whole none. complete_of run whole none;
  }

  abbrev pub Shut : Type 0
  Shut = IsShut outside old_doors new_doors before after IsOrdered names

  fault_of_shut : Shut → after.ended.cause ≡ causes.Fault → Rose
  fault_of_shut shut is = elim shut.why [
    | inl fault ↦ inl fault.1
    | inr memory ↦ let clash : causes.Memory ≡ causes.Fault = sym memory ∙ is in absurd cc
  ]

  complete_of_shut : Shut → ¬ Rose → (after.ended.cause ≡ causes.Done) ⊎ (after.ended.cause ≡ causes.Memory)
  complete_of_shut shut none = elim shut.why [ inl fault ↦ absurd (none (inl fault.1)) | inr memory ↦ inr memory ]

  pub parties_shut : Only → Shut → Promised
  parties_shut only shut = record {
    ends = inr (inl shut);
    doors = only;
    fault = fault_of_shut shut;
    stand = λ whole. elim shut.why [ inl fault ↦ absurd (not_fault after.ended.cause whole fault.0) | inr memory ↦ absurd (never_whole after.ended.cause Memory memory whole) ];
    complete = λ d start whole none. complete_of_shut shut none;
  }

  pub parties_unopened : new_doors ≡ old_doors → IsUnopened outside.disk outside.sink before after → Promised
  parties_unopened stay unopened = record {
    ends = inl (record { unopened = unopened; doors_stay = stay });
    doors = rw stay (record { inputs = λ other apart. refl; outputs = λ other apart. refl });
    fault = λ is. inr (inr (inl (fault_of_unopened outside.disk outside.sink before after unopened.why is)));
    stand = λ whole. unopened.stand (not_fault after.ended.cause whole);
    complete = λ d start whole none. inr (complete_of_unopened outside.disk outside.sink before after unopened.why d start (λ rose. none (inr (inr (inl rose)))));
  }
