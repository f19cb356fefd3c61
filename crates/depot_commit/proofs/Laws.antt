-- What the step of each request does to a sound depot, as the driver asks for it: the laws of all requests.
use Rattle.std.proofs.Common.{◌≡◌, ◌≢◌, ◌⊎◌, ℕ, ◌+◌, Bool, true, false, List, [], ◌∷◌, Option, Some, None, Result, Ok, Err, inl, inr, ⊎_elim, refl, sym, ap, subst, ◌∙◌}
use Rattle.std.specs.Prelude.{All, IfOk, codes, nat_le, option_map, unwrap_or}
use Rattle.depot_rows.specs.db_records.declared.change.Change.{Change}
use Rattle.journal_groups.specs.Groups.{AreRecords}
use Rattle.command_core.specs.Outcomes.{IsFormed, IsFormedBy}
use Rattle.command_words.specs.WellFormed.{IsWellFormed}
use Rattle.depot_rows.specs.table_changes.Changed.{AllRows}
use Rattle.depot_rows.specs.depot_model.Commands.{step}
use Rattle.depot_rows.specs.db_records.declared.record.Record.TheVariants.{Counter as CounterRow}
use Rattle.depot_rows.specs.depot_model.Deeds.{Count, Deed}
use Rattle.depot_rows.specs.depot_model.Latest.{count_of}
use Rattle.depot_rows.specs.depot_model.Rows.{row, number_field}
use Rattle.depot_rows.specs.depot_model.Records.{SameRows}
use Rattle.depot_rows.specs.depot_model.Rules.{IsSound, value_of}
use Rattle.depot_rows.specs.depot_model.Step.{after, does, refuse_if, unless}
use Rattle.depot_rows.specs.depot_model.Steps.Checkpoint.{checkpoint, generation}
use Rattle.depot_rows.specs.depot_model.WellFormed.{is_command}
use Rattle.depot_rows.specs.depot_model.declared.command.Command.{Command}
use Rattle.depot_rows.specs.depot_model.declared.command.Command.TheVariants.{Checkpoint}
use Rattle.depot_rows.specs.depot_model.declared.refusal.Limit.TheVariants.{Generation}
use Rattle.depot_rows.specs.depot_model.declared.refusal.Refusal.TheVariants.{OverLimit}
use Rattle.depot_rows.specs.depot_model.declared.request.Request.{Request}
use Rattle.depot_rows.specs.depot_model.declared.request.WordFault.{WordFault}
use Rattle.depot_rows.specs.Standing.{Stand}
use Rattle.row_changes.specs.Differences.{AreDifferences}
use Rattle.sound_requests.specs.Asked.{IsAsked, is_typed}
use Rattle.sound_requests.proofs.All.{asked_sound}
use Rattle.depots_alike.proofs.Staying as contents
use Rattle.depots_alike.proofs.Whole.{step_same}
use Rattle.step_limits.proofs.Whole.{request_keeps_generation, step_from}
use Rattle.step_limits.specs.Limits.{CountsNoGeneration, generation_in}
use Rattle.row_texts.proofs.Changes.{changes_have_texts}
use Rattle.row_texts.specs.Texts.{IsOf64Bits, is_counted}
use Rattle.session_loop.specs.Taking.{IsProper}
use Rattle.depot_commit.specs.Writing.{next_if}
use Rattle.depot_commit.specs.Opening.{is_checkpoint, opens, opens_generation}
use Rattle.depot_facts.specs.Contents.{SameContents}

-- ---- a sound depot stays sound

asked_of : (request : Request) → IsProper request → IsAsked request
asked_of request proper = record { formed = go request.command proper.0; short = proper.1 }
  where
    go : (asked : Result Command WordFault) → IfOk asked IsWellFormed → IfOk asked (λ command. is_command command ≡ true)
    go (Ok command) h = h.form
    go (Err fault) h = tt

-- its command keeps what its words promise
pub formed_of : (request : Request) → IsProper request → IsFormedBy request
formed_of request proper = go request.command proper.0
  where
    go : (asked : Result Command WordFault) → IfOk asked IsWellFormed → IfOk asked IsFormed
    go (Ok command) h = (h.form, h.heads)
    go (Err fault) h = tt

pub sound_after : (request : Request) → IsProper request → is_typed request ≡ true → (d : List Deed) → IsSound d → IsSound (after d (step d request).deeds)
sound_after request proper typed d sound = asked_sound d request sound (asked_of request proper) typed

-- ---- depots with the same rows and contents do the same and are answered alike, and have the same contents after the same deeds

pub steps_alike : (d e : List Deed) (request : Request) → IsSound d → IsSound e → SameRows d e → SameContents d e → step d request ≡ step e request
steps_alike d e request left right same_rows same_contents =
    step_same d e (record { left = left; right = right; rows = same_rows; contents = same_contents }) request

pub contents_after_alike : (d e : List Deed) (request : Request) → IsSound d → IsSound e → SameRows d e → SameContents d e → SameContents (after d (step d request).deeds) (after e (step d request).deeds)
contents_after_alike d e request left right same_rows same_contents =
    contents.contents_stay d e (step d request).deeds (record { left = left; right = right; rows = same_rows; contents = same_contents })

-- ---- a checkpoint that is not refused opens the next generation, and no other command opens one

abbrev no_deed_or_next : List Deed → List Deed → Type 0
no_deed_or_next d deeds = (deeds ≡ []) ⊎ (generation_in (after d deeds) ≡ generation_in d + 1)

-- the counter of the generation, as a row and as deeds count it
pub told_is_counted : (d : List Deed) → generation_in d ≡ generation d
told_is_counted d = go (count_of d (codes "journal"))
  where
    go : (said : Option ℕ) → value_of (option_map (λ value. CounterRow (record { name = codes "journal"; value = value })) said) ≡ unwrap_or said 0
    go None = refl
    go (Some n) = refl

checkpoint_opens : (d : List Deed) → no_deed_or_next d (checkpoint d).deeds
checkpoint_opens d = go (nat_le 4095 (generation d))
  where
    go : (last : Bool) → no_deed_or_next d (unless (refuse_if last (OverLimit Generation) ∷ [])
        (does (Count (codes "journal") (Some (generation d + 1)) ∷ []) (row (number_field (codes "journal") (generation d + 1) ∷ [])))).deeds
    go true = inl refl
    go false = inr (ap (λ (n : ℕ). n + 1) (sym (told_is_counted d)))

request_opens : (request : Request) (d : List Deed) → request.command ≡ Ok Checkpoint → no_deed_or_next d (step d request).deeds
request_opens request d is = step_from (no_deed_or_next d) (inl refl) d request Checkpoint is (checkpoint_opens d)

other_stays : (request : Request) (command : Command) → IsProper request → request.command ≡ Ok command → command ≢ Checkpoint → (d : List Deed) → generation_in (after d (step d request).deeds) ≡ generation_in d
other_stays request command proper is other d =
    let formed : is_command command ≡ true = (subst (λ (asked : Result Command WordFault). IfOk asked IsWellFormed) is proper.0).form in
    let Counts : Result Command WordFault → Type 0 = λ asked. IfOk asked CountsNoGeneration in
    request_keeps_generation d request (subst Counts (sym is) (formed, other))

fault_stays : (request : Request) (fault : WordFault) → request.command ≡ Err fault → (d : List Deed) → generation_in (after d (step d request).deeds) ≡ generation_in d
fault_stays request fault is d =
    let Counts : Result Command WordFault → Type 0 = λ asked. IfOk asked CountsNoGeneration in
    request_keeps_generation d request (subst Counts (sym is) tt)

no_checkpoint : (command : Command) → is_checkpoint command ≡ false → command ≢ Checkpoint
no_checkpoint Checkpoint other = absurd cc
no_checkpoint _ other = λ e. cc

pub only_checkpoint : (command : Command) → is_checkpoint command ≡ true → command ≡ Checkpoint
only_checkpoint Checkpoint is = refl
only_checkpoint _ is = absurd cc

module _ (request : Request) (proper : IsProper request) (d : List Deed) (some : (step d request).deeds ≢ []) where
  abbrev Opens : Bool → Type 0
  Opens opened = generation_in (after d (step d request).deeds) ≡ next_if opened (generation_in d)

  by_command : (command : Command) → request.command ≡ Ok command → (b : Bool) → is_checkpoint command ≡ b → Opens b
  by_command command e true is = ⊎_elim (λ none. absurd (some none)) (λ next. next) (request_opens request d (e ∙ ap Ok (only_checkpoint command is)))
  by_command command e false is = other_stays request command proper e (no_checkpoint command is) d

  by_asked : (asked : Result Command WordFault) → request.command ≡ asked → Opens (opens asked)
  by_asked (Err fault) e = fault_stays request fault e d
  by_asked (Ok command) e = by_command command e (is_checkpoint command) refl

-- after a request that does something
pub generation_after : (request : Request) → IsProper request → (d : List Deed) → (step d request).deeds ≢ [] → generation_in (after d (step d request).deeds) ≡ next_if (opens_generation request) (generation_in d)
generation_after request proper d some = by_asked request proper d some request.command refl

-- ---- changes have texts

pub are_records : (all : AllRows) (d : List Deed) (request : Request) (changes : List Change) → IsProper request → is_typed request ≡ true → Stand all d
    → AreDifferences all d (after d (step d request).deeds) changes → All (λ (change : Change). IsOf64Bits change.row) changes → All (λ (change : Change). is_counted change.row ≡ true) changes → AreRecords changes
are_records all d request changes proper typed stand differences small counted =
    changes_have_texts all d (after d (step d request).deeds) changes stand (sound_after request proper typed d stand.sound) differences small counted
