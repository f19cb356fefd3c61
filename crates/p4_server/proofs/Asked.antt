-- No mode ends as usage; and what is promised of a mode is the promise where the words ask for it.
use Rattle.std.proofs.Common.{◌≡◌, ◌≢◌, ℕ, Bool, true, false, cond, ◌||◌, List, Option, Some, None, refl, sym, ap, subst, ◌∙◌, inl, inr, ◌⊎◌}
use Rattle.std.specs.Prelude.{IfSome, IfNone}
use Rattle.std.proofs.lemmas.Bool.{true≢false}
use Rattle.outside_api.specs.Says.{DiskSays, SinkSays}
use Rattle.depot_rows.specs.depot_model.declared.order.Place.{Place}
use Rattle.session_turns.specs.Drawn.{IsDrawn}
use Rattle.end_lines.specs.Causes.{status_of}
use Rattle.end_lines.specs.declared.cause.Cause.{Cause}
use Rattle.end_lines.specs.declared.cause.Cause.TheVariants as causes
use Rattle.p4_server.specs.declared.ended.PartyEnd.{PartyEnd}
use Rattle.p4_server.specs.Checkpoint.{Checkpoints, IsUntaken, IsTaken, IsInDoubt}
use Rattle.p4_server.specs.Dump.{Dumps, IsDumped}
use Rattle.p4_server.specs.Ends.{ends_cause, has_fault_place, has_failed_party, has_faulty_party}
use Rattle.p4_server.specs.Headline.{Ordering}
use Rattle.p4_server.specs.Init.{Inits, IsInited, IsThere, IsFailed}
use Rattle.p4_server.specs.Opening.{IsUnopened, IsUnmade, IsDamaged, IsUnread}
use Rattle.p4_server.specs.Outside.{After, Before, Outside}
use Rattle.p4_server.specs.Promise.{IsRefused, Keeps, KeepsPromise}
use Rattle.p4_server.specs.Runs.{RunsParties, IsClosed, IsShut, IsRun}
use Rattle.p4_server.specs.Serve.{AnyOrder}
use Rattle.p4_server.specs.Telling.{IsTold, IsToldAlone}
use Rattle.program_words.specs.declared.mode.Mode.{Mode}
use Rattle.program_words.specs.Words.{Job, asked, job_of, init, dump, checkpoint, load, schedule, serve}

abbrev is_usage : Cause → Bool
is_usage causes.Usage = true
is_usage causes.Done = false
is_usage causes.Made = false
is_usage causes.Unmade = false
is_usage (causes.Damaged disk file place) = false
is_usage causes.Script = false
is_usage causes.Fault = false
is_usage causes.Memory = false

other : (cause is : Cause) → cause ≡ is → is_usage is ≡ false → cause ≢ causes.Usage
other cause is it isnt usage = true≢false (sym (ap is_usage usage) ∙ (ap is_usage it ∙ isnt))

leads : (fault faulty : Bool) → is_usage (cond fault causes.Fault (cond faulty causes.Script causes.Done)) ≡ false
leads true faulty = refl
leads false true = refl
leads false false = refl

leads_elsewhere : {K : Type 0} (order : List Place) (parties : List (PartyEnd K)) (lost : Bool) → is_usage (ends_cause order parties lost) ≡ false
leads_elsewhere order parties lost = leads (lost || (has_fault_place order || has_failed_party parties)) (has_faulty_party parties)

module _ {D S K : Type 0} (disk_says : DiskSays D) (sink_says : SinkSays K) (before : Before D K) (after : After D S K) where
  unopened : IsUnopened disk_says sink_says before after → after.ended.cause ≢ causes.Usage
  unopened u = go u.why
    where
      go : IsUnmade disk_says sink_says before after
          ⊎ (IsDamaged disk_says sink_says before after
          ⊎ (IsUnread disk_says sink_says before after ⊎ (after.ended.cause ≡ causes.Memory))) → after.ended.cause ≢ causes.Usage
      go (inl it) = other after.ended.cause causes.Unmade it.cause_is refl
      go (inr (inl it)) = other after.ended.cause (causes.Damaged it.disk it.file it.place) it.cause_is refl
      go (inr (inr (inl it))) = other after.ended.cause causes.Fault it.cause_is refl
      go (inr (inr (inr is))) = other after.ended.cause causes.Memory is refl

  inits : Inits disk_says sink_says before after → after.ended.cause ≢ causes.Usage
  inits it = go it.ends
    where
      go : IsInited disk_says sink_says before after
          ⊎ (IsThere disk_says sink_says before after
          ⊎ IsFailed disk_says sink_says before after) → after.ended.cause ≢ causes.Usage
      go (inl is) = other after.ended.cause causes.Done is.cause_is refl
      go (inr (inl is)) = other after.ended.cause causes.Made is.cause_is refl
      go (inr (inr is)) = other after.ended.cause causes.Fault is.cause_is refl

  dumps : Dumps disk_says sink_says before after → after.ended.cause ≢ causes.Usage
  dumps it = go it.ends
    where
      printed : (is : IsDumped disk_says sink_says before after) → after.ended.cause ≢ causes.Usage
      printed is = elim is.printed [
        | inl whole ↦ other after.ended.cause causes.Done whole.0 refl
        | inr (inl front) ↦ other after.ended.cause causes.Fault front.0 refl
        | inr (inr memory) ↦ other after.ended.cause causes.Memory memory refl
      ]

      go : IsUnopened disk_says sink_says before after
          ⊎ IsDumped disk_says sink_says before after → after.ended.cause ≢ causes.Usage
      go (inl is) = unopened is
      go (inr is) = printed is

  checkpoints : (may_give : ℕ → Type 0) → Checkpoints disk_says sink_says may_give before after → after.ended.cause ≢ causes.Usage
  checkpoints may_give it = go it.ends
    where
      taken : (is : IsTaken disk_says sink_says may_give before after) → after.ended.cause ≢ causes.Usage
      taken is = elim is.line [
        | inl whole ↦ other after.ended.cause causes.Done whole.0 refl
        | inr front ↦ other after.ended.cause causes.Fault front.0 refl
      ]

      go : IsUnopened disk_says sink_says before after
          ⊎ (IsUntaken disk_says sink_says may_give before after
          ⊎ (IsTaken disk_says sink_says may_give before after
          ⊎ IsInDoubt disk_says sink_says may_give before after)) → after.ended.cause ≢ causes.Usage
      go (inl is) = unopened is
      go (inr (inl is)) = other after.ended.cause causes.Memory is.cause_is refl
      go (inr (inr (inl is))) = taken is
      go (inr (inr (inr is))) = other after.ended.cause causes.Fault is.cause_is refl

module _ {D S K H : Type 0} (outside : Outside D S K H) (old_doors new_doors : H) (before : Before D K) (after : After D S K) where
  runs_parties : (IsOrdered : Ordering) (names : List (List ℕ))
      → RunsParties outside old_doors new_doors before after IsOrdered names → after.ended.cause ≢ causes.Usage
  runs_parties IsOrdered names it = go it.ends
    where
      shut : (is : IsShut outside old_doors new_doors before after IsOrdered names) → after.ended.cause ≢ causes.Usage
      shut is = elim is.why [
        | inl fault ↦ other after.ended.cause causes.Fault fault.0 refl
        | inr memory ↦ other after.ended.cause causes.Memory memory refl
      ]

      told : (lost : Bool) → IsTold outside.sink before.out after.out after.ended lost → after.ended.cause ≢ causes.Usage
      told lost is = elim is.is [
        | inl whole ↦ other after.ended.cause (ends_cause after.ended.order after.ended.parties lost) whole.0 (leads_elsewhere after.ended.order after.ended.parties lost)
        | inr front ↦ other after.ended.cause causes.Fault front.0 refl
      ]

      ran : (is : IsRun outside old_doors new_doors before after IsOrdered names) → after.ended.cause ≢ causes.Usage
      ran is = elim is.told [
        | inl parties ↦ told is.lost parties.2
        | inr untold ↦ other after.ended.cause causes.Memory untold.cause_is refl
      ]

      go : IsClosed outside old_doors new_doors before after IsOrdered names
          ⊎ (IsShut outside old_doors new_doors before after IsOrdered names
          ⊎ IsRun outside old_doors new_doors before after IsOrdered names) → after.ended.cause ≢ causes.Usage
      go (inl is) = unopened outside.disk outside.sink before after is.unopened
      go (inr (inl is)) = shut is
      go (inr (inr is)) = ran is

  keeps : (job : Job) (words : List (List ℕ))
      → Keeps outside old_doors new_doors words before after job → after.ended.cause ≢ causes.Usage
  keeps init words it = inits outside.disk outside.sink before after it.0
  keeps dump words it = dumps outside.disk outside.sink before after it.0
  keeps checkpoint words it = checkpoints outside.disk outside.sink before after outside.may_give it.0
  keeps (load seed count) words it = it.0.no_usage
  keeps (schedule seed names) words it = runs_parties (IsDrawn outside.may_give seed) names it
  keeps (serve names) words it = runs_parties AnyOrder names it

  -- ---- the promise

  -- where the words ask for a mode
  pub kept : (words : List (List ℕ)) (job : Job) → asked words ≡ Some job
      → Keeps outside old_doors new_doors words before after job
      → after.ended.status ≡ status_of after.ended.cause
      → KeepsPromise outside old_doors new_doors words before after
  kept words job asks it status = record {
    kept = inl (record { job = job; asks = asks; keeps = it });
    usage = λ usage. absurd (keeps job words it usage);
    status = status;
  }

  refused : (cause : Cause) → IsToldAlone outside.sink before.out after.out after.ended → after.ended.cause ≡ cause → after.ended.journal ≡ before.journal → after.ended.archive ≡ before.archive → new_doors ≡ old_doors
      → IsRefused outside.sink old_doors new_doors before after cause
  refused cause told is journal_is archive_is doors_stay = record { cause_is = is; told = told; journal_is = journal_is; archive_is = archive_is; doors_stay = doors_stay }

  -- where they ask for none
  pub unasked : (words : List (List ℕ)) → asked words ≡ None → IsToldAlone outside.sink before.out after.out after.ended → after.ended.cause ≡ causes.Usage → after.ended.status ≡ status_of causes.Usage
      → after.ended.journal ≡ before.journal → after.ended.archive ≡ before.archive → new_doors ≡ old_doors
      → KeepsPromise outside old_doors new_doors words before after
  unasked words asks told is status journal_is archive_is doors_stay = record {
    kept = inr (inl (record { asks = asks; refused = refused causes.Usage told is journal_is archive_is doors_stay }));
    usage = λ usage. asks;
    status = status ∙ ap status_of (sym is);
  }

  -- where there was no memory to read them
  pub unread : (words : List (List ℕ)) → IsToldAlone outside.sink before.out after.out after.ended → after.ended.cause ≡ causes.Memory → after.ended.status ≡ status_of causes.Memory
      → after.ended.journal ≡ before.journal → after.ended.archive ≡ before.archive → new_doors ≡ old_doors
      → KeepsPromise outside old_doors new_doors words before after
  unread words told is status journal_is archive_is doors_stay = record {
    kept = inr (inr (refused causes.Memory told is journal_is archive_is doors_stay));
    usage = λ usage. absurd (other after.ended.cause causes.Memory is refl usage);
    status = status ∙ ap status_of (sym is);
  }

-- ---- what a mode that was read says of the words

pub asks_for : (words : List (List ℕ)) (found : Option Mode) (mode : Mode) → found ≡ Some mode → IfSome found (λ (m : Mode). asked words ≡ Some (job_of m)) → asked words ≡ Some (job_of mode)
asks_for words found mode is asks = let P : Option Mode → Type 0 = λ o. IfSome o (λ (m : Mode). asked words ≡ Some (job_of m)) in subst P is asks

pub asks_none : (words : List (List ℕ)) (found : Option Mode) → found ≡ None → IfNone found (asked words ≡ None) → asked words ≡ None
asks_none words found is asks = let P : Option Mode → Type 0 = λ o. IfNone o (asked words ≡ None) in subst P is asks
