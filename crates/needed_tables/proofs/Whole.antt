-- What a request does depends on the tables alone that it needs.
use Rattle.std.proofs.Common.{◌≡◌, ℕ, Bool, true, false, List, [], Result, Ok, Err, refl, ap, ◌∙◌}
use Rattle.std.specs.List.{AllByRecursion}
use Rattle.std.proofs.lemmas.Bool.{or_parts}
use Rattle.depot_rows.specs.db_records.Key.{key_table}
use Rattle.depot_rows.specs.db_records.Record.{table_of}
use Rattle.depot_rows.specs.db_records.declared.change.Change.{Change}
use Rattle.depot_rows.specs.db_records.declared.key.Key.{Key}
use Rattle.depot_rows.specs.db_records.declared.key.Key.TheVariants as keys
use Rattle.depot_rows.specs.db_records.declared.table.TableId.{TableId}
use Rattle.depot_rows.specs.db_records.declared.table.TableId.TheVariants.{Rev}
use Rattle.depot_rows.specs.table_changes.Changed.{AllRows}
use Rattle.depot_rows.specs.depot_model.Commands.{whole_step, step}
use Rattle.depot_rows.specs.depot_model.Common.{word_refusal}
use Rattle.depot_rows.specs.depot_model.Deeds.{Deed}
use Rattle.depot_rows.specs.depot_model.Records.{record_of}
use Rattle.depot_rows.specs.depot_model.Step.{Step, after, refuses}
use Rattle.depot_rows.specs.depot_model.Steps.Submitting.{content_at}
use Rattle.depot_rows.specs.depot_model.Tables.{needs_table, own_tables, touches, writes}
use Rattle.depot_rows.specs.depot_model.Tables as model
use Rattle.depot_rows.specs.depot_model.declared.command.Command.{Command}
use Rattle.depot_rows.specs.depot_model.declared.request.Request.{Request}
use Rattle.depot_rows.specs.depot_model.declared.request.WordFault.{WordFault}
use Rattle.depot_rows.specs.Standing.{HasRows, Stand}
use Rattle.reply_rows.specs.Made.{ComeFrom, contents_of}
use Rattle.reply_rows.proofs.Bare.{none_told, refusal_bare}
use Rattle.step_tables.proofs.Rows.{contents_stay, rows_stay}
use Rattle.step_tables.proofs.Whole.{step_stays}
use Rattle.stored_contents.specs.Placed.{StandAfter}
use Rattle.command_core.specs.Outcomes.{HasNeeded, HasNeededBy, IsOutcome}
use Rattle.command_core.specs.declared.outcome.Outcome.{Outcome}
use Rattle.needed_tables.specs.Needed.{AgreeOnNeeded, AreNeeded}
use Rattle.needed_tables.proofs.Bare.{nothing_read}
use Rattle.needed_tables.proofs.Differing.{differ_alike, same_row, same_rows}
use Rattle.needed_tables.proofs.Standing.{no_reads, reads_alike, stand_alike, stand_anywhere, stand_apart}

-- tables that agree on those of a set, of which a step changes no others
module _ (rows all : AllRows) (from : ℕ) (d : List Deed) (request : Request) (outcome : Outcome) (stand : Stand all d) (needed : TableId → Bool)
    (agree : (table : TableId) → needed table ≡ true → rows table ≡ all table)
    (own : AllByRecursion (λ (change : Change). needed (table_of change.row) ≡ true) outcome.changes)
    (stay : (key : Key) → needed (key_table key) ≡ false → record_of (after d (step d request).deeds) key ≡ record_of d key)
    (contents : needed Rev ≡ false → (path : List ℕ) (n : ℕ) → content_at (after d (step d request).deeds) path n ≡ content_at d path n)
    (quiet : needed Rev ≡ false → contents_of (step d request).rows ≡ []) (is : IsOutcome rows from d request outcome) where
  abbrev next : List Deed
  next = after d (step d request).deeds

  stands : HasRows all d Rev → StandAfter all from d next outcome.stores outcome.changes
  stands has = go (needed Rev) refl
    where
      go : (b : Bool) → needed Rev ≡ b → StandAfter all from d next outcome.stores outcome.changes
      go true there = stand_alike rows all d (λ text n. same_row rows all needed agree (keys.Rev text n) there) from next outcome.stores outcome.changes is.changes.rising
          (is.contents (same_rows rows all needed agree d Rev there has))
      go false away = stand_apart needed away all from d next outcome.stores outcome.changes own is.changes.rising (contents away) stand.sound has

  reads : ComeFrom all d (contents_of (step d request).rows) outcome.reads
  reads = go (needed Rev) refl
    where
      go : (b : Bool) → needed Rev ≡ b → ComeFrom all d (contents_of (step d request).rows) outcome.reads
      go true there = reads_alike rows all d (λ text n. same_row rows all needed agree (keys.Rev text n) there) (contents_of (step d request).rows) outcome.reads is.reads
      go false away = no_reads rows all d (contents_of (step d request).rows) outcome.reads (quiet away) is.reads

  alike : IsOutcome all from d request outcome
  alike = record {
    reply = is.reply;
    changes = differ_alike rows all needed agree d next stand stay outcome.changes own is.changes;
    contents = stands;
    nothing_stored = is.nothing_stored;
    reads = reads;
  }

module _ (d : List Deed) (request : Request) where
  abbrev step_by : Result Command WordFault → Step
  step_by asked = elim asked [ Err fault ↦ refuses (word_refusal fault) | Ok command ↦ whole_step d request command ]

  -- words that are no command change nothing
  deeds_none : (fault : WordFault) → request.command ≡ Err fault → (step d request).deeds ≡ []
  deeds_none fault is = ap (λ (asked : Result Command WordFault). (step_by asked).deeds) is

-- a table that isn't touched isn't written
pub outcome_alike : (rows all : AllRows) (from : ℕ) (d : List Deed) (request : Request) (outcome : Outcome) → Stand all d → AgreeOnNeeded rows all request
    → AreNeeded request outcome.changes → IsOutcome rows from d request outcome → IsOutcome all from d request outcome
outcome_alike rows all from d request outcome stand agree own is = go request.command refl agree own
  where
    none_written : (command : Command) (table : TableId) → touches command table ≡ false → writes command table ≡ false
    none_written command table away = (or_parts (model.reads command table) (writes command table) away).1

    go : (asked : Result Command WordFault) → request.command ≡ asked → ((table : TableId) → needs_table asked table ≡ true → rows table ≡ all table)
        → AllByRecursion (λ (change : Change). needs_table asked (table_of change.row) ≡ true) outcome.changes → IsOutcome all from d request outcome
    go (Ok command) asks agree own =
        let each = (step_stays d request command asks).each in
        alike rows all from d request outcome stand (touches command) agree own
        (λ key away. rows_stay (own_tables command).written key (none_written command (key_table key) away) d (step d request).deeds each)
        (λ away. contents_stay (own_tables command).written (none_written command Rev away) d (step d request).deeds each)
        (λ away. nothing_read d request command asks away) is
    go (Err fault) asks agree own =
        alike rows all from d request outcome stand (λ table. false) agree own
        (λ key away. ap (λ (deeds : List Deed). record_of (after d deeds) key) (deeds_none d request fault asks))
        (λ away path n. ap (λ (deeds : List Deed). content_at (after d deeds) path n) (deeds_none d request fault asks))
        (λ away. ap (λ (asked : Result Command WordFault). contents_of (step_by d request asked).rows) asks
        ∙ none_told (refuses (word_refusal fault)).rows (refusal_bare (word_refusal fault), tt)) is

-- where nothing is stored it is the outcome wherever the archive ends
pub outcome_anywhere : (all : AllRows) (from anywhere : ℕ) (d : List Deed) (request : Request) (outcome : Outcome) → IsOutcome all from d request outcome
    → outcome.stores ≡ [] → IsOutcome all anywhere d request outcome
outcome_anywhere all from anywhere d request outcome is none = record {
  reply = is.reply;
  changes = is.changes;
  contents = λ has. stand_anywhere all from anywhere d (after d (step d request).deeds) outcome.stores outcome.changes none (is.contents has);
  nothing_stored = is.nothing_stored;
  reads = is.reads;
}

-- tables that agree with all on what a request needs have it
pub have_needed : (rows all : AllRows) (d : List Deed) (request : Request) → Stand all d → AgreeOnNeeded rows all request → HasNeeded rows d request
have_needed rows all d request stand agree = go request.command agree
  where
    go : (asked : Result Command WordFault) → ((table : TableId) → needs_table asked table ≡ true → rows table ≡ all table) → HasNeededBy rows d asked
    go (Ok command) agree = λ table there. same_rows rows all (touches command) agree d table there (stand.each table)
    go (Err fault) agree = tt
