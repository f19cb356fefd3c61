-- What a checkpoint changes in the rows of a depot, and the generation that begins with them.
use Rattle.std.proofs.Common.{◌≡◌, ◌≢◌, ◌⊎◌, ℕ, ◌+◌, ◌<◌, ◌≤◌, true, List, [], ◌∷◌, Option, Some, None, refl, sym, ap, subst, ◌∙◌, inl, inr, arith}
use Rattle.std.specs.Prelude.{All, ◌==◌, codes, option_map, unwrap_or, if◌then◌else◌}
use Rattle.std.specs.List.{AllByRecursion}
use Rattle.std.proofs.lemmas.List.Elements.{All-from_recursion, recursion_from_All}
use Rattle.outside_api.specs.Disk.{Files}
use Rattle.outside_api.specs.Says.{DiskSays}
use Rattle.checkpoint_file.specs.Checkpoint.{IsCheckpointOf, puts_of}
use Rattle.checkpoint_file.specs.Generations.{IsNext, IsOfDepot, StandsForEither, of_generation}
use Rattle.checkpoint_file.proofs.NextRows.{next_rows}
use Rattle.checkpoint_file.proofs.Texts.{next_records}
use Rattle.depot_rows.specs.db_records.Key.{key_table}
use Rattle.depot_rows.specs.db_records.Record.{key_of, table_of}
use Rattle.depot_rows.specs.db_records.Table.{table_number}
use Rattle.depot_rows.specs.db_records.declared.change.Change.{Change}
use Rattle.depot_rows.specs.db_records.declared.key.Key.TheVariants as keys
use Rattle.depot_rows.specs.db_records.declared.record.Record.{Record}
use Rattle.depot_rows.specs.db_records.declared.record.Record.TheVariants.{Counter}
use Rattle.depot_rows.specs.db_records.declared.table.TableId.TheVariants.{Rev}
use Rattle.depot_rows.specs.db_records.declared.table.TableId.TheVariants as ids
use Rattle.depot_rows.specs.depot_model.Deeds.{Count, Deed}
use Rattle.depot_rows.specs.depot_model.Latest.{count_of}
use Rattle.depot_rows.specs.depot_model.Records.{record_of, unplaced}
use Rattle.depot_rows.specs.depot_model.Rules.{value_of}
use Rattle.depot_rows.specs.depot_model.Step.{Step, after}
use Rattle.depot_rows.specs.depot_model.Steps.Checkpoint.{generation}
use Rattle.depot_rows.specs.Standing.{HasRows, Stand, row_in}
use Rattle.disk_journal.specs.Images.{Committed, HasCommitted}
use Rattle.disk_journal.specs.Keeping.{KeepsOlder}
use Rattle.disk_journal.specs.Stands.{IsStill, Stands, nothing, opening}
use Rattle.disk_journal.specs.declared.journal.Journal.{Journal}
use Rattle.journal_groups.specs.Groups.{AreRecords}
use Rattle.recovery.specs.Holding.{HasAllRows}
use Rattle.recovery.specs.Standing.{StandFor}
use Rattle.row_changes.specs.Differences.{AreDifferences, LeadsTo, change_at, changed_key}
use Rattle.row_texts.proofs.Changes.{changes_have_texts, own_change}
use Rattle.row_texts.specs.Texts.{IsOf64Bits, is_counted}
use Rattle.sound_form_steps.proofs.Changing.{checkpoint_sound}
use Rattle.spec_ops.proofs.NextGeneration.{is_last, is_next}
use Rattle.depot_rows.specs.table_changes.Changed.{AllRows, changed_by, changed_in}
use Rattle.depot_rows.specs.table_store.Rows.{changed_once}
use Rattle.depot_checkpoint.specs.Taking.{IsNextOf, MayHaveBegun, StandsBeforeOrAfter, checkpointed}
use Rattle.step_limits.specs.Limits.{generation_in}
use Rattle.depot_checkpoint.specs.Values.{IsWide}

-- ---- the generation behind one

-- ---- the depot after a checkpoint: of the next generation, or, at the last one, as it was

-- the counter of the generation, as a row and as deeds count it
told_is_counted : (d : List Deed) → generation_in d ≡ generation d
told_is_counted d = go (count_of d (codes "journal"))
  where
    go : (said : Option ℕ) → value_of (option_map (λ value. Counter (record { name = codes "journal"; value = value })) said) ≡ unwrap_or said 0
    go None = refl
    go (Some n) = refl

pub is_begun : (d : List Deed) (n : ℕ) → generation_in d ≡ n → n < 4095 → checkpointed d ≡ of_generation (n + 1) d
is_begun d n is below = ap (λ (s : Step). after d s.deeds) (is_next d n (sym is ∙ told_is_counted d) below)

pub is_over : (d : List Deed) (n : ℕ) → generation_in d ≡ n → 4095 ≤ n → checkpointed d ≡ d
is_over d n is last = ap (λ (s : Step). after d s.deeds) (is_last d n (sym is ∙ told_is_counted d) last)

-- ---- its changes are of counters alone

abbrev IsCounter : Record → Type 0
IsCounter (Counter r) = Unit {0}
IsCounter _ = ⊥

abbrev AreCounters : List Change → Type 0
AreCounters changes = AllByRecursion (λ change. IsCounter change.row) changes

-- no change leads from a row to itself
no_lead : (row now : Option Record) (change : Change) → now ≡ option_map unplaced row → LeadsTo row now (Some change) → ⊥
no_lead None None change is leads = cc
no_lead None (Some new) change is leads = cc
no_lead (Some old) None change is leads = cc
no_lead (Some old) (Some new) change is leads = leads.0 (let e : new ≡ unplaced old = cc in sym e)

-- a row that a counter's deed makes differ is one of a counter
differs_alone : (d : List Deed) (name : List ℕ) (value : Option ℕ) (row : Record) → (record_of (Count name value ∷ d) (key_of row) ≡ record_of d (key_of row) → ⊥) → IsCounter row
differs_alone d name value (Counter r) differs = tt
differs_alone d name value _ differs = absurd (differs refl)

module _ (rows : AllRows) (d : List Deed) (name : List ℕ) (value : Option ℕ) (changes : List Change) (stand : Stand rows d) (differences : AreDifferences rows d (Count name value ∷ d) changes) where
  is_of_counter : (change : Change) → change_at changes (changed_key change) ≡ Some change → IsCounter change.row
  is_of_counter change own =
      let key = changed_key change in
      let leads : LeadsTo (row_in rows key) (record_of (Count name value ∷ d) key) (Some change) =
      subst (LeadsTo (row_in rows key) (record_of (Count name value ∷ d) key)) own (differences.each key (stand.each (key_table key))) in
      differs_alone d name value change.row (λ same. no_lead (row_in rows key) (record_of (Count name value ∷ d) key) change (same ∙ sym (stand.each (key_table key) key refl)) leads)

  are_counters : AreCounters changes
  are_counters = go changes (own_change changes differences.rising)
    where
      go : (cs : List Change) → AllByRecursion (λ change. change_at changes (changed_key change) ≡ Some change) cs → AreCounters cs
      go [] own = tt
      go (c ∷ cs) own = (is_of_counter c own.0, go cs own.1)

-- ---- they have texts, and the rows of revisions stay

counters_counted : (changes : List Change) → AreCounters changes → AllByRecursion (λ (change : Change). is_counted change.row ≡ true) changes
counters_counted [] all = tt
counters_counted (change ∷ changes) all = (here change.row all.0, counters_counted changes all.1)
  where
    here : (row : Record) → IsCounter row → is_counted row ≡ true
    here (Counter r) is = refl
    here _ is = absurd is

counters_small : (changes : List Change) → AreCounters changes → AllByRecursion (λ (change : Change). IsWide change.row) changes → AllByRecursion (λ (change : Change). IsOf64Bits change.row) changes
counters_small [] all wide = tt
counters_small (change ∷ changes) all wide = (here change.row all.0 wide.0, counters_small changes all.1 wide.1)
  where
    here : (row : Record) → IsCounter row → IsWide row → IsOf64Bits row
    here (Counter r) is wide = wide
    here _ is wide = absurd is

revisions_stay : (changes : List Change) (rows : AllRows) → AreCounters changes → changed_by rows changes Rev ≡ rows Rev
revisions_stay [] rows all = refl
revisions_stay (change ∷ changes) rows all = revisions_stay changes (changed_in rows change) all.1 ∙ here change.row all.0
  where
    here : (row : Record) → IsCounter row → (if table_number Rev == table_number (table_of row) then changed_once (rows Rev) change else rows Rev) ≡ rows Rev
    here (Counter r) is = refl
    here _ is = absurd is

-- ---- the text of the rows after it

module _ (was : Committed) (rows : AllRows) (d : List Deed) (changes : List Change) (has : HasAllRows was rows) (stand : Stand rows d) (tells : generation_in d ≡ was.generation) (below : was.generation < 4095)
    (differences : AreDifferences rows d (checkpointed d) changes) where
  begun : checkpointed d ≡ of_generation (was.generation + 1) d
  begun = is_begun d was.generation tells below

  counters : AreCounters changes
  counters = are_counters rows d (codes "journal") (Some (was.generation + 1)) changes stand (subst (λ (e : List Deed). AreDifferences rows d e changes) begun differences)

  records : All (λ (change : Change). IsWide change.row) changes → AreRecords changes
  records wide =
      changes_have_texts rows d (checkpointed d) changes stand (checkpoint_sound d stand.sound) differences
      (All-from_recursion (λ (change : Change). IsOf64Bits change.row) changes (counters_small changes counters (recursion_from_All (λ (change : Change). IsWide change.row) changes wide)))
      (All-from_recursion (λ (change : Change). is_counted change.row ≡ true) changes (counters_counted changes counters))

  pub next_of : All (λ (change : Change). IsWide change.row) changes → (text : List ℕ)
      → (AreRecords (puts_of (changed_by rows changes)) → IsCheckpointOf (was.generation + 1) (changed_by rows changes) text) → IsNext was rows d text
  next_of wide text printed = record {
    after = changed_by rows changes;
    checkpoint = printed (next_records was rows changes has (records wide));
    stand = subst (Stand (changed_by rows changes)) begun (record { sound = checkpoint_sound d stand.sound; each = λ table. differences.left table (stand.each table) });
    revisions = revisions_stay changes rows counters;
  }

  -- the counter that tells the generation differs
  some : changes ≢ []
  some none =
      let key = keys.Counter (codes "journal") in
      let now : HasRows rows (checkpointed d) ids.Counter = subst (λ (l : List Change). HasRows (changed_by rows l) (checkpointed d) ids.Counter) none (differences.left ids.Counter (stand.each ids.Counter)) in
      let same = ap value_of (sym (now key refl) ∙ stand.each ids.Counter key refl) in
      let next = ap generation_in begun in
      omega (arith, same, next, tells)

  pub next_has : All (λ (change : Change). IsWide change.row) changes → (text : List ℕ)
      → (AreRecords (puts_of (changed_by rows changes)) → IsCheckpointOf (was.generation + 1) (changed_by rows changes) text) → IsNextOf was rows d text
  next_has wide text printed = record {
    changes = changes;
    some = some;
    differences = differences;
    has = next_rows was (changed_by rows changes) text (printed (next_records was rows changes has (records wide)));
  }

-- ---- what images stand for

module _ (was : Committed) (rows : AllRows) (d : List Deed) (archive : Files) (of_depot : IsOfDepot was rows d archive) where
  pub stands_before : (image : Files) → HasCommitted was image → StandFor d image archive
  stands_before image committed = record {
    was = was;
    committed = committed;
    rows = rows;
    has = of_depot.has;
    stand = of_depot.stand;
    deletes = of_depot.deletes;
    generation = of_depot.generation;
    within = of_depot.within;
    contents = of_depot.contents;
  }

  pub stands_last : 4095 ≤ was.generation → (image : Files) → HasCommitted was image → StandFor (checkpointed d) image archive
  stands_last last image committed = subst (λ (e : List Deed). StandFor e image archive) (sym (is_over d was.generation of_depot.generation last)) (stands_before image committed)

  pub stands_begun : was.generation < 4095 → (image : Files) → StandFor (of_generation (was.generation + 1) d) image archive → StandFor (checkpointed d) image archive
  stands_begun below image stands = subst (λ (e : List Deed). StandFor e image archive) (sym (is_begun d was.generation of_depot.generation below)) stands

  pub stands_either : was.generation < 4095 → (image : Files) → StandsForEither (was.generation + 1) d archive image → StandsBeforeOrAfter d archive image
  stands_either below image (inl before) = inl before
  stands_either below image (inr after) = inr (stands_begun below image after)

-- ---- what is in doubt where the disk failed

pub may_have_begun : {D : Type 0} (disk_says : DiskSays D) (old new : Journal D) (was : Committed) (rows : AllRows) (d : List Deed) (older : List (List (List ℕ))) (text : List ℕ) → IsNextOf was rows d text
    → IsStill disk_says old new was ⊎ Stands disk_says new was (opening text) → KeepsOlder disk_says new older → MayHaveBegun disk_says new was rows d older
may_have_begun disk_says old new was rows d older text next (inl still) keeps = record { doubt = nothing; next = tt; stands = still.stands; keeps = keeps }
may_have_begun disk_says old new was rows d older text next (inr stands) keeps = record { doubt = opening text; next = next; stands = stands; keeps = keeps }
