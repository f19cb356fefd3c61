-- Contents after a step: those that were there stand where they stood, and those of a submitted change where their entries say.
use Rattle.std.proofs.Common.{◌≡◌, ◌⊎◌, ℕ, true, List, [], ◌∷◌, Option, Some, None, inl, inr, refl, sym, ap, subst, ◌∙◌}
use Rattle.std.specs.Prelude.{option_and_then}
use Rattle.std.specs.List.{AllByRecursion, list_all}
use Rattle.std.proofs.lemmas.Bool.{and_parts}
use Rattle.depot_rows.specs.depot_path.Path.{printed}
use Rattle.depot_rows.specs.db_records.Record.{key_of}
use Rattle.depot_rows.specs.db_records.declared.change.Change.{Change}
use Rattle.depot_rows.specs.db_records.declared.change.Op.{Op}
use Rattle.depot_rows.specs.db_records.declared.change.Op.TheVariants.{Put, Replace, Remove}
use Rattle.depot_rows.specs.db_records.declared.key.Key.{Key}
use Rattle.depot_rows.specs.db_records.declared.key.Key.TheVariants as keys
use Rattle.depot_rows.specs.db_records.declared.record.Record.{Record}
use Rattle.depot_rows.specs.db_records.declared.record.Record.TheVariants as records
use Rattle.depot_rows.specs.db_records.declared.rows.RevRecord.{RevRecord}
use Rattle.depot_rows.specs.db_records.declared.table.TableId.TheVariants.{Rev}
use Rattle.depot_rows.specs.table_changes.Changed.{AllRows, changed_by}
use Rattle.depot_rows.specs.depot_model.Deeds as model
use Rattle.depot_rows.specs.depot_model.Records.{record_of}
use Rattle.depot_rows.specs.depot_model.Revisions.{Revision, revision}
use Rattle.depot_rows.specs.depot_model.Numbers.{landings}
use Rattle.depot_rows.specs.depot_model.Rules.{IsSound, HasRev, have_their_contents}
use Rattle.depot_rows.specs.depot_model.Step.{Step as ModelStep, after}
use Rattle.depot_rows.specs.depot_model.Steps.Submitting.{content_at}
use Rattle.depot_rows.specs.declared.deed.Deed.{Deed}
use Rattle.depot_rows.specs.declared.deed.Deed.TheVariants as deeds
use Rattle.depot_rows.specs.declared.deed.Landing.{Landing}
use Rattle.depot_rows.specs.Deed.{IsLanding}
use Rattle.depot_rows.specs.Effects.{effects, AreOfPaths, Follow}
use Rattle.depot_rows.specs.Standing.{HasRows, row_in}
use Rattle.reply_rows.specs.declared.step.Step.{Step}
use Rattle.row_changes.specs.Differences.{AreDifferences, change_at, changed_key}
use Rattle.row_changes.proofs.Kept.{stored-after, row_after, row_left}
use Rattle.row_texts.proofs.Changes.{own_change}
use Rattle.step_stores.specs.Stored.{AreStored, ArePlaced, IsStoring, LandNothing, NothingLands}
use Rattle.stored_contents.specs.Placed.{HasNoneIfDeleted, HasSpot, IfPut, IsPlacedAt, StandAfter, spot_of}
use Rattle.stored_contents.proofs.Old.{old_content, revision_there, was_none}
use Rattle.stored_contents.proofs.New.{IsNew, done_revs, either, new_content, new_none, new_place, old_row, told_revision, told_row}

module _ (all : AllRows) (from : ℕ) (d : List model.Deed) (sound : IsSound d) (has : HasRows all d Rev) (stores : List (List ℕ)) (changes : List Change)
    (dones : List Deed) (told : List model.Deed) (differ : AreDifferences all d (after d told) changes)
    (new : (key : Key) → row_in all key ≡ None → row_in (changed_by all changes) key ≡ effects dones (row_in all) key) where
  module _ (P : RevRecord → Type 0) (kept : (text : List ℕ) (n : ℕ) → HasRev (record_of d) text n → record_of (after d told) (keys.Rev text n) ≡ record_of d (keys.Rev text n))
      (made : (text : List ℕ) (n : ℕ) (row : RevRecord) → row_in all (keys.Rev text n) ≡ None → Some (records.Rev row) ≡ effects dones (row_in all) (keys.Rev text n) → P row) where
    -- a row that is put is after the changes the one at its key
    put : (change : Change) (op : Op) (row : RevRecord) → change_at changes (changed_key change) ≡ Some change → change.op ≡ op → change.row ≡ records.Rev row
        → row_left op (records.Rev row) ≡ Some (records.Rev row) → P row
    put change op row own op_is row_is left =
        let at : change_at changes (keys.Rev row.path row.rev) ≡ Some change = ap (λ (r : Record). change_at changes (key_of r)) (sym row_is) ∙ own in
        let none = was_none all d (after d told) changes has differ kept row.path row.rev change at in
        let now : row_in (changed_by all changes) (keys.Rev row.path row.rev) ≡ row_left change.op change.row =
        stored-after all changes differ.rising (keys.Rev row.path row.rev)
        ∙ ap (λ (c : Option Change). row_after c (row_in all (keys.Rev row.path row.rev))) at in
        let row_now : row_in (changed_by all changes) (keys.Rev row.path row.rev) ≡ Some (records.Rev row) = now ∙ (λ i. row_left (op_is i) (row_is i)) ∙ left in
        made row.path row.rev row none (sym row_now ∙ new (keys.Rev row.path row.rev) none)

    if_put : (change : Change) → change_at changes (changed_key change) ≡ Some change → IfPut P change.op change.row
    if_put change own = go change.op change.row refl refl
      where
        go : (op : Op) (row : Record) → change.op ≡ op → change.row ≡ row → IfPut P op row
        go Remove row op_is row_is = tt
        go Put (records.Rev row) op_is row_is = put change Put row own op_is row_is refl
        go Replace (records.Rev row) op_is row_is = put change Replace row own op_is row_is refl
        go Put _ op_is row_is = tt
        go Replace _ op_is row_is = tt

    -- what holds of each new row holds of all that are put
    pub all_put : AllByRecursion (λ change. IfPut P change.op change.row) changes
    all_put = go changes (own_change changes differ.rising)
      where
        go : (cs : List Change) → AllByRecursion (λ change. change_at changes (changed_key change) ≡ Some change) cs → AllByRecursion (λ change. IfPut P change.op change.row) cs
        go [] own = tt
        go (change ∷ cs) own = (if_put change own.0, go cs own.1)

  -- ---- nothing is submitted

  no_row : LandNothing dones → (P : RevRecord → Type 0) (text : List ℕ) (n : ℕ) (row : RevRecord) → row_in all (keys.Rev text n) ≡ None
      → Some (records.Rev row) ≡ effects dones (row_in all) (keys.Rev text n) → P row
  no_row none P text n row empty is = absurd (let both : Some (records.Rev row) ≡ None = is ∙ done_revs dones (row_in all) none text n ∙ empty in cc)

  pub quiet_after : LandNothing dones → NothingLands told → StandAfter all from d (after d told) stores changes
  quiet_after none nothing = record {
    contents = λ path n bytes content.
        old_content all d (after d told) changes has differ (λ text n h. told_row told d nothing text n) sound stores from path n bytes
        (ap (option_and_then (λ (r : Revision). r.entry.content)) (sym (told_revision told d nothing path n)) ∙ content);
    places = all_put (HasSpot all d stores from) (λ text n h. told_row told d nothing text n) (no_row none (HasSpot all d stores from));
    deletes = λ sound_after. all_put HasNoneIfDeleted (λ text n h. told_row told d nothing text n) (no_row none HasNoneIfDeleted);
  }

-- ---- a change is submitted

-- in a sound depot the change that landed before deeds that submit nothing has its contents
told_whole : (told d : List model.Deed) → NothingLands told → (m : model.Landing) (others : List model.Landing) → landings d ≡ m ∷ others
    → list_all have_their_contents (landings (after d told)) ≡ true → have_their_contents m ≡ true
told_whole [] d nothing m others is whole = (and_parts (have_their_contents m) (list_all have_their_contents others) (ap (list_all have_their_contents) (sym is) ∙ whole)).0
told_whole (model.Land l ∷ told) d nothing m others is whole = absurd nothing
told_whole (deed ∷ told) d nothing m others is whole = told_whole told (deed ∷ d) nothing m others is whole

module _ (all : AllRows) (from : ℕ) (d : List model.Deed) (sound : IsSound d) (has : HasRows all d Rev) (stores : List (List ℕ)) (changes : List Change)
    (l : Landing) (m : model.Landing) (dones : List Deed) (told : List model.Deed) (differ : AreDifferences all d (after d (model.Land m ∷ told)) changes)
    (new : (key : Key) → row_in all key ≡ None → row_in (changed_by all changes) key ≡ effects (deeds.Land l ∷ dones) (row_in all) key)
    (is : IsLanding d l m) (ok : AreOfPaths l.entries) (placed : ArePlaced all d stores from l.entries m.entries) (quiet : LandNothing dones) (nothing : NothingLands told) where
  abbrev landed : List model.Deed
  landed = model.Land m ∷ d

  kept : (text : List ℕ) (n : ℕ) → HasRev (record_of d) text n → record_of (after landed told) (keys.Rev text n) ≡ record_of d (keys.Rev text n)
  kept text n h = told_row told landed nothing text n ∙ old_row all d l m is ok stores from placed text n h

  contents : (path : List ℕ) (n : ℕ) (bytes : List ℕ) → content_at (after landed told) path n ≡ Some bytes
      → (row : RevRecord) × (row_in (changed_by all changes) (keys.Rev (printed path) n) ≡ Some (records.Rev row)) × IsPlacedAt all d stores from (spot_of row) bytes
  contents path n bytes content =
      let r = revision_there (revision (after landed told) path n) bytes content in
      go r.0 r.1.1 (either all d l m is ok stores from placed path n r.0 (sym (told_revision told landed nothing path n) ∙ r.1.0))
    where
      go : (r : Revision) → r.entry.content ≡ Some bytes → (revision d path n ≡ Some r) ⊎ IsNew all d l m is ok stores from placed path n r
          → (row : RevRecord) × (row_in (changed_by all changes) (keys.Rev (printed path) n) ≡ Some (records.Rev row)) × IsPlacedAt all d stores from (spot_of row) bytes
      go r content_is (inl before) =
          old_content all d (after landed told) changes has differ kept sound stores from path n bytes (ap (option_and_then (λ (r : Revision). r.entry.content)) before ∙ content_is)
      go r content_is (inr x) =
          let made = new_content all d l m is ok stores from placed dones quiet has path n r bytes x content_is in
          (made.0, new (keys.Rev (printed path) n) made.1.0 ∙ made.1.1.0, made.1.1.1)

  pub landed_after : StandAfter all from d (after landed told) stores changes
  landed_after = record {
    contents = contents;
    places = all_put all from d sound has stores changes (deeds.Land l ∷ dones) (model.Land m ∷ told) differ new (HasSpot all d stores from) kept
        (λ text n row empty is_made. new_place all d l m is ok stores from placed dones quiet text n row empty is_made);
    deletes = λ sound_after.
        all_put all from d sound has stores changes (deeds.Land l ∷ dones) (model.Land m ∷ told) differ new HasNoneIfDeleted kept
        (λ text n row empty is_made. new_none all d l m is ok stores from placed dones quiet text n row empty is_made (told_whole told landed nothing m (landings d) refl sound_after.contents));
  }

-- ---- either

module _ (all : AllRows) (from : ℕ) (d : List model.Deed) (sound : IsSound d) (has : HasRows all d Rev) (stores : List (List ℕ)) (changes : List Change) where
  after_deeds : (dones : List Deed) (told : List model.Deed) → Follow d dones told → AreStored all from d stores dones told → AreDifferences all d (after d told) changes
      → ((key : Key) → row_in all key ≡ None → row_in (changed_by all changes) key ≡ effects dones (row_in all) key)
      → StandAfter all from d (after d told) stores changes
  after_deeds (deeds.Land l ∷ dones) [] follow stored differ new = absurd follow
  after_deeds (deeds.Land l ∷ dones) (deed ∷ told) follow stored differ new =
      let P : model.Deed → Type 0 = λ x. AreStored all from d stores (deeds.Land l ∷ dones) (x ∷ told) → AreDifferences all d (after d (x ∷ told)) changes
      → StandAfter all from d (after d (x ∷ told)) stores changes in
      subst P follow.0.1
      (λ stored differ. landed_after all from d sound has stores changes l follow.0.0 dones told differ new follow.0.2 follow.1 stored.0 stored.1.0 stored.1.1)
      stored differ
  after_deeds dones told follow stored differ new = quiet_after all from d sound has stores changes dones told differ new stored.1.0 stored.1.1

pub stand_after : (all : AllRows) (from : ℕ) (d : List model.Deed) (told : ModelStep) (step : Step) (changes : List Change) → IsSound d → HasRows all d Rev → IsStoring all from d told step
    → AreDifferences all d (after d told.deeds) changes
    → ((key : Key) → row_in all key ≡ None → row_in (changed_by all changes) key ≡ effects step.deeds (row_in all) key)
    → StandAfter all from d (after d told.deeds) step.stores changes
stand_after all from d told step changes sound has storing differ new =
    after_deeds all from d sound has step.stores changes step.deeds told.deeds storing.deeds storing.stores differ new
