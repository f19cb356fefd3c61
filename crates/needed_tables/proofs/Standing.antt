-- Contents that stand after a command by the rows of some tables stand so by those of all.
use Rattle.std.proofs.Common.{◌≡◌, ℕ, Bool, true, false, List, [], ◌∷◌, Option, None, inl, inr, refl, sym, ap, subst, ◌∙◌}
use Rattle.std.specs.List.{AllByRecursion}
use Rattle.std.specs.List.Sorted.{IsStrictlySortedBy}
use Rattle.std.specs.Prelude.{map}
use Rattle.std.proofs.lemmas.Bool.{true≢false}
use Rattle.depot_rows.specs.depot_path.Path.{printed}
use Rattle.depot_rows.specs.db_records.Key.{key_cmp}
use Rattle.depot_rows.specs.db_records.Record.{table_of}
use Rattle.depot_rows.specs.db_records.declared.change.Change.{Change}
use Rattle.depot_rows.specs.db_records.declared.change.Op.{Op}
use Rattle.depot_rows.specs.db_records.declared.change.Op.TheVariants.{Put, Remove, Replace}
use Rattle.depot_rows.specs.db_records.declared.change.Spot.{Spot}
use Rattle.depot_rows.specs.db_records.declared.key.Key.TheVariants as keys
use Rattle.depot_rows.specs.db_records.declared.record.Record.{Record}
use Rattle.depot_rows.specs.db_records.declared.record.Record.TheVariants as records
use Rattle.depot_rows.specs.db_records.declared.rows.RevRecord.{RevRecord}
use Rattle.depot_rows.specs.db_records.declared.table.TableId.{TableId}
use Rattle.depot_rows.specs.db_records.declared.table.TableId.TheVariants.{Rev}
use Rattle.depot_rows.specs.table_changes.Changed.{AllRows, changed_by}
use Rattle.depot_rows.specs.depot_model.Deeds.{Deed}
use Rattle.depot_rows.specs.depot_model.Records.{record_of}
use Rattle.depot_rows.specs.depot_model.Rules.{IsSound}
use Rattle.depot_rows.specs.depot_model.Step.{nothing}
use Rattle.depot_rows.specs.depot_model.Steps.Submitting.{content_at}
use Rattle.depot_rows.specs.Standing.{HasRows, row_in}
use Rattle.reply_rows.specs.Made.{ComeFrom, ComesFrom, IsSpotOf, told}
use Rattle.reply_rows.specs.declared.content.RowContent.{RowContent}
use Rattle.reply_rows.specs.declared.content.RowContent.TheVariants.{At, Given}
use Rattle.row_changes.specs.Differences.{AreDifferences, change_at, changed_key}
use Rattle.row_changes.proofs.Kept.{row_after, stored-after}
use Rattle.step_stores.specs.Stored.{StandsAmong}
use Rattle.stored_contents.specs.Placed.{HasNoneIfDeleted, HasSpot, IfPut, IsPlacedAt, StandAfter, spot_of}
use Rattle.stored_contents.proofs.Whole.{stand_after}
use Rattle.needed_tables.proofs.Differing.{stays_so, unchanged}

-- what holds of the row of a revision that is put
if_put : (P Q : RevRecord → Type 0) → ((row : RevRecord) → P row → Q row) → (op : Op) (row : Record) → IfPut P op row → IfPut Q op row
if_put P Q f Remove row h = tt
if_put P Q f Put (records.Rev row) h = f row h
if_put P Q f Replace (records.Rev row) h = f row h
if_put P Q f Put _ h = tt
if_put P Q f Replace _ h = tt

all_put : (P Q : RevRecord → Type 0) → ((row : RevRecord) → P row → Q row) → (changes : List Change)
    → AllByRecursion (λ (change : Change). IfPut P change.op change.row) changes → AllByRecursion (λ (change : Change). IfPut Q change.op change.row) changes
all_put P Q f [] h = tt
all_put P Q f (c ∷ cs) h = (if_put P Q f c.op c.row h.0, all_put P Q f cs h.1)

-- ---- other tables with the same rows of revisions, or another place in the archive

module _ (rows all : AllRows) (from to : ℕ) (d e : List Deed) (stores : List (List ℕ)) (changes : List Change)
    (places : (spot : Spot) (bytes : List ℕ) → IsPlacedAt rows d stores from spot bytes → IsPlacedAt all d stores to spot bytes)
    (same : (text : List ℕ) (n : ℕ) → row_in (changed_by all changes) (keys.Rev text n) ≡ row_in (changed_by rows changes) (keys.Rev text n)) where
  has_spot : (row : RevRecord) → HasSpot rows d stores from row → HasSpot all d stores to row
  has_spot row (inl none) = inl none
  has_spot row (inr at) = inr (at.0, places (spot_of row) at.0 at.1)

  moved : StandAfter rows from d e stores changes → StandAfter all to d e stores changes
  moved stand = record {
    contents = λ path n bytes content.
        let at = stand.contents path n bytes content in (at.0, same (printed path) n ∙ at.1, places (spot_of at.0) bytes at.2);
    places = all_put (HasSpot rows d stores from) (HasSpot all d stores to) has_spot changes stand.places;
    deletes = stand.deletes;
  }

-- where nothing is stored the place in the archive doesn't matter
pub stand_anywhere : (all : AllRows) (from to : ℕ) (d e : List Deed) (stores : List (List ℕ)) (changes : List Change) → stores ≡ []
    → StandAfter all from d e stores changes → StandAfter all to d e stores changes
stand_anywhere all from to d e stores changes none = moved all all from to d e stores changes places (λ text n. refl)
  where
    places : (spot : Spot) (bytes : List ℕ) → IsPlacedAt all d stores from spot bytes → IsPlacedAt all d stores to spot bytes
    places spot bytes (inl at) = inl at
    places spot bytes (inr among) = absurd (subst (λ (s : List (List ℕ)). StandsAmong s from spot bytes) none among)

module _ (rows all : AllRows) (d : List Deed) (same : (text : List ℕ) (n : ℕ) → row_in rows (keys.Rev text n) ≡ row_in all (keys.Rev text n)) where
  spot_alike : (bytes : List ℕ) (spot : Spot) → IsSpotOf rows d bytes spot → IsSpotOf all d bytes spot
  spot_alike bytes spot at = record {
    path = at.path;
    rev = at.rev;
    row = at.row;
    there = sym (same (printed at.path) at.rev) ∙ at.there;
    at = at.at;
    content_is = at.content_is;
  }

  -- a content that is given is the same by all rows
  comes_alike : (bytes : List ℕ) (place : RowContent) → ComesFrom rows d bytes place → ComesFrom all d bytes place
  comes_alike bytes (At spot) comes = spot_alike bytes spot comes
  comes_alike bytes (Given text) comes = comes

  pub reads_alike : (contents : List (List ℕ)) (places : List RowContent) → ComeFrom rows d contents places → ComeFrom all d contents places
  reads_alike [] [] come = tt
  reads_alike [] (place ∷ places) come = absurd come
  reads_alike (bytes ∷ contents) [] come = absurd come
  reads_alike (bytes ∷ contents) (place ∷ places) come = (comes_alike bytes place come.0, reads_alike contents places come.1)

  pub stand_alike : (from : ℕ) (e : List Deed) (stores : List (List ℕ)) (changes : List Change) → IsStrictlySortedBy key_cmp (map changed_key changes)
      → StandAfter rows from d e stores changes → StandAfter all from d e stores changes
  stand_alike from e stores changes rising = moved rows all from from d e stores changes places after
    where
      places : (spot : Spot) (bytes : List ℕ) → IsPlacedAt rows d stores from spot bytes → IsPlacedAt all d stores from spot bytes
      places spot bytes (inl at) = inl (spot_alike bytes spot at)
      places spot bytes (inr among) = inr among

      after : (text : List ℕ) (n : ℕ) → row_in (changed_by all changes) (keys.Rev text n) ≡ row_in (changed_by rows changes) (keys.Rev text n)
      after text n =
          stored-after all changes rising (keys.Rev text n)
          ∙ (ap (row_after (change_at changes (keys.Rev text n))) (sym (same text n)) ∙ sym (stored-after rows changes rising (keys.Rev text n)))

-- nothing is read
pub no_reads : (rows all : AllRows) (d : List Deed) (contents : List (List ℕ)) (places : List RowContent) → contents ≡ [] → ComeFrom rows d contents places
    → ComeFrom all d contents places
no_reads rows all d contents places none come =
    subst (λ (c : List (List ℕ)). ComeFrom all d c places) (sym none) (go places (subst (λ (c : List (List ℕ)). ComeFrom rows d c places) none come))
  where
    go : (p : List RowContent) → ComeFrom rows d [] p → ComeFrom all d [] p
    go [] come = tt
    go (place ∷ p) come = absurd come

-- ---- changes of other tables than that of revisions

module _ (all : AllRows) (d : List Deed) (sound : IsSound d) (has : HasRows all d Rev) where
  none_differ : AreDifferences all d d []
  unfolding IsStrictlySortedBy
  none_differ = record {
    each = λ key has. stays_so (row_in all key) (record_of d key) None (sym (has key refl)) refl;
    rising = tt;
    fit = tt;
    left = λ table has. has;
  }

  -- each content stands where its row says
  pub stand_still : StandAfter all 0 d d [] []
  stand_still = stand_after all 0 d nothing (told []) [] sound has (record { deeds = tt; rows = refl; stores = (refl, (tt, tt)); reads = tt }) none_differ (λ key none. refl)

module _ (needed : TableId → Bool) (away : needed Rev ≡ false) where
  none_put : (P : RevRecord → Type 0) (op : Op) (row : Record) → needed (table_of row) ≡ true → IfPut P op row
  none_put P Remove row own = tt
  none_put P Put (records.Rev row) own = absurd (true≢false (sym own ∙ away))
  none_put P Replace (records.Rev row) own = absurd (true≢false (sym own ∙ away))
  none_put P Put _ own = tt
  none_put P Replace _ own = tt

  none_are_put : (P : RevRecord → Type 0) (changes : List Change) → AllByRecursion (λ (change : Change). needed (table_of change.row) ≡ true) changes
      → AllByRecursion (λ (change : Change). IfPut P change.op change.row) changes
  none_are_put P [] own = tt
  none_are_put P (c ∷ cs) own = (none_put P c.op c.row own.0, none_are_put P cs own.1)

  pub stand_apart : (all : AllRows) (from : ℕ) (d e : List Deed) (stores : List (List ℕ)) (changes : List Change)
      → AllByRecursion (λ (change : Change). needed (table_of change.row) ≡ true) changes → IsStrictlySortedBy key_cmp (map changed_key changes)
      → ((path : List ℕ) (n : ℕ) → content_at e path n ≡ content_at d path n) → IsSound d → HasRows all d Rev → StandAfter all from d e stores changes
  stand_apart all from d e stores changes own rising stay sound has = record {
    contents = λ path n bytes content.
        let at = (stand_still all d sound has).contents path n bytes (sym (stay path n) ∙ content) in (
          at.0,
          stored-after all changes rising (keys.Rev (printed path) n)
              ∙ (ap (λ (c : Option Change). row_after c (row_in all (keys.Rev (printed path) n))) (unchanged needed changes own (keys.Rev (printed path) n) away) ∙ at.1),
          still (spot_of at.0) bytes at.2,
        );
    places = none_are_put (HasSpot all d stores from) changes own;
    deletes = λ sound_after. none_are_put HasNoneIfDeleted changes own;
  }
    where
      still : (spot : Spot) (bytes : List ℕ) → IsPlacedAt all d [] 0 spot bytes → IsPlacedAt all d stores from spot bytes
      still spot bytes (inl at) = inl at
      still spot bytes (inr among) = absurd among
