-- Where contents are found, and that the first that is found is taken.
use Rattle.std.proofs.Common.{◌≡◌, ℕ, Bool, true, false, List, Option, Some, None, refl, sym, ap, subst, ◌∙◌}
use Rattle.std.specs.Prelude.{option_map, if◌then◌else◌}
use Rattle.std.specs.Option.{option_or}
use Rattle.depot_rows.specs.depot_path.Path.{is_path, printed}
use Rattle.depot_rows.specs.db_records.declared.key.Key.TheVariants as keys
use Rattle.depot_rows.specs.db_records.declared.record.Record.{Record}
use Rattle.depot_rows.specs.db_records.declared.record.Record.TheVariants as records
use Rattle.depot_rows.specs.db_records.declared.rows.RevRecord.{RevRecord}
use Rattle.depot_rows.specs.db_records.declared.table.TableId.TheVariants as tables
use Rattle.depot_rows.specs.table_store.Rows.{row_at}
use Rattle.depot_rows.specs.table_changes.Changed.{AllRows}
use Rattle.depot_rows.specs.depot_model.Deeds.{Deed}
use Rattle.depot_rows.specs.depot_model.Records.{rev_record, unplaced}
use Rattle.depot_rows.specs.depot_model.Revisions.{Revision, revision}
use Rattle.depot_rows.specs.depot_model.Rules.{IsSound}
use Rattle.depot_rows.specs.depot_model.Steps.Submitting.{content_at}
use Rattle.depot_rows.specs.Standing.{HasRows}
use Rattle.reply_rows.specs.Made.{IsSpotOf}
use Rattle.file_contents.specs.Content.{IsFound, found_in_row}
use Rattle.file_contents.specs.Contents.{TellsContent}
use Rattle.file_contents.specs.declared.content.Found.{Found}
use Rattle.file_contents.specs.declared.content.Found.TheVariants.{Old, Absent}
use Rattle.file_contents.proofs.ContentRows.{said, told, untold}

abbrev is_rev : Record → Bool
is_rev (records.Rev r) = true
is_rev _ = false

module _ (all : AllRows) (d : List Deed) (path : List ℕ) (n : ℕ) (sound : IsSound d) (has : HasRows all d tables.Rev) (good : is_path path ≡ true) where
  abbrev row : Option Record
  row = row_at (keys.Rev (printed path) n) (all tables.Rev)

  other : (r : Record) → is_rev (unplaced r) ≡ false → row ≡ Some r → ⊥
  other r apart e = go (revision d path n) (ap (option_map unplaced) (sym e) ∙ said all d path n sound has good)
    where
      go : (o : Option Revision) → Some (unplaced r) ≡ option_map (rev_record n) o → ⊥
      go None is = absurd cc
      go (Some v) is = let one : unplaced r ≡ rev_record n v = cc in absurd (let differ : false ≡ true = sym apart ∙ ap is_rev one in cc)

  spot_of : (r : RevRecord) → row ≡ Some (records.Rev r) → (bytes : List ℕ) → content_at d path n ≡ Some bytes
      → IsSpotOf all d bytes (record { at = r.at; length = r.length })
  spot_of r e bytes is = record { path = path; rev = n; row = r; there = e; at = refl; content_is = is }

  of_row : (r : RevRecord) → row ≡ Some (records.Rev r) → (x : Option (List ℕ)) → content_at d path n ≡ x → TellsContent r x
      → IsFound all d (found_in_row (Some (records.Rev r))) x
  of_row r e None is t =
      subst (λ (b : Bool). IsFound all d (if b then Old (record { digest = r.digest; spot = record { at = r.at; length = r.length } }) else Absent) None) (sym t) tt
  of_row r e (Some bytes) is t =
      subst (λ (b : Bool). IsFound all d (if b then Old (record { digest = r.digest; spot = record { at = r.at; length = r.length } }) else Absent) (Some bytes))
      (sym t.0) (spot_of r e bytes is, (t.1, t.2))

  pub found : (r : Option Record) → row ≡ r → IsFound all d (found_in_row r) (content_at d path n)
  found None e = subst (λ (x : Option (List ℕ)). IsFound all d Absent x) (sym (untold all d path n sound has good e)) tt
  found (Some (records.Rev r)) e = of_row r e (content_at d path n) refl (told all d path n sound has good r e)
  found (Some (records.Counter r)) e = absurd (other (records.Counter r) refl e)
  found (Some (records.Group r)) e = absurd (other (records.Group r) refl e)
  found (Some (records.Protect r)) e = absurd (other (records.Protect r) refl e)
  found (Some (records.Domain r)) e = absurd (other (records.Domain r) refl e)
  found (Some (records.Have r)) e = absurd (other (records.Have r) refl e)
  found (Some (records.Label r)) e = absurd (other (records.Label r) refl e)
  found (Some (records.Integed r)) e = absurd (other (records.Integed r) refl e)
  found (Some (records.Resolve r)) e = absurd (other (records.Resolve r) refl e)
  found (Some (records.Working r)) e = absurd (other (records.Working r) refl e)
  found (Some (records.Change r)) e = absurd (other (records.Change r) refl e)

-- ---- one of two

module _ (all : AllRows) (d : List Deed) where
  -- a content that is there, and one that isn't
  pub is_first : (found : Found) (b : List ℕ) (o y : Option (List ℕ)) → Some b ≡ o → IsFound all d found (Some b) → IsFound all d found (option_or o y)
  is_first found b o y e h = subst (λ (x : Option (List ℕ)). IsFound all d found (option_or x y)) e h

  pub is_other : (found : Found) (o y : Option (List ℕ)) → None ≡ o → IsFound all d found y → IsFound all d found (option_or o y)
  is_other found o y e h = subst (λ (x : Option (List ℕ)). IsFound all d found (option_or x y)) e h
