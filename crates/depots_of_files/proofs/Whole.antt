-- The depot of the rows that files hold whole.
use Rattle.std.proofs.Common.{◌≡◌, ◌≤◌, ◌+◌, ℕ, true, List, [], Option, Some, None, refl, sym, ap, ◌∙◌, arith, length-take-le, length-drop}
use Rattle.std.specs.Prelude.{option_map, length, drop, codes, is_some, IsTrue}
use Rattle.outside_api.specs.Disk.{Files}
use Rattle.depot_rows.specs.depot_path.Path.{printed, is_path}
use Rattle.depot_rows.specs.db_records.Record.{is_live}
use Rattle.depot_rows.specs.db_records.declared.key.Key.TheVariants as keys
use Rattle.depot_rows.specs.db_records.declared.record.Record.{Record}
use Rattle.depot_rows.specs.db_records.declared.record.Record.TheVariants as records
use Rattle.depot_rows.specs.db_records.declared.rows.RevRecord.{RevRecord}
use Rattle.depot_rows.specs.db_records.declared.table.TableId.TheVariants as tables
use Rattle.depot_rows.specs.table_store.Rows.{is_at, row_at}
use Rattle.depot_rows.specs.table_changes.Changed.{AllRows}
use Rattle.depot_rows.specs.depot_model.Deeds.{Deed}
use Rattle.depot_rows.specs.depot_model.Records.{unplaced, digest, rev_record}
use Rattle.depot_rows.specs.depot_model.Revisions.{revision}
use Rattle.depot_rows.specs.depot_model.Rows.{action_word}
use Rattle.depot_rows.specs.depot_model.Rules.{value_of}
use Rattle.depot_rows.specs.Standing.{Stand}
use Rattle.depot_rows.proofs.Spelled.{at_path-here}
use Rattle.depot_facts.proofs.Listed.{found_in}
use Rattle.depots_of_rows.specs.Telling.{all_unplaced, Contents, TellOf, HasTheseContents}
use Rattle.depots_of_rows.proofs.Told.{is_live_word, live_revision, revision_path}
use Rattle.depots_of_rows.proofs.Whole.{stands}
use Rattle.recovery.specs.Contents.{HoldWhole, HasDigested, IsWhole, bytes_at}
use Rattle.recovery.specs.Standing.{StandFor, HasContents, HasContent}
use Rattle.depots_of_files.proofs.Changed.{all_in, no_line_zero}

abbrev action_in : Option Record → List ℕ
action_in (Some (records.Rev row)) = row.action
action_in _ = []

-- the bytes at the spot of a row of a revision
abbrev bytes_of : List ℕ → Option Record → List ℕ
bytes_of file (Some (records.Rev row)) = bytes_at file row
bytes_of file _ = []

module _ (journal archive : Files) (rows : AllRows) (whole : HoldWhole journal archive rows) where
  abbrev rev_at : List ℕ → ℕ → Option Record
  rev_at text n = row_at (keys.Rev text n) (rows tables.Rev)

  abbrev contents : Contents
  contents text n = bytes_of (archive 0) (rev_at text n)

  -- a live row that is found has its bytes
  found_whole : (text : List ℕ) (n : ℕ) (r : Record) → rev_at text n ≡ Some r → IsWhole (archive 0) r
  found_whole text n r e = all_in (IsWhole (archive 0)) (rows tables.Rev) r whole.whole (found_in (is_at (keys.Rev text n)) (rows tables.Rev) r e).0

  tell : TellOf contents (all_unplaced rows)
  tell text n row e live = go (rev_at text n) refl e
    where
      told : (x : RevRecord) → rev_at text n ≡ Some (records.Rev x) → record x { at = 0 } ≡ row
          → (row.digest ≡ digest (contents text n)) × (row.length ≡ length (contents text n))
      told x found is =
          let live_row : IsTrue (is_live (records.Rev x)) = ap (λ (y : RevRecord). is_live (records.Rev y)) is ∙ live in
          let has : HasDigested (archive 0) x = found_whole text n (records.Rev x) found live_row in
          let here : contents text n ≡ bytes_at (archive 0) x = ap (bytes_of (archive 0)) found in
          let bytes : has.bytes ≡ contents text n = sym has.there.is ∙ sym here in (
            sym (ap (λ (y : RevRecord). y.digest) is) ∙ has.digested ∙ ap digest bytes,
            sym (ap (λ (y : RevRecord). y.length) is) ∙ sym (spot_length x has.there.within) ∙ ap length (sym here),
          )
        where
          spot_length : (y : RevRecord) → y.at + y.length ≤ length (archive 0) → length (bytes_at (archive 0) y) ≡ y.length
          spot_length y within =
              let cut = length-take-le y.length (drop y.at (archive 0)) in
              let left = length-drop y.at (archive 0) in
              cut (omega (arith, left, within))

      go : (o : Option Record) → rev_at text n ≡ o → option_map unplaced o ≡ Some (records.Rev row)
          → (row.digest ≡ digest (contents text n)) × (row.length ≡ length (contents text n))
      go None found is = absurd cc
      go (Some (records.Rev x)) found is = told x found cc
      go (Some (records.Counter x)) found is = absurd cc
      go (Some (records.Group x)) found is = absurd cc
      go (Some (records.Protect x)) found is = absurd cc
      go (Some (records.Domain x)) found is = absurd cc
      go (Some (records.Have x)) found is = absurd cc
      go (Some (records.Label x)) found is = absurd cc
      go (Some (records.Integed x)) found is = absurd cc
      go (Some (records.Resolve x)) found is = absurd cc
      go (Some (records.Working x)) found is = absurd cc
      go (Some (records.Change x)) found is = absurd cc

  module _ (d : List Deed) (stand : Stand rows d) (these : HasTheseContents contents d) where
    -- a revision with a content has a live row
    has_contents : HasContents (archive 0) rows d
    has_contents path n r bytes got held = go (rev_at (printed path) n) refl row_is
      where
        is : is_path path ≡ true
        is = revision_path d path n r stand.sound.paths got

        row_is : option_map unplaced (rev_at (printed path) n) ≡ Some (rev_record n r)
        row_is =
            stand.each tables.Rev (keys.Rev (printed path) n) refl
            ∙ at_path-here path (λ x. option_map (rev_record n) (revision d x n)) is
            ∙ ap (option_map (rev_record n)) got

        live : is_live_word (action_word r.entry.action) ≡ true
        live = live_revision d path n r stand.sound.contents got ∙ ap is_some held

        there : (x : RevRecord) → rev_at (printed path) n ≡ Some (records.Rev x) → x.action ≡ action_word r.entry.action → HasContent (archive 0) x bytes
        there x found acts =
            let has : HasDigested (archive 0) x = found_whole (printed path) n (records.Rev x) found (ap is_live_word acts ∙ live) in
            record { within = has.there.within; is = sym (these path n r bytes got held ∙ ap (bytes_of (archive 0)) found) }

        go : (o : Option Record) → rev_at (printed path) n ≡ o → option_map unplaced o ≡ Some (rev_record n r)
            → (row : RevRecord) × (rev_at (printed path) n ≡ Some (records.Rev row)) × HasContent (archive 0) row bytes
        go None found e = absurd cc
        go (Some (records.Rev x)) found e = (x, found, there x found (ap action_in e))
        go (Some (records.Counter x)) found e = absurd cc
        go (Some (records.Group x)) found e = absurd cc
        go (Some (records.Protect x)) found e = absurd cc
        go (Some (records.Domain x)) found e = absurd cc
        go (Some (records.Have x)) found e = absurd cc
        go (Some (records.Label x)) found e = absurd cc
        go (Some (records.Integed x)) found e = absurd cc
        go (Some (records.Resolve x)) found e = absurd cc
        go (Some (records.Working x)) found e = absurd cc
        go (Some (records.Change x)) found e = absurd cc

    pub stand_for : StandFor d journal archive
    stand_for = record {
      was = whole.hold_within.hold.was;
      committed = whole.hold_within.hold.committed;
      rows = rows;
      has = whole.hold_within.hold.has;
      stand = stand;
      deletes = whole.suit.deletes;
      generation = ap value_of (sym (stand.each tables.Counter (keys.Counter (codes "journal")) refl)) ∙ whole.suit.tells;
      within = whole.hold_within.within;
      contents = has_contents;
    }

  pub some_depot : (d : List Deed) × StandFor d journal archive
  some_depot =
      let built = stands rows contents (record { rules = whole.suit.rules; lines = no_line_zero whole.hold_within.hold.was rows whole.hold_within.hold.has; tell = tell }) in
      (built.0, stand_for built.0 built.1.0 built.1.1)
