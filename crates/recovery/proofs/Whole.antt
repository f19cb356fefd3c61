-- Files that stand for a depot have the contents of its revisions, with the digests of their rows.
use Rattle.std.proofs.Common.{◌≡◌, ℕ, Bool, true, false, List, [], ◌∷◌, ◌++◌, Option, Some, None, Result, Ok, Err, refl, sym, ◌∙◌, ap, subst, append_assoc, IsTrue}
use Rattle.std.specs.Prelude.{◌&&◌, ◌==◌, not, codes, option_map, if◌then◌else◌, bytes_eq, is_some, is_none}
use Rattle.outside_api.specs.Disk.{Files}
use Rattle.depot_rows.proofs.db_records.Order.{keys_equal}
use Rattle.depot_rows.specs.db_records.Record.{key_of, table_of, is_live}
use Rattle.depot_rows.specs.db_records.Table.{table_number}
use Rattle.depot_rows.specs.db_records.declared.change.Change.{Change}
use Rattle.depot_rows.specs.db_records.declared.key.Key.TheVariants as keys
use Rattle.depot_rows.specs.db_records.declared.record.Record.{Record}
use Rattle.depot_rows.specs.db_records.declared.record.Record.TheVariants.{Rev}
use Rattle.depot_rows.specs.db_records.declared.rows.RevRecord.{RevRecord}
use Rattle.depot_rows.specs.db_records.declared.table.TableId.{TableId}
use Rattle.depot_rows.specs.db_records.declared.table.TableId.TheVariants as tables
use Rattle.depot_rows.specs.depot_path.Bytes.{same}
use Rattle.depot_rows.specs.depot_path.Path.{path_of, printed}
use Rattle.depot_rows.specs.depot_path.declared.fault.PathFault.{PathFault}
use Rattle.depot_rows.specs.table_store.Rows.{IsRising, row_at, changed_once}
use Rattle.row_order.proofs.Order.{changed_once_rises, before_row, IsRising-right, row_at-here}
use Rattle.depot_rows.specs.table_changes.Changed.{AllRows, changed_by, changed_in, no_rows}
use Rattle.depot_rows.specs.depot_model.Deeds.{Deed, Action, Add, Edit, Delete, Branch, Integrate, MoveAdd, MoveDelete}
use Rattle.depot_rows.specs.depot_model.Revisions.{Revision, revision, is_live_action}
use Rattle.depot_rows.specs.depot_model.Records.{at_path, record_of, rev_record, unplaced, digest}
use Rattle.depot_rows.specs.depot_model.Rows.{action_word}
use Rattle.depot_rows.specs.depot_model.Rules.{KeepRules, Rows, value_of}
use Rattle.depot_rows.proofs.Keys.{same-is}
use Rattle.depot_rows.specs.Standing.{unplaced_at}
use Rattle.depot_rows.specs.db_records.Key.{key_table}
use Rattle.recovery.specs.Holding.{joined}
use Rattle.recovery.specs.Contents.{HasDigested, IsWhole, AreWhole, HoldWhole}
use Rattle.recovery.specs.Rules.{KeepTheirRules}
use Rattle.recovery.specs.Standing.{StandFor, HasContent}
use Rattle.recovery.proofs.Landed.{own_content, HasOwn}

-- ---- the rows of files rise

rises : (rows : AllRows) (changes : List Change) (table : TableId) → IsRising (rows table) → IsRising (changed_by rows changes table)
rises rows [] table up = up
rises rows (change ∷ changes) table up = rises (changed_in rows change) changes table (once (table_number table == table_number (table_of change.row)))
  where
    once : (b : Bool) → IsRising (if b then changed_once (rows table) change else rows table)
    once true = changed_once_rises (rows table) change up
    once false = up

-- what holds of each row that is found at its key holds of all
each_found : (file : List ℕ) (front rows : List Record) → IsRising (front ++ rows) → ((row : Record) → row_at (key_of row) (front ++ rows) ≡ Some row → IsWhole file row) → AreWhole file rows
each_found file front [] up each = tt
each_found file front (row ∷ rows) up each = (
  each row (row_at-here (key_of row) front rows (before_row front row rows up) (IsRising-right front (row ∷ rows) up).0 row ((keys_equal (key_of row) (key_of row)).1 refl)),
  each_found file (front ++ row ∷ []) rows (subst IsRising (sym (append_assoc front (row ∷ []) rows)) up)
      (λ r at. each r (subst (λ (l : List Record). row_at (key_of r) l ≡ Some r) (append_assoc front (row ∷ []) rows) at)),
)

-- ---- the record of a revision

record Spells (text : List ℕ) (said : List ℕ → Option Record) (r : Record) : Type 0 where
  pub path : List ℕ
  pub prints : printed path ≡ text
  pub says : said path ≡ Some r

spelled : (text : List ℕ) (said : List ℕ → Option Record) (r : Record) → at_path text said ≡ Some r → Spells text said r
spelled text said r = go (path_of text)
  where
    go : (read : Result (List ℕ) PathFault)
        → (elim read as (λ _. Option Record) [ Err fault ↦ None | Ok x ↦ if same (printed x) text then said x else None ]) ≡ Some r → Spells text said r
    go (Err fault) e = absurd cc
    go (Ok x) e = test (same (printed x) text) refl e
      where
        test : (b : Bool) → same (printed x) text ≡ b → (if b then said x else None) ≡ Some r → Spells text said r
        test true is e = record { path = x; prints = same-is (printed x) text is; says = e }
        test false is e = absurd cc

abbrev digest_in : Record → List ℕ
digest_in (Rev row) = row.digest
digest_in _ = []

abbrev action_in : Record → List ℕ
action_in (Rev row) = row.action
action_in _ = []

abbrev live_word : List ℕ → Bool
live_word word = not (bytes_eq word (codes "delete")) && not (bytes_eq word (codes "move/delete"))

abbrev digest_of : Option (List ℕ) → List ℕ
digest_of content = elim content [ None ↦ [] | Some bytes ↦ digest bytes ]

dead_word : (action : Action) → is_live_action action ≡ false → live_word (action_word action) ≡ true → ⊥
dead_word Add dead live = cc
dead_word Edit dead live = cc
dead_word Delete dead live = cc
dead_word Branch dead live = cc
dead_word Integrate dead live = cc
dead_word MoveAdd dead live = cc
dead_word MoveDelete dead live = cc

no_content : (live : Bool) → (if live then false else true) ≡ true → live ≡ false
no_content true e = absurd cc
no_content false e = refl

same_row : {a b : RevRecord} → Some (Rev a) ≡ Some (Rev b) → a ≡ b
same_row e = cc

same_record : {a b : Record} → Some a ≡ Some b → a ≡ b
same_record e = cc

module _ (d : List Deed) (files contents : Files) (stands : StandFor d files contents) where
  rows_rise : IsRising (stands.rows tables.Rev)
  rows_rise = subst IsRising (sym (stands.has.rows_are tables.Rev)) (rises no_rows (stands.has.puts ++ joined stands.has.groups) tables.Rev tt)

  module _ (row : RevRecord) (at : row_at (keys.Rev row.path row.rev) (stands.rows tables.Rev) ≡ Some (Rev row)) (live : IsTrue (is_live (Rev row))) where
    module _ (path : List ℕ) (prints : printed path ≡ row.path) (r : Revision) (is : revision d path row.rev ≡ Some r) (record_is : rev_record row.rev r ≡ unplaced (Rev row)) where
      by_content : (content : Option (List ℕ)) → r.entry.content ≡ content → HasDigested (contents 0) row
      by_content None none =
          let own : HasOwn r = own_content d path row.rev r stands.stand.sound.contents is in
          let own_none : (if is_live_action r.entry.action then false else true) ≡ true = ap (λ (c : Option (List ℕ)). if is_live_action r.entry.action then is_some c else is_none c) (sym none) ∙ own in
          absurd (dead_word r.entry.action (no_content (is_live_action r.entry.action) own_none) (ap live_word (ap action_in record_is) ∙ live))
      by_content (Some bytes) some =
          let found = stands.contents path row.rev r bytes is some in
          let one : row ≡ found.0 = same_row (sym at ∙ ap (λ (text : List ℕ). row_at (keys.Rev text row.rev) (stands.rows tables.Rev)) (sym prints) ∙ found.1) in
          record {
            bytes = bytes;
            there = subst (λ (x : RevRecord). HasContent (contents 0) x bytes) (sym one) found.2;
            digested = sym (ap digest_in record_is) ∙ ap digest_of some;
          }

    content_of : HasDigested (contents 0) row
    content_of =
        let said = λ (path : List ℕ). option_map (rev_record row.rev) (revision d path row.rev) in
        let spells = spelled row.path said (unplaced (Rev row)) (sym (stands.stand.each tables.Rev (keys.Rev row.path row.rev) refl) ∙ ap (option_map unplaced) at) in
        made spells.path spells.prints (revision d spells.path row.rev) refl spells.says
      where
        made : (path : List ℕ) → printed path ≡ row.path → (found : Option Revision) → revision d path row.rev ≡ found → option_map (rev_record row.rev) found ≡ Some (unplaced (Rev row)) → HasDigested (contents 0) row
        made path prints None is e = absurd cc
        made path prints (Some r) is e = by_content path prints r is (same_record e) r.entry.content refl

  row_whole : (row : Record) → row_at (key_of row) (stands.rows tables.Rev) ≡ Some row → IsWhole (contents 0) row
  row_whole (Rev row) at = λ live. content_of row at live
  row_whole _ at = tt

  kept : KeepTheirRules stands.rows
  kept =
      let alike : ◌≡◌ {A = Rows} (λ key. unplaced_at (stands.rows (key_table key)) key) (record_of d) = λ i key. stands.stand.each (key_table key) key refl i in
      subst KeepRules (sym alike) stands.stand.sound.rules

  pub hold_of : HoldWhole files contents stands.rows
  hold_of = record {
    hold_within = record { hold = record { was = stands.was; committed = stands.committed; has = stands.has }; within = stands.within };
    whole = each_found (contents 0) [] (stands.rows tables.Rev) rows_rise row_whole;
    suit = record { rules = kept; deletes = stands.deletes; tells = ap value_of (stands.stand.each tables.Counter (keys.Counter (codes "journal")) refl) ∙ stands.generation };
  }
