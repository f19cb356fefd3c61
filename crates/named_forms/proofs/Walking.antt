-- The rows of forms whose names begin with a text stand together among rows in order, and their names are those of the depot that begin so.
use Rattle.std.proofs.Common.{◌≡◌, ℕ, Bool, true, false, not, cond, List, [], ◌∷◌, refl, sym, ap, subst, ◌∙◌}
use Rattle.std.specs.Prelude.{◌&&◌, codes, drop, filter, if◌then◌else◌}
use Rattle.std.specs.Ordering.{ordering_then, is_lt, is_gt}
use Rattle.std.specs.declared.cmp.Ordering.{Ordering}
use Rattle.std.specs.declared.cmp.Ordering.TheVariants.{Less, Equal, Greater}
use Rattle.std.proofs.lemmas.Bool.{true≢false, false≢true, and_parts}
use Rattle.depot_rows.specs.depot_path.Bytes.{same, begins_with}
use Rattle.depot_rows.specs.db_records.declared.key.Key.{Key}
use Rattle.depot_rows.specs.db_records.declared.key.Key.TheVariants as keys
use Rattle.depot_rows.specs.db_records.declared.record.Record.{Record}
use Rattle.depot_rows.specs.db_records.declared.record.Record.TheVariants as records
use Rattle.depot_rows.specs.db_records.declared.rows.DomainRecord.{DomainRecord}
use Rattle.depot_rows.specs.db_records.declared.table.TableId.{TableId}
use Rattle.depot_rows.specs.db_records.declared.table.TableId.TheVariants as tables
use Rattle.depot_rows.specs.db_records.Key.{key_cmp, key_table}
use Rattle.depot_rows.specs.db_records.Record.{key_of, table_of}
use Rattle.depot_rows.specs.depot_model.Deeds.{Deed, FixForm, SpecKind}
use Rattle.depot_rows.specs.depot_model.Latest.{keys_of, kind_word, spec_name}
use Rattle.depot_rows.specs.depot_model.Records.{record_of}
use Rattle.depot_rows.specs.Standing.{unplaced_at}
use Rattle.depot_rows.specs.table_store.Marks.{is_fix_of}
use Rattle.depot_rows.specs.table_store.Rows.{is_below, AllAbove, AllOfTable, IsRising, TableRows, rows_from}
use Rattle.depot_rows.proofs.table_store.Order.{turned_greater}
use Rattle.depot_rows.proofs.Keys.{same-is, same-self}
use Rattle.row_ranges.specs.Ranges.{has_row}
use Rattle.row_ranges.specs.declared.range.KeyRange.TheVariants.{Forms}
use Rattle.row_reads.specs.Forms.{names_in}
use Rattle.row_reads.proofs.FormsRead.{names_told}
use Rattle.named_forms.specs.Named.{is_named, leading}
use Rattle.named_forms.proofs.Texts.{lead, middle, not_below, text_cmp, text_self}

-- ---- parts of an order

low_alone : (o : Ordering) → is_lt (ordering_then o Equal) ≡ false → is_lt o ≡ false
low_alone Less e = e
low_alone Equal e = refl
low_alone Greater e = refl

low_too : (o : Ordering) → is_lt o ≡ false → is_lt (ordering_then o Equal) ≡ false
low_too Less e = e
low_too Equal e = refl
low_too Greater e = refl

high_alone : (o : Ordering) → ordering_then o Equal ≡ Less → is_gt o ≡ false
high_alone Less e = refl
high_alone Equal e = refl
high_alone Greater e = absurd cc

none_in : {A : Type 0} → false ≡ true → A
none_in e = absurd (false≢true e)

module _ (word start : List ℕ) where
  abbrev first : Key
  first = keys.Domain word start

  abbrev test : Record → Bool
  test row = is_named word start row

  -- the kind of such a row, and what its name begins with
  named_is : (r : DomainRecord) → test (records.Domain r) ≡ true → (word ≡ r.kind) × (begins_with r.name start ≡ true)
  named_is r e = (same-is word r.kind (and_parts (same word r.kind) (begins_with r.name start) e).0, (and_parts (same word r.kind) (begins_with r.name start) e).1)

  in_named : (r : DomainRecord) → word ≡ r.kind → begins_with r.name start ≡ true → test (records.Domain r) ≡ true
  in_named r is begins = (λ i. same word (sym is i) && begins i) ∙ ap (λ s. s && true) (same-self word)

  -- such a row isn't below the first key
  domain_low : (r : DomainRecord) → test (records.Domain r) ≡ true → is_below first (records.Domain r) ≡ false
  domain_low r e =
      let h = named_is r e in
      (λ i. is_lt (ordering_then (text_cmp (sym h.0 i) word) (ordering_then (text_cmp r.name start) Equal)))
      ∙ (λ i. is_lt (ordering_then (text_self word i) (ordering_then (text_cmp r.name start) Equal)))
      ∙ low_too (text_cmp r.name start) (not_below r.name start h.1)

  -- a row between the first key and such a row is one too
  domain_middle : (y q : DomainRecord) → is_below first (records.Domain y) ≡ false → key_cmp (key_of (records.Domain y)) (key_of (records.Domain q)) ≡ Less
      → test (records.Domain q) ≡ true → test (records.Domain y) ≡ true
  domain_middle y q low high e =
      let h = named_is q e in
      let below : ordering_then (text_cmp y.kind word) (ordering_then (text_cmp y.name q.name) Equal) ≡ Less =
      (λ i. ordering_then (text_cmp y.kind (h.0 i)) (ordering_then (text_cmp y.name q.name) Equal)) ∙ high in
      let led = lead y.kind word (ordering_then (text_cmp y.name start) Equal) (ordering_then (text_cmp y.name q.name) Equal) low below in
      in_named y (sym led.0) (middle y.name start q.name h.1 (low_alone (text_cmp y.name start) led.1) (high_alone (text_cmp y.name q.name) led.2))

  low : (q : Record) → test q ≡ true → is_below first q ≡ false
  low (records.Domain r) e = domain_low r e
  low (records.Counter r) e = none_in e
  low (records.Group r) e = none_in e
  low (records.Protect r) e = none_in e
  low (records.Have r) e = none_in e
  low (records.Label r) e = none_in e
  low (records.Integed r) e = none_in e
  low (records.Resolve r) e = none_in e
  low (records.Working r) e = none_in e
  low (records.Change r) e = none_in e
  low (records.Rev r) e = none_in e

  between : (y : DomainRecord) (q : Record) → is_below first (records.Domain y) ≡ false → key_cmp (key_of (records.Domain y)) (key_of q) ≡ Less → test q ≡ true
      → test (records.Domain y) ≡ true
  between y (records.Domain q) below less e = domain_middle y q below less e
  between y (records.Counter r) below less e = none_in e
  between y (records.Group r) below less e = none_in e
  between y (records.Protect r) below less e = none_in e
  between y (records.Have r) below less e = none_in e
  between y (records.Label r) below less e = none_in e
  between y (records.Integed r) below less e = none_in e
  between y (records.Resolve r) below less e = none_in e
  between y (records.Working r) below less e = none_in e
  between y (records.Change r) below less e = none_in e
  between y (records.Rev r) below less e = none_in e

  mid : (y q : Record) → table_of y ≡ tables.Domain → is_below first y ≡ false → key_cmp (key_of y) (key_of q) ≡ Less → test q ≡ true → test y ≡ true
  mid (records.Domain y) q of below less e = between y q below less e
  mid (records.Counter r) q of below less e = absurd cc
  mid (records.Group r) q of below less e = absurd cc
  mid (records.Protect r) q of below less e = absurd cc
  mid (records.Have r) q of below less e = absurd cc
  mid (records.Label r) q of below less e = absurd cc
  mid (records.Integed r) q of below less e = absurd cc
  mid (records.Resolve r) q of below less e = absurd cc
  mid (records.Working r) q of below less e = absurd cc
  mid (records.Change r) q of below less e = absurd cc
  mid (records.Rev r) q of below less e = absurd cc

  -- ---- the walk

  -- they are among those from the first key on
  all_from : (rows : List Record) → filter test (rows_from first rows) ≡ filter test rows
  all_from [] = refl
  all_from (r ∷ rs) = go (is_below first r) refl (test r) refl (all_from rs)
    where
      go : (b : Bool) → is_below first r ≡ b → (a : Bool) → test r ≡ a → filter test (rows_from first rs) ≡ filter test rs
          → filter test (cond (not b) (r ∷ rows_from first rs) (rows_from first rs)) ≡ cond a (r ∷ filter test rs) (filter test rs)
      go true lower true is rest = absurd (true≢false (sym lower ∙ low r is))
      go true lower false is rest = rest
      go false lower true is rest = rw is (ap (λ (l : List Record). r ∷ l) rest)
      go false lower false is rest = rw is rest

  -- past a row behind them there is none
  none_after : (y : Record) (rows : List Record) → table_of y ≡ tables.Domain → is_below first y ≡ false → AllAbove (key_of y) rows → test y ≡ false
      → filter test rows ≡ []
  none_after y [] of lower above out = refl
  none_after y (r ∷ rs) of lower above out = go (test r) refl (none_after y rs of lower above.1 out)
    where
      go : (b : Bool) → test r ≡ b → filter test rs ≡ [] → cond b (r ∷ filter test rs) (filter test rs) ≡ []
      go true is rest = absurd (true≢false (sym (mid y r of lower (turned_greater (key_of r) (key_of y) above.0) is) ∙ out))
      go false is rest = rest

  -- among rows in order they come first from the first key on
  they_lead : (rows : List Record) → IsRising rows → AllOfTable tables.Domain rows → leading word start (rows_from first rows) ≡ filter test (rows_from first rows)
  they_lead [] up of = refl
  they_lead (y ∷ rest) up of = go (is_below first y) refl (test y) refl (they_lead rest up.1 of.1)
    where
      above_from : (rows : List Record) → AllAbove (key_of y) rows → AllAbove (key_of y) (rows_from first rows)
      above_from [] all = tt
      above_from (x ∷ xs) all = keep (is_below first x) (above_from xs all.1)
        where
          keep : (b : Bool) → AllAbove (key_of y) (rows_from first xs) → AllAbove (key_of y) (cond (not b) (x ∷ rows_from first xs) (rows_from first xs))
          keep true more = more
          keep false more = (all.0, more)

      go : (b : Bool) → is_below first y ≡ b → (a : Bool) → test y ≡ a → leading word start (rows_from first rest) ≡ filter test (rows_from first rest)
          → leading word start (cond (not b) (y ∷ rows_from first rest) (rows_from first rest))
          ≡ filter test (cond (not b) (y ∷ rows_from first rest) (rows_from first rest))
      go true lower a is h = h
      go false lower true is h = rw is (ap (λ (l : List Record). y ∷ l) h)
      go false lower false is h = rw is (sym (none_after y (rows_from first rest) of.0 lower (above_from rest up.0) is))

  -- ---- the names

  abbrev begun : List (List ℕ) → List (List ℕ)
  begun names = filter (λ name. begins_with name start) names

  -- those of rows of the kind that begin so
  named : (rows : List Record) → names_in (filter test rows) ≡ begun (names_in (filter (has_row (Forms word)) rows))
  named [] = refl
  named (records.Domain r ∷ rs) = go (same word r.kind) (begins_with r.name start) refl (named rs)
    where
      go : (s b : Bool) → begins_with r.name start ≡ b → names_in (filter test rs) ≡ begun (names_in (filter (has_row (Forms word)) rs))
          → names_in (if s && b then records.Domain r ∷ filter test rs else filter test rs)
          ≡ begun (names_in (if s && true then records.Domain r ∷ filter (has_row (Forms word)) rs else filter (has_row (Forms word)) rs))
      go true true e more = ap (λ (l : List (List ℕ)). r.name ∷ l) more ∙ ap (λ c. if c then r.name ∷ begun (names_in (filter (has_row (Forms word)) rs)) else begun (names_in (filter (has_row (Forms word)) rs))) (sym e)
      go true false e more = more ∙ ap (λ c. if c then r.name ∷ begun (names_in (filter (has_row (Forms word)) rs)) else begun (names_in (filter (has_row (Forms word)) rs))) (sym e)
      go false b e more = more
  named (records.Counter r ∷ rs) = named rs
  named (records.Group r ∷ rs) = named rs
  named (records.Protect r ∷ rs) = named rs
  named (records.Have r ∷ rs) = named rs
  named (records.Label r ∷ rs) = named rs
  named (records.Integed r ∷ rs) = named rs
  named (records.Resolve r ∷ rs) = named rs
  named (records.Working r ∷ rs) = named rs
  named (records.Change r ∷ rs) = named rs
  named (records.Rev r ∷ rs) = named rs

-- the names that a walk from the first key on passes are those of the depot that begin so
pub names_begin : (word start : List ℕ) (version : TableRows) (rows : List Record) → version.rows ≡ rows → version.table ≡ tables.Domain
    → AllOfTable version.table version.rows → IsRising version.rows → (d : List Deed) (kind : SpecKind) → word ≡ kind_word kind
    → ((key : Key) → key_table key ≡ tables.Domain → unplaced_at rows key ≡ record_of d key)
    → names_in (leading word start (rows_from (keys.Domain word start) version.rows)) ≡ filter (λ name. begins_with name start) (keys_of (spec_name kind) d)
names_begin word start version rows are is of up d kind e has =
    let P : TableId → Type 0 = λ t. AllOfTable t version.rows in
    ap names_in (they_lead word start version.rows up (subst P is of) ∙ all_from word start version.rows)
    ∙ named word start version.rows
    ∙ (λ i. filter (λ name. begins_with name start) (names_in (filter (has_row (Forms (e i))) (are i))))
    ∙ ap (filter (λ name. begins_with name start)) (names_told kind version rows are is of up d has)

-- ---- fixes

module _ (change : List ℕ) where
  abbrev by_change : List (List ℕ) → List (List ℕ)
  by_change names = filter (λ name. same (drop 10 name) change) names

  -- the names of those by a change
  fixes_named : (rows : List Record) → names_in (filter (is_fix_of change) rows) ≡ by_change (names_in (filter (has_row (Forms (codes "fix"))) rows))
  fixes_named [] = refl
  fixes_named (records.Domain r ∷ rs) = go (same (codes "fix") r.kind) (fixes_named rs)
    where
      forms : List Record
      forms = filter (has_row (Forms (codes "fix"))) rs

      go : (s : Bool) → names_in (filter (is_fix_of change) rs) ≡ by_change (names_in forms)
          → names_in (if s && same (drop 10 r.name) change then records.Domain r ∷ filter (is_fix_of change) rs else filter (is_fix_of change) rs)
          ≡ by_change (names_in (if s && true then records.Domain r ∷ forms else forms))
      go true more = by (same (drop 10 r.name) change)
        where
          by : (b : Bool) → names_in (if b then records.Domain r ∷ filter (is_fix_of change) rs else filter (is_fix_of change) rs) ≡ (if b then r.name ∷ by_change (names_in forms) else by_change (names_in forms))
          by true = ap (λ (l : List (List ℕ)). r.name ∷ l) more
          by false = more
      go false more = more
  fixes_named (_ ∷ rs) = fixes_named rs

-- the names that a walk over the fixes by a change passes are those of the depot's
pub fixes_told : (change : List ℕ) (version : TableRows) (rows : List Record) → version.rows ≡ rows → version.table ≡ tables.Domain → AllOfTable version.table version.rows
    → IsRising version.rows → (d : List Deed) → ((key : Key) → key_table key ≡ tables.Domain → unplaced_at rows key ≡ record_of d key)
    → names_in (filter (is_fix_of change) rows) ≡ filter (λ name. same (drop 10 name) change) (keys_of (spec_name FixForm) d)
fixes_told change version rows are is of up d has =
    fixes_named change rows ∙ ap (filter (λ name. same (drop 10 name) change)) (names_told FixForm version rows are is of up d has)
