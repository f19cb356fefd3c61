-- The tests of all rows decide the rules that rows and their neighbours keep.
use Rattle.std.proofs.Common.{◌≡◌, ◌<◌, ◌≤◌, ◌-◌, ℕ, zero, suc, Bool, true, false, List, Option, Some, None, refl, sym, ap, subst, arith}
use Rattle.std.specs.Prelude.{◌&&◌, ◌||◌, nat_le, nat_lt, IsTrue, IsSome, IsSomeAnd, IfSome, is_some, codes}
use Rattle.std.specs.Bool.{Decides}
use Rattle.std.specs.List.{list_all}
use Rattle.std.proofs.lemmas.Bool.Decides.{Decides-and, Decides-like, nat_tests}
use Rattle.std.proofs.lemmas.Bool.{and_parts, or_right, and_from}
use Rattle.depot_rows.specs.db_records.declared.key.Key.{Key}
use Rattle.depot_rows.specs.db_records.declared.key.Key.TheVariants as keys
use Rattle.depot_rows.specs.db_records.declared.record.Record.{Record}
use Rattle.depot_rows.specs.db_records.declared.record.Record.TheVariants as records
use Rattle.depot_rows.specs.db_records.declared.rows.RevRecord.{RevRecord}
use Rattle.depot_rows.specs.db_records.declared.rows.ProtectRecord.{ProtectRecord}
use Rattle.depot_rows.specs.db_records.declared.rows.ChangeRecord.{ChangeRecord}
use Rattle.depot_rows.specs.db_records.declared.table.TableId.{TableId}
use Rattle.depot_rows.specs.db_records.declared.table.TableId.TheVariants as tables
use Rattle.depot_rows.specs.db_records.Key.{key_table}
use Rattle.depot_rows.specs.db_records.Record.{key_of}
use Rattle.depot_rows.specs.table_store.Rows.{row_at, IsRising, AllOfTable}
use Rattle.depot_rows.specs.depot_model.Records.{unplaced}
use Rattle.depot_rows.specs.depot_model.Rules.{Rows, IsRow, HasRev, change_of, value_of, lock_of, top_in, IsSubmitted}
use Rattle.row_rules.specs.Kept.{KeepRowRules}
use Rattle.row_rules.specs.Stored.{seen}
use Rattle.row_rules.specs.Tests.{keeps, is_line, is_change, is_revision, follows_line, follows_revision, has_rev}
use Rattle.row_rules.proofs.Deciding.{itself, le_true, le_decides}
use Rattle.row_rules.proofs.Rows.{counter_decides, group_decides, line_decides, have_decides, labelled_decides, integration_decides, resolve_decides, opened_decides, change_decides, revision_decides}
use Rattle.row_rules.proofs.FormRows.{form_row_decides}
use Rattle.row_rules.proofs.Found.{found_key, found_passes, all_from_found}

-- ---- the rules of neighbours

abbrev pub OneLock : Rows → Type 0
OneLock rows = (path a b : List ℕ) → lock_of (rows (keys.Working path a)) ≡ 1 → lock_of (rows (keys.Working path b)) ≡ 1 → a ≡ b

pub record Neighbours (rows : Rows) : Type 0 where
  pub revisions_run : (path : List ℕ) (n : ℕ) → HasRev rows path (suc (suc n)) → HasRev rows path (suc n)
  pub next_rises : (path : List ℕ) (n : ℕ) → HasRev rows path (suc (suc n)) → change_of (rows (keys.Rev path (suc n))) < change_of (rows (keys.Rev path (suc (suc n))))
  pub lines_run : (n : ℕ) → IsSome (rows (keys.Protect (suc (suc n)))) → IsSome (rows (keys.Protect (suc n)))
  pub top_is : (n : ℕ) → IsSome (rows (keys.Change n)) → n ≤ top_in rows

-- what a row keeps beside its own rules
abbrev pub Follows : Rows → Record → Type 0
Follows rows (records.Protect r) = IsTrue (follows_line rows r)
Follows rows (records.Change r) = r.change ≤ top_in rows
Follows rows (records.Rev r) = IsTrue (follows_revision rows r)
Follows rows _ = Unit {0}

module _ (rows : Rows) (small : (path : List ℕ) (n : ℕ) → HasRev rows path n → n ≤ 4294967295) where
  alone : {P : Type 0} (b : Bool) → Decides b P → Decides b (P × Unit {0})
  alone b d = Decides-like b (λ h. (h, tt)) (λ h. h.0) d

  pub keeps_decides : (r : Record) → Decides (keeps rows r) (IsRow rows (unplaced r) × Follows rows r)
  keeps_decides (records.Counter r) = alone (keeps rows (records.Counter r)) (counter_decides rows r)
  keeps_decides (records.Group r) = alone (keeps rows (records.Group r)) (group_decides rows r)
  keeps_decides (records.Protect r) = Decides-and (is_line r) (follows_line rows r) (line_decides rows r) (itself (follows_line rows r))
  keeps_decides (records.Domain r) = alone (keeps rows (records.Domain r)) (form_row_decides rows small r)
  keeps_decides (records.Have r) = alone (keeps rows (records.Have r)) (have_decides rows r)
  keeps_decides (records.Label r) = alone (keeps rows (records.Label r)) (labelled_decides rows r)
  keeps_decides (records.Integed r) = alone (keeps rows (records.Integed r)) (integration_decides rows r)
  keeps_decides (records.Resolve r) = alone (keeps rows (records.Resolve r)) (resolve_decides rows r)
  keeps_decides (records.Working r) = alone (keeps rows (records.Working r)) (opened_decides rows r)
  keeps_decides (records.Change r) = Decides-and (is_change r) (nat_le r.change (top_in rows)) (change_decides rows r) (le_decides r.change (top_in rows))
  keeps_decides (records.Rev r) = Decides-and (is_revision rows r) (follows_revision rows r) (revision_decides rows r) (itself (follows_revision rows r))

-- ---- changes rise

module _ (rows : Rows) (next : Neighbours rows) where
  later : (path : List ℕ) (m n : ℕ) → 1 ≤ m → m < n → HasRev rows path n → change_of (rows (keys.Rev path m)) < change_of (rows (keys.Rev path n))
  later path m zero low up has = absurd (omega arith)
  later path m (suc zero) low up has = absurd (omega arith)
  later path m (suc (suc n)) low up has = go (nat_le (suc n) m) refl (λ (below : m < suc n). later path m (suc n) low below (next.revisions_run path n has))
    where
      step : change_of (rows (keys.Rev path (suc n))) < change_of (rows (keys.Rev path (suc (suc n))))
      step = next.next_rises path n has

      go : (b : Bool) → nat_le (suc n) m ≡ b → (m < suc n → change_of (rows (keys.Rev path m)) < change_of (rows (keys.Rev path (suc n))))
          → change_of (rows (keys.Rev path m)) < change_of (rows (keys.Rev path (suc (suc n))))
      go true e before =
          let high : suc n ≤ m = le_true (suc n) m e in
          let same : suc n ≡ m = omega arith in
          subst (λ (k : ℕ). change_of (rows (keys.Rev path k)) < change_of (rows (keys.Rev path (suc (suc n))))) same step
      go false e before =
          let below : m < suc n = grind (arith, nat_tests) in
          let rest = before below in
          omega arith

  -- a revision's number is at most one above its change's
  rank : (path : List ℕ) (n : ℕ) → HasRev rows path (suc n) → n ≤ change_of (rows (keys.Rev path (suc n)))
  rank path zero has = omega arith
  rank path (suc n) has =
      let below = rank path n (next.revisions_run path n has) in
      let step = next.next_rises path n has in
      omega arith

  pub small_revisions : ((path : List ℕ) (n : ℕ) → HasRev rows path n → change_of (rows (keys.Rev path n)) ≤ 2147483647) → (path : List ℕ) (n : ℕ)
      → HasRev rows path n → n ≤ 4294967295
  small_revisions bounded path zero has = omega arith
  small_revisions bounded path (suc n) has =
      let rank_is = rank path n has in
      let top = bounded path (suc n) has in
      omega arith

  pub all_rise : ((path : List ℕ) (n : ℕ) → HasRev rows path n → 1 ≤ n) → (path : List ℕ) (m n : ℕ) → m < n → HasRev rows path m → HasRev rows path n
      → change_of (rows (keys.Rev path m)) < change_of (rows (keys.Rev path n))
  all_rise from_one path m n up has_m has_n = later path m n (from_one path m has_m) up has_n

-- ---- what a row that follows says

abbrev follow_at : Rows → List ℕ → ℕ → ℕ → Bool
follow_at rows path n change =
    nat_le n 1 || (has_rev rows path (n - 1) && nat_lt (change_of (rows (keys.Rev path (n - 1)))) change)

either : (a b : Bool) → a ≡ false → (a || b) ≡ true → b ≡ true
either true b e f = absurd cc
either false b e f = f

big : (n : ℕ) → nat_le (suc (suc n)) 1 ≡ false
big n = grind (arith, nat_tests)

lt_true : (a b : ℕ) → nat_lt a b ≡ true → a < b
lt_true a b e = grind (arith, nat_tests)

true_lt : (a b : ℕ) → a < b → nat_lt a b ≡ true
true_lt a b h = grind (arith, nat_tests)

less_one : (n : ℕ) → suc (suc n) - 1 ≡ suc n
less_one n = omega arith

unpacked : (rows : Rows) (path : List ℕ) (n change : ℕ) → follow_at rows path (suc (suc n)) change ≡ true
    → HasRev rows path (suc n) × (change_of (rows (keys.Rev path (suc n))) < change)
unpacked rows path n change e =
    let P : ℕ → Type 0 = λ k. (has_rev rows path k && nat_lt (change_of (rows (keys.Rev path k))) change) ≡ true in
    let rest : P (suc (suc n) - 1) = either (nat_le (suc (suc n)) 1) _ (big n) e in
    let here : P (suc n) = subst P (less_one n) rest in (
      (and_parts (has_rev rows path (suc n)) (nat_lt (change_of (rows (keys.Rev path (suc n)))) change) here).0,
      lt_true (change_of (rows (keys.Rev path (suc n)))) change (and_parts (has_rev rows path (suc n)) (nat_lt (change_of (rows (keys.Rev path (suc n)))) change) here).1,
    )

packed : (rows : Rows) (path : List ℕ) (n change : ℕ)
    → ((k : ℕ) → n ≡ suc (suc k) → HasRev rows path (suc k) × (change_of (rows (keys.Rev path (suc k))) < change)) → follow_at rows path n change ≡ true
packed rows path zero change h = refl
packed rows path (suc zero) change h = refl
packed rows path (suc (suc k)) change h =
    let P : ℕ → Type 0 = λ j. (has_rev rows path j && nat_lt (change_of (rows (keys.Rev path j))) change) ≡ true in
    let said = h k refl in
    let here : P (suc k) =
    and_from (has_rev rows path (suc k)) (nat_lt (change_of (rows (keys.Rev path (suc k)))) change) said.0
    (true_lt (change_of (rows (keys.Rev path (suc k)))) change said.1) in
    or_right (nat_le (suc (suc k)) 1) _ (subst P (sym (less_one k)) here)

abbrev line_at : Rows → ℕ → Bool
line_at rows n = nat_le n 1 || is_some (rows (keys.Protect (n - 1)))

line_unpacked : (rows : Rows) (n : ℕ) → line_at rows (suc (suc n)) ≡ true → IsSome (rows (keys.Protect (suc n)))
line_unpacked rows n e =
    let P : ℕ → Type 0 = λ k. is_some (rows (keys.Protect k)) ≡ true in
    subst P (less_one n) (either (nat_le (suc (suc n)) 1) _ (big n) e)

line_packed : (rows : Rows) (n : ℕ) → ((k : ℕ) → n ≡ suc (suc k) → IsSome (rows (keys.Protect (suc k)))) → line_at rows n ≡ true
line_packed rows zero h = refl
line_packed rows (suc zero) h = refl
line_packed rows (suc (suc k)) h =
    let P : ℕ → Type 0 = λ j. is_some (rows (keys.Protect j)) ≡ true in
    or_right (nat_le (suc (suc k)) 1) _ (subst P (sym (less_one k)) (h k refl))

-- ---- rows of lists

module _ (lists : TableId → List Record) where
  abbrev pub rows_in : Rows
  rows_in key = seen (row_at key (lists (key_table key)))

  abbrev RevAt : List ℕ → ℕ → Type 0
  RevAt path n = (r : RevRecord) × (r.path ≡ path) × (r.rev ≡ n) × (row_at (keys.Rev path n) (lists tables.Rev) ≡ Some (records.Rev r))

  rev_kind : (path : List ℕ) (n : ℕ) (row : Record) → key_of row ≡ keys.Rev path n → row_at (keys.Rev path n) (lists tables.Rev) ≡ Some row → RevAt path n
  rev_kind path n (records.Rev r) e f = (r, cc, cc, f)
  rev_kind path n (records.Counter r) e f = absurd cc
  rev_kind path n (records.Group r) e f = absurd cc
  rev_kind path n (records.Protect r) e f = absurd cc
  rev_kind path n (records.Domain r) e f = absurd cc
  rev_kind path n (records.Have r) e f = absurd cc
  rev_kind path n (records.Label r) e f = absurd cc
  rev_kind path n (records.Integed r) e f = absurd cc
  rev_kind path n (records.Resolve r) e f = absurd cc
  rev_kind path n (records.Working r) e f = absurd cc
  rev_kind path n (records.Change r) e f = absurd cc

  pub rev_row : (path : List ℕ) (n : ℕ) → HasRev rows_in path n → RevAt path n
  rev_row path n has = go (row_at (keys.Rev path n) (lists tables.Rev)) refl has
    where
      go : (o : Option Record) → row_at (keys.Rev path n) (lists tables.Rev) ≡ o → is_some (seen o) ≡ true → RevAt path n
      go None e h = absurd cc
      go (Some row) e h = rev_kind path n row (found_key (keys.Rev path n) (lists tables.Rev) row e) e

  abbrev LineAt : ℕ → Type 0
  LineAt n = (r : ProtectRecord) × (r.line ≡ n) × (row_at (keys.Protect n) (lists tables.Protect) ≡ Some (records.Protect r))

  line_kind : (n : ℕ) (row : Record) → key_of row ≡ keys.Protect n → row_at (keys.Protect n) (lists tables.Protect) ≡ Some row → LineAt n
  line_kind n (records.Protect r) e f = (r, cc, f)
  line_kind n (records.Counter r) e f = absurd cc
  line_kind n (records.Group r) e f = absurd cc
  line_kind n (records.Rev r) e f = absurd cc
  line_kind n (records.Domain r) e f = absurd cc
  line_kind n (records.Have r) e f = absurd cc
  line_kind n (records.Label r) e f = absurd cc
  line_kind n (records.Integed r) e f = absurd cc
  line_kind n (records.Resolve r) e f = absurd cc
  line_kind n (records.Working r) e f = absurd cc
  line_kind n (records.Change r) e f = absurd cc

  line_row : (n : ℕ) → IsSome (rows_in (keys.Protect n)) → LineAt n
  line_row n has = go (row_at (keys.Protect n) (lists tables.Protect)) refl has
    where
      go : (o : Option Record) → row_at (keys.Protect n) (lists tables.Protect) ≡ o → is_some (seen o) ≡ true → LineAt n
      go None e h = absurd cc
      go (Some row) e h = line_kind n row (found_key (keys.Protect n) (lists tables.Protect) row e) e

  abbrev ChangeAt : ℕ → Type 0
  ChangeAt n = (r : ChangeRecord) × (r.change ≡ n) × (row_at (keys.Change n) (lists tables.Change) ≡ Some (records.Change r))

  change_kind : (n : ℕ) (row : Record) → key_of row ≡ keys.Change n → row_at (keys.Change n) (lists tables.Change) ≡ Some row → ChangeAt n
  change_kind n (records.Change r) e f = (r, cc, f)
  change_kind n (records.Counter r) e f = absurd cc
  change_kind n (records.Group r) e f = absurd cc
  change_kind n (records.Rev r) e f = absurd cc
  change_kind n (records.Domain r) e f = absurd cc
  change_kind n (records.Have r) e f = absurd cc
  change_kind n (records.Label r) e f = absurd cc
  change_kind n (records.Integed r) e f = absurd cc
  change_kind n (records.Resolve r) e f = absurd cc
  change_kind n (records.Working r) e f = absurd cc
  change_kind n (records.Protect r) e f = absurd cc

  change_row : (n : ℕ) → IsSome (rows_in (keys.Change n)) → ChangeAt n
  change_row n has = go (row_at (keys.Change n) (lists tables.Change)) refl has
    where
      go : (o : Option Record) → row_at (keys.Change n) (lists tables.Change) ≡ o → is_some (seen o) ≡ true → ChangeAt n
      go None e h = absurd cc
      go (Some row) e h = change_kind n row (found_key (keys.Change n) (lists tables.Change) row e) e

  -- the change of a revision that is there
  rev_change : (path : List ℕ) (n : ℕ) (r : RevRecord) → row_at (keys.Rev path n) (lists tables.Rev) ≡ Some (records.Rev r) → change_of (rows_in (keys.Rev path n)) ≡ r.change
  rev_change path n r e = ap (λ (o : Option Record). change_of (seen o)) e

  some_and : (o : Option Record) (P : Record → Type 0) → IsSomeAnd o P → is_some o ≡ true
  some_and None P h = absurd h
  some_and (Some row) P h = refl

  -- what the rules say of a revision that is there
  module _ (revs : (path : List ℕ) (n : ℕ) → (has : HasRev rows_in path n) → IsRow rows_in (unplaced (records.Rev (rev_row path n has).0)))
      (top_is : (n : ℕ) → IsSome (rows_in (keys.Change n)) → n ≤ top_in rows_in) (top_fits : top_in rows_in ≤ 2147483647) where
    pub bounded : (path : List ℕ) (n : ℕ) → HasRev rows_in path n → change_of (rows_in (keys.Rev path n)) ≤ 2147483647
    bounded path n has =
        let found = rev_row path n has in
        let r : RevRecord = found.0 in
        let is : change_of (rows_in (keys.Rev path n)) ≡ r.change = rev_change path n r found.3 in
        let top = top_is r.change (some_and (rows_in (keys.Change r.change)) IsSubmitted (revs path n has).6) in
        omega arith

    pub from_one : (path : List ℕ) (n : ℕ) → HasRev rows_in path n → 1 ≤ n
    from_one path n has =
        let found = rev_row path n has in
        let r : RevRecord = found.0 in
        let is : r.rev ≡ n = found.2 in
        let low = (revs path n has).1 in
        omega arith

  -- ---- from the tests to the rules

  module _ (top_fits : top_in rows_in ≤ 2147483647) (all : (table : TableId) → list_all (keeps rows_in) (lists table) ≡ true) where
    passes : (key : Key) (row : Record) → row_at key (lists (key_table key)) ≡ Some row → keeps rows_in row ≡ true
    passes key row e = found_passes (keeps rows_in) key (lists (key_table key)) row (all (key_table key)) e

    rev_passes : (path : List ℕ) (n : ℕ) (r : RevRecord) → row_at (keys.Rev path n) (lists tables.Rev) ≡ Some (records.Rev r)
        → (is_revision rows_in r && follows_revision rows_in r) ≡ true
    rev_passes path n r e = passes (keys.Rev path n) (records.Rev r) e

    next_of : (path : List ℕ) (n : ℕ) → HasRev rows_in path (suc (suc n))
        → HasRev rows_in path (suc n) × (change_of (rows_in (keys.Rev path (suc n))) < change_of (rows_in (keys.Rev path (suc (suc n)))))
    unfolding follows_revision
    next_of path n has =
        let found = rev_row path (suc (suc n)) has in
        let r : RevRecord = found.0 in
        let follows = (and_parts (is_revision rows_in r) (follows_revision rows_in r) (rev_passes path (suc (suc n)) r found.3)).1 in
        let P : List ℕ → Type 0 = λ p. follow_at rows_in p r.rev r.change ≡ true in
        let Q : ℕ → Type 0 = λ m. follow_at rows_in path m r.change ≡ true in
        let said = unpacked rows_in path n r.change (subst Q found.2 (subst P found.1 follows)) in
        let R : ℕ → Type 0 = λ m. change_of (rows_in (keys.Rev path (suc n))) < m in
        (said.0, subst R (sym (rev_change path (suc (suc n)) r found.3)) said.1)

    neighbours : Neighbours rows_in
    unfolding follows_line
    neighbours = record {
      revisions_run = λ path n has. (next_of path n has).0;
      next_rises = λ path n has. (next_of path n has).1;
      lines_run = λ n has.
          let found = line_row (suc (suc n)) has in
          let r : ProtectRecord = found.0 in
          let follows = (and_parts (is_line r) (follows_line rows_in r) (passes (keys.Protect (suc (suc n))) (records.Protect r) found.2)).1 in
          let Q : ℕ → Type 0 = λ m. line_at rows_in m ≡ true in
          line_unpacked rows_in n (subst Q found.1 follows);
      top_is = λ n has.
          let found = change_row n has in
          let r : ChangeRecord = found.0 in
          let Q : ℕ → Type 0 = λ m. m ≤ top_in rows_in in
          subst Q found.1 (le_true r.change (top_in rows_in) (and_parts (is_change r) (nat_le r.change (top_in rows_in)) (passes (keys.Change n) (records.Change r) found.2)).1);
    }

    revs_keep : (path : List ℕ) (n : ℕ) → (has : HasRev rows_in path n) → IsRow rows_in (unplaced (records.Rev (rev_row path n has).0))
    revs_keep path n has =
        let found = rev_row path n has in
        let r : RevRecord = found.0 in
        (revision_decides rows_in r).0 (and_parts (is_revision rows_in r) (follows_revision rows_in r) (rev_passes path n r found.3)).0

    small : (path : List ℕ) (n : ℕ) → HasRev rows_in path n → n ≤ 4294967295
    small = small_revisions rows_in neighbours (bounded revs_keep neighbours.top_is top_fits)

    each_keeps : (key : Key) → IfSome (rows_in key) (IsRow rows_in)
    each_keeps key = go (row_at key (lists (key_table key))) refl
      where
        go : (o : Option Record) → row_at key (lists (key_table key)) ≡ o → IfSome (seen o) (IsRow rows_in)
        go None e = tt
        go (Some row) e = ((keeps_decides rows_in small row).0 (passes key row e)).0

    pub rules_kept : value_of (rows_in (keys.Counter (codes "journal"))) ≤ 4095 → OneLock rows_in → KeepRowRules rows_in
    rules_kept generation locks = record {
      each = each_keeps;
      revisions_run = neighbours.revisions_run;
      changes_rise = all_rise rows_in neighbours (from_one revs_keep neighbours.top_is top_fits);
      lines_run = neighbours.lines_run;
      one_lock = locks;
      top_is = neighbours.top_is;
      top_fits = top_fits;
      generation_fits = generation;
    }

  -- ---- from the rules to the tests

  module _ (up : (table : TableId) → IsRising (lists table)) (of : (table : TableId) → AllOfTable table (lists table)) (kept : KeepRowRules rows_in) where
    kept_neighbours : Neighbours rows_in
    kept_neighbours = record {
      revisions_run = kept.revisions_run;
      next_rises = λ path n has. kept.changes_rise path (suc n) (suc (suc n)) (omega arith) (kept.revisions_run path n has) has;
      lines_run = kept.lines_run;
      top_is = kept.top_is;
    }

    at_row : (key : Key) (row : Record) → row_at key (lists (key_table key)) ≡ Some row → IsRow rows_in (unplaced row)
    at_row key row e =
        let P : Option Record → Type 0 = λ o. IfSome o (IsRow rows_in) in
        let here : P (Some (unplaced row)) = subst P (ap seen e) (kept.each key) in
        here

    kept_small : (path : List ℕ) (n : ℕ) → HasRev rows_in path n → n ≤ 4294967295
    kept_small =
        small_revisions rows_in kept_neighbours
        (bounded (λ path n has. at_row (keys.Rev path n) (records.Rev (rev_row path n has).0) (rev_row path n has).3) kept.top_is kept.top_fits)

    there : (key : Key) (row : Record) → row_at key (lists (key_table key)) ≡ Some row → is_some (rows_in key) ≡ true
    there key row e = ap (λ (o : Option Record). is_some (seen o)) e

    row_follows : (row : Record) → row_at (key_of row) (lists (key_table (key_of row))) ≡ Some row → Follows rows_in row
    unfolding follows_line follows_revision
    row_follows (records.Protect r) e =
        line_packed rows_in r.line
        (λ k is. let P : ℕ → Type 0 = λ m. IsSome (rows_in (keys.Protect m)) in
        kept.lines_run k (subst P is (there (keys.Protect r.line) (records.Protect r) e)))
    row_follows (records.Change r) e = kept.top_is r.change (there (keys.Change r.change) (records.Change r) e)
    row_follows (records.Rev r) e =
        packed rows_in r.path r.rev r.change
        (λ k is. let P : ℕ → Type 0 = λ m. HasRev rows_in r.path m in
        let has : HasRev rows_in r.path (suc (suc k)) = subst P is (there (keys.Rev r.path r.rev) (records.Rev r) e) in
        let Q : ℕ → Type 0 = λ m. change_of (rows_in (keys.Rev r.path m)) ≡ r.change in
        let change : Q (suc (suc k)) = subst Q is (rev_change r.path r.rev r e) in
        let R : ℕ → Type 0 = λ m. change_of (rows_in (keys.Rev r.path (suc k))) < m in
        (kept.revisions_run r.path k has, subst R change (kept_neighbours.next_rises r.path k has)))
    row_follows (records.Counter r) e = tt
    row_follows (records.Group r) e = tt
    row_follows (records.Domain r) e = tt
    row_follows (records.Have r) e = tt
    row_follows (records.Label r) e = tt
    row_follows (records.Integed r) e = tt
    row_follows (records.Resolve r) e = tt
    row_follows (records.Working r) e = tt

    pub all_keep : (table : TableId) → list_all (keeps rows_in) (lists table) ≡ true
    all_keep table =
        all_from_found (keeps rows_in) table (lists table) (up table) (of table)
        (λ row e is.
        let P : TableId → Type 0 = λ t. row_at (key_of row) (lists t) ≡ Some row in
        let here : P (key_table (key_of row)) = subst P (sym is) e in
        (keeps_decides rows_in kept_small row).1 (at_row (key_of row) row here, row_follows row here))
