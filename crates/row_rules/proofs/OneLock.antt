-- Locks are apart exactly where no path has two.
use Rattle.std.proofs.Common.{◌≡◌, ℕ, Bool, true, false, cond, List, [], ◌∷◌, Option, Some, None, refl, sym, ap, ◌∙◌, subst}
use Rattle.std.specs.Prelude.{◌&&◌, not, if◌then◌else◌}
use Rattle.std.specs.List.{list_all}
use Rattle.std.specs.Ordering.{is_eq, is_lt, is_gt, nat_cmp, ordering_then, ordering_reverse}
use Rattle.std.specs.Cmp.Lexicographic.{slice_cmp, nat_list_cmp_total, texts_ties}
use Rattle.std.specs.declared.cmp.Ordering.{Ordering}
use Rattle.std.specs.declared.cmp.Ordering.TheVariants.{Less, Equal, Greater}
use Rattle.std.proofs.lemmas.Bool.{true≢false, and_parts}
use Rattle.std.proofs.lemmas.Bool.Decides.{Decides-eqb}
use Rattle.depot_rows.specs.depot_path.Bytes.{same}
use Rattle.depot_rows.specs.db_records.declared.key.Key.{Key}
use Rattle.depot_rows.specs.db_records.declared.key.Key.TheVariants as keys
use Rattle.depot_rows.specs.db_records.declared.record.Record.{Record}
use Rattle.depot_rows.specs.db_records.declared.record.Record.TheVariants as records
use Rattle.depot_rows.specs.db_records.declared.table.TableId.{TableId}
use Rattle.depot_rows.specs.db_records.declared.table.TableId.TheVariants as tables
use Rattle.depot_rows.specs.db_records.Key.{Word, field_cmp, key_cmp}
use Rattle.depot_rows.specs.db_records.Record.{key_of, table_of}
use Rattle.depot_rows.proofs.db_records.Order.{keys_equal}
use Rattle.depot_rows.specs.table_store.Rows.{is_at, row_at, AllAbove, IsRising, AllOfTable}
use Rattle.depot_rows.specs.depot_model.Rules.{lock_of}
use Rattle.row_rules.specs.Stored.{seen}
use Rattle.row_rules.specs.Tests.{is_lock, path_in, is_again, locked_last, are_apart}
use Rattle.row_rules.proofs.Deciding.{same_decides}
use Rattle.row_rules.proofs.Found.{at_own, found_key, found_passes, found_behind, of_table}
use Rattle.row_rules.proofs.Joined.{OneLock, rows_in}

-- ---- the order of paths

NotBefore : List ℕ → List ℕ → Type 0
NotBefore a b = slice_cmp nat_cmp a b ≡ Less → ⊥

after_it : (a b : List ℕ) → NotBefore a b → (a ≡ b → ⊥) → slice_cmp nat_cmp b a ≡ Less
unfolding NotBefore
after_it a b late apart = nat_list_cmp_total.antisymm b a ∙ go (slice_cmp nat_cmp a b) refl
  where
    go : (o : Ordering) → slice_cmp nat_cmp a b ≡ o → ordering_reverse o ≡ Less
    go Less e = absurd (late e)
    go Equal e = absurd (apart ((same_decides a b).0 (texts_ties a b ∙ ap is_eq e)))
    go Greater e = refl

-- rows of opened files
abbrev AreOpened : List Record → Type 0
AreOpened rows = AllOfTable tables.Working rows

-- no path of these rows is before another
NoneBefore : List ℕ → List Record → Type 0
NoneBefore path [] = Unit {0}
NoneBefore path (row ∷ rows) = NotBefore (path_in row) path × NoneBefore path rows

PathsRise : List Record → Type 0
PathsRise [] = Unit {0}
PathsRise (row ∷ rows) = NoneBefore (path_in row) rows × PathsRise rows

not_before : (row other : Record) → table_of row ≡ tables.Working → table_of other ≡ tables.Working → key_cmp (key_of row) (key_of other) ≡ Greater
    → NotBefore (path_in row) (path_in other)
unfolding NotBefore
not_before (records.Working r) (records.Working s) e f above =
    λ less. let before : key_cmp (keys.Working r.path r.client) (keys.Working s.path s.client) ≡ Less = ap (λ o. ordering_then o (slice_cmp field_cmp (Word r.client ∷ []) (Word s.client ∷ []))) less in
    true≢false (ap is_lt (sym before ∙ above))
not_before (records.Working r) (records.Counter s) e f above = absurd cc
not_before (records.Working r) (records.Group s) e f above = absurd cc
not_before (records.Working r) (records.Protect s) e f above = absurd cc
not_before (records.Working r) (records.Domain s) e f above = absurd cc
not_before (records.Working r) (records.Have s) e f above = absurd cc
not_before (records.Working r) (records.Label s) e f above = absurd cc
not_before (records.Working r) (records.Integed s) e f above = absurd cc
not_before (records.Working r) (records.Resolve s) e f above = absurd cc
not_before (records.Working r) (records.Change s) e f above = absurd cc
not_before (records.Working r) (records.Rev s) e f above = absurd cc
not_before (records.Counter r) other e f above = absurd cc
not_before (records.Group r) other e f above = absurd cc
not_before (records.Protect r) other e f above = absurd cc
not_before (records.Domain r) other e f above = absurd cc
not_before (records.Have r) other e f above = absurd cc
not_before (records.Label r) other e f above = absurd cc
not_before (records.Integed r) other e f above = absurd cc
not_before (records.Resolve r) other e f above = absurd cc
not_before (records.Change r) other e f above = absurd cc
not_before (records.Rev r) other e f above = absurd cc

none_before : (row : Record) (rows : List Record) → table_of row ≡ tables.Working → AreOpened rows → AllAbove (key_of row) rows → NoneBefore (path_in row) rows
unfolding NoneBefore
none_before row [] e of above = tt
none_before row (other ∷ rows) e of above = (not_before other row of.0 e above.0, none_before row rows e of.1 above.1)

paths_rise : (rows : List Record) → AreOpened rows → IsRising rows → PathsRise rows
unfolding PathsRise
paths_rise [] of up = tt
paths_rise (row ∷ rows) of up = (none_before row rows of.0 of.1 up.0, paths_rise rows of.1 up.1)

-- ---- apart, and no path locked again

abbrev is_free : List ℕ → Record → Bool
is_free path row = not (is_lock row && same (path_in row) path)

free_by : (l s : Bool) → (l ≡ true → s ≡ false) → not (l && s) ≡ true
free_by false s h = refl
free_by true true h = absurd (true≢false (h refl))
free_by true false h = refl

apart_not : (path other : List ℕ) → (path ≡ other → ⊥) → same path other ≡ false
apart_not path other apart = go (same path other) refl
  where
    go : (b : Bool) → same path other ≡ b → b ≡ false
    go true e = absurd (apart ((same_decides path other).0 e))
    go false e = refl

-- behind a path that is after another, none is the other
all_free : (path last : List ℕ) (rows : List Record) → slice_cmp nat_cmp path last ≡ Less → NoneBefore last rows → list_all (is_free path) rows ≡ true
unfolding NoneBefore NotBefore
all_free path last [] less none = refl
all_free path last (row ∷ rows) less none =
    λ i. free_by (is_lock row) (same (path_in row) path)
    (λ _. apart_not (path_in row) path (λ e. none.0 (ap (λ p. slice_cmp nat_cmp p last) e ∙ less))) i
    && all_free path last rows less none.1 i

free_after : (path : List ℕ) (rows : List Record) → PathsRise rows → NoneBefore path rows → are_apart (Some path) rows ≡ true → list_all (is_free path) rows ≡ true
unfolding PathsRise NoneBefore
free_after path [] rise none e = refl
free_after path (row ∷ rows) rise none e =
    let here : not (is_lock row && same (path_in row) path) ≡ true = (and_parts (not (is_again (Some path) row)) (are_apart (locked_last (Some path) row) rows) e).0 in
    let rest : list_all (is_free path) rows ≡ true =
    go (is_lock row) refl here (and_parts (not (is_again (Some path) row)) (are_apart (locked_last (Some path) row) rows) e).1 (λ f. free_after path rows rise.1 none.1 f) in
    λ i. here i && rest i
  where
    go : (l : Bool) → is_lock row ≡ l → not (l && same (path_in row) path) ≡ true → are_apart (if l then Some (path_in row) else Some path) rows ≡ true
        → (are_apart (Some path) rows ≡ true → list_all (is_free path) rows ≡ true) → list_all (is_free path) rows ≡ true
    go false l free f later = later f
    go true l free f later =
        all_free path (path_in row) rows
        (after_it (path_in row) path none.0 (λ same_path. true≢false (sym free ∙ ap not ((same_decides (path_in row) path).1 same_path)))) rise.0

-- each lock has no other behind it
AllApart : List Record → Type 0
AllApart [] = Unit {0}
AllApart (row ∷ rows) = (is_lock row ≡ true → list_all (is_free (path_in row)) rows ≡ true) × AllApart rows

all_apart : (last : Option (List ℕ)) (rows : List Record) → PathsRise rows → are_apart last rows ≡ true → AllApart rows
unfolding AllApart PathsRise
all_apart last [] rise e = tt
all_apart last (row ∷ rows) rise e =
    let rest : are_apart (locked_last last row) rows ≡ true = (and_parts (not (is_again last row)) (are_apart (locked_last last row) rows) e).1 in (
      λ l. free_after (path_in row) rows rise.1 rise.0 (ap (λ b. are_apart (if b then Some (path_in row) else last) rows) (sym l) ∙ rest),
      all_apart (locked_last last row) rows rise.1 rest,
    )

-- ---- the rows that are found

abbrev Locks : List ℕ → Record → Type 0
Locks path row = (is_lock row ≡ true) × (path_in row ≡ path)

not_free : (path : List ℕ) (row : Record) → Locks path row → is_free path row ≡ true → ⊥
not_free path row locks free =
    true≢false (sym free ∙ (λ i. not (locks.0 i && ((same_decides (path_in row) path).1 locks.1) i)))

one_row : (path : List ℕ) (j k : Key) (rows : List Record) (x y : Record) → AllApart rows → row_at j rows ≡ Some x → row_at k rows ≡ Some y
    → Locks path x → Locks path y → x ≡ y
unfolding AllApart
one_row path j k [] x y apart e f p q = absurd cc
one_row path j k (row ∷ rows) x y apart e f p q =
    go (is_at j row) (is_at k row) e f (λ g h. one_row path j k rows x y apart.1 g h p q)
  where
    free : (r : Record) → row ≡ r → Locks path r → list_all (is_free path) rows ≡ true
    free r is locks =
        let P : List ℕ → Type 0 = λ t. list_all (is_free t) rows ≡ true in
        subst P (ap path_in is ∙ locks.1) (apart.0 (ap is_lock is ∙ locks.0))

    go : (a b : Bool) → cond a (Some row) (row_at j rows) ≡ Some x → cond b (Some row) (row_at k rows) ≡ Some y
        → (row_at j rows ≡ Some x → row_at k rows ≡ Some y → x ≡ y) → x ≡ y
    go true true g h rest = cc
    go true false g h rest = let is : row ≡ x = cc in absurd (not_free path y q (found_passes (is_free path) k rows y (free x is p) h))
    go false true g h rest = let is : row ≡ y = cc in absurd (not_free path x p (found_passes (is_free path) j rows x (free y is q) g))
    go false false g h rest = rest g h

module _ (lists : TableId → List Record) (up : (table : TableId) → IsRising (lists table)) (of : (table : TableId) → AllOfTable table (lists table)) where
  abbrev opened : List Record
  opened = lists tables.Working

  abbrev LockAt : List ℕ → List ℕ → Type 0
  LockAt path client = (row : Record) × (row_at (keys.Working path client) opened ≡ Some row) × Locks path row

  lock_kind : (path client : List ℕ) (row : Record) → key_of row ≡ keys.Working path client → lock_of (seen (Some row)) ≡ 1
      → row_at (keys.Working path client) opened ≡ Some row → LockAt path client
  lock_kind path client (records.Working r) e l f = (records.Working r, f, ((Decides-eqb r.lock 1).1 l, cc))
  lock_kind path client (records.Counter r) e l f = absurd cc
  lock_kind path client (records.Group r) e l f = absurd cc
  lock_kind path client (records.Protect r) e l f = absurd cc
  lock_kind path client (records.Domain r) e l f = absurd cc
  lock_kind path client (records.Have r) e l f = absurd cc
  lock_kind path client (records.Label r) e l f = absurd cc
  lock_kind path client (records.Integed r) e l f = absurd cc
  lock_kind path client (records.Resolve r) e l f = absurd cc
  lock_kind path client (records.Change r) e l f = absurd cc
  lock_kind path client (records.Rev r) e l f = absurd cc

  lock_row : (path client : List ℕ) → lock_of (rows_in lists (keys.Working path client)) ≡ 1 → LockAt path client
  lock_row path client l = go (row_at (keys.Working path client) opened) refl l
    where
      none_is : ◌≡◌ {A = ℕ} 0 1 → ⊥
      none_is e = absurd (true≢false (sym ((Decides-eqb 0 1).1 e)))

      go : (o : Option Record) → row_at (keys.Working path client) opened ≡ o → lock_of (seen o) ≡ 1 → LockAt path client
      go None e m = absurd (none_is m)
      go (Some row) e m = lock_kind path client row (found_key (keys.Working path client) opened row e) m e

  client_is : (p q a b : List ℕ) → keys.Working p a ≡ keys.Working q b → a ≡ b
  client_is p q a b e = cc

  pub one_lock : are_apart None opened ≡ true → OneLock (rows_in lists)
  one_lock e = λ path a b l m.
      let x = lock_row path a l in
      let y = lock_row path b m in
      let x_row : Record = x.0 in
      let y_row : Record = y.0 in
      let alike : x_row ≡ y_row =
      one_row path (keys.Working path a) (keys.Working path b) opened x_row y_row
      (all_apart None opened (paths_rise opened (of tables.Working) (up tables.Working)) e) x.1 y.1 x.2 y.2 in
      client_is path path a b (sym (found_key (keys.Working path a) opened x_row x.1) ∙ ap key_of alike ∙ found_key (keys.Working path b) opened y_row y.1)

  -- ---- where no path has two locks, they are apart

  module _ (lone : OneLock (rows_in lists)) where
    AreBehind : Option (List ℕ) → List Record → Type 0
    AreBehind None rows = Unit {0}
    AreBehind (Some path) rows = (row : Record) × (row_at (key_of row) opened ≡ Some row) × Locks path row × AllAbove (key_of row) rows

    locked : (row : Record) → table_of row ≡ tables.Working → row_at (key_of row) opened ≡ Some row → is_lock row ≡ true
        → (client : List ℕ) × (key_of row ≡ keys.Working (path_in row) client) × (lock_of (rows_in lists (keys.Working (path_in row) client)) ≡ 1)
    locked (records.Working r) e f l = (r.client, refl, ap (λ (o : Option Record). lock_of (seen o)) f ∙ (Decides-eqb r.lock 1).0 l)
    locked (records.Counter r) e f l = absurd cc
    locked (records.Group r) e f l = absurd cc
    locked (records.Protect r) e f l = absurd cc
    locked (records.Domain r) e f l = absurd cc
    locked (records.Have r) e f l = absurd cc
    locked (records.Label r) e f l = absurd cc
    locked (records.Integed r) e f l = absurd cc
    locked (records.Resolve r) e f l = absurd cc
    locked (records.Change r) e f l = absurd cc
    locked (records.Rev r) e f l = absurd cc

    not_own : (row other : Record) → key_cmp (key_of row) (key_of other) ≡ Greater → key_of row ≡ key_of other → ⊥
    not_own row other above same_key = true≢false (ap is_gt (sym above ∙ (keys_equal (key_of row) (key_of other)).1 same_key))

    same_lock : (path : List ℕ) (x row : Record) → table_of x ≡ tables.Working → table_of row ≡ tables.Working
        → row_at (key_of x) opened ≡ Some x → row_at (key_of row) opened ≡ Some row → Locks path x → Locks path row → key_of row ≡ key_of x
    same_lock path x row of_x of_row e f p q =
        let a = locked x of_x e p.0 in
        let b = locked row of_row f q.0 in
        let P : List ℕ → List ℕ → Type 0 = λ t client. lock_of (rows_in lists (keys.Working t client)) ≡ 1 in
        let l : P path a.0 = subst (λ (t : List ℕ). P t a.0) p.1 a.2 in
        let m : P path b.0 = subst (λ (t : List ℕ). P t b.0) q.1 b.2 in
        let client : a.0 ≡ b.0 = lone path a.0 b.0 l m in
        b.1 ∙ (λ i. keys.Working ((q.1 ∙ sym p.1) i) (sym client i)) ∙ sym a.1

    -- a row of a list of opened files is one
    of_found : (key : Key) (row : Record) → row_at key opened ≡ Some row → table_of row ≡ tables.Working
    of_found key row e = of_table tables.Working key row opened (of tables.Working) e

    again_not : (last : Option (List ℕ)) (row : Record) (rows : List Record) → row_at (key_of row) opened ≡ Some row → AreBehind last (row ∷ rows) → not (is_again last row) ≡ true
    unfolding AreBehind
    again_not None row rows here behind = refl
    again_not (Some path) row rows here behind = go (is_lock row && same (path_in row) path) refl
      where
        go : (b : Bool) → (is_lock row && same (path_in row) path) ≡ b → not b ≡ true
        go false e = refl
        go true e =
            let x : Record = behind.0 in
            let locks : Locks path row = ((and_parts (is_lock row) (same (path_in row) path) e).0, (same_decides (path_in row) path).0 (and_parts (is_lock row) (same (path_in row) path) e).1) in
            absurd (not_own row x behind.3.0
            (same_lock path x row (of_found (key_of x) x behind.1) (of_found (key_of row) row here) behind.1 here behind.2 locks))

    next_behind : (last : Option (List ℕ)) (row : Record) (rows : List Record) → row_at (key_of row) opened ≡ Some row → AllAbove (key_of row) rows
        → AreBehind last (row ∷ rows) → AreBehind (locked_last last row) rows
    unfolding AreBehind
    next_behind last row rows here above behind = go (is_lock row) refl (weaker last behind)
      where
        weaker : (o : Option (List ℕ)) → AreBehind o (row ∷ rows) → AreBehind o rows
        weaker None h = tt
        weaker (Some path) h = (h.0, h.1, h.2, h.3.1)

        go : (l : Bool) → is_lock row ≡ l → AreBehind last rows → AreBehind (if l then Some (path_in row) else last) rows
        go false l h = h
        go true l h = (row, here, (l, refl), above)

    all_behind : (last : Option (List ℕ)) (rows : List Record) → IsRising rows → AreBehind last rows
        → ((r : Record) → row_at (key_of r) rows ≡ Some r → row_at (key_of r) opened ≡ Some r) → are_apart last rows ≡ true
    all_behind last [] up_rows behind whole = refl
    all_behind last (row ∷ rows) up_rows behind whole =
        let here : row_at (key_of row) opened ≡ Some row = whole row (ap (λ b. cond b (Some row) (row_at (key_of row) rows)) (at_own row)) in
        λ i. again_not last row rows here behind i
        && all_behind (locked_last last row) rows up_rows.1 (next_behind last row rows here up_rows.0 behind)
        (λ r e. whole r (found_behind (key_of r) row r rows up_rows.0 e)) i

    pub locks_apart : are_apart None opened ≡ true
    unfolding AreBehind
    locks_apart = all_behind None opened (up tables.Working) tt (λ r e. e)
