-- Taking away all rows of a range is to empty it.
use Rattle.std.proofs.Common.{◌≡◌, Bool, true, false, cond, List, [], ◌∷◌, ◌++◌, map, Option, Some, None, refl, ap, sym, ◌∙◌, subst}
use Rattle.std.specs.Prelude.{if◌then◌else◌, filter, ◌||◌, unwrap_or}
use Rattle.std.specs.List.{list_any}
use Rattle.std.specs.Map.{lookup, keys_of}
use Rattle.std.specs.Ordering.{is_eq}
use Rattle.depot_rows.specs.db_records.declared.key.Key.{Key}
use Rattle.depot_rows.specs.db_records.declared.record.Record.{Record}
use Rattle.depot_rows.specs.db_records.declared.table.TableId.{TableId}
use Rattle.depot_rows.specs.db_records.Key.{key_cmp, key_table}
use Rattle.depot_rows.specs.db_records.Record.{key_of}
use Rattle.depot_rows.specs.table_store.Rows.{row_at}
use Rattle.depot_rows.specs.table_changes.Changed.{AllRows}
use Rattle.depot_rows.specs.depot_model.Records.{is_at}
use Rattle.depot_rows.specs.depot_model.Rules.{Rows}
use Rattle.depot_rows.specs.Effects.{put_at}
use Rattle.depot_rows.specs.Standing.{row_in}
use Rattle.depot_rows.proofs.Keys.{at-is, at-self}
use Rattle.row_changes.specs.Overlay.{Touched, Entries, seen}
use Rattle.row_ranges.specs.declared.range.KeyRange.{KeyRange}
use Rattle.row_ranges.specs.Ranges.{has_row, is_in, range_table}
use Rattle.row_ranges.proofs.Between.{of-table}
use Rattle.row_changes.specs.Ranges.{removed, emptied}

abbrev listed_key : Key → List Key → Bool
listed_key q ks = list_any (λ k. is_at k q) ks

removed-is : (ks : List Key) (before : Rows) (q : Key) → removed ks before q ≡ (if listed_key q ks then None else before q)
removed-is [] before q = refl
removed-is (k ∷ ks) before q = removed-is ks (put_at k None before) q ∙ go (is_at k q) (listed_key q ks)
  where
    go : (a b : Bool) → (if b then None else (if a then None else before q)) ≡ (if a || b then None else before q)
    go true true = refl
    go true false = refl
    go false b = refl

pub removed-push : (ks : List Key) (k : Key) (before : Rows) → removed (ks ++ k ∷ []) before ≡ put_at k None (removed ks before)
removed-push [] k before = refl
removed-push (x ∷ xs) k before = removed-push xs k (put_at x None before)

-- keys of the range are no other's
listed-out : (range : KeyRange) (q : Key) (ks : List Key) → is_in range q ≡ false → listed_key q (filter (is_in range) ks) ≡ false
listed-out range q [] e = refl
listed-out range q (k ∷ ks) e = go (is_in range k) refl (is_at k q) refl (listed-out range q ks e)
  where
    go : (a : Bool) → is_in range k ≡ a → (b : Bool) → is_at k q ≡ b → listed_key q (filter (is_in range) ks) ≡ false
        → listed_key q (if a then k ∷ filter (is_in range) ks else filter (is_in range) ks) ≡ false
    go true h true g rest = absurd (let one : is_in range k ≡ is_in range q = ap (is_in range) (at-is k q g) in cc)
    go true h false g rest = rw g rest
    go false h b g rest = rest

-- a key of the range is listed, where it is among the keys
listed-in : (range : KeyRange) (q : Key) (ks : List Key) → is_in range q ≡ true → listed_key q ks ≡ true → listed_key q (filter (is_in range) ks) ≡ true
listed-in range q [] e l = l
listed-in range q (k ∷ ks) e l = go (is_in range k) refl (is_at k q) refl l (listed-in range q ks e)
  where
    go : (a : Bool) → is_in range k ≡ a → (b : Bool) → is_at k q ≡ b → (b || listed_key q ks) ≡ true
        → (listed_key q ks ≡ true → listed_key q (filter (is_in range) ks) ≡ true)
        → listed_key q (if a then k ∷ filter (is_in range) ks else filter (is_in range) ks) ≡ true
    go true h true g l rest = rw g refl
    go true h false g l rest = rw g (rest l)
    go false h true g l rest = absurd (let one : is_in range k ≡ is_in range q = ap (is_in range) (at-is k q g) in cc)
    go false h false g l rest = rest l

-- a key that isn't among the rows' keys has no row
row-listed : (q : Key) (rows : List Record) → listed_key q (map key_of rows) ≡ false → row_at q rows ≡ None
row-listed q [] e = refl
row-listed q (r ∷ rows) e = go (is_at (key_of r) q) e (row-listed q rows)
  where
    go : (b : Bool) → (b || listed_key q (map key_of rows)) ≡ false → (listed_key q (map key_of rows) ≡ false → row_at q rows ≡ None) → cond b (Some r) (row_at q rows) ≡ None
    go true e rest = absurd cc
    go false e rest = rest e

entry-listed : (q : Key) (es : Entries) → listed_key q (keys_of es) ≡ false → lookup (λ x. is_eq (key_cmp q x)) es ≡ None
entry-listed q [] e = refl
entry-listed q (x ∷ es) e = go (is_at q x.0) refl (is_at x.0 q) refl e (entry-listed q es)
  where
    go : (a : Bool) → is_at q x.0 ≡ a → (b : Bool) → is_at x.0 q ≡ b → (b || listed_key q (keys_of es)) ≡ false
        → (listed_key q (keys_of es) ≡ false → lookup (λ y. is_eq (key_cmp q y)) es ≡ None) → cond a (Some x.1) (lookup (λ y. is_eq (key_cmp q y)) es) ≡ None
    go true h true g e rest = absurd cc
    go true h false g e rest = absurd (let back : is_at x.0 q ≡ true = at-self x.0 q (sym (at-is q x.0 h)) in cc)
    go false h true g e rest = absurd cc
    go false h false g e rest = rest e

-- the keys of the rows of a range
range-keys : (range : KeyRange) (rows : List Record) → map key_of (filter (has_row range) rows) ≡ filter (is_in range) (map key_of rows)
range-keys range [] = refl
range-keys range (r ∷ rs) = go (is_in range (key_of r)) (range-keys range rs)
  where
    go : (b : Bool) → map key_of (filter (has_row range) rs) ≡ filter (is_in range) (map key_of rs)
        → map key_of (cond b (r ∷ filter (has_row range) rs) (filter (has_row range) rs)) ≡ cond b (key_of r ∷ filter (is_in range) (map key_of rs)) (filter (is_in range) (map key_of rs))
    go true h = ap (λ l. key_of r ∷ l) h
    go false h = h

-- all of the range is taken away, and nothing else
pub removed-emptied : (range : KeyRange) (all : AllRows) (touched : Touched) (q : Key)
    → removed (map key_of (filter (has_row range) (all (range_table range)))) (removed (filter (is_in range) (keys_of touched.entries)) (seen touched (row_in all))) q
    ≡ emptied range (seen touched (row_in all)) q
removed-emptied range all touched q =
    ap (λ (l : List Key). removed l (removed (filter (is_in range) (keys_of touched.entries)) (seen touched (row_in all))) q) (range-keys range (all (range_table range)))
    ∙ removed-is (filter (is_in range) (map key_of (all (range_table range)))) (removed (filter (is_in range) (keys_of touched.entries)) (seen touched (row_in all))) q
    ∙ ap (λ (w : Option Record). if listed_key q (filter (is_in range) (map key_of (all (range_table range)))) then None else w) (removed-is (filter (is_in range) (keys_of touched.entries)) (seen touched (row_in all)) q)
    ∙ go (is_in range q) refl (listed_key q (map key_of (all (range_table range)))) refl (listed_key q (keys_of touched.entries)) refl
  where
    none : (a b : Bool) → a ≡ true → (if a then None else (if b then None else seen touched (row_in all) q)) ≡ None
    none true b e = refl
    none false b e = absurd cc

    second : (a b : Bool) → b ≡ true → (if a then None else (if b then None else seen touched (row_in all) q)) ≡ None
    second true b e = refl
    second false true e = refl
    second false false e = absurd cc

    neither : (a b : Bool) → seen touched (row_in all) q ≡ None → (if a then None else (if b then None else seen touched (row_in all) q)) ≡ None
    neither true b e = refl
    neither false true e = refl
    neither false false e = e

    go : (c : Bool) → is_in range q ≡ c → (a : Bool) → listed_key q (map key_of (all (range_table range))) ≡ a → (b : Bool) → listed_key q (keys_of touched.entries) ≡ b
        → (if listed_key q (filter (is_in range) (map key_of (all (range_table range)))) then None else (if listed_key q (filter (is_in range) (keys_of touched.entries)) then None else seen touched (row_in all) q))
        ≡ (if c then None else seen touched (row_in all) q)
    go false h a k b l = rw (listed-out range q (map key_of (all (range_table range))) h, listed-out range q (keys_of touched.entries) h) refl
    go true h true k b l = none _ _ (listed-in range q (map key_of (all (range_table range))) h k)
    go true h false k true l = second _ _ (listed-in range q (keys_of touched.entries) h l)
    go true h false k false l = neither _ _ (ap (λ (o : Option (Option Record)). unwrap_or o (row_in all q)) (entry-listed q touched.entries l)
        ∙ row-listed q (all (key_table q)) (subst (λ (t : TableId). listed_key q (map key_of (all t)) ≡ false) (sym (of-table range q h)) k))
