-- Rows of a table whose keys rise are known by the row at each key.
use Rattle.std.proofs.Common.{◌≡◌, Bool, true, false, cond, List, [], ◌∷◌, Option, Some, None, refl, sym, ap, ◌∙◌, subst}
use Rattle.std.specs.Prelude.{option_map}
use Rattle.std.specs.Ordering.{is_eq}
use Rattle.std.specs.declared.cmp.Ordering.{Ordering}
use Rattle.std.specs.declared.cmp.Ordering.TheVariants.{Less, Equal, Greater}
use Rattle.depot_rows.specs.db_records.declared.key.Key.{Key}
use Rattle.depot_rows.specs.db_records.declared.record.Record.{Record}
use Rattle.depot_rows.specs.db_records.declared.record.Record.TheVariants as records
use Rattle.depot_rows.specs.db_records.declared.table.TableId.{TableId}
use Rattle.depot_rows.specs.db_records.declared.table.TableId.TheVariants as tables
use Rattle.depot_rows.specs.db_records.Key.{key_cmp, key_table}
use Rattle.depot_rows.specs.db_records.Record.{key_of, table_of}
use Rattle.depot_rows.proofs.db_records.Order.{keys_equal}
use Rattle.depot_rows.specs.table_store.Rows.{is_at, row_at, AllAbove, AllOfTable, IsRising}
use Rattle.row_order.proofs.Order.{row_at-gap, AllAbove-lower, AllAbove-tied, turned_less}
use Rattle.depot_rows.specs.depot_model.Records.{unplaced}
use Rattle.depot_rows.specs.Standing.{unplaced_at}

pub itself : (a : Key) → key_cmp a a ≡ Equal
itself a = (keys_equal a a).1 refl

-- the first row, where it has the key, and where it hasn't
pub here : (key : Key) (r : Record) (rs : List Record) → key_cmp (key_of r) key ≡ Equal → row_at key (r ∷ rs) ≡ Some r
here key r rs e = rw e refl

pub behind : (key : Key) (r : Record) (rs : List Record) (o : Ordering) → key_cmp (key_of r) key ≡ o → is_eq o ≡ false → row_at key (r ∷ rs) ≡ row_at key rs
behind key r rs o e n = rw (e, n) refl

-- no row has a key that all are above
pub above_all : (key : Key) (rs : List Record) → AllAbove key rs → row_at key rs ≡ None
above_all key rs high = row_at-gap key [] rs tt high

not_none : (r : Record) → Some r ≡ None → ⊥
not_none r e = cc

one_row : (r s : Record) → Some r ≡ Some s → r ≡ s
one_row r s e = cc

module _ (r : Record) (rs : List Record) (s : Record) (ss : List Record) (up : IsRising (r ∷ rs)) (down : IsRising (s ∷ ss)) where
  first_below : key_cmp (key_of r) (key_of s) ≡ Less → row_at (key_of r) (s ∷ ss) ≡ None
  first_below e =
      let turned = turned_less (key_of r) (key_of s) e in
      above_all (key_of r) (s ∷ ss) (turned, AllAbove-lower (key_of s) (key_of r) ss turned down.0)

  first_above : key_cmp (key_of r) (key_of s) ≡ Greater → row_at (key_of s) (r ∷ rs) ≡ None
  first_above e = above_all (key_of s) (r ∷ rs) (e, AllAbove-lower (key_of r) (key_of s) rs e up.0)

  -- what is behind the first rows is alike where all is
  rest_at : (key : Key) (o : Ordering) → r ≡ s → key_cmp (key_of r) key ≡ o → row_at key (r ∷ rs) ≡ row_at key (s ∷ ss) → row_at key rs ≡ row_at key ss
  rest_at key Equal one e same =
      let P : Record → Type 0 = λ x. key_cmp (key_of x) key ≡ Equal in
      above_all key rs (AllAbove-tied (key_of r) key rs e up.0) ∙ sym (above_all key ss (AllAbove-tied (key_of s) key ss (subst P one e) down.0))
  rest_at key Less one e same =
      let P : Record → Type 0 = λ x. key_cmp (key_of x) key ≡ Less in
      sym (behind key r rs Less e refl) ∙ same ∙ behind key s ss Less (subst P one e) refl
  rest_at key Greater one e same =
      let P : Record → Type 0 = λ x. key_cmp (key_of x) key ≡ Greater in
      sym (behind key r rs Greater e refl) ∙ same ∙ behind key s ss Greater (subst P one e) refl

  module _ (t : TableId) (of_r : table_of r ≡ t) (of_s : table_of s ≡ t) (same : (key : Key) → key_table key ≡ t → row_at key (r ∷ rs) ≡ row_at key (s ∷ ss)) (rest : ((key : Key) → key_table key ≡ t → row_at key rs ≡ row_at key ss) → rs ≡ ss) where
    both_alike : (o : Ordering) → key_cmp (key_of r) (key_of s) ≡ o → r ∷ rs ≡ s ∷ ss
    both_alike Less e = absurd (not_none r (sym (here (key_of r) r rs (itself (key_of r))) ∙ same (key_of r) of_r ∙ first_below e))
    both_alike Greater e = absurd (not_none s (sym (here (key_of s) s ss (itself (key_of s))) ∙ sym (same (key_of s) of_s) ∙ first_above e))
    both_alike Equal e =
        let one = one_row r s (sym (here (key_of s) r rs e) ∙ same (key_of s) of_s ∙ here (key_of s) s ss (itself (key_of s))) in
        let behind_them = rest (λ key of. rest_at key (key_cmp (key_of r) key) one refl (same key of)) in
        λ i. one i ∷ behind_them i

pub rows_alike : (t : TableId) (rows others : List Record) → IsRising rows → IsRising others → AllOfTable t rows → AllOfTable t others
    → ((key : Key) → key_table key ≡ t → row_at key rows ≡ row_at key others) → rows ≡ others
rows_alike t [] [] up down of on same = refl
rows_alike t [] (s ∷ ss) up down of on same = absurd (not_none s (sym (here (key_of s) s ss (itself (key_of s))) ∙ sym (same (key_of s) on.0)))
rows_alike t (r ∷ rs) [] up down of on same = absurd (not_none r (sym (here (key_of r) r rs (itself (key_of r))) ∙ same (key_of r) of.0))
rows_alike t (r ∷ rs) (s ∷ ss) up down of on same =
    both_alike r rs s ss up down t of.0 on.0 same (rows_alike t rs ss up.1 down.1 of.1 on.1) (key_cmp (key_of r) (key_of s)) refl

-- ---- the place of a content

-- no row but that of a revision has one
unplaced_is : (t : TableId) → (t ≡ tables.Rev → ⊥) → (r : Record) → table_of r ≡ t → unplaced r ≡ r
unplaced_is t n (records.Rev r) e = absurd (n (sym e))
unplaced_is t n (records.Counter r) e = refl
unplaced_is t n (records.Group r) e = refl
unplaced_is t n (records.Protect r) e = refl
unplaced_is t n (records.Domain r) e = refl
unplaced_is t n (records.Have r) e = refl
unplaced_is t n (records.Label r) e = refl
unplaced_is t n (records.Integed r) e = refl
unplaced_is t n (records.Resolve r) e = refl
unplaced_is t n (records.Working r) e = refl
unplaced_is t n (records.Change r) e = refl

either : (b : Bool) (r : Record) (rest : Option Record) → unplaced r ≡ r → option_map unplaced rest ≡ rest → option_map unplaced (cond b (Some r) rest) ≡ cond b (Some r) rest
either true r rest h k = ap Some h
either false r rest h k = k

pub unplaced_row : (t : TableId) → (t ≡ tables.Rev → ⊥) → (rows : List Record) → AllOfTable t rows → (key : Key) → unplaced_at rows key ≡ row_at key rows
unplaced_row t n [] of key = refl
unplaced_row t n (r ∷ rs) of key = either (is_at key r) r (row_at key rs) (unplaced_is t n r of.0) (unplaced_row t n rs of.1 key)
