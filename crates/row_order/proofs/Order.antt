-- Lists of rows in key order: their parts below, at and above a key.
use Rattle.std.proofs.Common.{◌≡◌, ◌↔◌, ◌<◌, ◌-◌, IsTrue, List, [], ◌∷◌, ◌++◌, length, get_or, Some, None, ap, ◌∙◌}
use Rattle.std.specs.Ordering.{is_lt, ordering_reverse}
use Rattle.std.specs.declared.cmp.Ordering.TheVariants.{Less, Equal, Greater}
use Rattle.db_records.specs.declared.key.Key.{Key}
use Rattle.db_records.specs.declared.record.Record.{Record}
use Rattle.db_records.specs.declared.change.Change.{Change}
use Rattle.db_records.specs.declared.change.Op.TheVariants.{Put}
use Rattle.db_records.specs.Key.{key_cmp}
use Rattle.db_records.specs.KeyLaws.{keys_total}
use Rattle.db_records.specs.Record.{key_of}
use Rattle.table_store.specs.Places.{at_key, by_key}
use Rattle.table_store.specs.Rows.{AllBelow, AllAbove, IsRising, row_at, rows_from, changed_once}
use Rattle.table_store.proofs.Order.{turned_greater}
use Rattle.table_store.proofs.Order as standing
use Rattle.table_store.proofs.Place as pages

-- ---- keys

pub turned_less : (a b : Key) → key_cmp a b ≡ Less → key_cmp b a ≡ Greater
turned_less a b h = keys_total.antisymm b a ∙ ap ordering_reverse h

pub greater_trans : (a b c : Key) → key_cmp a b ≡ Greater → key_cmp b c ≡ Greater → key_cmp a c ≡ Greater
greater_trans a b c p q = turned_less c a (keys_total.trans c b a (turned_greater b c q) (turned_greater a b p))

-- ---- all below, all above

pub AllAbove-lower : (k j : Key) (rows : List Record) → key_cmp k j ≡ Greater → AllAbove k rows → AllAbove j rows
AllAbove-lower k j rows h all = standing.AllStandAbove-lower by_key (at_key k) (at_key j) rows h all

pub AllAbove-tied : (k j : Key) (rows : List Record) → key_cmp k j ≡ Equal → AllAbove k rows → AllAbove j rows
AllAbove-tied k j rows h all = standing.AllStandAbove-tied by_key (at_key k) (at_key j) rows h all

pub AllBelow-higher : (k j : Key) (rows : List Record) → key_cmp k j ≡ Less → AllBelow k rows → AllBelow j rows
AllBelow-higher k j rows h all = standing.AllStandBelow-higher by_key (at_key k) (at_key j) rows h all

pub AllBelow-tied : (k j : Key) (rows : List Record) → key_cmp k j ≡ Equal → AllBelow k rows → AllBelow j rows
AllBelow-tied k j rows h all = standing.AllStandBelow-tied by_key (at_key k) (at_key j) rows h all

pub AllAbove-append : (k : Key) (xs ys : List Record) → AllAbove k xs → AllAbove k ys → AllAbove k (xs ++ ys)
AllAbove-append k xs ys p q = standing.AllStandAbove-append by_key (at_key k) xs ys p q

pub AllBelow-append : (k : Key) (xs ys : List Record) → AllBelow k xs → AllBelow k ys → AllBelow k (xs ++ ys)
AllBelow-append k xs ys p q = standing.AllStandBelow-append by_key (at_key k) xs ys p q

-- ---- rising lists

pub IsRising-right : (xs ys : List Record) → IsRising (xs ++ ys) → IsRising ys
IsRising-right xs ys up = standing.StandsRising-right by_key xs ys up

pub IsRising-left : (xs ys : List Record) → IsRising (xs ++ ys) → IsRising xs
IsRising-left xs ys up = standing.StandsRising-left by_key xs ys up

-- what stands before a row is below it
pub before_row : (xs : List Record) (y : Record) (ys : List Record) → IsRising (xs ++ y ∷ ys) → AllBelow (key_of y) xs
before_row xs y ys up = standing.before_row by_key xs y ys up

-- rows that rise are below a key where the last of them are
pub below_by_last : (k : Key) (xs ys : List Record) → 0 < length ys → IsRising (xs ++ ys) → AllBelow k ys → AllBelow k (xs ++ ys)
below_by_last k xs ys h up low = standing.below_by_last by_key (at_key k) xs ys h up low

pub below_where_last_is : (key : Key) (rows : List Record) (last : Record) → 0 < length rows → last ≡ get_or rows (length rows - 1) last → IsRising rows → IsTrue (is_lt (key_cmp (key_of last) key)) ↔ AllBelow key rows
below_where_last_is key rows last h is up = pages.below_where_last_is by_key (at_key key) rows last h is up

-- ---- the row at a key

pub row_at-below : (k : Key) (xs : List Record) → AllBelow k xs → row_at k xs ≡ None
row_at-below k xs low = standing.standing_at-below by_key (at_key k) xs low

pub row_at-above : (k : Key) (ys : List Record) → AllAbove k ys → row_at k ys ≡ None
row_at-above k ys high = standing.standing_at-above by_key (at_key k) ys high

pub rows_from-above : (k : Key) (ys : List Record) → AllAbove k ys → rows_from k ys ≡ ys
rows_from-above k ys high = standing.standing_from-above by_key (at_key k) ys high

pub row_at-gap : (k : Key) (xs ys : List Record) → AllBelow k xs → AllAbove k ys → row_at k (xs ++ ys) ≡ None
row_at-gap k xs ys low high = standing.standing_at-gap by_key (at_key k) xs ys low high

pub row_at-here : (k : Key) (xs ys : List Record) → AllBelow k xs → AllAbove k ys → (y : Record) → key_cmp (key_of y) k ≡ Equal → row_at k (xs ++ y ∷ ys) ≡ Some y
row_at-here k xs ys low high y same = standing.standing_at-here by_key (at_key k) xs ys low high y same

-- ---- the rows after a change

pub changed_once_rises : (rows : List Record) (change : Change) → IsRising rows → IsRising (changed_once rows change)
changed_once_rises rows change up = standing.placed_once_rises by_key rows change.op change.row up

pub row_behind : (rows : List Record) (change : Change) → AllBelow (key_of change.row) rows → change.op ≡ Put → changed_once rows change ≡ rows ++ change.row ∷ []
row_behind rows change low is = pages.row_behind by_key rows change.op change.row low is
