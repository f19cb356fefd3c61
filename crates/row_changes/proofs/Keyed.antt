-- Rows that have the keys at which they stand.
use Rattle.std.proofs.Common.{◌≡◌, Bool, true, false, cond, IsTrue, List, [], ◌∷◌, Option, Some, None, Result, Ok, Err, OnOk, OnErr, refl, sym, ap, ◌∙◌, subst}
use Rattle.std.specs.Prelude.{◌&&◌, unwrap_or}
use Rattle.std.specs.BTreeMap.{insert_entry}
use Rattle.std.specs.Ordering.{is_eq, match_ordering}
use Rattle.std.specs.declared.cmp.Ordering.{Ordering}
use Rattle.std.specs.declared.cmp.Ordering.TheVariants.{Less, Equal, Greater}
use Rattle.std.proofs.lemmas.Bool.{and_parts}
use Rattle.depot_rows.specs.db_records.declared.key.Key.{Key}
use Rattle.depot_rows.specs.db_records.declared.record.Record.{Record}
use Rattle.depot_rows.specs.db_records.Key.{key_cmp}
use Rattle.depot_rows.specs.db_records.Record.{key_of}
use Rattle.depot_rows.proofs.db_records.Order.{keys_equal}
use Rattle.depot_rows.specs.table_store.Rows.{is_at as stands_at, row_at}
use Rattle.depot_rows.specs.depot_model.Records.{is_at}
use Rattle.row_changes.specs.Stored.{HasKey}
use Rattle.row_changes.specs.Overlay.{Entries, is_keyed, all_keyed}
use Rattle.row_changes.proofs.Made.{AreKeyed, found, equal-keys}
use Rattle.row_changes.proofs.Kept.{key-at}

-- what is found at a key has it
pub row_at-keyed : (key : Key) (rows : List Record) → HasKey (row_at key rows) key
row_at-keyed key [] = tt
row_at-keyed key (row ∷ rows) = go (row_at-keyed key rows) (stands_at key row) refl
  where
    go : HasKey (row_at key rows) key → (b : Bool) → stands_at key row ≡ b → HasKey (cond (stands_at key row) (Some row) (row_at key rows)) key
    go rest true h = subst (λ (b : Bool). HasKey (cond b (Some row) (row_at key rows)) key) (sym h) (key-at key row h)
    go rest false h = subst (λ (b : Bool). HasKey (cond b (Some row) (row_at key rows)) key) (sym h) rest

keyed-entry : (e : Key × Option Record) → is_keyed e ≡ true → HasKey e.1 e.0
keyed-entry (key, None) h = tt
keyed-entry (key, Some row) h = sym (equal-keys key (key_of row) h)

entry-keyed : (e : Key × Option Record) → HasKey e.1 e.0 → is_keyed e ≡ true
entry-keyed (key, None) h = refl
entry-keyed (key, Some row) h = ap is_eq ((keys_equal key (key_of row)).1 (sym h))

pub are-keyed : (es : Entries) → IsTrue (all_keyed es) → AreKeyed es
are-keyed [] h = tt
are-keyed (e ∷ es) h = let two = and_parts (is_keyed e) (all_keyed es) h in (keyed-entry e two.0, are-keyed es two.1)

all-keyed : (es : Entries) → AreKeyed es → IsTrue (all_keyed es)
all-keyed [] h = refl
all-keyed (e ∷ es) h = (λ i. entry-keyed e h.0 i && all_keyed es) ∙ all-keyed es h.1

-- a row put at its key
keyed-inserted : (es : Entries) (key : Key) (row : Option Record) → HasKey row key → AreKeyed es → AreKeyed (insert_entry key_cmp es key row)
keyed-inserted [] key row h all = (h, tt)
keyed-inserted (e ∷ es) key row h all = go (keyed-inserted es key row h all.1) (key_cmp key e.0) refl
  where
    go : AreKeyed (insert_entry key_cmp es key row) → (o : Ordering) → key_cmp key e.0 ≡ o → AreKeyed (match_ordering (key_cmp key e.0) ((key, row) ∷ e ∷ es) ((e.0, row) ∷ es) (e ∷ insert_entry key_cmp es key row))
    go rest Less is = subst (λ (o : Ordering). AreKeyed (match_ordering o ((key, row) ∷ e ∷ es) ((e.0, row) ∷ es) (e ∷ insert_entry key_cmp es key row))) (sym is) (h, all)
    go rest Equal is = subst (λ (o : Ordering). AreKeyed (match_ordering o ((key, row) ∷ e ∷ es) ((e.0, row) ∷ es) (e ∷ insert_entry key_cmp es key row))) (sym is) (subst (HasKey row) ((keys_equal key e.0).0 is) h, all.1)
    go rest Greater is = subst (λ (o : Ordering). AreKeyed (match_ordering o ((key, row) ∷ e ∷ es) ((e.0, row) ∷ es) (e ∷ insert_entry key_cmp es key row))) (sym is) (all.0, rest)

pub keyed-insert : {A E : Type 0} (r : Result A E) (es new : Entries) (key : Key) (row : Option Record) → OnOk r (new ≡ insert_entry key_cmp es key row) → OnErr r (new ≡ es)
    → IsTrue (all_keyed es) → HasKey row key → IsTrue (all_keyed new)
keyed-insert (Ok a) es new key row ok err all h = all-keyed new (subst AreKeyed (sym ok) (keyed-inserted es key row h (are-keyed es all)))
keyed-insert (Err a) es new key row ok err all h = subst (λ (x : Entries). IsTrue (all_keyed x)) (sym err) all

-- what is found among keyed entries has the key
pub found-keyed : (es : Entries) → AreKeyed es → (key : Key) (row : Record) → found es key ≡ Some (Some row) → key_of row ≡ key
found-keyed [] all key row h = absurd cc
found-keyed (e ∷ es) all key row h = go (found-keyed es all.1 key row) (is_at key e.0) refl
  where
    go : (found es key ≡ Some (Some row) → key_of row ≡ key) → (b : Bool) → is_at key e.0 ≡ b → key_of row ≡ key
    go rest true is =
        let here : Some e.1 ≡ Some (Some row) = ap (λ (b : Bool). cond b (Some e.1) (found es key)) (sym is) ∙ h in
        let one : e.1 ≡ Some row = cc in
        subst (λ (o : Option Record). HasKey o e.0) one all.0 ∙ sym (equal-keys key e.0 is)
    go rest false is = rest (ap (λ (b : Bool). cond b (Some e.1) (found es key)) (sym is) ∙ h)

-- a key's row that was put is seen
pub put-seen : (b : Bool) (row : Option Record) (o : Option (Option Record)) (before : Option Record) → unwrap_or (cond b (Some row) o) before ≡ cond b row (unwrap_or o before)
put-seen true row o before = refl
put-seen false row o before = refl
