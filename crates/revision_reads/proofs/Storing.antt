-- A row that is found at the key of a revision is at its own key.
use Rattle.std.proofs.Common.{◌≡◌, ℕ, Bool, true, false, cond, List, [], ◌∷◌, Option, Some, None, refl, sym, ap, ◌∙◌}
use Rattle.depot_rows.specs.db_records.Record.{key_of}
use Rattle.depot_rows.specs.db_records.declared.key.Key.{Key}
use Rattle.depot_rows.specs.db_records.declared.key.Key.TheVariants as keys
use Rattle.depot_rows.specs.db_records.declared.record.Record.{Record}
use Rattle.depot_rows.specs.db_records.declared.record.Record.TheVariants as records
use Rattle.depot_rows.specs.db_records.declared.rows.RevRecord.{RevRecord}
use Rattle.depot_rows.specs.table_store.Rows.{is_at, row_at}
use Rattle.depot_rows.proofs.Keys.{at-is}
use Rattle.revision_reads.specs.Probes.{rev_of}

one_row : (r s : Record) → Some r ≡ Some s → r ≡ s
one_row r s e = cc

found_key : (key : Key) (rows : List Record) (s : Record) → row_at key rows ≡ Some s → key_of s ≡ key
found_key key [] s e = absurd cc
found_key key (r ∷ rows) s e = go (is_at key r) refl e (λ f. found_key key rows s f)
  where
    go : (b : Bool) → is_at key r ≡ b → cond b (Some r) (row_at key rows) ≡ Some s → (row_at key rows ≡ Some s → key_of s ≡ key) → key_of s ≡ key
    go true is f later = ap key_of (sym (one_row r s f)) ∙ at-is (key_of r) key is
    go false is f later = later f

-- the row itself
own_row : (r : RevRecord) (row : Option Record) → Some r ≡ rev_of row → row ≡ Some (records.Rev r)
own_row r None e = absurd cc
own_row r (Some (records.Rev s)) e = cc
own_row r (Some (records.Counter s)) e = absurd cc
own_row r (Some (records.Group s)) e = absurd cc
own_row r (Some (records.Protect s)) e = absurd cc
own_row r (Some (records.Domain s)) e = absurd cc
own_row r (Some (records.Have s)) e = absurd cc
own_row r (Some (records.Label s)) e = absurd cc
own_row r (Some (records.Integed s)) e = absurd cc
own_row r (Some (records.Resolve s)) e = absurd cc
own_row r (Some (records.Working s)) e = absurd cc
own_row r (Some (records.Change s)) e = absurd cc

pub stored_at : (text : List ℕ) (n : ℕ) (rows : List Record) (r : RevRecord) → Some r ≡ rev_of (row_at (keys.Rev text n) rows)
    → row_at (keys.Rev text r.rev) rows ≡ Some (records.Rev r)
stored_at text n rows r e =
    let found : row_at (keys.Rev text n) rows ≡ Some (records.Rev r) = own_row r (row_at (keys.Rev text n) rows) e in
    let key : keys.Rev r.path r.rev ≡ keys.Rev text n = found_key (keys.Rev text n) rows (records.Rev r) found in
    let number : r.rev ≡ n = cc in
    ap (λ (m : ℕ). row_at (keys.Rev text m) rows) number ∙ found
