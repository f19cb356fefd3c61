-- Rows that keep the rules as one map of keys, and part of them.
use Rattle.std.proofs.Common.{◌≡◌, Bool, true, false, Option, Some, None, refl, ap, subst, sym, ◌∙◌}
use Rattle.std.specs.Prelude.{◌||◌, if◌then◌else◌, option_map, IfSome}
use Rattle.depot_rows.specs.db_records.Record.{key_of}
use Rattle.depot_rows.specs.db_records.declared.key.Key.{Key}
use Rattle.depot_rows.specs.db_records.declared.key.Key.TheVariants as keys
use Rattle.depot_rows.specs.db_records.declared.record.Record.{Record}
use Rattle.depot_rows.specs.depot_model.Records.{is_at, unplaced}
use Rattle.depot_rows.specs.depot_model.Rules.{Rows, KeepRules, IsRow}
use Rattle.depot_rows.specs.Effects.{put_at}
use Rattle.depot_rows.proofs.Keys.{at-is}
use Rattle.depots_of_rows.specs.Telling.{Contents, TellOf}

pub record Given (rows : Rows) (contents : Contents) : Type 0 where
  pub keep : KeepRules rows
  pub keyed : (q : Key) (r : Record) → rows q ≡ Some r → key_of r ≡ q
  pub flat : (q : Key) → option_map unplaced (rows q) ≡ rows q
  pub lines : rows (keys.Protect 0) ≡ None
  pub tell : TellOf contents rows

pub row_keeps : (rows : Rows) → KeepRules rows → (q : Key) (r : Record) → rows q ≡ Some r → IsRow rows r
row_keeps rows keep q r e = subst (λ (o : Option Record). IfSome o (IsRow rows)) e (keep.each q)

-- the rows whose keys pass a test
abbrev pub only : (Key → Bool) → Rows → Rows
only test rows q = if test q then rows q else None

-- a further key
abbrev pub or_at : Key → (Key → Bool) → Key → Bool
or_at key test q = is_at key q || test q

-- what is put at a key is what the rows have there
pub put_only : (rows : Rows) (test : Key → Bool) (key : Key) (before : Rows) (q : Key) → before q ≡ only test rows q
    → put_at key (rows key) before q ≡ only (or_at key test) rows q
put_only rows test key before q e = go (is_at key q) refl
  where
    go : (b : Bool) → is_at key q ≡ b → (if b then rows key else before q) ≡ (if b || test q then rows q else None)
    go true h = ap rows (at-is key q h)
    go false h = e

-- a key of which the rows have nothing, or that passes, is as good as none
pub none_more : (rows : Rows) (test : Key → Bool) (key : Key) → rows key ≡ None → (q : Key) → only test rows q ≡ only (or_at key test) rows q
none_more rows test key none q = go (is_at key q) refl
  where
    empty : (b : Bool) (o : Option Record) → o ≡ None → (if b then o else None) ≡ o
    empty true o e = refl
    empty false o e = sym e

    go : (b : Bool) → is_at key q ≡ b → only test rows q ≡ (if b || test q then rows q else None)
    go true h = empty (test q) (rows q) (ap rows (sym (at-is key q h)) ∙ none)
    go false h = refl

pub known_more : (rows : Rows) (test : Key → Bool) (key : Key) → test key ≡ true → (q : Key) → only test rows q ≡ only (or_at key test) rows q
known_more rows test key known q = go (is_at key q) refl
  where
    go : (b : Bool) → is_at key q ≡ b → only test rows q ≡ (if b || test q then rows q else None)
    go true h = ap (λ (b : Bool). if b then rows q else None) (ap test (sym (at-is key q h)) ∙ known)
    go false h = refl
