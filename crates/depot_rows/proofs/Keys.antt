-- Tests of texts and keys, and rows with something at a key.
use Rattle.std.proofs.Common.{◌≡◌, ◌≢◌, ℕ, Bool, true, false, List, Option, refl, sym, ap, ◌∙◌}
use Rattle.std.specs.Prelude.{◌==◌, if◌then◌else◌}
use Rattle.std.specs.Ordering.{is_eq}
use Rattle.std.specs.declared.cmp.Ordering.{Ordering}
use Rattle.std.specs.declared.cmp.Ordering.TheVariants.{Less, Equal, Greater}
use Rattle.std.proofs.lemmas.Bool.{true≢false}
use Rattle.std.proofs.lemmas.Bool.Decides.{Decides-eqb}
use Rattle.std.proofs.lemmas.Slice.Eq.{bytes_eq-Decides}
use Rattle.depot_model.specs.depot_path.Bytes.{same}
use Rattle.depot_model.specs.db_records.Key.{key_cmp}
use Rattle.depot_model.specs.db_records.declared.key.Key.{Key}
use Rattle.depot_model.specs.db_records.declared.record.Record.{Record}
use Rattle.depot_model.proofs.db_records.Order.{keys_equal}
use Rattle.depot_model.specs.Records.{is_at}
use Rattle.depot_model.specs.Rules.{Rows}
use Rattle.depot_rows.specs.Effects.{put_at}

pub same-is : (a b : List ℕ) → same a b ≡ true → a ≡ b
same-is a b e = (bytes_eq-Decides a b).0 e

pub same-self : (a : List ℕ) → same a a ≡ true
same-self a = (bytes_eq-Decides a a).1 refl

pub same-not : (a b : List ℕ) → (a ≢ b) → same a b ≡ false
same-not a b apart = go (same a b) refl
  where
    go : (r : Bool) → same a b ≡ r → r ≡ false
    go true e = absurd (apart (same-is a b e))
    go false e = refl

pub number-is : (m n : ℕ) → (m == n) ≡ true → m ≡ n
number-is m n e = (Decides-eqb m n).0 e

pub number-self : (n : ℕ) → (n == n) ≡ true
number-self n = (Decides-eqb n n).1 refl

equal-is : (o : Ordering) → is_eq o ≡ true → o ≡ Equal
equal-is Less e = absurd cc
equal-is Equal e = refl
equal-is Greater e = absurd cc

pub at-is : (key q : Key) → is_at key q ≡ true → key ≡ q
at-is key q e = (keys_equal key q).0 (equal-is (key_cmp key q) e)

pub at-self : (key q : Key) → key ≡ q → is_at key q ≡ true
at-self key q e = ap is_eq ((keys_equal key q).1 e)

-- what is put at a key, and what stays elsewhere
pub put-is : (key : Key) (there : Option Record) (before after : Rows) (q : Key) → (key ≡ q → after q ≡ there) → (key ≢ q → after q ≡ before q)
    → after q ≡ put_at key there before q
put-is key there before after q here elsewhere = go (is_at key q) refl
  where
    go : (b : Bool) → is_at key q ≡ b → after q ≡ (if b then there else before q)
    go true e = here (at-is key q e)
    go false e = elsewhere (λ one. true≢false (sym (at-self key q one) ∙ e))
