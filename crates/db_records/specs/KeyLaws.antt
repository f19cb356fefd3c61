-- What the order of keys is.
use Rattle.std.specs.Prelude.{◌≡◌, ◌↔◌, refl}
use Rattle.std.proofs.Common.{ap}
use Rattle.std.proofs.lemmas.Bool.{true≢false}
use Rattle.std.specs.Cmp.{IsTotalOrder, nat_cmp_total, on_total, then_total}
use Rattle.std.specs.Cmp.Lexicographic.{nat_list_cmp_total, lists_total}
use Rattle.std.specs.Ordering.{ordering_reverse, is_lt, is_gt}
use Rattle.std.specs.declared.cmp.Ordering.TheVariants.{Less, Equal, Greater}
use Rattle.db_records.specs.declared.key.Key.{Key}
use Rattle.db_records.specs.Table.{table_number}
use Rattle.db_records.specs.Key.{Field, Number, Word, field_cmp, key_cmp, key_table, key_fields}

-- a total order, in which a key is equal to itself alone
abbrev pub KeysHaveOneOrder : Type 0
KeysHaveOneOrder = IsTotalOrder key_cmp × ((a b : Key) → (key_cmp a b ≡ Equal) ↔ (a ≡ b))

-- ---- the first half, which the orders of the standard library ask for

reversed : (a b : Field) → field_cmp a b ≡ ordering_reverse (field_cmp b a)
reversed (Number m) (Number n) = nat_cmp_total.antisymm m n
reversed (Number m) (Word b) = refl
reversed (Word a) (Number n) = refl
reversed (Word a) (Word b) = nat_list_cmp_total.antisymm a b

not_less : Greater ≡ Less → ⊥
not_less e = true≢false (ap is_gt e)

not_equal : Greater ≡ Equal → ⊥
not_equal e = true≢false (ap is_gt e)

less_equal : Less ≡ Equal → ⊥
less_equal e = true≢false (ap is_lt e)

through : (a b c : Field) → field_cmp a b ≡ Less → field_cmp b c ≡ Less → field_cmp a c ≡ Less
through (Number l) (Number m) (Number n) p q = nat_cmp_total.trans l m n p q
through (Number l) (Number m) (Word c) p q = refl
through (Number l) (Word b) (Number n) p q = absurd (not_less q)
through (Number l) (Word b) (Word c) p q = refl
through (Word a) (Number m) c p q = absurd (not_less p)
through (Word a) (Word b) (Number n) p q = absurd (not_less q)
through (Word a) (Word b) (Word c) p q = nat_list_cmp_total.trans a b c p q

alike : (a b c : Field) → field_cmp a b ≡ Equal → field_cmp a c ≡ field_cmp b c
alike (Number l) (Number m) (Number n) p = nat_cmp_total.congr l m n p
alike (Number l) (Number m) (Word c) p = refl
alike (Number l) (Word b) c p = absurd (less_equal p)
alike (Word a) (Number m) c p = absurd (not_equal p)
alike (Word a) (Word b) (Number n) p = refl
alike (Word a) (Word b) (Word c) p = nat_list_cmp_total.congr a b c p

fields_total : IsTotalOrder field_cmp
fields_total = record { antisymm = reversed; trans = through; congr = alike }

pub keys_total : IsTotalOrder key_cmp
keys_total = then_total (on_total (λ (k : Key). table_number (key_table k)) nat_cmp_total) (on_total key_fields (lists_total fields_total))
