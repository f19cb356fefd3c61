-- What rows tell of changes that jobs are fixed by.
use Rattle.std.proofs.Common.{◌≡◌, ◌≤◌, ◌<◌, ◌+◌, ℕ, Bool, true, false, List, [], ◌∷◌, ◌++◌, length, Option, Some, None, refl, ap, ◌∙◌, arith}
use Rattle.std.specs.Prelude.{◌||◌, filter, is_some, min, nat_lt, not, option_map, if◌then◌else◌}
use Rattle.std.specs.Borrow.{Bor}
use Rattle.std.specs.Option.{option_copied, option_map_or}
use Rattle.depot_rows.specs.spec_form.Form.{FormValue}
use Rattle.std.proofs.lemmas.Bool.Decides.{nat_tests}
use Rattle.std.proofs.lemmas.List.{length-append}
use Rattle.std.proofs.lemmas.List.Elements.{filter-append}
use Rattle.depot_rows.specs.db_records.declared.record.Record.{Record}
use Rattle.depot_rows.specs.db_records.declared.record.Record.TheVariants.{Change}
use Rattle.depot_rows.specs.db_records.declared.rows.ChangeRecord.{ChangeRecord}
use Rattle.depot_rows.specs.depot_model.Deeds.{Deed, FixForm, Landing, Pending}
use Rattle.depot_rows.specs.depot_model.Fixes.{fix_name, fixes_of, has_fix, is_on}
use Rattle.depot_rows.specs.depot_model.Latest.{spec}
use Rattle.depot_rows.specs.depot_model.Numbers.{landing, pending}
use Rattle.depot_rows.specs.depot_model.Records.{change_record, landed_record, pending_record}
use Rattle.depot_rows.specs.depot_model.Rules.{NotBoth}
use Rattle.depot_rows.specs.depot_model.Steps.Jobs.{distinct, fixes_then, is_change}
use Rattle.depot_rows.specs.Effects.{is_submitted}

pub some_there : (row : Option (Bor ChangeRecord)) → is_some row ≡ is_some (option_map Change (option_copied row))
some_there None = refl
some_there (Some r) = refl

pub change_there : (d : List Deed) (n : ℕ) → is_some (change_record d n) ≡ is_change d n
change_there d n = go (pending d n) (landing d n)
  where
    go : (p : Option Pending) (l : Option Landing)
        → is_some (elim p as (λ _. Option Record) [ Some x ↦ Some (pending_record x) | None ↦ option_map landed_record l ]) ≡ (is_some p || is_some l)
    go None None = refl
    go None (Some l) = refl
    go (Some p) l = refl

pub landed_is : (d : List Deed) (n : ℕ) → NotBoth d → is_submitted (change_record d n) ≡ is_some (landing d n)
landed_is d n apart = go (pending d n) (landing d n) (apart n)
  where
    go : (p : Option Pending) (l : Option Landing) → (is_some p ≡ true → is_some l ≡ true → ⊥)
        → is_submitted (elim p as (λ _. Option Record) [ Some x ↦ Some (pending_record x) | None ↦ option_map landed_record l ]) ≡ is_some l
    go None None both = refl
    go None (Some l) both = refl
    go (Some p) None both = refl
    go (Some p) (Some l) both = absurd (both refl refl)

-- ---- how many fixes there are

-- a count of what passes a test, with one more that passes it and with one that doesn't
module _ {A : Type 0} (test : A → Bool) (xs : List A) (x : A) where
  added : length (filter test (xs ++ x ∷ [])) ≡ length (filter test xs) + length (if test x then x ∷ [] else [])
  added = ap (λ (l : List A). length l) (filter-append test xs (x ∷ [])) ∙ length-append (filter test xs) (if test x then x ∷ [] else [])

  pub one_more : test x ≡ true → length (filter test (xs ++ x ∷ [])) ≡ length (filter test xs) + 1
  one_more e = added ∙ ap (λ (b : Bool). length (filter test xs) + length (if b then x ∷ [] else [])) e

  pub no_more : test x ≡ false → length (filter test (xs ++ x ∷ [])) ≡ length (filter test xs)
  no_more e =
      let h : length (filter test (xs ++ x ∷ [])) ≡ length (filter test xs) + 0 = added ∙ ap (λ (b : Bool). length (filter test xs) + length (if b then x ∷ [] else [])) e in
      omega (arith, h)

-- a sum that stops at a limit above a hundred is above a hundred where the sum is
pub are_many : (a b sum : ℕ) → sum ≡ min (a + b) 18446744073709551615 → 100 < sum → nat_lt 100 (a + b) ≡ true
are_many a b sum e h = grind (arith, nat_tests)

pub are_few : (a b sum : ℕ) → sum ≡ min (a + b) 18446744073709551615 → sum ≤ 100 → nat_lt 100 (a + b) ≡ false
are_few a b sum e h = grind (arith, nat_tests)

pub fixes_are_then : (d : List Deed) (n : ℕ) (given names : List (List ℕ)) (fixes more : ℕ) → names ≡ distinct given → fixes ≡ length (fixes_of d n)
    → more ≡ length (filter (λ name. not (has_fix d n name)) names) → fixes + more ≡ fixes_then d n given
fixes_are_then d n given names fixes more is e k = λ i. e i + (k ∙ ap (λ (l : List (List ℕ)). length (filter (λ name. not (has_fix d n name)) l)) is) i

-- a fix that is on
pub on_fix : (d : List Deed) (n : ℕ) (name : List ℕ) → option_map_or is_on (spec d FixForm (fix_name name n)) false ≡ has_fix d n name
on_fix d n name = go (spec d FixForm (fix_name name n))
  where
    go : (o : Option FormValue) → option_map_or is_on o false ≡ (elim o as (λ _. Bool) [ None ↦ false | Some form ↦ is_on form ])
    go None = refl
    go (Some form) = refl
