-- The calendar of dates, by the calendar of the library that reads them.
use Rattle.std.proofs.Common.{◌≡◌, ℕ, zero, suc, ◌+◌, ◌-◌, ◌*◌, ◌/◌, ◌%◌, ◌≤◌, Bool, true, false, cond, Some, None, List, [], ◌∷◌, slice_index, refl, ap, subst, ◌∙◌, inl, inr, arith, ℤ, pos, ◌+ℤ◌, ◌-ℤ◌, ◌*ℤ◌}
use Rattle.std.specs.Prelude.{◌==◌, ◌&&◌, ◌||◌, not, nat_lt, nat_le}
use Rattle.std.proofs.lemmas.Bool.{cases_lt, and_from}
use Rattle.std.proofs.lemmas.Bool.Decides.{eqb_tells, nat_tests}
use Rattle.std.proofs.lemmas.Int.{ints}
use Rattle.jiff_core.specs.Calendar.{day_count, days_from_civil, days_of_months, days_in_month as library_month}
use Rattle.jiff_core.proofs.CalendarLemmas.{day_count-epoch, day_count-next_year, day_count-day_of_year, days_of_months_table}
use Rattle.depot_path.specs.Date.{part_at, is_day, is_clock, is_date, moment_of, days_in_month, is_leap, days_before_year, days_before_month, day_number, seconds_of}

-- ---- years

-- the days of the first n years
abbrev whole_years : ℕ → ℕ
whole_years n = 365 * n + n / 4 + n / 400 - n / 100

abbrev leap_or_not : ℕ → ℕ
leap_or_not year = cond ((year % 4 == 0) && (not (year % 100 == 0) || (year % 400 == 0))) 366 365

year_more : (n : ℕ) → whole_years (n + 1) ≡ whole_years n + leap_or_not (n + 1)
year_more n =
    elim (eqb_tells ((n + 1) % 4) 0) [
      | inl four ↦ elim (eqb_tells ((n + 1) % 100) 0) [
        | inl hundred ↦ elim (eqb_tells ((n + 1) % 400) 0) [
          | inl h ↦ simp (four.0, hundred.0, h.0) (omega (arith, four.1, hundred.1, h.1))
          | inr h ↦ simp (four.0, hundred.0, h.0) (omega (arith, four.1, hundred.1, h.1))
        ]
        | inr hundred ↦ simp (four.0, hundred.0) (omega (arith, four.1, hundred.1))
      ]
      | inr four ↦ simp four.0 (omega (arith, four.1))
    ]

counted : (n : ℕ) → day_count (pos (n + 1)) 1 1 ≡ day_count (pos 1) 1 1 + whole_years n
counted zero = omega arith
counted (suc n) =
    let next : suc n + 1 ≡ (n + 1) + 1 = omega arith in
    let e : day_count (pos ((n + 1) + 1)) 1 1 ≡ day_count (pos (n + 1)) 1 1 + leap_or_not (n + 1) =
    day_count-next_year (pos (n + 1)) (pos ((n + 1) + 1)) (omega (arith, ints)) (omega (arith, ints)) in
    let s : suc n ≡ n + 1 = omega arith in
    ap (λ y. day_count (pos y) 1 1) next ∙ e ∙ ap (λ d. d + leap_or_not (n + 1)) (counted n) ∙ omega (arith, year_more n, ap whole_years s)

first_day : day_count (pos 1) 1 1 ≡ 3652791
first_day = omega (arith, counted 1969, day_count-epoch)

begins_year : (year : ℕ) → 1 ≤ year → day_count (pos year) 1 1 ≡ 3652791 + days_before_year year
begins_year year h =
    let e : year ≡ (year - 1) + 1 = omega arith in
    ap (λ y. day_count (pos y) 1 1) e ∙ counted (year - 1) ∙ ap (λ d. d + whole_years (year - 1)) first_day

-- ---- months

abbrev one_if : Bool → ℕ
one_if c = cond c 1 0

abbrev none : ℕ
none = 0

leap_month : (m : ℕ) (c : Bool) → cond (nat_lt 1 (m - 1)) (one_if c) none ≡ one_if (nat_lt 2 m && c)
leap_month m c = elim (cases_lt 2 m) [
  | inl lt ↦ grind (arith, nat_tests)
  | inr le ↦ grind (arith, nat_tests)
]

months_before : (year month : ℕ) → 1 ≤ month → month ≤ 12 → days_of_months (pos year) (month - 1) ≡ days_before_month year month
months_before year month low high =
    days_of_months_table (pos year) (month - 1) (omega arith)
    ∙ ap (λ d. slice_index (0 ∷ 31 ∷ 59 ∷ 90 ∷ 120 ∷ 151 ∷ 181 ∷ 212 ∷ 243 ∷ 273 ∷ 304 ∷ 334 ∷ []) (month - 1) + d) (leap_month month (is_leap year))

counted_day : (year month day : ℕ) → 1 ≤ year → 1 ≤ month → month ≤ 12 → 1 ≤ day → day_count (pos year) month day ≡ 3652791 + day_number year month day
counted_day year month day y low high d = omega (arith, day_count-day_of_year (pos year) month day d, months_before year month low high, begins_year year y)

less_both : (n k a b : ℕ) → n ≡ k + a → pos n -ℤ pos (k + b) ≡ pos a -ℤ pos b
less_both n k a b e = omega (arith, ints)

pub days_are : (year month day : ℕ) → 1 ≤ year → 1 ≤ month → month ≤ 12 → 1 ≤ day → days_from_civil (pos year) month day ≡ pos (day_number year month day) -ℤ pos 719162
unfolding days_from_civil
days_are year month day y low high d =
    ap (λ n. pos (day_count (pos year) month day) -ℤ pos n) day_count-epoch
    ∙ less_both (day_count (pos year) month day) 3652791 (day_number year month day) 719162 (counted_day year month day y low high d)

pub second_is : (days seconds : ℕ) → (pos days -ℤ pos 719162) *ℤ pos 86400 +ℤ pos seconds ≡ seconds_of days seconds
second_is days seconds = omega (arith, ints)

when_true : (c : Bool) (z w : ℤ) → c ≡ true → z ≡ w → Some z ≡ cond c (Some w) None
when_true true z w e f = ap (λ r. Some r) f
when_true false z w e f = absurd cc

le_true : (m n : ℕ) → m ≤ n → nat_le m n ≡ true
le_true m n h = grind (arith, nat_tests)

pub day_value : (year month day : ℕ) (z : ℤ) → 1 ≤ year → year ≤ 9999 → 1 ≤ month → month ≤ 12 → 1 ≤ day → day ≤ days_in_month year month →
    z ≡ days_from_civil (pos year) month day → Some z ≡ cond (is_day year month day) (Some (pos (day_number year month day) -ℤ pos 719162)) None
day_value year month day z y yy m mm d dd e =
    when_true (is_day year month day) z (pos (day_number year month day) -ℤ pos 719162)
    (and_from _ _ (and_from _ _ (and_from _ _ (and_from _ _ (and_from _ _ (le_true 1 year y) (le_true year 9999 yy)) (le_true 1 month m)) (le_true month 12 mm)) (le_true 1 day d)) (le_true day (days_in_month year month) dd))
    (e ∙ days_are year month day y m mm d)

pub from_date : (dy : ℤ) (dm dd year month day : ℕ) (z : ℤ) → dy ≡ pos year → dm ≡ month → dd ≡ day → 1 ≤ year → year ≤ 9999 → 1 ≤ month → month ≤ 12 → 1 ≤ day →
    dd ≤ library_month dy dm → z ≡ days_from_civil dy dm dd → Some z ≡ cond (is_day year month day) (Some (pos (day_number year month day) -ℤ pos 719162)) None
from_date dy dm dd year month day z ey em ed y yy m mm d dd_in e =
    let in_month : day ≤ days_in_month year month =
    subst (λ n. n ≤ days_in_month year month) ed (subst (λ n. dd ≤ library_month (pos year) n) em (subst (λ n. dd ≤ library_month n dm) ey dd_in)) in
    day_value year month day z y yy m mm d in_month
    (e ∙ ap (λ n. days_from_civil n dm dd) ey ∙ ap (λ n. days_from_civil (pos year) n dd) em ∙ ap (λ n. days_from_civil (pos year) month n) ed)

some_when : {X : Type 0} (c : Bool) (x w : X) → Some x ≡ cond c (Some w) None → (c ≡ true) × (x ≡ w)
some_when true x w e = (refl, cc)
some_when false x w e = absurd cc

pub moment_is : (text : List ℕ) (day : ℤ) (second : ℕ) (r : ℤ) →
    Some day ≡ cond (is_day (part_at 0 4 text) (part_at 5 2 text) (part_at 8 2 text)) (Some (pos (day_number (part_at 0 4 text) (part_at 5 2 text) (part_at 8 2 text)) -ℤ pos 719162)) None →
    Some second ≡ cond (is_clock (part_at 11 2 text) (part_at 14 2 text) (part_at 17 2 text)) (Some (3600 * part_at 11 2 text + 60 * part_at 14 2 text + part_at 17 2 text)) None →
    r ≡ day *ℤ pos 86400 +ℤ pos second → Some r ≡ cond (is_date text) (Some (moment_of text)) None
moment_is text day second r e f g =
    let a = some_when _ _ _ e in
    let b = some_when _ _ _ f in
    when_true (is_date text) r (moment_of text) (and_from _ _ a.0 b.0)
    (g ∙ ap (λ n. n *ℤ pos 86400 +ℤ pos second) a.1
    ∙ ap (λ n. (pos (day_number (part_at 0 4 text) (part_at 5 2 text) (part_at 8 2 text)) -ℤ pos 719162) *ℤ pos 86400 +ℤ pos n) b.1
    ∙ second_is (day_number (part_at 0 4 text) (part_at 5 2 text) (part_at 8 2 text)) (3600 * part_at 11 2 text + 60 * part_at 14 2 text + part_at 17 2 text))
