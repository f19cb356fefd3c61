-- Dates in UTC, `yyyy/mm/dd` and `yyyy/mm/dd:hh:mm:ss`, as seconds since 1970 (Command-Line Reference, "File specifications"; the calendar is the
-- Gregorian one for all years). That a year is at least 1 and that a date without a time is midnight is this project's own choice.
use Rattle.std.specs.Prelude.{ℕ, ◌+◌, ◌-◌, ◌*◌, ◌/◌, ◌%◌, ℤ, pos, ◌-ℤ◌, Bool, true, false, not, ◌&&◌, ◌||◌, nat_lt, nat_le, List, [], ◌∷◌, take, drop, slice_index, ◌==◌, codes, if◌then◌else◌}
use Rattle.depot_path.specs.Bytes.{is_digit}
use Rattle.depot_path.specs.Digits.{number_of}

-- a byte where the shape has this one: any digit where it has `d`
abbrev pub has_byte : ℕ → ℕ → Bool
has_byte expected b = if expected == 0x64 then is_digit b else b == expected

abbrev pub has_shape : List ℕ → List ℕ → Bool
has_shape [] [] = true
has_shape [] (b ∷ text) = false
has_shape (expected ∷ shape) [] = false
has_shape (expected ∷ shape) (b ∷ text) = has_byte expected b && has_shape shape text

abbrev pub has_date_shape : List ℕ → Bool
has_date_shape text = has_shape (codes "dddd/dd/dd") text || has_shape (codes "dddd/dd/dd:dd:dd:dd") text

-- the number of so many digits at a place of a date; 0 past its end
abbrev pub part_at : ℕ → ℕ → List ℕ → ℕ
part_at from len text = number_of (take len (drop from text))

abbrev pub is_leap : ℕ → Bool
is_leap year = (year % 4 == 0) && (not (year % 100 == 0) || (year % 400 == 0))

abbrev pub days_in_month : ℕ → ℕ → ℕ
days_in_month year month =
    if month == 2 then (if is_leap year then 29 else 28)
    else (if (month == 4) || (month == 6) || (month == 9) || (month == 11) then 30 else 31)

-- a day of the calendar, of the years 1 to 9999
abbrev pub is_day : ℕ → ℕ → ℕ → Bool
is_day year month day =
    nat_le 1 year && nat_le year 9999 && nat_le 1 month && nat_le month 12 && nat_le 1 day && nat_le day (days_in_month year month)

abbrev pub is_clock : ℕ → ℕ → ℕ → Bool
is_clock hour minute second = nat_lt hour 24 && nat_lt minute 60 && nat_lt second 60

-- a text of a date's shape is a date
abbrev pub is_date : List ℕ → Bool
is_date text = is_day (part_at 0 4 text) (part_at 5 2 text) (part_at 8 2 text) && is_clock (part_at 11 2 text) (part_at 14 2 text) (part_at 17 2 text)

-- the days of the years from 1 up to the one before
abbrev pub days_before_year : ℕ → ℕ
days_before_year year = 365 * (year - 1) + (year - 1) / 4 + (year - 1) / 400 - (year - 1) / 100

-- the days of the year's months before this one
abbrev pub days_before_month : ℕ → ℕ → ℕ
days_before_month year month =
    slice_index (0 ∷ 31 ∷ 59 ∷ 90 ∷ 120 ∷ 151 ∷ 181 ∷ 212 ∷ 243 ∷ 273 ∷ 304 ∷ 334 ∷ []) (month - 1)
    + (if nat_lt 2 month && is_leap year then 1 else 0)

-- the days from the first of January of year 1 to a day
abbrev pub day_number : ℕ → ℕ → ℕ → ℕ
day_number year month day = days_before_year year + days_before_month year month + (day - 1)

-- the seconds from 1970 to a moment; 719,162 days stand before
abbrev pub seconds_of : ℕ → ℕ → ℤ
seconds_of days seconds = pos (86400 * days + seconds) -ℤ pos (86400 * 719162)

-- the seconds from 1970 to a date
abbrev pub moment_of : List ℕ → ℤ
moment_of text =
    seconds_of (day_number (part_at 0 4 text) (part_at 5 2 text) (part_at 8 2 text)) (3600 * part_at 11 2 text + 60 * part_at 14 2 text + part_at 17 2 text)
