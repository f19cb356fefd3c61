-- Numbers as decimal digits without leading zeros, as records and names of records hold them (this project's own choice).
use Rattle.std.specs.Prelude.{ℕ, Bool, ◌&&◌, List, decimal}
use Rattle.db_records.specs.depot_path.Bytes.{same}
use Rattle.db_records.specs.depot_path.Digits.{number_of, is_digits}

abbrev pub is_numeral : List ℕ → Bool
is_numeral text = is_digits text && same (decimal (number_of text)) text
