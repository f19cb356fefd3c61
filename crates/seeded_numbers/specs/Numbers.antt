-- The numbers that a seed gives: each follows from the one before it, and the first from the seed. They are those of the example of `rand` in the C
-- standard, whose value leaves out their lower sixteen bits.
use Rattle.std.specs.Prelude.{ℕ, ◌+◌, ◌*◌, ◌/◌, ◌%◌, ◌^◌}

abbrev pub next_number : ℕ → ℕ
next_number x = (1103515245 * x + 12345) % 2 ^ 31

abbrev pub value_of : ℕ → ℕ
value_of x = x / 65536
