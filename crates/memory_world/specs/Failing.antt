-- Which calls of an object in memory fail. That they fail by their numbers is this project's own choice.
use Rattle.std.specs.Prelude.{ℕ, Bool, List, ◌==◌}
use Rattle.std.specs.List.{list_any}
use Rattle.outside_api.specs.Count.{counted}
use Rattle.memory_world.specs.declared.failing.Failing.{Failing}

-- the numbers of the calls that fail, counted from 1, and how many calls there were
pub record Calls : Type 0 where
  pub fails : List ℕ
  pub count : ℕ

-- no call yet
abbrev pub no_call : List ℕ → Calls
no_call fails = record { fails = fails; count = 0 }

-- one call more
abbrev pub one_more : Calls → Calls
one_more calls = record { fails = calls.fails; count = counted 1 calls.count }

-- the next call is one of those that fail
abbrev pub fails_next : Calls → Bool
fails_next calls = list_any (λ number. number == counted 1 calls.count) calls.fails

abbrev pub calls_of : Failing → Calls
calls_of failing = record { fails = failing.fails.items; count = failing.calls }
