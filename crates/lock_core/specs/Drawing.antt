-- Which parties may go on, in rising order: beside those whose next event is enabled, those that have something left to do outside of the machine. This
-- project's own choice.
use Rattle.std.specs.Prelude.{ℕ, nat_lt, Bool, ◌||◌, List, get_or, length, filter}
use Rattle.std.specs.List.{range_with_len}
use Rattle.lock_machine.specs.Machine.{State, is_enabled}
use Rattle.lock_core.specs.Core.{may_wait, wait_at}
use Rattle.lock_core.specs.declared.party.Party.{Party}

-- a party has something left to do outside of the machine, where others are told how much each has
abbrev pub has_other : List ℕ → ℕ → Bool
has_other others i = nat_lt 0 (get_or others i 0)

-- of the machine's
abbrev pub may_go_on : State → List ℕ → ℕ → Bool
may_go_on s others i = is_enabled s i || has_other others i

abbrev pub going_parties : State → List ℕ → List ℕ
going_parties s others = filter (may_go_on s others) (range_with_len 0 (length s.parties))

-- of the first of the code's
abbrev pub may_go_below : List Party → List ℕ → ℕ → List ℕ
may_go_below parties others end = filter (λ i. may_wait parties (wait_at parties i) || has_other others i) (range_with_len 0 end)
