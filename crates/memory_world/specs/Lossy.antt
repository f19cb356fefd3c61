-- What a link that loses some of what another brings is about to lose, and what it answers then.
-- The losses are this project's own choice.
use Rattle.std.specs.Prelude.{ℕ, Bool, true, false, List, [], ◌∷◌, drop, max}
use Rattle.outside_api.specs.declared.link.Fetched.{Fetched}
use Rattle.outside_api.specs.Link.{Answers, Fits}
use Rattle.memory_world.specs.declared.lossy.Loss.{Loss}
use Rattle.memory_world.specs.declared.lossy.Loss.TheVariants.{Fail, Short, Old}
use Rattle.memory_world.specs.declared.lossy.LossyLink.{LossyLink}
use Rattle.memory_world.specs.Failing.{Calls}
use Rattle.memory_world.specs.Link.{link_journal, link_faults, link_calls, IsJournalAt}

abbrev pub lossy_journal : LossyLink → List (List ℕ)
lossy_journal link = link_journal link.inner

abbrev pub lossy_faults : LossyLink → ℕ
lossy_faults link = link_faults link.inner

abbrev pub lossy_calls : LossyLink → Calls
lossy_calls link = link_calls link.inner

-- the losses of the calls to come, in order
abbrev pub losses_left : LossyLink → List Loss
losses_left link = drop link.next link.losses.items

-- the next loss is a failure
abbrev pub begins_with_fail : List Loss → Bool
begins_with_fail [] = false
begins_with_fail (Fail ∷ later) = true
begins_with_fail (Short most ∷ later) = false
begins_with_fail (Old count ∷ later) = false

-- What an answer is, given that it comes, where these losses are left: none of a failure, a short one of few bytes, that
-- of an earlier journal, and that of the journal as it is where none is left.
abbrev pub Passes : List Loss → List (List ℕ) → ℕ → ℕ → Fetched → List ℕ → Type 0
Passes [] journal generation at fetched buffer = Answers journal generation at fetched buffer
Passes (Fail ∷ later) journal generation at fetched buffer = ⊥
Passes (Short most ∷ later) journal generation at fetched buffer = Answers journal generation at fetched buffer × Fits fetched (max 1 most)
Passes (Old count ∷ later) journal generation at fetched buffer = (earlier : List (List ℕ)) × IsJournalAt count earlier journal × Answers earlier generation at fetched buffer
