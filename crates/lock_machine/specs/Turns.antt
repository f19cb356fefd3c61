-- How many events the parties of the machine may take yet, at most. This project's own choice.
use Rattle.std.specs.Prelude.{ℕ, ◌+◌, Bool, false, List, [], ◌∷◌, length, if◌then◌else◌, Option, Some, None}
use Rattle.depot_model.specs.Tables.{Need}
use Rattle.depot_model.specs.declared.request.Request.{Request}
use Rattle.lock_machine.specs.Machine.{Work, Party, State}
use Rattle.lock_machine.specs.declared.stage.Stage.{Stage}
use Rattle.lock_machine.specs.declared.stage.Stage.TheVariants.{Gathering, Judged, Committed}

module _ (needs : Request → List Need) where
  -- what is left of a set, Judge, Commit and Unlock; and Judge with the whole set once more
  abbrev pub turns_at : Request → Stage → Bool → List Need → ℕ
  turns_at request Gathering second rest = length rest + 3 + (if second then 0 else 1 + length (needs request))
  turns_at request Judged second rest = 2
  turns_at request Committed second rest = 1

  abbrev pub turns_of_work : Option Work → ℕ
  turns_of_work None = 0
  turns_of_work (Some w) = turns_at w.request w.stage w.second w.rest

  abbrev pub turns_of_left : List Request → ℕ
  turns_of_left [] = 0
  turns_of_left (request ∷ left) = 1 + turns_at request Gathering false (needs request) + turns_of_left left

  abbrev pub turns_of : Party → ℕ
  turns_of p = turns_of_left p.left + turns_of_work p.work

  abbrev pub turns_in : List Party → ℕ
  turns_in [] = 0
  turns_in (p ∷ parties) = turns_of p + turns_in parties

  abbrev pub turns_left : State → ℕ
  turns_left s = turns_in s.parties
