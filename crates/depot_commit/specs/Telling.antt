-- What a command is answered and does, once its reply is printed. This project's own choice.
use Rattle.std.specs.Prelude.{◌≡◌, ◌⊎◌, ℕ, All, IsTrue, true, false, List, [], ◌∷◌}
use Rattle.command_core.specs.declared.outcome.Outcome.{Outcome}
use Rattle.depot_rows.specs.depot_model.Deeds.{Deed}
use Rattle.depot_rows.specs.depot_model.Printed.{printed}
use Rattle.depot_rows.specs.depot_model.Rows.{disk_row}
use Rattle.depot_rows.specs.depot_model.declared.request.Request.{Request}
use Rattle.depot_rows.specs.depot_model.Commands.{step}
use Rattle.row_texts.specs.Texts.{IsOf64Bits, is_counted}
use Rattle.depot_commit.specs.declared.telling.Told.{Told}

-- It changes and stores what an outcome does, a text may say the numbers of each row that is changed, and it has the reply of a fault place.
pub record IsTold (outcome : Outcome) (number : ℕ) (told : Told) : Type 0 where
  pub changes : told.changes ≡ outcome.changes
  pub stores : told.stores ≡ outcome.stores
  pub of_fault : told.of_fault ≡ printed (disk_row ∷ []) number
  pub small : All (λ change. IsOf64Bits change.row) told.changes
  pub counted : All (λ change. IsTrue (is_counted change.row)) told.changes

-- unless a content couldn't be read, the reply is that of the request after a depot
abbrev pub IsReplyOf : List Deed → Request → Told → Type 0
IsReplyOf d request told = told.unread ≡ false → told.reply ≡ printed (step d request).rows request.number

-- nothing is written for it: it changes nothing, or a content couldn't be read
abbrev pub IsUnwritten : Told → Type 0
IsUnwritten told = (told.changes ≡ []) ⊎ (told.unread ≡ true)
