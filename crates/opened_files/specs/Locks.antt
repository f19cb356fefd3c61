-- What a lock does to a file by who has its lock, and after which depots. This project's own choice.
use Rattle.std.specs.Prelude.{◌≡◌, ◌⊎◌, ℕ, Bool, not, List, [], ◌∷◌, codes, Option, Some, None, if◌then◌else◌}
use Rattle.depot_rows.specs.depot_path.Bytes.{same}
use Rattle.depot_rows.specs.depot_path.Path.{printed}
use Rattle.depot_rows.specs.db_records.declared.table.TableId.TheVariants as table_ids
use Rattle.depot_rows.specs.table_changes.Changed.{AllRows}
use Rattle.depot_rows.specs.depot_model.declared.request.Caller.{Caller}
use Rattle.depot_rows.specs.depot_model.declared.refusal.Refusal.TheVariants.{Denied}
use Rattle.depot_rows.specs.depot_model.Deeds.{Deed, Free, Hold}
use Rattle.depot_rows.specs.depot_model.Opened.{holder}
use Rattle.depot_rows.specs.depot_model.Rows.{row, path_field, text_field}
use Rattle.depot_rows.specs.depot_model.Step.{Step, does, nothing, unless, refuse_if}
use Rattle.depot_rows.specs.depot_model.Rules.{IsSound}
use Rattle.depot_rows.specs.depot_model.Steps.Opening.{held}
use Rattle.depot_rows.specs.depot_model.Steps.Reverting.{lock_refusal}
use Rattle.depot_rows.specs.Standing.{HasRows}
use Rattle.named_files.specs.Asked.{IsAsker}
use Rattle.named_files.specs.declared.asker.Asker.{Asker}

abbrev pub hold_step : Caller → List ℕ → Step
hold_step caller path =
    does (Hold (held caller path) ∷ []) (row (path_field (codes "depotFile") path ∷ text_field (codes "action") (codes "locked") ∷ []))

abbrev pub locking : Caller → List ℕ → Bool → Option (List ℕ) → Step
locking caller path may who = unless (refuse_if (not may) (Denied (printed path) 4) ∷ lock_refusal caller path who ∷ [])
    (hold_step caller path)

-- no other client has the lock
abbrev pub NoOther : List ℕ → Option (List ℕ) → Type 0
NoOther client who = (who ≡ None) ⊎ (who ≡ Some client)

-- the same files are locked by no other client
abbrev pub StaysFree : List ℕ → List Deed → List Deed → Type 0
StaysFree client d e = (path : List ℕ) → NoOther client (holder d path) → NoOther client (holder e path)

-- the other client that has the lock, where one has it
abbrev pub other_of : List ℕ → Option (List ℕ) → Option (List ℕ)
other_of client None = None
other_of client (Some who) = if same who client then None else Some who

-- what an unlock does by whether the client has the lock
abbrev pub unlocking : Caller → List ℕ → Bool → Step
unlocking caller path own =
    if own then does (Free (held caller path) ∷ []) (row (path_field (codes "depotFile") path ∷ text_field (codes "action") (codes "unlocked") ∷ [])) else nothing

-- the asker is that of the depot, and the opened files are the depot's
pub record Reads (caller : Caller) (asker : Asker) (rows : AllRows) (d : List Deed) : Type 0 where
  pub sound : IsSound d
  pub asked : IsAsker d caller asker
  pub listed : HasRows rows d table_ids.Working
