-- What `have` shows of a file, and what it reads. This project's own choice.
use Rattle.std.specs.Prelude.{ℕ, List, [], ◌∷◌, ◌++◌, codes, Option}
use Rattle.depot_rows.specs.db_records.declared.table.TableId.TheVariants as table_ids
use Rattle.depot_rows.specs.table_changes.Changed.{AllRows}
use Rattle.depot_rows.specs.depot_model.declared.reply.Row.{Row}
use Rattle.depot_rows.specs.depot_model.declared.request.Caller.{Caller}
use Rattle.depot_rows.specs.depot_model.Deeds.{Deed}
use Rattle.depot_rows.specs.depot_model.Rows.{row, path_field, number_field, if_any}
use Rattle.depot_rows.specs.Standing.{HasRows}
use Rattle.named_files.specs.Asked.{IsAsker}
use Rattle.named_files.specs.declared.asker.Asker.{Asker}

abbrev pub have_row_of : List ℕ → Option (List ℕ) → ℕ → Row
have_row_of path place rev =
    row (path_field (codes "depotFile") path ∷ if_any (path_field (codes "clientFile")) place ++ number_field (codes "haveRev") rev ∷ [])

-- the asker is that of the depot, and the have lists are the depot's
pub record Reads (caller : Caller) (asker : Asker) (rows : AllRows) (d : List Deed) : Type 0 where
  pub asked : IsAsker d caller asker
  pub listed : HasRows rows d table_ids.Have
