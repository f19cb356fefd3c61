-- What `sync` does with a file, by what rows say of it, and what it reads. This project's own choice.
use Rattle.std.specs.Prelude.{ℕ, nat_le, Bool, false, ◌==◌, ◌+◌, List, [], ◌∷◌, ◌++◌, codes, if◌then◌else◌, Option, Some, None}
use Rattle.depot_rows.specs.db_records.declared.rows.ResolveRecord.{ResolveRecord}
use Rattle.depot_rows.specs.db_records.declared.rows.RevRecord.{RevRecord}
use Rattle.depot_rows.specs.db_records.declared.table.TableId.TheVariants as table_ids
use Rattle.depot_rows.specs.table_changes.Changed.{AllRows}
use Rattle.depot_rows.specs.depot_model.declared.reply.Row.{Row}
use Rattle.depot_rows.specs.depot_model.declared.request.Caller.{Caller}
use Rattle.depot_rows.specs.depot_model.Deeds.{Deed, Owe}
use Rattle.depot_rows.specs.depot_model.Rows.{row, path_field, number_field, text_field, if_any}
use Rattle.depot_rows.specs.depot_model.Step.{Step, does}
use Rattle.depot_rows.specs.depot_model.Steps.Opening.{held}
use Rattle.depot_rows.specs.depot_model.Steps.Syncing.{changes_to, size_of, sync_row}
use Rattle.depot_rows.specs.Standing.{HasRows}
use Rattle.named_files.specs.Sets.{ShownReads}
use Rattle.named_files.specs.declared.asker.Asker.{Asker}
use Rattle.named_files.specs.declared.listing.Listing.TheVariants.{Submitted}

abbrev pub sync_row_of : List ℕ → Option (List ℕ) → ℕ → List ℕ → Option ℕ → Row
sync_row_of path place rev action size = row (
    path_field (codes "depotFile") path ∷ if_any (path_field (codes "clientFile")) place
    ++ number_field (codes "rev") rev ∷ text_field (codes "action") action ∷ if_any (number_field (codes "fileSize")) size)

-- a length, where there is a content: its digest isn't empty
abbrev pub sized : List ℕ → ℕ → Option ℕ
sized [] length = None
sized (_ ∷ _) length = Some length

-- the size of the content of a revision, by its row
abbrev pub size_in : Option RevRecord → Option ℕ
size_in None = None
size_in (Some r) = sized r.digest r.length

-- a resolve up to a revision or more is owed, by its row
abbrev pub reaches : Option ResolveRecord → ℕ → Bool
reaches None n = false
reaches (Some r) n = nat_le n r.last

-- the row of a file whose revision in the have list becomes another one, 0 for none
abbrev pub changed_row : List Deed → Caller → List ℕ → ℕ → ℕ → List ℕ → Row
changed_row d caller path had wanted word =
    if wanted == 0 then sync_row d caller path had word None else sync_row d caller path wanted word (size_of d path wanted)

abbrev pub get_step : List Deed → Caller → List ℕ → ℕ → ℕ → List ℕ → Step
get_step d caller path had wanted word = does (changes_to had wanted (held caller path)) (changed_row d caller path had wanted word)

-- a resolve from the revision behind one up to another
abbrev pub owe_step : List Deed → Caller → List ℕ → ℕ → ℕ → Step
owe_step d caller path base n =
    does (Owe (record { client = caller.client; path = path; from = path; first = base + 1; last = n }) ∷ [])
    (sync_row d caller path n (codes "owed") (size_of d path n))

-- what is read by which a file is shown at a choice of revisions, and the rows of opened files and of resolves are the depot's
pub record Reads (caller : Caller) (asker : Asker) (rows : AllRows) (d : List Deed) : Type 0 where
  pub shown : ShownReads caller asker Submitted rows d
  pub resolve : HasRows rows d table_ids.Resolve
  pub working : HasRows rows d table_ids.Working
