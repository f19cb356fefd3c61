-- What a submit does behind its change, and its rows, by the files of the change (Command-Line Reference, "p4 submit").
use Rattle.std.specs.Prelude.{ℕ, ◌==◌, ◌||◌, List, [], ◌∷◌, codes, if◌then◌else◌}
use Rattle.depot_rows.specs.depot_model.declared.reply.Row.{Row}
use Rattle.depot_rows.specs.depot_model.Revisions.{is_live_action}
use Rattle.depot_rows.specs.depot_model.Rows.{row, path_field, number_field, text_field, action_word}
use Rattle.depot_rows.specs.Deed.{action_of}
use Rattle.depot_rows.specs.declared.deed.Deed.{Deed}
use Rattle.depot_rows.specs.declared.deed.Deed.TheVariants.{Drop, Got, Shut}
use Rattle.depot_rows.specs.declared.deed.Entry.{Entry}

-- the revision that the client then has, 0 for none
abbrev pub had_then : Entry → ℕ
had_then e = if is_live_action (action_of e.action) then e.rev else 0

-- the client has it, and has the file opened no more
abbrev pub ends_of : List ℕ → Entry → List Deed
ends_of client e = Got (record { client = client; path = e.path }) (had_then e) ∷ Shut (record { client = client; path = e.path }) ∷ []

-- a change that gets another number is pending no more
abbrev pub dropped_by : ℕ → ℕ → List Deed
dropped_by n m = if (n == 0) || (n == m) then [] else Drop n ∷ []

abbrev pub row_of_entry : Entry → Row
row_of_entry e =
    row (path_field (codes "depotFile") e.path ∷ number_field (codes "rev") e.rev ∷ text_field (codes "action") (action_word (action_of e.action)) ∷ [])
