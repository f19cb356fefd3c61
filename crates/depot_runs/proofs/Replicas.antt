-- Replies of a replica.
use Rattle.std.specs.Fmt.{digits}
use Rattle.depot_model.specs.spec_form.Shapes.{fields_of}
use Rattle.std.proofs.Common.{◌≡◌, List, [], ◌∷◌, Some, None, refl, Ok, Err, true, false}
use Rattle.std.specs.Prelude.{codes, decimal, map}
use Rattle.hex.specs.Hex.{encode_with}
use Rattle.depot_model.specs.db_records.declared.table.TableId.TheVariants as ids
use Rattle.depot_model.specs.declared.lock.LockId.TheVariants.{Table}
use Rattle.depot_model.specs.declared.request.Caller.{Caller}
use Rattle.depot_model.specs.declared.reply.Row.{Row}
use Rattle.depot_model.specs.declared.filter.FilterRule.{FilterRule}
use Rattle.depot_model.specs.declared.command.Command.{Command}
use Rattle.depot_model.specs.declared.command.Command.TheVariants.{ProtectSave, Add, SubmitDefault, Sync, Files, Print, Dirs, DescribeShelved, ChangeSave, Shelve}
use Rattle.depot_model.specs.Deeds.{Deed}
use Rattle.depot_model.specs.Filter.{filter_of}
use Rattle.depot_model.specs.Cut.{cut}
use Rattle.depot_model.specs.Tables.{Need, needs_of}
use Rattle.depot_runs.specs.Replica.{replica_reply}
use Rattle.depot_model.specs.Shelves.{is_shelved}
use Rattle.depot_model.specs.Places.{Placed}
use Rattle.depot_model.proofs.Scene.{after_all, ann, file, block, does, asked, with_blocks, with_input, row, client_of_ann}

abbrev rep : Caller
rep = record { user = codes "bob"; client = codes "rep1"; host = codes "hostB" }

abbrev rules : List FilterRule
rules = elim (filter_of (codes "//depot/src/..." ∷ [])) [ Ok read ↦ read | Err fault ↦ [] ]

abbrev master : List Placed
master = client_of_ann ∷ does ann (Add None None (file (codes "//depot/src/a") ∷ file (codes "//depot/src/secret/k") ∷ file (codes "//depot/doc/d") ∷ []))
    ∷ with_blocks ann (SubmitDefault (codes "one")) (block (codes "//ws1/src/a") (codes "x") ∷ block (codes "//ws1/src/secret/k") (codes "x") ∷ block (codes "//ws1/doc/d") (codes "x") ∷ [])
    ∷ with_input ann ProtectSave (codes "Protections:\n\tsuper user ann * //...\n\tread user bob * //depot/...\n\tlist user bob * -//depot/src/secret/...\n") ∷ []

abbrev answer : List Deed → Command → List Row
answer d command = replica_reply (cut rules d) (asked rep command None [])

no_file_yet : answer [] (Files false (file (codes "//...") ∷ [])) ≡ row (codes "code" ∷ decimal 8 ∷ codes "name" ∷ codes "NoSuchFile" ∷ codes "argument" ∷ codes "//..." ∷ []) ∷ []
unfolding fields_of
no_file_yet = refl

lists : answer (after_all master) (Files false (file (codes "//...") ∷ [])) ≡ row (codes "depotFile" ∷ codes "//depot/src/a" ∷ codes "rev" ∷ decimal 1 ∷ codes "change" ∷ decimal 1 ∷ codes "action" ∷ codes "add" ∷ codes "type" ∷ codes "text" ∷ codes "time" ∷ decimal 1700000000 ∷ []) ∷ []
unfolding fields_of
lists = refl

lists_dirs : answer (after_all master) (Dirs (file (codes "//depot/*") ∷ [])) ≡ row (codes "dir" ∷ codes "//depot/src" ∷ []) ∷ []
unfolding fields_of
lists_dirs = refl

changes_nothing : answer (after_all master) (Sync false false []) ≡ row (codes "code" ∷ decimal 23 ∷ codes "name" ∷ codes "ReadOnly" ∷ codes "command" ∷ codes "sync" ∷ []) ∷ []
unfolding fields_of
changes_nothing = refl

shows_no_shelf : answer (after_all master) (DescribeShelved 1) ≡ row (codes "code" ∷ decimal 23 ∷ codes "name" ∷ codes "ReadOnly" ∷ codes "command" ∷ codes "describe" ∷ []) ∷ []
unfolding fields_of
shows_no_shelf = refl

prints : answer (after_all master) (Print (file (codes "//depot/src/a") ∷ [])) ≡
    record (row (codes "depotFile" ∷ codes "//depot/src/a" ∷ codes "rev" ∷ decimal 1 ∷ codes "change" ∷ decimal 1 ∷ codes "action" ∷ codes "add" ∷ codes "type" ∷ codes "text" ∷ codes "fileSize" ∷ decimal 1 ∷ [])) { content = Some (codes "x") } ∷ []
unfolding fields_of
prints = refl

-- a cut depot has no shelf
abbrev shelving : List Placed
shelving = client_of_ann ∷ with_input ann ChangeSave (codes "Change:\tnew\nDescription:\n\tx\n") ∷ does ann (Add (Some 1) None (file (codes "//ws1/src/a") ∷ []))
    ∷ with_blocks ann (Shelve 1 false []) (block (codes "//ws1/src/a") (codes "x") ∷ []) ∷ []

is_there : is_shelved (after_all shelving) 1 ≡ true
unfolding encode_with fields_of digits
is_there = refl

is_cut : is_shelved (cut rules (after_all shelving)) 1 ≡ false
unfolding encode_with fields_of digits
is_cut = refl

-- the tables of `sync`, in their order
locks : map (λ (n : Need). n.lock) (needs_of (asked ann (Sync false false []) None [])) ≡ map Table (ids.Group ∷ ids.Protect ∷ ids.Domain ∷ ids.Have ∷ ids.Label ∷ ids.Resolve ∷ ids.Working ∷ ids.Change ∷ ids.Rev ∷ [])
unfolding fields_of
locks = refl
