-- Replies and records of moves.
use Rattle.spec_form.specs.Shapes.{fields_of}
use Rattle.std.proofs.Common.{◌≡◌, ℕ, List, [], ◌∷◌, ◌++◌, Some, None, refl, false}
use Rattle.std.specs.Prelude.{codes, decimal}
use Rattle.db_records.specs.declared.key.Key.TheVariants as keys
use Rattle.db_records.specs.declared.record.Record.{Record}
use Rattle.db_records.specs.declared.record.Record.TheVariants.{Working, Resolve}
use Rattle.depot_model.specs.declared.reply.Row.{Row}
use Rattle.depot_model.specs.declared.command.Command.TheVariants.{Add, Edit, Delete, Move, Revert, Reopen, ChangeSave, SubmitDefault, Sync, Integrated, Print}
use Rattle.depot_model.specs.Records.{record_of}
use Rattle.depot_model.specs.Places.{Placed}
use Rattle.depot_model.proofs.Scene.{after_all, ann, bob, file, pattern, block, does, with_blocks, with_input, reply, row, client_of_ann, client_of_bob}

abbrev landed : List Placed
landed = client_of_ann ∷ client_of_bob ∷ does ann (Add None None (file (codes "//ws1/a") ∷ [])) ∷ with_blocks ann (SubmitDefault (codes "one")) (block (codes "//ws1/a") (codes "hello") ∷ []) ∷ []

abbrev edited : List Placed
edited = landed ++ does ann (Edit None None (file (codes "//ws1/a") ∷ [])) ∷ []

abbrev moves : List ℕ → List ℕ → Placed
moves from to = does ann (Move None (file from) (pattern to))

abbrev moved : List Placed
moved = edited ++ moves (codes "//ws1/a") (codes "//ws1/b") ∷ []

abbrev move_row : List ℕ → List ℕ → List ℕ → Row
move_row to from action = row (codes "depotFile" ∷ to ∷ codes "fromFile" ∷ from ∷ codes "workRev" ∷ decimal 0 ∷ codes "action" ∷ action ∷ [])

moves_edited : reply edited (moves (codes "//ws1/a") (codes "//ws1/b")) ≡ move_row (codes "//depot/b") (codes "//depot/a") (codes "move/add") ∷ []
unfolding fields_of
moves_edited = refl

abbrev at_a : Record
at_a = Working (record { path = codes "//depot/a"; client = codes "ws1"; base = 1; action = codes "move/delete"; file_type = codes "text"; change = 0; lock = 0; source = []; source_rev = 0; moved = codes "//depot/b" })

abbrev at_b : Record
at_b = Working (record { path = codes "//depot/b"; client = codes "ws1"; base = 0; action = codes "move/add"; file_type = codes "text"; change = 0; lock = 0; source = codes "//depot/a"; source_rev = 1; moved = codes "//depot/a" })

records_a : record_of (after_all moved) (keys.Working (codes "//depot/a") (codes "ws1")) ≡ Some at_a
unfolding fields_of
records_a = refl

records_b : record_of (after_all moved) (keys.Working (codes "//depot/b") (codes "ws1")) ≡ Some at_b
unfolding fields_of
records_b = refl

submits : reply moved (does ann (SubmitDefault (codes "mv"))) ≡
    row (codes "depotFile" ∷ codes "//depot/a" ∷ codes "rev" ∷ decimal 2 ∷ codes "action" ∷ codes "move/delete" ∷ [])
    ∷ row (codes "depotFile" ∷ codes "//depot/b" ∷ codes "rev" ∷ decimal 1 ∷ codes "action" ∷ codes "move/add" ∷ [])
    ∷ row (codes "submittedChange" ∷ decimal 2 ∷ []) ∷ []
unfolding fields_of
submits = refl

abbrev submitted : List Placed
submitted = moved ++ does ann (SubmitDefault (codes "mv")) ∷ []

tells_integrated : reply submitted (does ann (Integrated (file (codes "//depot/b") ∷ []))) ≡
    row (codes "toFile" ∷ codes "//depot/b" ∷ codes "fromFile" ∷ codes "//depot/a" ∷ codes "startToRev" ∷ decimal 1 ∷ codes "endToRev" ∷ decimal 1
    ∷ codes "startFromRev" ∷ decimal 1 ∷ codes "endFromRev" ∷ decimal 1 ∷ codes "how" ∷ codes "moved from" ∷ codes "change" ∷ decimal 2 ∷ []) ∷ []
unfolding fields_of
tells_integrated = refl

prints : reply submitted (does ann (Print (file (codes "//depot/b") ∷ []))) ≡
    record (row (codes "depotFile" ∷ codes "//depot/b" ∷ codes "rev" ∷ decimal 1 ∷ codes "change" ∷ decimal 2 ∷ codes "action" ∷ codes "move/add" ∷ codes "type" ∷ codes "text" ∷ codes "fileSize" ∷ decimal 5 ∷ [])) { content = Some (codes "hello") } ∷ []
unfolding fields_of
prints = refl

-- with one end in another change
abbrev apart : List Placed
apart = moved ++ with_input ann ChangeSave (codes "Change:\tnew\nDescription:\n\tx\n") ∷ does ann (Reopen (Some 2) None (file (codes "//ws1/b") ∷ [])) ∷ []

refuses_apart : reply apart (does ann (SubmitDefault (codes "x"))) ≡ row (codes "code" ∷ decimal 29 ∷ codes "name" ∷ codes "InMove" ∷ codes "path" ∷ codes "//depot/a" ∷ codes "other" ∷ codes "//depot/b" ∷ []) ∷ []
unfolding fields_of
refuses_apart = refl

deleted_stays : reply (landed ++ does ann (Delete None (file (codes "//ws1/a") ∷ [])) ∷ []) (moves (codes "//ws1/a") (codes "//ws1/b")) ≡ row (codes "code" ∷ decimal 28 ∷ codes "name" ∷ codes "NotMovable" ∷ codes "path" ∷ codes "//depot/a" ∷ []) ∷ []
unfolding fields_of
deleted_stays = refl

-- a file that is added is opened at its target alone
moves_added : reply (client_of_ann ∷ does ann (Add None None (file (codes "//ws1/a") ∷ [])) ∷ []) (moves (codes "//ws1/...") (codes "//ws1/d/...")) ≡ move_row (codes "//depot/d/a") (codes "//depot/a") (codes "add") ∷ []
unfolding fields_of
moves_added = refl

-- moved again, the other end names the new path
abbrev moved_again : List Placed
moved_again = moved ++ moves (codes "//depot/b") (codes "//depot/c") ∷ []

names_new_path : record_of (after_all moved_again) (keys.Working (codes "//depot/a") (codes "ws1"))
    ≡ Some (Working (record { path = codes "//depot/a"; client = codes "ws1"; base = 1; action = codes "move/delete"; file_type = codes "text"; change = 0; lock = 0; source = []; source_rev = 0; moved = codes "//depot/c" }))
unfolding fields_of
names_new_path = refl

-- one end takes the other along
reverts_both : reply moved (does ann (Revert None (file (codes "//ws1/b") ∷ file (codes "//ws1/a") ∷ []))) ≡
    row (codes "depotFile" ∷ codes "//depot/b" ∷ codes "action" ∷ codes "reverted" ∷ [])
    ∷ row (codes "depotFile" ∷ codes "//depot/a" ∷ codes "haveRev" ∷ decimal 1 ∷ codes "action" ∷ codes "reverted" ∷ []) ∷ []
unfolding fields_of
reverts_both = refl

-- an owed resolve ends where a file that is added is moved away
abbrev owing : List Placed
owing = client_of_ann ∷ client_of_bob ∷ does ann (Add None None (file (codes "//ws1/a") ∷ [])) ∷ does bob (Add None None (file (codes "//ws2/a") ∷ []))
    ∷ with_blocks bob (SubmitDefault (codes "one")) (block (codes "//ws2/a") (codes "1") ∷ []) ∷ does ann (Sync false false []) ∷ []

owes : record_of (after_all owing) (keys.Resolve (codes "ws1") (codes "//depot/a") (codes "//depot/a")) ≡ Some (Resolve (record { client = codes "ws1"; path = codes "//depot/a"; from = codes "//depot/a"; first = 1; last = 1; how = [] }))
unfolding fields_of
owes = refl

owes_no_more : record_of (after_all (owing ++ moves (codes "//ws1/a") (codes "//ws1/b") ∷ [])) (keys.Resolve (codes "ws1") (codes "//depot/a") (codes "//depot/a")) ≡ None
unfolding fields_of
owes_no_more = refl
