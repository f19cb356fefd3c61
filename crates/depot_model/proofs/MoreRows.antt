-- Replies of more commands. A number is printed by `decimal`, and a content's digest by `digest`.
use Rattle.spec_form.specs.Shapes.{fields_of}
use Rattle.std.proofs.Common.{◌≡◌, List, [], ◌∷◌, ◌++◌, Some, None, refl, true, false}
use Rattle.std.specs.Prelude.{codes, decimal}
use Rattle.depot_model.specs.declared.command.Taking.TheVariants.{Yours, Theirs}
use Rattle.depot_model.specs.declared.command.Command.TheVariants.{ChangeSave, ProtectSave, Add, Edit, Delete, Lock, SubmitDefault, SubmitChange, Sync, Files, FileLog, Resolve, Integrate, Integrated, Tag, Opened, Revert, Where, Dirs, Changes, ChangeShow, Checkpoint, ChangeDelete}
use Rattle.depot_model.specs.Records.{digest}
use Rattle.depot_model.specs.Places.{Placed}
use Rattle.depot_model.proofs.Scene.{ann, bob, file, block, does, with_blocks, with_input, saves_client, reply, row, client_of_ann, client_of_bob, pattern}

abbrev first : List Placed
first = client_of_ann ∷ client_of_bob ∷ does ann (Add None None (file (codes "//ws1/a") ∷ [])) ∷ with_blocks ann (SubmitDefault (codes "one")) (block (codes "//ws1/a") [] ∷ []) ∷ []

abbrev second : List Placed
second = first ++ does ann (Edit None None (file (codes "//ws1/a") ∷ [])) ∷ with_blocks ann (SubmitDefault (codes "two")) (block (codes "//ws1/a") (codes "hello") ∷ []) ∷ []

logs : reply (second) (does ann (FileLog (file (codes "//depot/a") ∷ []))) ≡ row (codes "depotFile" ∷ codes "//depot/a" ∷ (codes "rev" ++ decimal 0) ∷ decimal 2 ∷ (codes "change" ++ decimal 0) ∷ decimal 2 ∷ (codes "action" ++ decimal 0) ∷ codes "edit" ∷ (codes "type" ++ decimal 0) ∷ codes "text" ∷ (codes "time" ++ decimal 0) ∷ decimal 1700000000 ∷ (codes "user" ++ decimal 0) ∷ codes "ann" ∷ (codes "client" ++ decimal 0) ∷ codes "ws1" ∷ (codes "fileSize" ++ decimal 0) ∷ decimal 5 ∷ (codes "digest" ++ decimal 0) ∷ digest (codes "hello") ∷ (codes "desc" ++ decimal 0) ∷ codes "two" ∷ (codes "rev" ++ decimal 1) ∷ decimal 1 ∷ (codes "change" ++ decimal 1) ∷ decimal 1 ∷ (codes "action" ++ decimal 1) ∷ codes "add" ∷ (codes "type" ++ decimal 1) ∷ codes "text" ∷ (codes "time" ++ decimal 1) ∷ decimal 1700000000 ∷ (codes "user" ++ decimal 1) ∷ codes "ann" ∷ (codes "client" ++ decimal 1) ∷ codes "ws1" ∷ (codes "fileSize" ++ decimal 1) ∷ decimal 0 ∷ (codes "digest" ++ decimal 1) ∷ digest (codes "") ∷ (codes "desc" ++ decimal 1) ∷ codes "one" ∷ []) ∷ []
unfolding fields_of
logs = refl

abbrev new_change : Placed
new_change = with_input ann ChangeSave (codes "Change:\tnew\nDescription:\n\tx\n")

abbrev two_changes : List Placed
two_changes = client_of_ann ∷ new_change ∷ new_change ∷ does ann (Add (Some 1) None (file (codes "//ws1/a") ∷ [])) ∷ []

abbrev third_change : List Placed
third_change = two_changes ++ with_blocks ann (SubmitChange 1) (block (codes "//ws1/a") (codes "x") ∷ []) ∷ new_change ∷ does ann (Add (Some 4) None (file (codes "//ws1/b") ∷ [])) ∷ []

second_number : reply (client_of_ann ∷ new_change ∷ []) (new_change) ≡ row (codes "Change" ∷ decimal 2 ∷ codes "action" ∷ codes "saved" ∷ []) ∷ []
unfolding fields_of
second_number = refl

lands_higher : reply (two_changes) (with_blocks ann (SubmitChange 1) (block (codes "//ws1/a") (codes "x") ∷ [])) ≡ row (codes "depotFile" ∷ codes "//depot/a" ∷ codes "rev" ∷ decimal 1 ∷ codes "action" ∷ codes "add" ∷ []) ∷ row (codes "submittedChange" ∷ decimal 3 ∷ []) ∷ []
unfolding fields_of
lands_higher = refl

lands_as_own : reply (third_change) (with_blocks ann (SubmitChange 4) (block (codes "//ws1/b") (codes "x") ∷ [])) ≡ row (codes "depotFile" ∷ codes "//depot/b" ∷ codes "rev" ∷ decimal 1 ∷ codes "action" ∷ codes "add" ∷ []) ∷ row (codes "submittedChange" ∷ decimal 4 ∷ []) ∷ []
unfolding fields_of
lands_as_own = refl

empty_change : reply (third_change) (does ann (SubmitChange 2)) ≡ row (codes "code" ∷ decimal 18 ∷ codes "name" ∷ codes "EmptyChange" ∷ codes "change" ∷ decimal 2 ∷ []) ∷ []
unfolding fields_of
empty_change = refl

abbrev locked : List Placed
locked = first ++ does bob (Sync false false []) ∷ does ann (Edit None None (file (codes "//ws1/a") ∷ [])) ∷ does bob (Edit None None (file (codes "//ws2/a") ∷ [])) ∷ []

abbrev exclusive : List Placed
exclusive = client_of_ann ∷ client_of_bob ∷ does ann (Add None (Some (codes "text+l")) (file (codes "//ws1/b") ∷ []))
    ∷ with_blocks ann (SubmitDefault (codes "b")) (block (codes "//ws1/b") (codes "b") ∷ []) ∷ does bob (Sync false false []) ∷ does ann (Edit None None (file (codes "//ws1/b") ∷ [])) ∷ []

locks : reply (locked) (does ann (Lock None (file (codes "//ws1/a") ∷ []))) ≡ row (codes "depotFile" ∷ codes "//depot/a" ∷ codes "action" ∷ codes "locked" ∷ []) ∷ []
unfolding fields_of
locks = refl

refuses_locked : reply (locked ++ does ann (Lock None (file (codes "//ws1/a") ∷ [])) ∷ []) (with_blocks bob (SubmitDefault (codes "t")) (block (codes "//ws2/a") (codes "x") ∷ [])) ≡ row (codes "code" ∷ decimal 14 ∷ codes "name" ∷ codes "Locked" ∷ codes "path" ∷ codes "//depot/a" ∷ codes "client" ∷ codes "ws1" ∷ []) ∷ []
unfolding fields_of
refuses_locked = refl

refuses_exclusive : reply (exclusive) (does bob (Edit None None (file (codes "//ws2/b") ∷ []))) ≡ row (codes "code" ∷ decimal 13 ∷ codes "name" ∷ codes "ExclusiveOpen" ∷ codes "path" ∷ codes "//depot/b" ∷ codes "client" ∷ codes "ws1" ∷ []) ∷ []
unfolding fields_of
refuses_exclusive = refl

abbrev denied : List Placed
denied = first ++ does bob (Sync false false []) ∷ does bob (Edit None None (file (codes "//ws2/a") ∷ []))
    ∷ with_input ann ProtectSave (codes "Protections:\n\tsuper user ann * //...\n\twrite user bob * //depot/...\n\tlist user bob * -//depot/a\n") ∷ []

refuses_denied : reply (denied) (with_blocks bob (SubmitDefault (codes "t")) (block (codes "//ws2/a") (codes "x") ∷ [])) ≡ row (codes "code" ∷ decimal 5 ∷ codes "name" ∷ codes "Denied" ∷ codes "path" ∷ codes "//depot/a" ∷ codes "needed" ∷ codes "write" ∷ []) ∷ []
unfolding fields_of
refuses_denied = refl

shows_opened : reply (denied) (does ann (Opened true [])) ≡ row (codes "depotFile" ∷ codes "//depot/a" ∷ codes "rev" ∷ decimal 1 ∷ codes "action" ∷ codes "edit" ∷ codes "change" ∷ codes "default" ∷ codes "type" ∷ codes "text" ∷ codes "client" ∷ codes "ws2" ∷ codes "lock" ∷ decimal 0 ∷ []) ∷ []
unfolding fields_of
shows_opened = refl

abbrev owing : List Placed
owing = first ++ does bob (Sync false false []) ∷ does bob (Edit None None (file (codes "//ws2/a") ∷ []))
    ∷ does ann (Edit None None (file (codes "//ws1/a") ∷ [])) ∷ with_blocks ann (SubmitDefault (codes "two")) (block (codes "//ws1/a") (codes "2") ∷ []) ∷ does bob (Sync false false []) ∷ []

resolves : reply (owing) (does bob (Resolve Yours [])) ≡ row (codes "toFile" ∷ codes "//depot/a" ∷ codes "fromFile" ∷ codes "//depot/a" ∷ codes "startFromRev" ∷ decimal 2 ∷ codes "endFromRev" ∷ decimal 2 ∷ codes "how" ∷ codes "ignored" ∷ []) ∷ []
unfolding fields_of
resolves = refl

lands_resolved : reply (owing ++ does bob (Resolve Yours []) ∷ []) (with_blocks bob (SubmitDefault (codes "three")) (block (codes "//ws2/a") (codes "3") ∷ [])) ≡ row (codes "depotFile" ∷ codes "//depot/a" ∷ codes "rev" ∷ decimal 3 ∷ codes "action" ∷ codes "edit" ∷ []) ∷ row (codes "submittedChange" ∷ decimal 3 ∷ []) ∷ []
unfolding fields_of
lands_resolved = refl

abbrev branched : List Placed
branched = second ++ does ann (Integrate None (file (codes "//depot/...")) (pattern (codes "//depot/r/..."))) ∷ []

abbrev landed : List Placed
landed = branched ++ does ann (SubmitDefault (codes "branch")) ∷ []

branches : reply (second) (does ann (Integrate None (file (codes "//depot/...")) (pattern (codes "//depot/r/...")))) ≡ row (codes "depotFile" ∷ codes "//depot/r/a" ∷ codes "fromFile" ∷ codes "//depot/a" ∷ codes "startFromRev" ∷ decimal 1 ∷ codes "endFromRev" ∷ decimal 2 ∷ codes "action" ∷ codes "branch" ∷ []) ∷ []
unfolding fields_of
branches = refl

integrated_all : reply (landed) (does ann (Integrate None (file (codes "//depot/a")) (pattern (codes "//depot/r/a")))) ≡ row (codes "code" ∷ decimal 26 ∷ codes "name" ∷ codes "AllIntegrated" ∷ codes "path" ∷ codes "//depot/r/a" ∷ []) ∷ []
unfolding fields_of
integrated_all = refl

tells_integrated : reply (landed) (does ann (Integrated (file (codes "//depot/r/a") ∷ []))) ≡ row (codes "toFile" ∷ codes "//depot/r/a" ∷ codes "fromFile" ∷ codes "//depot/a" ∷ codes "startToRev" ∷ decimal 1 ∷ codes "endToRev" ∷ decimal 1 ∷ codes "startFromRev" ∷ decimal 1 ∷ codes "endFromRev" ∷ decimal 2 ∷ codes "how" ∷ codes "branch from" ∷ codes "change" ∷ decimal 3 ∷ []) ∷ []
unfolding fields_of
tells_integrated = refl

tags : reply (second) (does ann (Tag (codes "REL") false (file (codes "//depot/...@1") ∷ []))) ≡ row (codes "depotFile" ∷ codes "//depot/a" ∷ codes "rev" ∷ decimal 1 ∷ codes "action" ∷ codes "added" ∷ []) ∷ []
unfolding fields_of
tags = refl

by_label : reply (second ++ does ann (Tag (codes "REL") false (file (codes "//depot/...@1") ∷ [])) ∷ []) (does ann (Files false (file (codes "//depot/...@REL") ∷ []))) ≡ row (codes "depotFile" ∷ codes "//depot/a" ∷ codes "rev" ∷ decimal 1 ∷ codes "change" ∷ decimal 1 ∷ codes "action" ∷ codes "add" ∷ codes "type" ∷ codes "text" ∷ codes "time" ∷ decimal 1700000000 ∷ []) ∷ []
unfolding fields_of
by_label = refl

lists_dirs : reply (landed) (does ann (Dirs (file (codes "//depot/*") ∷ []))) ≡ row (codes "dir" ∷ codes "//depot/r" ∷ []) ∷ []
unfolding fields_of
lists_dirs = refl

no_content : reply (client_of_ann ∷ does ann (Add None None (file (codes "//ws1/a") ∷ [])) ∷ []) (does ann (SubmitDefault (codes "x"))) ≡ row (codes "code" ∷ decimal 17 ∷ codes "name" ∷ codes "NoContent" ∷ codes "path" ∷ codes "//depot/a" ∷ []) ∷ []
unfolding fields_of
no_content = refl

deletes_opened : reply (first ++ does ann (Edit None None (file (codes "//ws1/a") ∷ [])) ∷ []) (does ann (Delete None (file (codes "//ws1/a") ∷ []))) ≡ row (codes "code" ∷ decimal 11 ∷ codes "name" ∷ codes "AlreadyOpen" ∷ codes "path" ∷ codes "//depot/a" ∷ []) ∷ []
unfolding fields_of
deletes_opened = refl

exists : reply (first) (does ann (Add None None (file (codes "//ws1/a") ∷ []))) ≡ row (codes "code" ∷ decimal 27 ∷ codes "name" ∷ codes "Exists" ∷ codes "path" ∷ codes "//depot/a" ∷ []) ∷ []
unfolding fields_of
exists = refl

reverts_none : reply (client_of_ann ∷ []) (does ann (Revert None (file (codes "//ws1/none") ∷ []))) ≡ row (codes "code" ∷ decimal 12 ∷ codes "name" ∷ codes "NotOpen" ∷ codes "path" ∷ codes "//ws1/none" ∷ []) ∷ []
unfolding fields_of
reverts_none = refl

not_in_view : reply (saves_client ann (codes "Client: ws1\nView:\n\t//depot/... //ws1/...\n\t-//depot/tmp/... //ws1/tmp/...\n") ∷ []) (does ann (Where (file (codes "//depot/tmp/x") ∷ []))) ≡ row (codes "code" ∷ decimal 7 ∷ codes "name" ∷ codes "NotInView" ∷ codes "path" ∷ codes "//depot/tmp/x" ∷ []) ∷ []
unfolding fields_of
not_in_view = refl

one_change : reply (first) (does ann (Changes None None None None (file (codes "//depot/a@1,1") ∷ []))) ≡ row (codes "change" ∷ decimal 1 ∷ codes "time" ∷ decimal 1700000000 ∷ codes "user" ∷ codes "ann" ∷ codes "client" ∷ codes "ws1" ∷ codes "status" ∷ codes "submitted" ∷ codes "desc" ∷ codes "one" ∷ []) ∷ []
unfolding fields_of
one_change = refl

checkpoints : reply ([]) (does ann Checkpoint) ≡ row (codes "journal" ∷ decimal 1 ∷ []) ∷ []
unfolding fields_of
checkpoints = refl

new_form : reply (first) (does ann (ChangeShow None)) ≡ row (codes "Change" ∷ codes "new" ∷ codes "Client" ∷ codes "ws1" ∷ codes "User" ∷ codes "ann" ∷ codes "Status" ∷ codes "new" ∷ codes "Description" ∷ codes "<enter description here>" ∷ []) ∷ []
unfolding fields_of
new_form = refl

drops : reply (two_changes) (does ann (ChangeDelete 2)) ≡ row (codes "Change" ∷ decimal 2 ∷ codes "action" ∷ codes "deleted" ∷ []) ∷ []
unfolding fields_of
drops = refl

not_yours : reply (client_of_bob ∷ two_changes) (does bob (SubmitChange 2)) ≡ row (codes "code" ∷ decimal 10 ∷ codes "name" ∷ codes "NotYours" ∷ codes "change" ∷ decimal 2 ∷ []) ∷ []
unfolding fields_of
not_yours = refl

-- a file that is deleted at its source
abbrev deleted_source : List Placed
deleted_source = landed ++ does ann (Delete None (file (codes "//ws1/a") ∷ [])) ∷ does ann (SubmitDefault (codes "gone")) ∷ []

integrates_delete : reply (deleted_source) (does ann (Integrate None (file (codes "//depot/a")) (pattern (codes "//depot/r/a")))) ≡ row (codes "depotFile" ∷ codes "//depot/r/a" ∷ codes "fromFile" ∷ codes "//depot/a" ∷ codes "startFromRev" ∷ decimal 3 ∷ codes "endFromRev" ∷ decimal 3 ∷ codes "action" ∷ codes "delete" ∷ []) ∷ []
unfolding fields_of
integrates_delete = refl

tells_deleted : reply (deleted_source ++ does ann (Integrate None (file (codes "//depot/a")) (pattern (codes "//depot/r/a"))) ∷ does ann (SubmitDefault (codes "too")) ∷ []) (does ann (Integrated (file (codes "//depot/r/a") ∷ []))) ≡ row (codes "toFile" ∷ codes "//depot/r/a" ∷ codes "fromFile" ∷ codes "//depot/a" ∷ codes "startToRev" ∷ decimal 1 ∷ codes "endToRev" ∷ decimal 1 ∷ codes "startFromRev" ∷ decimal 1 ∷ codes "endFromRev" ∷ decimal 2 ∷ codes "how" ∷ codes "branch from" ∷ codes "change" ∷ decimal 3 ∷ []) ∷ row (codes "toFile" ∷ codes "//depot/r/a" ∷ codes "fromFile" ∷ codes "//depot/a" ∷ codes "startToRev" ∷ decimal 2 ∷ codes "endToRev" ∷ decimal 2 ∷ codes "startFromRev" ∷ decimal 3 ∷ codes "endFromRev" ∷ decimal 3 ∷ codes "how" ∷ codes "delete from" ∷ codes "change" ∷ decimal 5 ∷ []) ∷ []
unfolding fields_of
tells_deleted = refl

-- two live files
abbrev edited_source : List Placed
edited_source = landed ++ does ann (Edit None None (file (codes "//ws1/a") ∷ [])) ∷ with_blocks ann (SubmitDefault (codes "more")) (block (codes "//ws1/a") (codes "more") ∷ [])
    ∷ does ann (Integrate None (file (codes "//depot/a")) (pattern (codes "//depot/r/a"))) ∷ []

has_to_resolve : reply (edited_source) (does ann (SubmitDefault (codes "x"))) ≡ row (codes "code" ∷ decimal 16 ∷ codes "name" ∷ codes "MustResolve" ∷ codes "path" ∷ codes "//depot/r/a" ∷ []) ∷ []
unfolding fields_of
has_to_resolve = refl

takes_theirs : reply (edited_source) (does ann (Resolve Theirs [])) ≡ row (codes "toFile" ∷ codes "//depot/r/a" ∷ codes "fromFile" ∷ codes "//depot/a" ∷ codes "startFromRev" ∷ decimal 3 ∷ codes "endFromRev" ∷ decimal 3 ∷ codes "how" ∷ codes "copy from" ∷ []) ∷ []
unfolding fields_of
takes_theirs = refl

no_revision : reply (first) (does ann (Files false (file (codes "//depot/a#none") ∷ []))) ≡ row (codes "code" ∷ decimal 8 ∷ codes "name" ∷ codes "NoSuchFile" ∷ codes "argument" ∷ codes "//depot/a#none" ∷ []) ∷ []
unfolding fields_of
no_revision = refl
