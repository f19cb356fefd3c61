-- Replies that the definitions give. A number is printed by `decimal`, which stays as it is written.
use Rattle.spec_form.specs.Shapes.{fields_of}
use Rattle.std.proofs.Common.{◌≡◌, List, [], ◌∷◌, ◌++◌, None, refl, false}
use Rattle.std.specs.Prelude.{codes, decimal}
use Rattle.depot_model.specs.declared.command.Command.TheVariants.{CounterShow, CounterSet, Add, Edit, Delete, SubmitDefault, Sync, Files}
use Rattle.depot_model.proofs.Scene.{ann, bob, file, block, does, with_blocks, saves_client, reply, row, client_of_ann, client_of_bob}
use Rattle.depot_model.specs.Places.{Placed}

counts : reply (does ann (CounterSet (codes "build") 7) ∷ []) (does ann (CounterShow (codes "build"))) ≡ row (codes "counter" ∷ codes "build" ∷ codes "value" ∷ decimal 7 ∷ []) ∷ []
unfolding fields_of
counts = refl

adds : reply (client_of_ann ∷ []) (does ann (Add None None (file (codes "//ws1/a%40b") ∷ [])))
    ≡ row (codes "depotFile" ∷ codes "//depot/a%40b" ∷ codes "clientFile" ∷ codes "//ws1/a%40b" ∷ codes "workRev" ∷ decimal 0 ∷ codes "action" ∷ codes "add" ∷ codes "type" ∷ codes "text" ∷ []) ∷ []
unfolding fields_of
adds = refl

-- two revisions of one file
abbrev first : List Placed
first = client_of_ann ∷ does ann (Add None None (file (codes "//ws1/a") ∷ [])) ∷ []

abbrev send_one : Placed
send_one = with_blocks ann (SubmitDefault (codes "one")) (block (codes "//ws1/a") [] ∷ [])

submits_one : reply first send_one ≡ row (codes "depotFile" ∷ codes "//depot/a" ∷ codes "rev" ∷ decimal 1 ∷ codes "action" ∷ codes "add" ∷ []) ∷ row (codes "submittedChange" ∷ decimal 1 ∷ []) ∷ []
unfolding fields_of
submits_one = refl

edits : reply (first ++ send_one ∷ []) (does ann (Edit None None (file (codes "//ws1/a") ∷ []))) ≡ row (codes "depotFile" ∷ codes "//depot/a" ∷ codes "clientFile" ∷ codes "//ws1/a" ∷ codes "workRev" ∷ decimal 1 ∷ codes "action" ∷ codes "edit" ∷ codes "type" ∷ codes "text" ∷ []) ∷ []
unfolding fields_of
edits = refl

abbrev second : List Placed
second = first ++ send_one ∷ does ann (Edit None None (file (codes "//ws1/a") ∷ [])) ∷ []

abbrev send_two : Placed
send_two = with_blocks ann (SubmitDefault (codes "two")) (block (codes "//ws1/a") (codes "hello") ∷ [])

submits_two : reply second send_two ≡ row (codes "depotFile" ∷ codes "//depot/a" ∷ codes "rev" ∷ decimal 2 ∷ codes "action" ∷ codes "edit" ∷ []) ∷ row (codes "submittedChange" ∷ decimal 2 ∷ []) ∷ []
unfolding fields_of
submits_two = refl

-- revisions by date and by change
at_date : reply (first ++ send_one ∷ []) (does ann (Files false (file (codes "//depot/a@2023/11/14:22:13:20") ∷ []))) ≡ row (codes "depotFile" ∷ codes "//depot/a" ∷ codes "rev" ∷ decimal 1 ∷ codes "change" ∷ decimal 1 ∷ codes "action" ∷ codes "add" ∷ codes "type" ∷ codes "text" ∷ codes "time" ∷ decimal 1700000000 ∷ []) ∷ []
unfolding fields_of
at_date = refl

by_change : reply (first ++ send_one ∷ []) (does ann (Files false (file (codes "//depot/a@=1") ∷ []))) ≡ row (codes "depotFile" ∷ codes "//depot/a" ∷ codes "rev" ∷ decimal 1 ∷ codes "change" ∷ decimal 1 ∷ codes "action" ∷ codes "add" ∷ codes "type" ∷ codes "text" ∷ codes "time" ∷ decimal 1700000000 ∷ []) ∷ []
unfolding fields_of
by_change = refl

before_date : reply (first ++ send_one ∷ []) (does ann (Files false (file (codes "//depot/a@2023/11/14:22:13:19") ∷ []))) ≡ row (codes "code" ∷ decimal 8 ∷ codes "name" ∷ codes "NoSuchFile" ∷ codes "argument" ∷ codes "//depot/a@2023/11/14:22:13:19" ∷ []) ∷ []
unfolding fields_of
before_date = refl

no_label : reply (first ++ send_one ∷ []) (does ann (Files false (file (codes "//depot/a@nolabel") ∷ []))) ≡ row (codes "code" ∷ decimal 20 ∷ codes "name" ∷ codes "NoSuchLabel" ∷ codes "label" ∷ codes "nolabel" ∷ []) ∷ []
unfolding fields_of
no_label = refl

too_high : reply (first ++ send_one ∷ []) (does ann (Files false (file (codes "//depot/a#2") ∷ []))) ≡ row (codes "code" ∷ decimal 8 ∷ codes "name" ∷ codes "NoSuchFile" ∷ codes "argument" ∷ codes "//depot/a#2" ∷ []) ∷ []
unfolding fields_of
too_high = refl

-- two files at one client path
abbrev overlays : List Placed
overlays = saves_client ann (codes "Client: ws1\nView:\n\t//depot/base/... //ws1/...\n\t+//depot/over/... //ws1/...\n")
    ∷ saves_client bob (codes "Client: ws2\nView:\n\t//depot/base/... //ws2/...\n\t+//depot/over/... //ws2/...\n")
    ∷ does ann (Add None None (file (codes "//depot/base/a") ∷ file (codes "//depot/over/a") ∷ []))
    ∷ with_blocks ann (SubmitDefault (codes "x")) (block (codes "//ws1/a") (codes "hi") ∷ [])
    ∷ does ann (Delete None (file (codes "//depot/over/a") ∷ []))
    ∷ with_blocks ann (SubmitDefault (codes "y")) (block (codes "//ws1/a") (codes "hi") ∷ []) ∷ []

syncs_to_one : reply overlays (does bob (Sync false false (file (codes "//...@1") ∷ []))) ≡ row (codes "depotFile" ∷ codes "//depot/over/a" ∷ codes "clientFile" ∷ codes "//ws2/a" ∷ codes "rev" ∷ decimal 1 ∷ codes "action" ∷ codes "added" ∷ codes "fileSize" ∷ decimal 2 ∷ []) ∷ []
unfolding fields_of
syncs_to_one = refl

syncs_to_head : reply (overlays ++ does bob (Sync false false (file (codes "//...@1") ∷ [])) ∷ []) (does bob (Sync false false [])) ≡ row (codes "depotFile" ∷ codes "//depot/base/a" ∷ codes "clientFile" ∷ codes "//ws2/a" ∷ codes "rev" ∷ decimal 1 ∷ codes "action" ∷ codes "added" ∷ codes "fileSize" ∷ decimal 2 ∷ []) ∷ row (codes "depotFile" ∷ codes "//depot/over/a" ∷ codes "clientFile" ∷ codes "//ws2/a" ∷ codes "rev" ∷ decimal 1 ∷ codes "action" ∷ codes "deleted" ∷ []) ∷ []
unfolding fields_of
syncs_to_head = refl

-- a stale file
abbrev stale : List Placed
stale = client_of_ann ∷ client_of_bob ∷ does ann (Add None None (file (codes "//ws1/a") ∷ []))
    ∷ with_blocks ann (SubmitDefault (codes "one")) (block (codes "//ws1/a") (codes "1") ∷ [])
    ∷ does bob (Sync false false []) ∷ does bob (Edit None None (file (codes "//ws2/a") ∷ []))
    ∷ does ann (Edit None None (file (codes "//ws1/a") ∷ []))
    ∷ with_blocks ann (SubmitDefault (codes "two")) (block (codes "//ws1/a") (codes "2") ∷ []) ∷ []

refuses_stale : reply stale (with_blocks bob (SubmitDefault (codes "three")) (block (codes "//ws2/a") (codes "3") ∷ [])) ≡ row (codes "code" ∷ decimal 15 ∷ codes "name" ∷ codes "Stale" ∷ codes "path" ∷ codes "//depot/a" ∷ codes "base" ∷ decimal 1 ∷ codes "head" ∷ decimal 2 ∷ []) ∷ []
unfolding fields_of
refuses_stale = refl

owes : reply stale (does bob (Sync false false [])) ≡ row (codes "depotFile" ∷ codes "//depot/a" ∷ codes "clientFile" ∷ codes "//ws2/a" ∷ codes "rev" ∷ decimal 2 ∷ codes "action" ∷ codes "owed" ∷ codes "fileSize" ∷ decimal 1 ∷ []) ∷ []
unfolding fields_of
owes = refl
