-- Replies about shelved files.
use Rattle.std.specs.Fmt.{digits}
use Rattle.spec_form.specs.Shapes.{fields_of}
use Rattle.std.proofs.Common.{◌≡◌, List, [], ◌∷◌, ◌++◌, Some, None, refl, false}
use Rattle.std.specs.Prelude.{codes, decimal}
use Rattle.hex.specs.Hex.{encode_with, decode_pairs}
use Rattle.depot_model.specs.declared.command.Command.TheVariants.{Add, ChangeSave, SubmitChange, Files, Shelve, ShelveDelete, Unshelve, DescribeShelved}
use Rattle.depot_model.specs.Places.{Placed}
use Rattle.depot_model.proofs.Scene.{ann, bob, file, block, does, with_blocks, with_input, reply, row, client_of_ann, client_of_bob}

abbrev added : List Placed
added = client_of_ann ∷ client_of_bob ∷ with_input ann ChangeSave (codes "Change:\tnew\nDescription:\n\tx\n") ∷ does ann (Add (Some 1) None (file (codes "//ws1/a") ∷ [])) ∷ []

abbrev shelves : Placed
shelves = with_blocks ann (Shelve 1 false []) (block (codes "//ws1/a") (codes "x") ∷ [])

abbrev shelved : List Placed
shelved = added ++ shelves ∷ []

keeps : reply added shelves ≡ row (codes "depotFile" ∷ codes "//depot/a" ∷ codes "rev" ∷ decimal 0 ∷ codes "action" ∷ codes "add" ∷ []) ∷ []
unfolding encode_with fields_of digits
keeps = refl

refuses_submit : reply shelved (with_blocks ann (SubmitChange 1) (block (codes "//ws1/a") (codes "x") ∷ [])) ≡ row (codes "code" ∷ decimal 32 ∷ codes "name" ∷ codes "Shelved" ∷ codes "change" ∷ decimal 1 ∷ []) ∷ []
unfolding encode_with fields_of digits
refuses_submit = refl

lands_nothing : reply shelved (does ann (Files false (file (codes "//depot/a") ∷ []))) ≡ row (codes "code" ∷ decimal 8 ∷ codes "name" ∷ codes "NoSuchFile" ∷ codes "argument" ∷ codes "//depot/a" ∷ []) ∷ []
unfolding encode_with fields_of digits
lands_nothing = refl

unshelves : reply shelved (does bob (Unshelve 1 None [])) ≡
    record (row (codes "depotFile" ∷ codes "//depot/a" ∷ codes "clientFile" ∷ codes "//ws2/a" ∷ codes "workRev" ∷ decimal 0 ∷ codes "action" ∷ codes "add" ∷ codes "type" ∷ codes "text" ∷ [])) { content = Some (codes "x") } ∷ []
unfolding encode_with decode_pairs fields_of digits
unshelves = refl

refuses_again : reply shelved shelves ≡ row (codes "code" ∷ decimal 33 ∷ codes "name" ∷ codes "AlreadyShelved" ∷ codes "path" ∷ codes "//depot/a" ∷ []) ∷ []
unfolding encode_with fields_of digits
refuses_again = refl

removes : reply shelved (does ann (ShelveDelete 1 [])) ≡ row (codes "depotFile" ∷ codes "//depot/a" ∷ codes "action" ∷ codes "deleted" ∷ []) ∷ []
unfolding encode_with fields_of digits
removes = refl

lands_then : reply (shelved ++ does ann (ShelveDelete 1 []) ∷ []) (with_blocks ann (SubmitChange 1) (block (codes "//ws1/a") (codes "x") ∷ [])) ≡
    row (codes "depotFile" ∷ codes "//depot/a" ∷ codes "rev" ∷ decimal 1 ∷ codes "action" ∷ codes "add" ∷ []) ∷ row (codes "submittedChange" ∷ decimal 1 ∷ []) ∷ []
unfolding encode_with fields_of digits
lands_then = refl

no_shelf : reply shelved (does bob (Unshelve 9 None [])) ≡ row (codes "code" ∷ decimal 35 ∷ codes "name" ∷ codes "NoShelf" ∷ codes "change" ∷ decimal 9 ∷ []) ∷ []
unfolding encode_with fields_of digits
no_shelf = refl

describes : reply shelved (does bob (DescribeShelved 1)) ≡ row (codes "change" ∷ decimal 1 ∷ codes "user" ∷ codes "ann" ∷ codes "client" ∷ codes "ws1" ∷ (codes "depotFile" ++ decimal 0) ∷ codes "//depot/a" ∷ (codes "action" ++ decimal 0) ∷ codes "add" ∷ (codes "rev" ++ decimal 0) ∷ decimal 0 ∷ []) ∷ []
unfolding encode_with fields_of digits
describes = refl
