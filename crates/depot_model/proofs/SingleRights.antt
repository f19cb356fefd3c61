-- A command that asks for one right that is denied alone.
use Rattle.spec_form.specs.Shapes.{fields_of}
use Rattle.std.proofs.Common.{◌≡◌, List, [], ◌∷◌, None, refl, false}
use Rattle.std.specs.Prelude.{codes, decimal}
use Rattle.depot_model.specs.declared.command.Command.TheVariants.{ProtectSave, Add, Edit, SubmitDefault, Sync}
use Rattle.depot_model.specs.Places.{Placed}
use Rattle.depot_model.proofs.Scene.{ann, bob, file, block, does, with_blocks, with_input, reply, row, client_of_ann, client_of_bob}

abbrev synced : List Placed
synced = client_of_ann ∷ client_of_bob ∷ does ann (Add None None (file (codes "//ws1/rel/x") ∷ []))
    ∷ with_blocks ann (SubmitDefault (codes "x")) (block (codes "//ws1/rel/x") (codes "1") ∷ []) ∷ does bob (Sync false false [])
    ∷ with_input ann ProtectSave (codes "Protections:\n\tsuper user root * //...\n\twrite user * * //depot/...\n\t=open user bob * -//depot/rel/...\n\tlist user eve * -//...\n\tlist user eve * //depot/...\n\t=read user eve * //depot/pub/...\n") ∷ []

may_not_open : reply synced (does bob (Edit None None (file (codes "//ws2/rel/x") ∷ []))) ≡ row (codes "code" ∷ decimal 5 ∷ codes "name" ∷ codes "Denied" ∷ codes "path" ∷ codes "//depot/rel/x" ∷ codes "needed" ∷ codes "open" ∷ []) ∷ []
unfolding fields_of
may_not_open = refl
