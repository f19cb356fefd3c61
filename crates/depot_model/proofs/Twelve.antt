-- Twelve files, submitted, tagged and branched.
use Rattle.spec_form.specs.Shapes.{fields_of}
use Rattle.std.proofs.Common.{◌≡◌, ℕ, List, [], ◌∷◌, ◌++◌, None, refl, false, length, map}
use Rattle.std.specs.Prelude.{codes}
use Rattle.depot_model.specs.declared.command.Command.TheVariants.{Add, SubmitDefault, Sync, Tag, Integrate}
use Rattle.depot_model.specs.Places.{Placed}
use Rattle.depot_model.proofs.Scene.{ann, bob, file, block, does, with_blocks, reply, client_of_ann, client_of_bob, pattern}

abbrev names : List (List ℕ)
names = codes "//ws1/m/f01" ∷ codes "//ws1/m/f02" ∷ codes "//ws1/m/f03" ∷ codes "//ws1/m/f04" ∷ codes "//ws1/m/f05" ∷ codes "//ws1/m/f06"
    ∷ codes "//ws1/m/f07" ∷ codes "//ws1/m/f08" ∷ codes "//ws1/m/f09" ∷ codes "//ws1/m/f10" ∷ codes "//ws1/m/f11" ∷ codes "//ws1/m/f12" ∷ []

abbrev added : List Placed
added = client_of_ann ∷ client_of_bob ∷ does ann (Add None None (map file names)) ∷ []

abbrev landed : List Placed
landed = added ++ with_blocks ann (SubmitDefault (codes "first day")) (map (λ name. block name (codes "x")) names) ∷ []

lands : length (reply added (with_blocks ann (SubmitDefault (codes "first day")) (map (λ name. block name (codes "x")) names))) ≡ 13
unfolding fields_of
lands = refl

syncs : length (reply landed (does bob (Sync false false []))) ≡ 12
unfolding fields_of
syncs = refl

tags : length (reply landed (does ann (Tag (codes "REL") false (file (codes "//depot/m/...@1") ∷ [])))) ≡ 12
unfolding fields_of
tags = refl

branches : length (reply landed (does ann (Integrate None (file (codes "//depot/m/...")) (pattern (codes "//depot/r/..."))))) ≡ 12
unfolding fields_of
branches = refl
