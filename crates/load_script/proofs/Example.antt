-- The script of seed 1 with three steps: the numbers 16838, 5758 and 10113 draw the files 8, 8 and 3.
use Rattle.std.proofs.Common.{◌≡◌, [], ◌∷◌, ◌++◌, refl}
use Rattle.std.specs.Prelude.{codes}
use Rattle.load_script.specs.Script.{beginning, files_after, script_of}

drawn : files_after 1 3 ≡ 8 ∷ 8 ∷ 3 ∷ []
drawn = refl

whole : script_of 1 3 ≡ beginning ++ codes "file //load/8 8\n00000001\np4 add //load/8\np4 submit -d load\nfile //load/8 8\n00000002\np4 edit //load/8\np4 submit -d load\nfile //load/3 8\n00000003\np4 add //load/3\np4 submit -d load\n"
whole = refl
