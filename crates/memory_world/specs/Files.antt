-- Files in a vector.
use Rattle.std.specs.Prelude.{ℕ, zero, suc, List, [], ◌∷◌, Vec, ◌==◌, ◌+◌, ◌++◌, length, take, drop, if◌then◌else◌}
use Rattle.std.specs.declared.alloc.Global.{Global}
use Rattle.outside_api.specs.Disk.{Files}

-- the bytes of each file, none for a number that isn't there
abbrev pub contents : List (Vec ℕ Global) → Files
contents [] f = []
contents (v ∷ files) zero = v.items
contents (v ∷ files) (suc f) = contents files f

-- this for a file, and for each other one what was there
abbrev pub put : {A : Type 0} → ℕ → A → (ℕ → A) → ℕ → A
put file new old f = if f == file then new else old f

-- these bytes at a place of a file
abbrev pub written : ℕ → List ℕ → List ℕ → List ℕ
written at piece bytes = take at bytes ++ piece ++ drop (at + length piece) bytes
