use Rattle.std.proofs.Common.{◌≡◌, ◌⊎◌, List, ℕ, Result, Ok, Err, inl, inr}
use Rattle.std.specs.Prelude.{codes}
use Rattle.depot_path.specs.declared.name.NameFault.{NameFault}
use Rattle.depot_path.specs.declared.name.NameFault.TheVariants.{Memory}
use Rattle.library_tests.proofs.at_work.build.Goals as goal

abbrev named : List ℕ → Result (List ℕ) NameFault
named name = Ok name

is_build : (name : List ℕ) → (named name ≡ Err Memory) ⊎ (named name ≡ Ok (codes "build")) → name ≡ codes "build"
is_build name (inl is) = absurd (cc is)
is_build name (inr is) = cc is

pub returns-in-Ok : goal.returns-in-Ok
returns-in-Ok c = is_build c.in-Ok.name c.in-Ok.ensures.is
