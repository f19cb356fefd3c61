-- How a walk over the specifiers of a pattern goes on by one.
use Rattle.std.proofs.Common.{ℕ, ◌+◌, ◌≤◌, List, length}
use Rattle.depot_path.specs.declared.piece.Piece.{Piece}

-- how many specifiers have been passed, at most
pub record ArePassed (pattern rest : List Piece) (stars dots : ℕ) : Type 0 where
  pub few_stars : stars + length rest ≤ length pattern
  pub few_dots : dots + length rest ≤ length pattern
