-- What a short piece of an answer says.
use Rattle.std.proofs.Common.{◌≡◌, ◌≤◌, ◌++◌, ℕ, List, [], ◌∷◌, length, max, Some, subst, ◌∙◌, arith}
use Rattle.std.specs.Prelude.{slice_get}
use Rattle.std.proofs.lemmas.List.{take-append-le}
use Rattle.outside_api.specs.declared.link.Fetched.{Fetched}
use Rattle.outside_api.specs.declared.link.Fetched.TheVariants.{Bytes, End, Next}
use Rattle.outside_api.specs.Link.{Answers, Fits}
use Rattle.memory_world.specs.declared.lossy.Loss.{Loss}
use Rattle.memory_world.specs.declared.lossy.Loss.TheVariants.{Short}
use Rattle.memory_world.specs.Lossy.{Passes}

-- what fits fits more
pub fits_more : (fetched : Fetched) (few many : ℕ) → few ≤ many → Fits fetched few → Fits fetched many
fits_more (Bytes n) few many more fits = omega (arith, more, fits)
fits_more End few many more fits = fits
fits_more Next few many more fits = fits

-- an answer at the front of a buffer is one in the buffer
pub answers_front : (journal : List (List ℕ)) (generation at : ℕ) (fetched : Fetched) (front rest : List ℕ) → Fits fetched (length front) → Answers journal generation at fetched front → Answers journal generation at fetched (front ++ rest)
answers_front journal generation at (Bytes n) front rest fits answers = (answers.0, answers.1, take-append-le n front rest fits ∙ answers.2)
answers_front journal generation at End front rest fits answers = answers
answers_front journal generation at Next front rest fits answers = answers

-- a short answer is one that passes
pub passes_short : (losses : List Loss) (most : ℕ) (journal : List (List ℕ)) (generation at : ℕ) (fetched : Fetched) (buffer : List ℕ) → slice_get losses 0 ≡ Some (Short most) → Answers journal generation at fetched buffer → Fits fetched (max 1 most) → Passes losses journal generation at fetched buffer
passes_short [] most journal generation at fetched buffer is answers fits = absurd cc
passes_short (loss ∷ later) most journal generation at fetched buffer is answers fits =
    let short : Short most ≡ loss = cc in
    subst (λ (l : Loss). Passes (l ∷ later) journal generation at fetched buffer) short (answers, fits)
