-- What `out` gets of the lines that tell an end.
use Rattle.std.specs.Prelude.{◌≡◌, ◌⊎◌, ℕ, List, Option}
use Rattle.outside_api.specs.Count.{HasRisen}
use Rattle.outside_api.specs.Told.{extended}
use Rattle.wire_text.specs.Giving.{GotFront}

-- `out` got these lines, or, where its count rose, a proper front of them
abbrev pub OutGot : Option (List ℕ) → Option (List ℕ) → ℕ → ℕ → List ℕ → Type 0
OutGot before now faults_before faults_now lines =
    (now ≡ extended before lines) ⊎ (HasRisen faults_before faults_now × GotFront before now lines)
