-- The two ends of a move, as their openings name each other (Command-Line Reference, "p4 move").
use Rattle.std.specs.Prelude.{ℕ, List, Option, option_and_then, option_map}
use Rattle.depot_rows.specs.depot_model.Deeds.{Deed, Opening}
use Rattle.depot_rows.specs.depot_model.Opened.{opened, partner}

-- the other end that a client's opening of a file names
abbrev pub end_named : List Deed → List ℕ → List ℕ → Option (List ℕ)
end_named d client path = option_and_then (λ (o : Opening). o.moved) (opened d client path)

-- the file at the other end, which names the file back
abbrev pub partner_path : List Deed → List ℕ → List ℕ → Option (List ℕ)
partner_path d client path = option_map (λ (o : Opening). o.path) (option_and_then (partner d) (opened d client path))
