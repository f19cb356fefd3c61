use Rattle.std.proofs.Common.{List, ℕ, ◌∷◌, [], ◌++◌, ap, ◌∙◌}
use Rattle.std.specs.Prelude.{codes, decimal}
use Rattle.depot_rows.specs.depot_model.Printed.{printed, printed_field}
use Rattle.depot_rows.specs.depot_model.Rows.{number_field}
use Rattle.depot_runs.specs.Replica.{position_row}
use Rattle.replica_turns.proofs.Positions.{position_parts}
use Rattle.replica_turns.proofs.position.Room.position.Goals as goal

pub returns : goal.returns
returns c =
    let first : List ℕ = printed_field (number_field (codes "generation") c.from.result) in
    let second : List ℕ = printed_field (number_field (codes "changes") c.args.changes) in
    c.from_vec.ensures
    ∙ (c.put-2.ensures.bytes
    ∙ (ap (λ (t : List ℕ). t ++ codes "\n\n") (c.put_number.ensures.bytes
    ∙ ap (λ (t : List ℕ). t ++ decimal c.from-2.result) (c.put.ensures.bytes
    ∙ ap (λ (t : List ℕ). t ++ codes "\n... end ") (c.put_field-2.ensures.bytes
    ∙ ap (λ (t : List ℕ). t ++ second) (c.put_field.ensures.bytes ∙ ap (λ (t : List ℕ). t ++ first) c.requires.none))))
    ∙ (position_parts c.from.result c.args.changes c.from-2.result ∙ (λ i. printed (position_row (c.from.ensures i) c.args.changes ∷ []) (c.from-2.ensures i)))))
