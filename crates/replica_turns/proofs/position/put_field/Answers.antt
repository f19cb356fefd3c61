use Rattle.std.proofs.Common.{List, ℕ, ◌++◌, ap, ◌∙◌}
use Rattle.std.specs.Prelude.{codes, decimal}
use Rattle.replica_turns.proofs.Positions.{field_parts}
use Rattle.replica_turns.proofs.position.put_field.Goals as goal

pub returns-clause-bytes : goal.returns-clause-bytes
returns-clause-bytes c =
    c.put-4.ensures.bytes
    ∙ (ap (λ (t : List ℕ). t ++ codes "\n") (c.put_number.ensures.bytes
    ∙ ap (λ (t : List ℕ). t ++ decimal c.args.number) (c.put-3.ensures.bytes
    ∙ ap (λ (t : List ℕ). t ++ codes " ") (c.put-2.ensures.bytes ∙ ap (λ (t : List ℕ). t ++ c.args.name.now) c.put.ensures.bytes)))
    ∙ field_parts c.args.out.now.items c.args.name.now c.args.number)
