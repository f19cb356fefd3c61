use Rattle.std.proofs.Common.{true, ◌≡◌, List, ℕ}
use Rattle.depot_rows.specs.depot_path.Name.{is_name}
use Rattle.spec_ops.proofs.Made.{first_named}
use Rattle.spec_ops.proofs.groups.names_of.Goals as goal

pub named-requires : goal.named-requires
named-requires c =
    let P : List ℕ → Type 0 = λ text. is_name text ≡ true in
    first_named c.loop-rest.rest.now c.as_bytes.result.now c.in-len1-up.len_at_least (cc) c.loop-rest.invariant.are_names
