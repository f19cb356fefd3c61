use Rattle.std.proofs.Common.{ℕ, List, ap, ◌∙◌}
use Rattle.std.specs.Prelude.{codes, Some, None}
use Rattle.depot_rows.specs.depot_model.Revisions.{revision}
use Rattle.opening_parts.proofs.RevisionTypes.{type_told}
use Rattle.opened_files.proofs.had.had_type.Goals as goal

pub returns : goal.returns
returns c = λ d have_rows rev_rows.
    let caller = c.args.caller.now in
    let path = c.args.path.now in
    c.in_ok-file_type.ensures
    ∙ type_told c.in_ok-rev.rev _ (revision d path c.in_ok-rev.rev) (c.in_ok-row.ensures d rev_rows)
    ∙ ap (λ (n : ℕ). elim (revision d path n) as (λ _. List ℕ) [ None ↦ codes "text" | Some r ↦ r.entry.file_type ]) (c.in_ok-rev.ensures d have_rows)
