use Rattle.std.proofs.Common.{ℕ, List, refl, sym, ap, ◌∙◌}
use Rattle.std.specs.Prelude.{filter}
use Rattle.depot_rows.specs.depot_path.Bytes.{begins_with}
use Rattle.depot_rows.specs.depot_model.Deeds.{FixForm}
use Rattle.depot_rows.specs.depot_model.Latest.{keys_of, spec_name}
use Rattle.job_fixes.specs.Fixes.{names_asked}
use Rattle.job_fixes.proofs.fixes.asked_names.Goals as goal

pub returns-in_ok-names-in-None-Some : goal.returns-in_ok-names-in-None-Some
returns-in_ok-names-in-None-Some c = λ d has.
    c.in_ok-names-in-None-Some.ensures d FixForm refl has
    ∙ ap (λ (start : List ℕ). filter (λ name. begins_with name start) (keys_of (spec_name FixForm) d)) (c.as_bytes-in-None-Some.ensures ∙ c.in_ok-start-in-None-Some.ensures)
    ∙ (λ i. names_asked d (sym c.in-None-Some.is-0 i) (sym c.in-None-Some.is-1 i))
