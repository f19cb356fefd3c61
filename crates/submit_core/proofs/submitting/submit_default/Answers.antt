use Rattle.std.proofs.Common.{List, ℕ, inl, refl, subst}
use Rattle.depot_rows.specs.depot_model.Rules.{IsName}
use Rattle.submit_core.proofs.submitting.submit_default.Goals as goal

pub returns : goal.returns
returns c = λ d sound asked counter domain resolve working rev.
    let user = c.as_bytes-user.ensures in
    c.in_ok-step.ensures d
    (record { sound = sound; counters = counter; forms = domain; resolves = resolve; workings = working; revisions = rev })
    asked
    (record { user = subst (λ (u : List ℕ). IsName u) user.value user.named; change = inl refl; unshelved = inl refl })
