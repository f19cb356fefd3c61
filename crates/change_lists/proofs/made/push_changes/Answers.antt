use Rattle.std.proofs.Common.{◌≡◌, ◌≤◌, ℕ, List, [], ◌∷◌, get_or, length, refl, arith, ◌∙◌}
use Rattle.std.specs.Option.{option_to_list}
use Rattle.opening_reads.proofs.Onwards.{given_all, given_on}
use Rattle.depot_rows.specs.depot_model.Steps.Changes.{change_at}
use Rattle.change_lists.proofs.made.push_changes.Goals as goal

first_is : (items : List ℕ) (n : ℕ) → 1 ≤ length items → get_or items 0 n ≡ get_or items 0 (get_or items 0 n)
first_is [] n some = absurd (omega (arith, some))
first_is (x ∷ items) n some = refl

pub loop-rest-preserved : goal.loop-rest-preserved
loop-rest-preserved c = λ d has.
    given_on (λ rev. option_to_list (change_at d c.args.path.now rev)) c.loop-rest.made.items c.push_change.new.made.items c.loop-rest.rest.now _ c.in-len1-up.len_at_least
    (first_is c.loop-rest.rest.now _ c.in-len1-up.len_at_least) (c.in_ok-push_change.ensures d has)
    ∙ c.loop-rest.invariant d has

pub returns : goal.returns
returns c = λ d has.
    given_all (λ rev. option_to_list (change_at d c.args.path.now rev)) c.loop-rest.made.items _ c.loop-rest.rest.now c.in_default.len_below
    (c.loop-rest.invariant d has)
