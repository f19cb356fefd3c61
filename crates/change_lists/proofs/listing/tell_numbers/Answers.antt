use Rattle.std.proofs.Common.{◌≡◌, ◌≤◌, ℕ, List, [], ◌∷◌, get_or, length, refl, arith}
use Rattle.change_lists.specs.Listed.{asked_at}
use Rattle.change_lists.proofs.ListedRows.{next_told, told_in_full, told_to_end}
use Rattle.change_lists.proofs.listing.tell_numbers.Goals as goal

first_is : (items : List ℕ) (n : ℕ) → 1 ≤ length items → get_or items 0 n ≡ get_or items 0 (get_or items 0 n)
first_is [] n some = absurd (omega (arith, some))
first_is (x ∷ items) n some = refl

pub loop-rest-preserved : goal.loop-rest-preserved
loop-rest-preserved c = λ d has.
    let f = c.args.filter.now in
    let at = c.loop-rest in
    next_told (asked_at d f.status.now f.user.now f.client.now) at.rows c.push_told.new.rows _ at.rest.now _ c.in_ok-told.told at.left c.in_ok-left.left
    c.in-len1-up.len_at_least (first_is at.rest.now _ c.in-len1-up.len_at_least) (c.is_full.ensures.not_full c.if-is_full.false) (c.in_ok-told.ensures d has)
    c.in_ok-left.ensures.rows c.in_ok-left.ensures.left (at.invariant d has)

pub returns : goal.returns
returns c = λ d has.
    let f = c.args.filter.now in
    told_to_end (asked_at d f.status.now f.user.now f.client.now) c.loop-rest.rows _ c.loop-rest.rest.now c.loop-rest.left c.in_default.len_below (c.loop-rest.invariant d has)

pub returns-then-is_full : goal.returns-then-is_full
returns-then-is_full c = λ d has.
    told_in_full c.loop-rest.rows _ _ c.loop-rest.left (c.is_full.ensures.full c.if-is_full.true) (c.loop-rest.invariant d has)
