use Rattle.std.proofs.Common.{◌≡◌, ◌<◌, ℕ, List, map, length, get_or, sym, ap, subst, ◌∙◌}
use Rattle.std.specs.Prelude.{Contains}
use Rattle.std.proofs.lemmas.List.{get_or-map, length-map}
use Rattle.std.proofs.lemmas.List.Elements.{Contains-get_or}
use Rattle.newest_revisions.proofs.seen.SeenRows.go_to.Goals as goal

-- the images have that of an item
image_at : {X Y : Type 0} (f : X → Y) (xs : List X) (i : ℕ) (x : X) → i < length xs → x ≡ get_or xs i x → Contains (map f xs) (f x)
image_at f xs i x within is =
    subst (Contains (map f xs)) (get_or-map f xs i x (f x) within ∙ ap f (sym is))
    (Contains-get_or (map f xs) i (f x) (subst (λ (n : ℕ). i < n) (sym (length-map xs f)) within))

pub returns-then-eq-clause-found : goal.returns-then-eq-clause-found
returns-then-eq-clause-found c =
    let at = c.loop-self in
    let within : at.self.passed < length at.self.rows.items = subst (λ (n : ℕ). at.self.passed < n) (c.len.ensures ∙ at.self.rows.ok.0) c.loop-self-test.true in
    subst (λ v. Contains (map (λ r. r.now) v.items) c.index-row.result.now.now) at.invariant
    (image_at (λ r. r.now) at.self.rows.items at.self.passed c.index-row.result.now within c.index-row.ensures)
