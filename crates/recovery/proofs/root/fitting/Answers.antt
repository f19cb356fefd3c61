use Rattle.std.proofs.Common.{◌≡◌, ◌-◌, ℕ, List, length, take, drop, get_or, sym, ap, ◌∙◌, arith, rules, length-drop}
use Rattle.std.proofs.lemmas.List.{take_all}
use Rattle.recovery.proofs.RootDamage.{tail_taken}
use Rattle.recovery.proofs.root.fitting.Goals as goal

pub returns-clause-fit : goal.returns-clause-fit
returns-clause-fit c =
    let tail = c.args.tail.now in
    let whole : take (length tail - 1) (drop 1 tail) ≡ drop 1 tail = take_all (length tail - 1) (drop 1 tail) (omega (arith, length-drop 1 tail)) in
    tail_taken tail c.leading.result c.requires (search rules) (λ k below. ap (λ (l : List ℕ). get_or l k 0) (sym whole) ∙ c.leading.ensures.before k below)
