use Rattle.std.proofs.Common.{◌≢◌, ◌<◌, ◌≤◌, ℕ, List, Result, Ok, length, take, drop, get_or, arith, ap, subst, ◌∙◌, length-drop}
use Rattle.std.proofs.lemmas.List.{take_all}
use Rattle.disk_journal.specs.Images.{IsTail}
use Rattle.recovery.proofs.Roots.{root_of, one_generation}
use Rattle.recovery.proofs.RootDamage.{damage_at}
use Rattle.recovery.proofs.root.generation_of.Goals as goal
use Rattle.recovery.proofs.root.generation_of.Goals.{then-place-root-via-then-place-root, then-place-root-via-else-place-root+then-root-lt-ROOT_LENGTH}

pub returns-then-place-root-clause-damaged : goal.returns-then-place-root-clause-damaged
returns-then-place-root-clause-damaged c =
    let root = c.args.root.now in
    let count = c.leading-generation.result in
    let lead = c.leading-generation.ensures in
    let back = c.split_at.ensures.back in
    let fit = c.fitting.ensures in
    let n = c.fitting.result in
    damage_at root count n (omega (arith, fit.within, ap length back, length-drop count root, lead.within)) lead.before lead.next c.requires (subst (λ (tail : List ℕ). IsTail (take n tail)) back fit.fit)
    (subst (λ (tail : List ℕ). 0 < length tail → 0 < n) back fit.some) (subst (λ (tail : List ℕ). n < length tail → get_or tail n 0 ≢ 109) back fit.next)
    (λ done. elim c.then-place-root.branch [
      | then-place-root-via-then-place-root w ↦ omega (arith, done, w.if-place-root.true)
      | then-place-root-via-else-place-root+then-root-lt-ROOT_LENGTH w ↦ omega (arith, w.if-root-lt-ROOT_LENGTH.true)
    ])

pub returns-then-place-root-clause-only : goal.returns-then-place-root-clause-only
returns-then-place-root-clause-only c = λ generation is.
    absurd ((returns-then-place-root-clause-damaged c).none generation is)

pub returns-clause-root : goal.returns-clause-root
returns-clause-root c =
    let root = c.args.root.now in
    let count = c.leading-generation.result in
    let lead = c.leading-generation.ensures in
    let back = c.split_at.ensures.back in
    let full : length (drop count root) ≤ c.fitting.result = omega (arith, c.if-place-root.false, ap length back, length-drop count root, lead.within) in
    root_of root count lead.within lead.before lead.next (subst IsTail (ap (take c.fitting.result) back ∙ take_all c.fitting.result (drop count root) full) c.fitting.ensures.fit) (omega (arith, c.requires, c.if-root-lt-ROOT_LENGTH.false))

pub returns-clause-only : goal.returns-clause-only
returns-clause-only c = λ generation is.
    let lead = c.leading-generation.ensures in
    let same = one_generation c.args.root.now c.leading-generation.result lead.within lead.before lead.next generation is in
    let ok : ℕ → Result ℕ ℕ = λ n. Ok n in
    ap ok same
