use Rattle.std.proofs.Common.{◌≡◌, ◌∙◌, ap, pos, ◌+ℤ◌, ◌*ℤ◌, FitsSigned, to_z, of_z, w32, w64, arith}
use Rattle.std.proofs.lemmas.Int.{ints, to_z-of_z}
use Rattle.depot_path.proofs.Dates.{moment_is}
use Rattle.depot_path.proofs.date.read_moment.Goals as goal

pub returns : goal.returns
returns c =
    let day_fits : FitsSigned w32 c.in_ok-day.day = omega (arith, ints, c.in_ok-day.ensures.range) in
    let day_is : to_z w32 (of_z w32 c.in_ok-day.day) ≡ c.in_ok-day.day = simp to_z-of_z in
    let fits : FitsSigned w64 c.moment_at.result = omega (arith, ints) in
    let is : to_z w64 (of_z w64 c.moment_at.result) ≡ c.moment_at.result = simp to_z-of_z in
    moment_is c.args.word.now c.in_ok-day.day c.in_ok-second.second _
    (rw (c.part.ensures.value, c.part-2.ensures.value, c.part-3.ensures.value) at c.in_ok-day.ensures.value)
    (rw (c.part-4.ensures.value, c.part-5.ensures.value, c.part-6.ensures.value) at c.in_ok-second.ensures.value)
    (is ∙ c.moment_at.ensures ∙ ap (λ n. n *ℤ pos 86400 +ℤ pos c.in_ok-second.second) day_is)
