use Rattle.std.proofs.Common.{◌≡◌, ◌∙◌, pos, FitsSigned, to_z, of_z, w8, w16, w32, arith}
use Rattle.std.proofs.lemmas.Int.{ints, to_z-of_z}
use Rattle.depot_path.proofs.Dates.{from_date}
use Rattle.depot_path.proofs.date.day_since_1970.Goals as goal

pub returns-in-Ok-clause-value : goal.returns-in-Ok-clause-value
returns-in-Ok-clause-value c =
    let h = c.in-Ok.ensures.value in
    let y : to_z w16 c.args.year ≡ pos c.args.year = omega (arith, ints) in
    let m : to_z w8 c.args.month ≡ pos c.args.month = omega (arith, ints) in
    let d : to_z w8 c.args.day ≡ pos c.args.day = omega (arith, ints) in
    let month : c.in-Ok.date.month ≡ c.args.month = omega (arith, ints, h.1, m) in
    let day : c.in-Ok.date.day ≡ c.args.day = omega (arith, ints, h.2, d) in
    let fits : FitsSigned w32 c.to_unix_epoch_day.result = omega (arith, ints) in
    let same : to_z w32 (of_z w32 c.to_unix_epoch_day.result) ≡ c.to_unix_epoch_day.result = simp to_z-of_z in
    from_date c.in-Ok.date.year c.in-Ok.date.month c.in-Ok.date.day c.args.year c.args.month c.args.day _ (h.0 ∙ y) month day
    (omega arith) (omega arith) (omega arith) (omega arith) (omega arith) c.in-Ok.date.day_in.1 (same ∙ c.to_unix_epoch_day.ensures.value)
