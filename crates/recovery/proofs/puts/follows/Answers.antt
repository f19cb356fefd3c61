use Rattle.std.proofs.Common.{◌≡◌, ap, subst, ◌∙◌, rules}
use Rattle.std.specs.Ordering.{is_lt}
use Rattle.depot_rows.specs.db_records.declared.change.Op.TheVariants.{Put}
use Rattle.recovery.specs.Reading.{IsLastOf}
use Rattle.recovery.proofs.OnePut.{follows_some}
use Rattle.recovery.proofs.puts.follows.Goals as goal

pub returns-in-Some : goal.returns-in-Some
returns-in-Some c = λ puts are last_is.
    let put : c.args.change.now.op ≡ Put = search rules in
    follows_some puts c.in-Some.last c.args.change.now c.is_lt.result are (subst (IsLastOf puts) c.in-Some.is last_is) put (c.is_lt.ensures ∙ ap is_lt c.compare.ensures)
