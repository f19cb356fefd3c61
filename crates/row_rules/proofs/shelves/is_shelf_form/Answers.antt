use Rattle.std.proofs.Common.{◌≡◌, ℕ, List, false, subst}
use Rattle.depot_rows.specs.depot_model.Rules.{top_in}
use Rattle.row_rules.specs.Stored.{stored}
use Rattle.row_rules.specs.Tests.{is_numeral_up_to}
use Rattle.row_rules.proofs.UpTo.{none_eq, shelf_refused}
use Rattle.row_rules.proofs.shelves.is_shelf_form.Goals as goal

pub returns-in-None : goal.returns-in-None
returns-in-None c =
    let P : ℕ → Type 0 = λ most. is_numeral_up_to most c.value-digits.result.now ≡ false in
    let Q : List ℕ → Type 0 = λ text. is_numeral_up_to (top_in (stored c.args.tables.now)) text ≡ false in
    shelf_refused (stored c.args.tables.now) c.args.name.now c.args.form.now
    (subst Q c.value-digits.ensures
    (subst P c.requires.top (none_eq c.args.top c.value-digits.result.now c.in_ok-number.number c.in_ok-number.ensures c.in-None.is)))
